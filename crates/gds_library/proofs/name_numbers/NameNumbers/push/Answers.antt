use Rattle.std.proofs.Common.{◌≡◌, ◌+◌, ◌++◌, ◌∷◌, [], None, length, ap, subst, sym, ◌∙◌}
use Rattle.std.specs.Prelude.{is_some, if◌then◌else◌}
use Rattle.std.specs.BTreeMap.{insert_entry}
use Rattle.gds_library.specs.Texts.{has_name}
use Rattle.gds_library.specs.NameNumbers.{number_in, in_order, AreNumbered}
use Rattle.gds_library.proofs.Numbering.{by_name, AreNumbered-new, in_order-new, absent_name}
use Rattle.gds_library.proofs.name_numbers.NameNumbers.push.Goals as goal

pub invariant_of-self-2 : goal.invariant_of-self-2
invariant_of-self-2 c =
    let es = c.self.inside.numbers.entries in
    let key = c.args.name in
    let absent : number_in es key.items ≡ None =
    absent_name es key.items c.self.invariant (ap (λ names. has_name names key.items) c.self.view_is ∙ c.requires) in
    let made : c.insert.new.self.entries ≡ insert_entry by_name es key (length es) =
    c.in_ok-insert.ensures.entries ∙ ap (λ n. insert_entry by_name es key n) c.len-number.ensures.len in
    let more : length (insert_entry by_name es key (length es)) ≡ length es + 1 =
    ap (λ l. length l) (sym made) ∙ c.in_ok-insert.ensures.len ∙ ap (λ o. length es + (if is_some o then 0 else 1)) (c.in_ok-insert.ensures.old ∙ absent) in
    subst AreNumbered (sym made) (AreNumbered-new es key c.self.invariant absent more)

pub returns-clause-last : goal.returns-clause-last
returns-clause-last c =
    let es = c.self.inside.numbers.entries in
    let key = c.args.name in
    let absent : number_in es key.items ≡ None =
    absent_name es key.items c.self.invariant (ap (λ names. has_name names key.items) c.self.view_is ∙ c.requires) in
    let made : c.insert.new.self.entries ≡ insert_entry by_name es key (length es) =
    c.in_ok-insert.ensures.entries ∙ ap (λ n. insert_entry by_name es key n) c.len-number.ensures.len in
    let more : length (insert_entry by_name es key (length es)) ≡ length es + 1 =
    ap (λ l. length l) (sym made) ∙ c.in_ok-insert.ensures.len ∙ ap (λ o. length es + (if is_some o then 0 else 1)) (c.in_ok-insert.ensures.old ∙ absent) in
    ap in_order made ∙ in_order-new es key c.self.invariant absent more ∙ ap (λ names. names ++ key.items ∷ []) c.self.view_is
