-- The first piece, the inner ones and the last.
use Rattle.std.proofs.Common.{◌≡◌, ◌++◌, ◌*◌, ◌∷◌, [], ℕ, ℤ, pos, ◌+ℤ◌, refl, ◌∙◌, ap, sym, w32, to_z, of_z, arith}
use Rattle.outline_model.specs.Lengths.{end_length, inner_length, parts}
use Rattle.outline_model.specs.Pieces.{laid}
use Rattle.cutting.proofs.LengthLaws.{laid_cut, laid_whole, lo_is, meetings}
use Rattle.cutting.proofs.run_pieces.cut_edge.Goals as goal

once : (lo first : ℤ) (n : ℕ) → first ≡ to_z w32 (of_z w32 lo) +ℤ pos (1 * n) → first ≡ to_z w32 (of_z w32 lo) +ℤ pos n
once lo first n e = e ∙ ap (λ k. to_z w32 (of_z w32 lo) +ℤ pos k) (let f : 1 * n ≡ n = omega arith in f)

pub returns-then-is_whole : goal.returns-then-is_whole
returns-then-is_whole c =
    laid_whole c.args.rules.now c.args.edge.now c.args.pieces.now.items c.lay.new.pieces.items (sym c.is_whole.ensures ∙ c.if-is_whole.true)
    (c.in_ok-lay.ensures.pieces
    ∙ ap (λ z. c.args.pieces.now.items ++ laid c.args.edge.now.side c.args.edge.now.line z (c.length_of.result ∷ [])) (lo_is c.args.edge.now.lo c.requires.edge.low)
    ∙ ap (λ n. c.args.pieces.now.items ++ laid c.args.edge.now.side c.args.edge.now.line c.args.edge.now.lo (n ∷ [])) c.length_of.ensures.length)

pub lay_parts-requires-clause-from : goal.lay_parts-requires-clause-from
lay_parts-requires-clause-from c =
    (meetings c.args.rules.now c.args.edge.now c.in_ok-first.first (pos 0) c.end_length.result c.inner_length-inner.result (end_length c.args.rules.now c.args.edge.now.high_convex)
    c.requires.edge (sym c.is_whole.ensures ∙ c.if-is_whole.false) c.end_length.ensures.length c.inner_length-inner.ensures refl
    (once c.args.edge.now.lo c.in_ok-first.first c.end_length.result c.in_ok-first.ensures.end)).first_placed

pub lay_parts-requires-clause-to : goal.lay_parts-requires-clause-to
lay_parts-requires-clause-to c =
    (meetings c.args.rules.now c.args.edge.now c.in_ok-first.first (pos 0) c.end_length.result c.inner_length-inner.result (end_length c.args.rules.now c.args.edge.now.high_convex)
    c.requires.edge (sym c.is_whole.ensures ∙ c.if-is_whole.false) c.end_length.ensures.length c.inner_length-inner.ensures refl
    (once c.args.edge.now.lo c.in_ok-first.first c.end_length.result c.in_ok-first.ensures.end)).inner_placed

pub lay-requires-3-clause-from : goal.lay-requires-3-clause-from
lay-requires-3-clause-from c =
    (meetings c.args.rules.now c.args.edge.now c.in_ok-first.first c.in_ok-last.last c.end_length.result c.inner_length-inner.result c.end_length-2.result
    c.requires.edge (sym c.is_whole.ensures ∙ c.if-is_whole.false) c.end_length.ensures.length c.inner_length-inner.ensures c.end_length-2.ensures.length
    (once c.args.edge.now.lo c.in_ok-first.first c.end_length.result c.in_ok-first.ensures.end)).last_placed c.in_ok-last.ensures.end

pub lay-requires-3-clause-to : goal.lay-requires-3-clause-to
lay-requires-3-clause-to c =
    let m = (meetings c.args.rules.now c.args.edge.now c.in_ok-first.first c.in_ok-last.last c.end_length.result c.inner_length-inner.result c.end_length-2.result
    c.requires.edge (sym c.is_whole.ensures ∙ c.if-is_whole.false) c.end_length.ensures.length c.inner_length-inner.ensures c.end_length-2.ensures.length
    (once c.args.edge.now.lo c.in_ok-first.first c.end_length.result c.in_ok-first.ensures.end)) in
    let e = m.end_placed c.in_ok-last.ensures.end in
    (rw (let f : 1 * c.end_length-2.result ≡ c.end_length-2.result = omega arith in f) e)

pub returns : goal.returns
returns c =
    let m = (meetings c.args.rules.now c.args.edge.now c.in_ok-first.first c.in_ok-last.last c.end_length.result c.inner_length-inner.result c.end_length-2.result
    c.requires.edge (sym c.is_whole.ensures ∙ c.if-is_whole.false) c.end_length.ensures.length c.inner_length-inner.ensures c.end_length-2.ensures.length
    (once c.args.edge.now.lo c.in_ok-first.first c.end_length.result c.in_ok-first.ensures.end)) in
    laid_cut c.args.rules.now c.args.edge.now c.args.pieces.now.items c.lay-2.new.pieces.items c.lay_parts.new.pieces.items c.lay-3.new.pieces.items
    (to_z w32 (of_z w32 c.args.edge.now.lo)) (to_z w32 (of_z w32 c.in_ok-first.first)) (to_z w32 (of_z w32 c.in_ok-last.last))
    c.requires.rules (sym c.is_whole.ensures ∙ c.if-is_whole.false)
    (c.in_ok-first.ensures.pieces
    ∙ ap (λ n. c.args.pieces.now.items ++ laid c.args.edge.now.side c.args.edge.now.line (to_z w32 (of_z w32 c.args.edge.now.lo)) (n ∷ [])) c.end_length.ensures.length)
    (c.in_ok-last.ensures.pieces
    ∙ ap (λ n. c.lay-2.new.pieces.items ++ laid c.args.edge.now.side c.args.edge.now.line (to_z w32 (of_z w32 c.in_ok-first.first)) (parts n c.inner_count-count.result)) c.inner_length-inner.ensures
    ∙ ap (λ k. c.lay-2.new.pieces.items ++ laid c.args.edge.now.side c.args.edge.now.line (to_z w32 (of_z w32 c.in_ok-first.first)) (parts (inner_length c.args.rules.now c.args.edge.now) k))
    c.inner_count-count.ensures.count)
    (c.in_ok-lay-2.ensures.pieces
    ∙ ap (λ n. c.lay_parts.new.pieces.items ++ laid c.args.edge.now.side c.args.edge.now.line (to_z w32 (of_z w32 c.in_ok-last.last)) (n ∷ [])) c.end_length-2.ensures.length)
    m.from m.first_is (m.last_is c.in_ok-last.ensures.end)
