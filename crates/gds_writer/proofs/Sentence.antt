-- The records of a mask file are a sentence of the grammar, and its library.
use Rattle.std.proofs.Common.{◌≡◌, ℕ, ◌+◌, List, [], ◌∷◌, ◌++◌, None, length, refl, ap, sym, ◌∙◌, inl, append_assoc}
use Rattle.std.specs.Prelude.{ℤ}
use Rattle.std.specs.List.{flat_map}
use Rattle.std.specs.Int.{w16, to_be_bytes}
use Rattle.std.proofs.lemmas.List.{append-nil}
use Rattle.opc_base.specs.declared.plane.Pix.{Pix}
use Rattle.opc_base.specs.declared.rules.OutPick.{OutPick}
use Rattle.gds_records.specs.declared.library_head.Head.{Head}
use Rattle.gds_records.specs.Records.{StreamRecord}
use Rattle.gds_model.specs.Grammar.{Content, Tree, records_of}
use Rattle.gds_model.specs.StreamFile as file
use Rattle.gds_model.specs.RecordKind.{code_of}
use Rattle.gds_writer.specs.MaskFile.{MaskRecord, padded, point_bytes, boundary, opening, closing, outline_records, standing}

abbrev content : ℕ → List ℕ → Content
content at body = record { offset = at; body = body }

-- the offset after a record with this body
abbrev behind : ℕ → List ℕ → ℕ
behind at body = at + 4 + length body

-- the offset after these records
abbrev pub after : ℕ → List MaskRecord → ℕ
after at [] = at
after at (r ∷ rs) = after (behind at r.body) rs

pub standing-append : (at : ℕ) (xs ys : List MaskRecord) → standing at (xs ++ ys) ≡ standing at xs ++ standing (after at xs) ys
standing-append at [] ys = refl
standing-append at (x ∷ xs) ys =
    ap (λ l. record { offset = at; code = code_of x.kind; body = x.body } ∷ l) (standing-append (behind at x.body) xs ys)

abbrev pub element_tree : OutPick → ℤ → ℕ → List Pix → Tree file.element
element_tree out grid at points =
    let layer = to_be_bytes w16 out.layer in
    let datatype = to_be_bytes w16 out.datatype in
    let body = flat_map (point_bytes grid) points in
    let a = behind at [] in
    let b = behind a layer in
    let c = behind b datatype in
    let d = behind c body in
    (inl (content at [], (None, (None, (content a layer, (content b datatype, content c body))))), ([], content d []))

abbrev pub element_trees : OutPick → ℤ → ℕ → List (List Pix) → List (Tree file.element)
element_trees out grid at [] = []
element_trees out grid at (r ∷ outlines) = element_tree out grid at r ∷ element_trees out grid (after at (boundary out grid r)) outlines

pub elements-spelled : (out : OutPick) (grid : ℤ) (at : ℕ) (outlines : List (List Pix))
    → flat_map (λ t. records_of file.element t) (element_trees out grid at outlines) ≡ standing at (flat_map (boundary out grid) outlines)
elements-spelled out grid at [] = refl
elements-spelled out grid at (r ∷ outlines) =
    ap (λ l. standing at (boundary out grid r) ++ l) (elements-spelled out grid (after at (boundary out grid r)) outlines)
    ∙ sym (standing-append at (boundary out grid r) (flat_map (boundary out grid) outlines))

abbrev pub mask_tree : Head → OutPick → ℤ → List (List Pix) → Tree file.library
mask_tree head out grid outlines =
    let a = behind 0 head.header in
    let b = behind a head.dates in
    let c = behind b head.name in
    let d = behind c head.units in
    let e = behind d head.dates in
    let f = behind e (padded out.name) in
    let g = after f (flat_map (boundary out grid) outlines) in
    let structure : Tree file.structure =
    (content d head.dates, (content e (padded out.name), (None, (element_trees out grid f outlines, content g [])))) in
    (content 0 head.header, (content a head.dates, ([], (content b head.name, ([], (content c head.units, (structure ∷ [], content (behind g []) [])))))))

joined : (xs : List StreamRecord) (a b : StreamRecord) → ((xs ++ a ∷ []) ++ []) ++ b ∷ [] ≡ xs ++ (a ∷ b ∷ [])
joined xs a b = ap (λ l. l ++ b ∷ []) (append-nil (xs ++ a ∷ [])) ∙ append_assoc xs (a ∷ []) (b ∷ [])

pub mask-spelled : (head : Head) (out : OutPick) (grid : ℤ) (outlines : List (List Pix))
    → records_of file.library (mask_tree head out grid outlines) ≡ standing 0 (outline_records head out grid outlines)
mask-spelled head out grid outlines =
    let f = after 0 (opening head out) in
    let elements = flat_map (boundary out grid) outlines in
    let g = after f elements in
    let end : StreamRecord = record { offset = g; code = 0x0700; body = [] } in
    let last : StreamRecord = record { offset = behind g []; code = 0x0400; body = [] } in
    ap (λ l. standing 0 (opening head out) ++ l)
    (joined (flat_map (λ t. records_of file.element t) (element_trees out grid f outlines)) end last
    ∙ ap (λ l. l ++ (end ∷ last ∷ [])) (elements-spelled out grid f outlines) ∙ sym (standing-append f elements closing))
