-- The files of `trial`, as they are made.
use Rattle.std.proofs.Common.{◌≡◌, ℕ, ◌+◌, ◌*◌, ◌/◌, ◌%◌, ◌<◌, lit<, ℤ, pos, negsuc, ◌*ℤ◌, FitsSigned, w16, to_z, of_z, List, [], ◌∷◌, ◌++◌, length, map, take, get_or, add-one, refl, ap, ap₂, sym, ◌∙◌, arith}
use Rattle.std.specs.List.{flat_map}
use Rattle.std.proofs.lemmas.Int.{fits_signed_mul, ints, to_z-of_z}
use Rattle.std.proofs.lemmas.List.{map-append, take_more}
use Rattle.opc_base.specs.Ranges.{IsBetween}
use Rattle.opc_base.specs.declared.kernels.Entry.{Entry}
use Rattle.opc_base.specs.declared.plane.Pix.{Pix}
use Rattle.opc_base.specs.declared.plane.Rect.{Rect}
use Rattle.opc_base.specs.declared.rules.OutPick.{OutPick}
use Rattle.gds_records.specs.declared.library_head.Head.{Head}
use Rattle.gds_writer.specs.MaskFile.{around, bytes_of, closing, opening, outline_file, padded, point_bytes, record_of}
use Rattle.gds_writer.proofs.Said.{boundaries-around}
use Rattle.opc_engine.specs.TrialInput.{cell, cells, height, kernel_bytes, peak, rect_in, seed_of, slope, trial_kernels, trial_layout, trial_name}
use Rattle.opc_engine.specs.TrialWritten.{trial_head}
use Rattle.gds_model.specs.declared.record_kind.RecordKind.TheVariants.{Header, BgnLib, LibName, Units, BgnStr, StrName, Boundary, Layer, Datatype, Xy, EndEl}
use Rattle.std.specs.Int.{to_be_bytes}
use Rattle.std.specs.Prelude.{Result, Ok, Err, IfOk, codes}
use Rattle.opc_base.specs.declared.fault.NoMemory.{NoMemory}

-- ---- the layout
pub seed-first : seed_of 0 ≡ 12345
unfolding seed_of
seed-first = refl

pub seed-next : (k : ℕ) → seed_of (k + 1) ≡ (1103515245 * seed_of k + 12345) % 2147483648
unfolding seed_of
seed-next k = ap seed_of (add-one k)

pub cell-is : (k seed : ℕ) (a b c d : Rect) → seed ≡ seed_of k → a ≡ rect_in k 0 0 (12 + seed / 65536 % 8) (60 + seed / 1048576 % 32) → b ≡ rect_in k 40 0 (52 + seed / 65536 % 8) 100
    → c ≡ rect_in k 40 60 100 (72 + seed / 65536 % 8) → d ≡ rect_in k 0 140 100 (152 + seed / 65536 % 8) → a ∷ b ∷ c ∷ d ∷ [] ≡ cell k
cell-is k seed a b c d seed_is a_is b_is c_is d_is =
    ap₂ (λ (x y : Rect). x ∷ y ∷ c ∷ d ∷ []) a_is b_is
    ∙ ap₂ (λ (x y : Rect). rect_in k 0 0 (12 + seed / 65536 % 8) (60 + seed / 1048576 % 32) ∷ rect_in k 40 0 (52 + seed / 65536 % 8) 100 ∷ x ∷ y ∷ []) c_is d_is
    ∙ ap (λ s. rect_in k 0 0 (12 + s / 65536 % 8) (60 + s / 1048576 % 32) ∷ rect_in k 40 0 (52 + s / 65536 % 8) 100 ∷ rect_in k 40 60 100 (72 + s / 65536 % 8)
    ∷ rect_in k 0 140 100 (152 + s / 65536 % 8) ∷ []) seed_is

pub cells-next : (k : ℕ) → cells (k + 1) ≡ cells k ++ cell k
cells-next k = ap cells (add-one k)

pub outlines-next : (rects : List Rect) (i : ℕ) (d : Rect) (old new : List (List Pix)) (points : List Pix) → i < length rects → old ≡ map around (take i rects) → points ≡ around (get_or rects i d)
    → new ≡ old ++ points ∷ [] → new ≡ map around (take (i + 1) rects)
outlines-next rects i d old new points below before is after =
    after ∙ ap₂ (λ (l : List (List Pix)) (p : List Pix). l ++ p ∷ []) before is ∙ sym (ap (map around) (take_more rects i d below) ∙ map-append around (take i rects) (get_or rects i d ∷ []))

abbrev file_of : ℕ → ℕ → ℕ → List ℕ → List ℕ
file_of n layer datatype name = bytes_of (
    (record_of Header trial_head.header ∷ record_of BgnLib trial_head.dates ∷ record_of LibName trial_head.name ∷ record_of Units trial_head.units
    ∷ record_of BgnStr trial_head.dates ∷ record_of StrName (padded name) ∷ [])
    ++ (flat_map (λ r. record_of Boundary [] ∷ record_of Layer (to_be_bytes w16 layer) ∷ record_of Datatype (to_be_bytes w16 datatype)
    ∷ record_of Xy (flat_map (point_bytes (pos 1)) (around r)) ∷ record_of EndEl [] ∷ []) (cells n) ++ closing))

pub layout-is : (out : OutPick) (n : ℕ) (head : Head) (file : List ℕ) → out.layer ≡ 1 → out.datatype ≡ 0 → out.name ≡ trial_name → head ≡ trial_head
    → file ≡ outline_file head out (pos 1) (map around (cells n)) → file ≡ trial_layout n
unfolding trial_layout
layout-is out n head file layer datatype name head_is is =
    is ∙ ap (λ (h : Head). outline_file h out (pos 1) (map around (cells n))) head_is
    ∙ ap (λ l. bytes_of (opening trial_head out ++ (l ++ closing))) (sym (boundaries-around out (pos 1) (cells n)))
    ∙ ap (λ l. file_of n l out.datatype out.name) layer ∙ ap (λ d. file_of n 1 d out.name) datatype ∙ ap (λ m. file_of n 1 0 m) name

-- ---- the kernels

-- a product as the code computes it
product-is : (a h : ℤ) → IsBetween (negsuc 7) (pos 8) a → IsBetween (pos 1) (pos 9) h → to_z w16 (of_z w16 (to_z w16 (of_z w16 a) *ℤ to_z w16 (of_z w16 h))) ≡ a *ℤ h
product-is a h a_in h_in =
    let fits_a : FitsSigned w16 a = omega (arith, ints, a_in.0, a_in.1) in
    let fits_h : FitsSigned w16 h = omega (arith, ints, h_in.0, h_in.1) in
    let fits : FitsSigned w16 (a *ℤ h) = fits_signed_mul w16 a h 8 9 (omega (arith, ints, a_in.0, a_in.1)) (omega (arith, ints, h_in.0, h_in.1)) (lit< tt) in
    simp to_z-of_z

entry-of-parts : (a b c d : ℤ) → a ≡ c → b ≡ d → (let one : Entry = record { re = a; im = b } in one) ≡ (let other : Entry = record { re = c; im = d } in other)
entry-of-parts a b c d p q = λ i. record { re = p i; im = q i }

pub near : (n : ℤ) → IsBetween (negsuc 7) (pos 8) n → to_z w16 (of_z w16 n) ≡ n
near n n_in = to_z-of_z w16 n (omega (arith, ints, n_in.0, n_in.1))

pub slope-is : (u v h k : ℤ) → IsBetween (negsuc 7) (pos 8) u → IsBetween (negsuc 7) (pos 8) v → IsBetween (pos 1) (pos 9) h → IsBetween (pos 1) (pos 9) k → h ≡ height (to_z w16 (of_z w16 v)) → k ≡ height (to_z w16 (of_z w16 u))
    → (let one : Entry = record {
      re = to_z w16 (of_z w16 (to_z w16 (of_z w16 u) *ℤ to_z w16 (of_z w16 h)));
      im = to_z w16 (of_z w16 (to_z w16 (of_z w16 v) *ℤ to_z w16 (of_z w16 k)));
    } in one) ≡ slope u v
slope-is u v h k u_in v_in h_in k_in h_is k_is =
    entry-of-parts _ _ (u *ℤ height v) (v *ℤ height u) (product-is u h u_in h_in ∙ ap (λ x. u *ℤ x) (h_is ∙ ap height (near v v_in)))
    (product-is v k v_in k_in ∙ ap (λ x. v *ℤ x) (k_is ∙ ap height (near u u_in)))

-- the file begins with eight known bytes
pub kernels-is : (a b c d e s t : List ℕ) → a ≡ codes "OPK1" → b ≡ a ++ s → s ≡ to_be_bytes w16 2 → c ≡ b ++ t → t ≡ to_be_bytes w16 8 → d ≡ c ++ kernel_bytes 3 peak → e ≡ d ++ kernel_bytes 1 slope → e ≡ trial_kernels
unfolding trial_kernels
kernels-is a b c d e s t a_is b_is s_is c_is t_is d_is e_is =
    e_is ∙ ap (λ x. x ++ kernel_bytes 1 slope) (d_is ∙ ap (λ x. x ++ kernel_bytes 3 peak) (c_is ∙ ap₂ (λ x y. x ++ y) (b_is ∙ ap₂ (λ x y. x ++ y) a_is s_is) t_is))

pub layout-written : (r : Result (List ℕ) NoMemory) (n : ℕ) (out : OutPick) (head : Head) (outlines : List (List Pix)) → out.layer ≡ 1 → out.datatype ≡ 0 → out.name ≡ trial_name
    → head ≡ trial_head → outlines ≡ map around (cells n) → IfOk r (λ file. file ≡ outline_file head out (pos 1) outlines) → IfOk r (λ file. file ≡ trial_layout n)
layout-written (Ok file) n out head outlines layer datatype name head_is list is =
    layout-is out n head file layer datatype name head_is (is ∙ ap (λ l. outline_file head out (pos 1) l) list)
layout-written (Err e) n out head outlines layer datatype name head_is list is = tt
