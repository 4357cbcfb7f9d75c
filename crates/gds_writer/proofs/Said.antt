-- What may be said of the file of outlines.
use Rattle.std.proofs.Common.{◌≡◌, ℕ, zero, suc, inl, inr, ◌<◌, ◌≤◌, ◌%◌, ℤ, pos, List, [], ◌∷◌, ◌++◌, ◌||◌, length, map, All, refl, ap, ap₂, sym, ◌∙◌, subst, arith}
use Rattle.std.specs.List.{flat_map}
use Rattle.std.proofs.lemmas.List.Elements.{All-head, All-tail, All-nil, All-cons}
use Rattle.opc_base.specs.declared.plane.Pix.{Pix}
use Rattle.opc_base.specs.declared.plane.Rect.{Rect}
use Rattle.opc_base.specs.declared.outline.Outline.TheVariants.{Polygon}
use Rattle.opc_base.specs.declared.rules.OutPick.{OutPick}
use Rattle.opc_base.specs.Canonical.{IsSolid}
use Rattle.opc_base.specs.Cover.{IsClosed, IsRectilinear}
use Rattle.opc_base.specs.Plane.{IsPixWithin, IsRectWithin, cover}
use Rattle.opc_base.specs.Ranges.{IsBetween}
use Rattle.opc_base.specs.Target.{target}
use Rattle.gds_records.specs.declared.library_head.Head.{Head}
use Rattle.gds_records.specs.Records.{records_from}
use Rattle.gds_model.specs.Faults.{HasNoFault}
use Rattle.gds_model.specs.Library.{IsLibraryOf}
use Rattle.gds_writer.specs.Expansion.{ExpandsTo}
use Rattle.gds_writer.specs.Faultless.{IsFaultless}
use Rattle.gds_writer.specs.MaskFile.{around, boundary, outline_file, outline_records, standing}
use Rattle.gds_writer.specs.MaskLibrary.{outline_library}
use Rattle.gds_writer.specs.Outlines.{IsOutline}
use Rattle.gds_writer.proofs.ReadBack.{mask_read_back}
use Rattle.gds_writer.proofs.Sentence.{mask_tree, mask-spelled}
use Rattle.gds_writer.proofs.Described.{mask-described}
use Rattle.gds_writer.proofs.Covered.{rect-covered}
use Rattle.gds_writer.proofs.Expands.{outlines-expand}
use Rattle.gds_writer.proofs.NoFault.{mask-no_fault}
use Rattle.gds_writer.proofs.PlacedRight.{mask-top, mask-references, mask-no_cycle, mask-shapes}

-- the head and the numbers with which a file can be written
pub record CanBeWritten (head : Head) (out : OutPick) (grid : ℤ) (outlines : List (List Pix)) : Type 0 where
  pub header : length head.header ≡ 2
  pub dates : length head.dates ≡ 24
  pub name_even : length head.name % 2 ≡ 0
  pub units : length head.units ≡ 16
  pub grid_in : IsBetween (pos 1) (pos 1000) grid
  pub numbers : 0 < length outlines → (out.layer < 65536) × (out.datatype < 65536)
  pub right : All IsOutline outlines

pub record IsSaid (head : Head) (out : OutPick) (grid : ℤ) (outlines : List (List Pix)) (bytes : List ℕ) : Type 0 where
  pub records : records_from bytes 0 ≡ standing 0 (outline_records head out grid outlines)
  pub library : IsLibraryOf bytes (outline_library head out grid outlines)
  pub expands : ExpandsTo bytes out.name out.layer out.datatype grid (target (map Polygon outlines))
  pub faultless : IsFaultless bytes out.name out.layer out.datatype grid

some-points : (points : List Pix) → IsClosed points → 1 ≤ length points
some-points [] ends = absurd ends
some-points (p ∷ points) ends = omega arith

all-near : (outlines : List (List Pix)) → All IsOutline outlines → All (λ points. All (IsPixWithin 1048128) points) outlines
all-near [] right = All-nil (λ points. All (IsPixWithin 1048128) points)
all-near (points ∷ outlines) right =
    All-cons (λ points. All (IsPixWithin 1048128) points) points outlines (All-head IsOutline points outlines right).within (all-near outlines (All-tail IsOutline points outlines right))

all-some : (outlines : List (List Pix)) → All IsOutline outlines → All (λ points. 1 ≤ length points) outlines
all-some [] right = All-nil (λ points. 1 ≤ length points)
all-some (points ∷ outlines) right =
    All-cons (λ points. 1 ≤ length points) points outlines (some-points points (All-head IsOutline points outlines right).closed) (all-some outlines (All-tail IsOutline points outlines right))

pub said : (head : Head) (out : OutPick) (grid : ℤ) (outlines : List (List Pix)) (bytes : List ℕ) → CanBeWritten head out grid outlines
    → bytes ≡ outline_file head out grid outlines → IsSaid head out grid outlines bytes
said head out grid outlines bytes can file =
    let records = mask_read_back head out grid outlines can.header can.dates can.name_even can.units in
    let read = ap (λ bytes. records_from bytes 0) file ∙ records in
    let layout = outline_library head out grid outlines in
    let described : IsLibraryOf bytes layout = record {
      tree = mask_tree head out grid outlines;
      spelled = mask-spelled head out grid outlines ∙ sym read;
      same = sym (mask-described head out grid outlines can.header can.dates can.units can.numbers (all-near outlines can.right) can.grid_in);
    } in
    record {
      records = read;
      library = described;
      expands = record {
        layout = layout;
        reading = described;
        top = refl;
        covered = λ x y. outlines-expand head out grid outlines x y can.grid_in.0;
      };
      faultless = record {
        file = subst (λ bytes. HasNoFault bytes) (sym file) (mask-no_fault head out grid outlines can.header can.dates can.units (all-some outlines can.right) records);
        layout = layout;
        reading = described;
        top = mask-top head out grid outlines;
        references = mask-references head out grid outlines;
        cycles = mask-no_cycle head out grid outlines;
        shapes = mask-shapes head out grid outlines can.grid_in.0 can.right;
      };
    }

-- ---- the outlines of rectangles

pub boundaries-around : (out : OutPick) (grid : ℤ) (rects : List Rect)
    → flat_map (λ r. boundary out grid (around r)) rects ≡ flat_map (boundary out grid) (map around rects)
boundaries-around out grid [] = refl
boundaries-around out grid (r ∷ rects) = ap (λ l. boundary out grid (around r) ++ l) (boundaries-around out grid rects)

pub around-covered : (rects : List Rect) (x y : ℤ) → All IsSolid rects → target (map Polygon (map around rects)) x y ≡ cover rects x y
around-covered [] x y solid = refl
around-covered (r ∷ rects) x y solid =
    ap₂ (λ a b. a || b) (rect-covered r (All-head IsSolid r rects solid) x y) (around-covered rects x y (All-tail IsSolid r rects solid))

around-straight : (r : Rect) → IsRectilinear (around r)
around-straight r zero d below = inr refl
around-straight r (suc zero) d below = inl refl
around-straight r (suc (suc zero)) d below = inr refl
around-straight r (suc (suc (suc zero))) d below = inl refl
around-straight r (suc (suc (suc (suc k)))) d below = absurd (omega arith)

around-right : (r : Rect) → IsRectWithin 1048128 r → IsOutline (around r)
around-right r (x0, y0, x1, y1) =
    let near = IsPixWithin 1048128 in
    let p : Pix = record { x = r.x0; y = r.y0 } in
    let q : Pix = record { x = r.x1; y = r.y0 } in
    let s : Pix = record { x = r.x1; y = r.y1 } in
    let t : Pix = record { x = r.x0; y = r.y1 } in
    record {
      closed = refl;
      straight = around-straight r;
      within = All-cons near p (q ∷ s ∷ t ∷ p ∷ []) (x0, y0) (All-cons near q (s ∷ t ∷ p ∷ []) (x1, y0)
          (All-cons near s (t ∷ p ∷ []) (x1, y1) (All-cons near t (p ∷ []) (x0, y1) (All-cons near p [] (x0, y0) (All-nil near)))));
      few = omega arith;
    }

pub all-around : (rects : List Rect) → All (IsRectWithin 1048128) rects → All IsOutline (map around rects)
all-around [] near = All-nil IsOutline
all-around (r ∷ rects) near =
    All-cons IsOutline (around r) (map around rects) (around-right r (All-head (IsRectWithin 1048128) r rects near)) (all-around rects (All-tail (IsRectWithin 1048128) r rects near))
