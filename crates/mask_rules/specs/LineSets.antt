-- A set of pixels, or what is not in it, as its rows or its columns meet it.
use Rattle.std.specs.Prelude.{ℤ, pos, negsuc, neg_ℤ, Bool, true, false, not, ◌&&◌, if◌then◌else◌}
use Rattle.opc_base.specs.declared.plane.Pix.{Pix}
use Rattle.opc_base.specs.declared.plane.Rect.{Rect}
use Rattle.opc_base.specs.Plane.{PixelSet, outside, rect_cover}
use Rattle.opc_base.specs.Runs.{LiesInShortRun}

-- rows for columns
abbrev pub turned : Bool → PixelSet → PixelSet
turned false pixels x y = pixels x y
turned true pixels x y = pixels y x

abbrev pub turned_rect : Bool → Rect → Rect
turned_rect false r = r
turned_rect true r = record { x0 = r.y0; y0 = r.x0; x1 = r.y1; y1 = r.x1 }

-- the pixels within 1,048,576 of 0
abbrev pub field_rect : Rect
field_rect = record { x0 = neg_ℤ (pos 1048576); y0 = neg_ℤ (pos 1048576); x1 = pos 1048576; y1 = pos 1048576 }

abbrev pub field : PixelSet
field x y = rect_cover field_rect x y

-- the set, or the pixels of the field that are not in it
abbrev pub line_set : Bool → Bool → PixelSet → PixelSet
line_set turn false pixels x y = turned turn pixels x y
line_set turn true pixels x y = field x y && not (turned turn pixels x y)

-- the set, or all that is not in it
abbrev pub shown : Bool → PixelSet → PixelSet
shown false pixels = pixels
shown true pixels = outside pixels

-- a pixel's place along its row or its column, and the number of that
abbrev pub along : Bool → Pix → ℤ
along false p = p.x
along true p = p.y

abbrev pub across : Bool → Pix → ℤ
across false p = p.y
across true p = p.x

-- the pixel lies in a run of its row, or of its column, of fewer than `least` pixels
abbrev pub LiesInShortLine : Bool → Bool → PixelSet → ℤ → Pix → Type 0
LiesInShortLine turn out pixels least p = LiesInShortRun (λ s. turned turn (shown out pixels) s (across turn p)) least (along turn p)

-- the sign at each pixel of the set, so that the signs over the field sum to the line set
abbrev pub sign_of : Bool → ℤ
sign_of false = pos 1
sign_of true = negsuc 0

abbrev pub field_sign : Bool → ℤ → ℤ → ℤ
field_sign false x y = pos 0
field_sign true x y = if field x y then pos 1 else pos 0
