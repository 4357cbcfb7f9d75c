-- Canonical rectangles of a set that is given by other means.
use Rattle.std.proofs.Common.{◌≡◌, ℕ, ℤ, Bool, List, Option, Some, None, subst}
use Rattle.std.specs.Prelude.{IfNone, IfSome}
use Rattle.std.proofs.Math.Path.{fun_ext}
use Rattle.opc_base.specs.declared.plane.Rect.{Rect}
use Rattle.opc_base.specs.Plane.{PixelSet, cover}
use Rattle.opc_base.specs.Canonical.{AreCanonical, IsCanonical}
use Rattle.opc_base.specs.Target.{HasMoreCornersThan}
use Rattle.rect_union.specs.CornerCount.{HasCornerCount}
use Rattle.rect_union.specs.declared.sweep.SweepEnd.{SweepEnd}
use Rattle.rect_union.specs.declared.sweep.SweepEnd.TheVariants.{Swept, TooMany, TooLong}
use Rattle.rect_union.specs.Sweeps.{IfSwept, IfTooMany}
use Rattle.opc_base.proofs.CanonicalLaws.{canonical_for_cover}

pub canonical_for : (pixels : PixelSet) (rects : List Rect) → AreCanonical rects → ((x y : ℤ) → cover rects x y ≡ pixels x y) → IsCanonical pixels rects
canonical_for pixels rects canonical same =
    subst (λ (s : ℤ → ℤ → Bool). IsCanonical s rects) (fun_ext (λ x. fun_ext (λ y. same x y))) (canonical_for_cover rects canonical)

pub count_for : (pixels : PixelSet) (rects : List Rect) (count : ℕ) → ((x y : ℤ) → cover rects x y ≡ pixels x y) → HasCornerCount (cover rects) count → HasCornerCount pixels count
count_for pixels rects count same has =
    subst (λ (s : ℤ → ℤ → Bool). HasCornerCount s count) (fun_ext (λ x. fun_ext (λ y. same x y))) has

pub more_for : (first second : PixelSet) (most : ℕ) → ((x y : ℤ) → first x y ≡ second x y) → HasMoreCornersThan most first → HasMoreCornersThan most second
more_for first second most same has =
    subst (λ (s : ℤ → ℤ → Bool). HasMoreCornersThan most s) (fun_ext (λ x. fun_ext (λ y. same x y))) has

-- ---- what may be found

pub if_some : {A : Type 0} {P Q : A → Type 0} (found : Option A) → IfSome found P → ((a : A) → P a → Q a) → IfSome found Q
if_some None is more = is
if_some (Some a) is more = more a is

pub if_some_both : {A : Type 0} {P Q R : A → Type 0} (found : Option A) → IfSome found P → IfSome found Q → ((a : A) → P a → Q a → R a) → IfSome found R
if_some_both None is here more = is
if_some_both (Some a) is here more = more a is here

pub if_none : {A P Q : Type 0} (found : Option A) → IfNone found P → (P → Q) → IfNone found Q
if_none None is more = more is
if_none (Some a) is more = is

-- ---- how a sweep came out

pub if_swept : {P Q : List Rect → Type 0} (end : SweepEnd) → IfSwept end P → ((rects : List Rect) → P rects → Q rects) → IfSwept end Q
if_swept (Swept rects) is more = more rects.items is
if_swept TooMany is more = is
if_swept TooLong is more = is

pub if_swept_both : {P Q R : List Rect → Type 0} (end : SweepEnd) → IfSwept end P → IfSwept end Q → ((rects : List Rect) → P rects → Q rects → R rects) → IfSwept end R
if_swept_both (Swept rects) is here more = more rects.items is here
if_swept_both TooMany is here more = is
if_swept_both TooLong is here more = is

pub if_too_many : {P Q : Type 0} (end : SweepEnd) → IfTooMany end P → (P → Q) → IfTooMany end Q
if_too_many (Swept rects) is more = is
if_too_many TooMany is more = more is
if_too_many TooLong is more = is
