use Rattle.std.proofs.Common.{◌≡◌, ◌-◌, ap, ◌^◌, ◌≤◌, ℤ, ◌+ℤ◌, ◌-ℤ◌, unsigned_abs, ◌∙◌, sym, SFits, w64, to_z, of_z, to_z-of_z, arith}
use Rattle.std.proofs.lemmas.Int.{ints}
use Rattle.opc_base.proofs.ClampLaws.{block-before, block-under}
use Rattle.opc_base.proofs.LaneLaws.{block_of_lane-bound, lane_entry-within}
use Rattle.opc_base.specs.Blocks.{place_at}
use Rattle.opc_base.specs.Lanes.{lane_entry, passed_in_lane}
use Rattle.prefix_tables.proofs.TableLaws.{next_is}
use Rattle.prefix_tables.proofs.tables.next_block.Goals as goal
use Rattle.prefix_tables.proofs.tables.next_block.Goals.{then-row-eq0-via-then-row-eq0, then-row-eq0-via-else-row-eq0+then-column-eq0}

-- the sum as the code computes it
abbrev computed : ℤ → ℤ → ℤ → ℤ → ℤ
computed a b c d =
    to_z w64 (of_z w64 (to_z w64 (of_z w64 (to_z w64 (of_z w64 a) +ℤ to_z w64 (of_z w64 b))) -ℤ to_z w64 (of_z w64 c))) +ℤ to_z w64 (of_z w64 d)

computed-is : (a b c d : ℤ) → unsigned_abs a ≤ 2 ^ 27 → unsigned_abs b ≤ 2 ^ 27 → unsigned_abs c ≤ 2 ^ 27 → unsigned_abs d ≤ 4096 →
    computed a b c d ≡ a +ℤ b -ℤ c +ℤ d
computed-is a b c d small_a small_b small_c small_d = omega (arith, ints)

sum-fits : (a b c d : ℤ) → unsigned_abs a ≤ 2 ^ 27 → unsigned_abs b ≤ 2 ^ 27 → unsigned_abs c ≤ 2 ^ 27 → unsigned_abs d ≤ 4096 →
    SFits w64 (a +ℤ b -ℤ c +ℤ d)
sum-fits a b c d small_a small_b small_c small_d = omega (arith, ints)

pub returns-then-row-eq0 : goal.returns-then-row-eq0
returns-then-row-eq0 c =
    elim c.then-row-eq0.branch [
      | then-row-eq0-via-then-row-eq0 w ↦ sym (block-under c.args.kernels.now.reach (lane_entry c.args.kernels.now c.args.lane) _ _ (omega (arith, ints)))
      | then-row-eq0-via-else-row-eq0+then-column-eq0 w ↦ sym (block-before c.args.kernels.now.reach (lane_entry c.args.kernels.now c.args.lane) _ _ (omega (arith, ints)))
    ]

-- the entry here, times the contrast
here : (c : goal.After-passed-here) → c.passed-here.result ≡ lane_entry c.args.kernels.now c.args.lane (place_at c.args.kernels.now.reach (c.args.column - 1)) (place_at c.args.kernels.now.reach (c.args.row - 1))
here c =
    c.passed-here.ensures
    ∙ ap (λ t. passed_in_lane c.args.kernels.now c.args.lane t (place_at c.args.kernels.now.reach (c.args.column - 1)) (place_at c.args.kernels.now.reach (c.args.row - 1))) c.contrast_of.ensures

pub overflow_add-result : goal.overflow_add-result
overflow_add-result c =
    let a : unsigned_abs c.earlier_block-beside.result ≤ 2 ^ 27 = rw c.earlier_block-beside.ensures (block_of_lane-bound c.args.kernels.now c.args.lane _ _ c.requires.bounds) in
    let b : unsigned_abs c.earlier_block-under.result ≤ 2 ^ 27 = rw c.earlier_block-under.ensures (block_of_lane-bound c.args.kernels.now c.args.lane _ _ c.requires.bounds) in
    omega (arith, ints)

pub overflow_sub-result : goal.overflow_sub-result
overflow_sub-result c =
    let a : unsigned_abs c.earlier_block-beside.result ≤ 2 ^ 27 = rw c.earlier_block-beside.ensures (block_of_lane-bound c.args.kernels.now c.args.lane _ _ c.requires.bounds) in
    let b : unsigned_abs c.earlier_block-under.result ≤ 2 ^ 27 = rw c.earlier_block-under.ensures (block_of_lane-bound c.args.kernels.now c.args.lane _ _ c.requires.bounds) in
    let d : unsigned_abs c.earlier_block-across.result ≤ 2 ^ 27 = rw c.earlier_block-across.ensures (block_of_lane-bound c.args.kernels.now c.args.lane _ _ c.requires.bounds) in
    omega (arith, ints)

pub overflow_add-result-2 : goal.overflow_add-result-2
overflow_add-result-2 c =
    let a : unsigned_abs c.earlier_block-beside.result ≤ 2 ^ 27 = rw c.earlier_block-beside.ensures (block_of_lane-bound c.args.kernels.now c.args.lane _ _ c.requires.bounds) in
    let b : unsigned_abs c.earlier_block-under.result ≤ 2 ^ 27 = rw c.earlier_block-under.ensures (block_of_lane-bound c.args.kernels.now c.args.lane _ _ c.requires.bounds) in
    let d : unsigned_abs c.earlier_block-across.result ≤ 2 ^ 27 = rw c.earlier_block-across.ensures (block_of_lane-bound c.args.kernels.now c.args.lane _ _ c.requires.bounds) in
    let e : unsigned_abs c.passed-here.result ≤ 4096 = rw (here c) (lane_entry-within c.args.kernels.now c.args.lane _ _ c.requires.bounds) in
    rw (computed-is c.earlier_block-beside.result c.earlier_block-under.result c.earlier_block-across.result c.passed-here.result a b d e)
    (sum-fits c.earlier_block-beside.result c.earlier_block-under.result c.earlier_block-across.result c.passed-here.result a b d e)

pub returns : goal.returns
returns c =
    let a : unsigned_abs c.earlier_block-beside.result ≤ 2 ^ 27 = rw c.earlier_block-beside.ensures (block_of_lane-bound c.args.kernels.now c.args.lane _ _ c.requires.bounds) in
    let b : unsigned_abs c.earlier_block-under.result ≤ 2 ^ 27 = rw c.earlier_block-under.ensures (block_of_lane-bound c.args.kernels.now c.args.lane _ _ c.requires.bounds) in
    let d : unsigned_abs c.earlier_block-across.result ≤ 2 ^ 27 = rw c.earlier_block-across.ensures (block_of_lane-bound c.args.kernels.now c.args.lane _ _ c.requires.bounds) in
    let e : unsigned_abs c.passed-here.result ≤ 4096 = rw (here c) (lane_entry-within c.args.kernels.now c.args.lane _ _ c.requires.bounds) in
    let fits = sum-fits c.earlier_block-beside.result c.earlier_block-under.result c.earlier_block-across.result c.passed-here.result a b d e in
    rw (computed-is c.earlier_block-beside.result c.earlier_block-under.result c.earlier_block-across.result c.passed-here.result a b d e)
    (to_z-of_z fits ∙ next_is c.args.kernels.now c.args.lane c.args.column c.args.row _ _ _ _ (omega arith) (omega arith) c.requires.column c.requires.row
    c.earlier_block-beside.ensures c.earlier_block-under.ensures c.earlier_block-across.ensures (here c))
