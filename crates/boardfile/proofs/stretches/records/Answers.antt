use mathlib.Core.Path.{refl}
use Prim.Native.Nat.{◌+◌, ◌-◌}
use native.Mathlib.Omega.{arith}
use Rattle.boardfile.proofs.Asking.{bounds_small, bounds_inside, stretched}
use Rattle.boardfile.proofs.stretches.records.Goals as goal

pub overflow_add-result : goal.overflow_add-result
overflow_add-result c = let s = bounds_small c.in_ok-span.ensures in record { fits = omega arith }

pub slice_bounds-result-end : goal.slice_bounds-result-end
slice_bounds-result-end c = omega (arith, bounds_inside c.in_ok-span.ensures)

pub returns : goal.returns
returns c =
    let span = c.in_ok-span.span in
    (span.start, stretched c.in_ok-span.ensures (span.start + span.len - span.start) (omega arith), refl, omega arith)
