use native.Mathlib.Omega.{arith}
use Rattle.boardfile.proofs.Asking.{bounds_small}
use Rattle.host.proofs.board_stretch.Goals as goal

pub overflow_cast-span : goal.overflow_cast-span
overflow_cast-span c = let l = bounds_small c.in-Ok.ensures in record { fits = omega arith }

pub overflow_mul-result : goal.overflow_mul-result
overflow_mul-result c = let l = bounds_small c.in-Ok.ensures in record { fits = omega arith }

pub overflow_add-result : goal.overflow_add-result
overflow_add-result c = let l = bounds_small c.in-Ok.ensures in record { fits = omega (arith, c.done.ensures) }
