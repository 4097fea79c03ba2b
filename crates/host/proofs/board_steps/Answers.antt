use native.Mathlib.Omega.{arith}
use Rattle.host.proofs.Bounds.{steps_small}
use Rattle.host.proofs.board_steps.Goals as goal

pub overflow_cast-steps : goal.overflow_cast-steps
overflow_cast-steps c = let l = steps_small _ c.in-Ok.ensures in record { fits = omega arith }
