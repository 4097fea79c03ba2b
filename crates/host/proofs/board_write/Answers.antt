use native.Mathlib.Omega.{arith}
use Rattle.host.proofs.Bounds.{write_small}
use Rattle.host.proofs.board_write.Goals as goal

pub overflow_cast-len : goal.overflow_cast-len
overflow_cast-len c = let l = write_small c.in-Ok.ensures in record { fits = omega arith }
