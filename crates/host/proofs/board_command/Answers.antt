use native.Mathlib.Omega.{arith}
use Rattle.boardfile.proofs.Commanding.{command_short}
use Rattle.host.proofs.board_command.Goals as goal

pub overflow_cast-len : goal.overflow_cast-len
overflow_cast-len c = let l = command_short c.in-Ok.ensures in record { fits = omega arith }
