use Rattle.std.proofs.Common.{sym, arith}
use Rattle.wording.proofs.Placing.{command_low}
use Rattle.wording.proofs.names.code.Goals as goal

pub returns-clause-bound : goal.returns-clause-bound
returns-clause-bound c = let low = rw (sym c.in_ok-place.ensures.value) at (command_low c.args.text.now) in omega (arith, low)
