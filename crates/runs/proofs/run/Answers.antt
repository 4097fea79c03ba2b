use native.Mathlib.Omega.{arith}
use Rattle.answers.proofs.Told.{told_result}
use Rattle.runs.proofs.Running.{begins, too_short, goes_on, all_given}
use Rattle.runs.proofs.run.Goals as goal

pub returns-then-answers-commands : goal.returns-then-answers-commands
returns-then-answers-commands c = too_short _ _ _ c.if-answers-commands.true

pub loop-k-init : goal.loop-k-init
loop-k-init c = begins _ c.args.commands.now _

pub loop-k-preserved : goal.loop-k-preserved
loop-k-preserved c = goes_on _ _ _ c.loop-k-test.true (omega arith) c.loop-k.invariant c.decide.ensures (told_result c.decide.result 0 0 c.answered.ensures)

pub returns : goal.returns
returns c = all_given c.if-answers-commands.false c.loop-k-test.false c.loop-k.invariant
