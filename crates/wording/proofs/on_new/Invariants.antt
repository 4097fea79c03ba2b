use Rattle.wording.specs.Meanings.{sets_from}
use Rattle.wording.proofs.NewRole.{Naming}
use Rattle.wording.proofs.on_new.Given as goal

abbrev pub invariant-loop-n : goal.invariant-loop-n
invariant-loop-n l = Naming l.line (sets_from 4 l.line 3 l.fn.asked) l.c l.n
