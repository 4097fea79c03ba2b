use mathlib.Core.Logic.Iff
use Rattle.board.proofs.Looking.{holds}
use Rattle.refusals.proofs.Trying.{within_is}
use Rattle.refusals.proofs.offending.within_scope.Goals as goal

pub returns-then-within : goal.returns-then-within
returns-then-within c = let f = c.args.f.now in
    Iff.trans c.within-then-within.ensures
    (within_is c.args.all f.command c.in_scope.result c.in_strict.result c.without-own.result f.in_range c.in_scope.ensures c.in_strict.ensures
    c.without-own.ensures (holds c.within.ensures c.if-within.true))
