use Prim.Native.Nat.{◌+◌, ◌*◌}
use lib.Count.{ones}
use Rattle.hierarchy.proofs.Walk.{Walking}
use Rattle.hierarchy.proofs.views.descend.Given as goal

abbrev pub invariant-loop-y : goal.invariant-loop-y
invariant-loop-y l = Walking l.t l.start l.root l.kept l.done l.fresh l.above

abbrev pub decreases-loop-y : goal.decreases-loop-y
decreases-loop-y l = 2 * ones l.fresh + l.above
