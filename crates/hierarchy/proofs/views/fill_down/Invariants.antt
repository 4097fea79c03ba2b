use Prim.Native.Nat.{◌-◌}
use lib.Count.{ones}
use Rattle.hierarchy.specs.Engine.{SoFar}
use Rattle.hierarchy.proofs.views.fill_down.Given as goal

abbrev pub invariant-loop-root : goal.invariant-loop-root
invariant-loop-root l = SoFar l.t l.kept l.done

abbrev pub decreases-loop-root : goal.decreases-loop-root
decreases-loop-root l = ones l.t.live - ones l.done
