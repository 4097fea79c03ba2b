use lib.Count.{ones}
use Rattle.std.specs.Prelude.{unwrap_or}
use Rattle.hierarchy.proofs.Managing.{Nearing}
use Rattle.hierarchy.proofs.managers.nearest.Given as goal

abbrev pub invariant-loop-m : goal.invariant-loop-m
invariant-loop-m l = Nearing l.derives l.administrators (unwrap_or l.found 64) l.left

abbrev pub decreases-loop-m : goal.decreases-loop-m
decreases-loop-m l = ones l.left
