use Prim.Native.Nat.{◌≤◌, ◌-◌}
use Rattle.hierarchy.proofs.Rounds.{Joined-below}
use Rattle.board.proofs.entries.joined.Given as goal

abbrev pub invariant-loop-x : goal.invariant-loop-x
invariant-loop-x l = (l.x ≤ 64) × Joined-below l.live l.i l.a l.x

abbrev pub decreases-loop-x : goal.decreases-loop-x
decreases-loop-x l = 64 - l.x
