use mathlib.Core.Path.{◌≡◌}
use mathlib.Core.List.{List}
use Prim.Native.Nat.{ℕ, ◌-◌, ◌≤◌, ◌<◌}
use lib.ListN.{get_or}
use Rattle.board.proofs.checks.same.Given as goal

-- below x the two have the same entries
abbrev pub Alike : List ℕ → List ℕ → ℕ → Type 0
Alike s t x = (k : ℕ) → k < x → get_or s k 0 ≡ get_or t k 0

abbrev pub invariant-loop-x : goal.invariant-loop-x
invariant-loop-x l = (l.x ≤ 64) × (Alike l.derives l.kept.derives l.x × (Alike l.derivers l.kept.derivers l.x × Alike l.manager l.kept.manager l.x))

abbrev pub decreases-loop-x : goal.decreases-loop-x
decreases-loop-x l = 64 - l.x
