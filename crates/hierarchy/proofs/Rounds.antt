-- Entries that join live roles, row by row. Assumes nothing.
use mathlib.Core.Path.{◌≡◌, refl}
use mathlib.Core.Bool.{Bool, true, false, ◌||◌}
use mathlib.Core.Logic.{◌⊎◌, ⊎_elim, ◌↔◌}
use mathlib.Core.List.{List}
use Prim.Native.Nat.{ℕ, ◌≤◌, ◌<◌}
use native.Mathlib.Omega.{arith}
use lib.ListN.{length}
use Rattle.sets.specs.Sets.{bit, ◌is_in◌}
use Rattle.sets.proofs.Bools.{false_no, lt_or_ge}
use Rattle.hierarchy.specs.Tables.{tables, row}
use Rattle.hierarchy.specs.Words.{Joined}
use Rattle.hierarchy.proofs.Derive.{edge_entry}
use Rattle.hierarchy.proofs.Managing.{past_row, no_iff}

-- the juniors of x, and x itself, live
abbrev pub LiveRow : ℕ → ℕ → ℕ → Type 0
LiveRow live x juniors = (y : ℕ) → y is_in juniors → (x is_in live) × (y is_in live)

pub joined_no : (live x : ℕ) (i a : List ℕ) (both : ℕ) (w : Bool) → ((y : ℕ) → bit both y ≡ (bit (row i x) y || bit (row a x) y))
    → (w ≡ true) ↔ LiveRow live x both → w ≡ false → (false ≡ true) ↔ Joined (tables live i a)
joined_no live x i a both w both_is test e = no_iff (λ j. false_no e (test.1 (λ y m.
    j x y ((edge_entry (tables live i a) x y).1 (grind (arith, m, both_is y))))))

-- the rows below n are right
abbrev pub Joined-below : ℕ → List ℕ → List ℕ → ℕ → Type 0
Joined-below live i a n = (x : ℕ) → x < n → (y : ℕ) → (y is_in row i x) ⊎ (y is_in row a x) → (x is_in live) × (y is_in live)

pub joined_yes : (live n : ℕ) (i a : List ℕ) → length i ≡ 64 → length a ≡ 64 → 64 ≤ n → Joined-below live i a n → (true ≡ true) ↔ Joined (tables live i a)
joined_yes live n i a li la l below = (
  λ _ x y h.
      let d = (edge_entry (tables live i a) x y).0 h in
      ⊎_elim (λ k. below x (omega arith) y d) (λ g. absurd (⊎_elim (past_row i x y li g) (past_row a x y la g) d)) (lt_or_ge x 64),
  λ _. refl,
)
