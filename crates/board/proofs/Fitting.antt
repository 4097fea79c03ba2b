-- A row of rights that is looked through. Assumes nothing.
use mathlib.Core.Path.{◌≡◌}
use mathlib.Core.Bool.{false}
use mathlib.Core.Logic.{⊎_elim}
use mathlib.Core.List.{List}
use Prim.Native.Nat.{ℕ, ◌≤◌, ◌<◌}
use native.Mathlib.Omega.{arith}
use lib.ListN.{length, get_or-eq_default}
use Rattle.sets.specs.Sets.{bit}
use Rattle.sets.proofs.Bools.{lt_or_ge}
use Rattle.board.specs.Rights.{rights_of, RightsFit}

-- ---- a row of rights that is looked through: the bytes below x fit

abbrev pub FitsBelow : ℕ → List ℕ → ℕ → Type 0
FitsBelow live rights x = (k : ℕ) → k < x → (rights_of rights k ≤ 31) × (bit live k ≡ false → rights_of rights k ≡ 0)

pub all_fit : {live x : ℕ} {rights : List ℕ} → length rights ≡ 64 → 64 ≤ x → FitsBelow live rights x → RightsFit live rights
all_fit {live} {x} {rights} rows far h = record { rows = rows; five = λ k. (there k).0; living = λ k. (there k).1 }
  where
    there : (k : ℕ) → (rights_of rights k ≤ 31) × (bit live k ≡ false → rights_of rights k ≡ 0)
    there k = ⊎_elim (λ l. h k (omega (arith, l, far)))
        (λ g. let z : rights_of rights k ≡ 0 = get_or-eq_default rights 0 (omega (arith, g, rows)) in (omega (arith, z), λ _. z))
        (lt_or_ge k 64)
