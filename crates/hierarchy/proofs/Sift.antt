-- A loop that keeps those members of a set that pass a test. Assumes nothing.
use mathlib.Core.Path.{◌≡◌, sym, subst}
use mathlib.Core.Bool.{◌||◌}
use mathlib.Core.Logic.{◌⊎◌, inl, inr, ⊎_elim}
use Prim.Native.Nat.{ℕ}
use native.Mathlib.Omega.{arith}
use Rattle.sets.specs.Sets.{bit, ◌is_in◌, ◌are_in◌, same?}
use Rattle.sets.proofs.Bools.{false_no}
use Rattle.sets.proofs.Digits.{bit_zero}
use Rattle.sets.proofs.Laws.{same_eq, same_self}
use Rattle.sets.proofs.Members.{Taken, taken_part, taken_kept}

pub record Sifted (P : ℕ → Type 0) (s found rest : ℕ) : Type 0 where
  pub part : rest are_in s
  pub only : (x : ℕ) → x is_in found → (x is_in s) × P x
  pub every : (x : ℕ) → x is_in s → P x → (x is_in rest) ⊎ (x is_in found)

pub sift_start : {P : ℕ → Type 0} {s left : ℕ} → left ≡ s → Sifted P s 0 left
sift_start {P} {s} q = subst (Sifted P s 0) (sym q) (record { part = λ x e. e; only = λ x e. absurd (false_no (bit_zero x) e); every = λ x e p. inl e })

module _ {P : ℕ → Type 0} {s found rest x rest' : ℕ} (turn : Taken rest x rest') (inv : Sifted P s found rest) where
  -- x passes, and is kept
  pub sift_in : (found' : ℕ) → P x → ((y : ℕ) → bit found' y ≡ (bit found y || same? x y)) → Sifted P s found' rest'
  sift_in found' p h = record {
    part = λ y e. inv.part y (taken_part turn y e);
    only = λ y e. ⊎_elim (λ f. inv.only y f)
        (λ q. subst (λ (n : ℕ). (n is_in s) × P n) (sym (same_eq x y q)) (inv.part x turn.lowest.member, p))
        (grind (arith, e, h y));
    every = λ y e q. grind (arith, inv.every y e q, taken_kept turn y, h y, same_self x turn.lowest.role);
  }

  -- x does not pass
  pub sift_out : (P x → ⊥) → Sifted P s found rest'
  sift_out n = record {
    part = λ y e. inv.part y (taken_part turn y e);
    only = inv.only;
    every = λ y e q. ⊎_elim (λ r. ⊎_elim (λ k. inl k) (λ k. absurd (n (subst P k q))) (taken_kept turn y r)) (λ f. inr f) (inv.every y e q);
  }
