-- What a test says, from what its parts say. Assumes nothing.
use mathlib.Core.Path.{◌≡◌, refl, sym, ◌∙◌, ap}
use mathlib.Core.Logic.{◌⊎◌, inl, inr, ⊎_elim, ◌↔◌, dite}
use mathlib.Core.Bool.{Bool, true, false, not, ◌&&◌, ◌||◌, beq, false≢true}
use Prim.Native.Nat.{ℕ, zero, suc, ◌≤◌, ◌<◌}
use native.Mathlib.Nat.{not-suc-le-zero, le_refl}
use native.Mathlib.Decide.{ℕ_discrete}
use native.Mathlib.Omega.{arith}
use lib.Dec.{eqb, leb, ltb}
use borrow.Author.Tests.{eqb-true, eq-eqb, ltb-true, lt-ltb, leb-true, le-leb}
use Rattle.sets.proofs.Bools.{or_cases, or_left, or_right, and_left, and_right, and_both}
use Rattle.hierarchy.specs.Compute.{all, any}

-- ---- of all numbers below n, and of some

pub all_holds : (n : ℕ) (f : ℕ → Bool) → all n f ≡ true → (x : ℕ) → x < n → f x ≡ true
unfolding all
all_holds zero f h x l = absurd (not-suc-le-zero l)
all_holds (suc n) f h x l =
    dite (ℕ_discrete x n) (λ e. ap f e ∙ and_left (f n) (all n f) h) (λ d. all_holds n f (and_right (f n) (all n f) h) x (omega arith))

all_true : (n : ℕ) (f : ℕ → Bool) → ((x : ℕ) → x < n → f x ≡ true) → all n f ≡ true
unfolding all
all_true zero f h = refl
all_true (suc n) f h = and_both (f n) (all n f) (h n (le_refl (suc n))) (all_true n f (λ x l. h x (omega arith)))

any_holds : (n : ℕ) (f : ℕ → Bool) → any n f ≡ true → (x : ℕ) × (f x ≡ true)
unfolding any
any_holds zero f h = absurd (false≢true h)
any_holds (suc n) f h = ⊎_elim (λ e. (n, e)) (any_holds n f) (or_cases (f n) (any n f) h)

any_true : (n : ℕ) (f : ℕ → Bool) (x : ℕ) → x < n → f x ≡ true → any n f ≡ true
unfolding any
any_true zero f x l h = absurd (not-suc-le-zero l)
any_true (suc n) f x l h =
    dite (ℕ_discrete x n) (λ e. or_left (f n) (any n f) (ap f (sym e) ∙ h)) (λ d. or_right (f n) (any n f) (any_true n f x (omega arith) h))

module _ (n : ℕ) {f : ℕ → Bool} {P : ℕ → Type 0} (is : (x : ℕ) → (f x ≡ true) ↔ P x) where
  pub all_is : (all n f ≡ true) ↔ ((x : ℕ) → x < n → P x)
  all_is = (λ h x l. (is x).0 (all_holds n f h x l), λ h. all_true n f (λ x l. (is x).1 (h x l)))

  pub any_is : ((x : ℕ) → P x → x < n) → (any n f ≡ true) ↔ ((x : ℕ) × P x)
  any_is small = (
    λ h. let w = any_holds n f h in (w.0, (is w.0).0 w.1),
    λ w. any_true n f w.0 (small w.0 w.1) ((is w.0).1 w.1),
  )

-- ---- of two tests; the second of `and_is` may count on the first

module _ {P Q : Type 0} where
  pub and_is : {p q : Bool} → (p ≡ true) ↔ P → (P → (q ≡ true) ↔ Q) → ((p && q) ≡ true) ↔ (P × Q)
  and_is {p = true} f g = let x = f.0 refl in (λ e. (x, (g x).0 e), λ h. (g x).1 h.1)
  and_is {p = false} f g = (λ e. absurd (false≢true e), λ h. f.1 h.0)

  pub or_is : {p q : Bool} → (p ≡ true) ↔ P → (q ≡ true) ↔ Q → ((p || q) ≡ true) ↔ (P ⊎ Q)
  or_is {p = true} f g = (λ _. inl (f.0 refl), λ _. refl)
  or_is {p = false} f g = (λ e. inr (g.0 e), ⊎_elim (λ x. absurd (false≢true (f.1 x))) g.1)

  pub if_is : {p q : Bool} → (p ≡ true) ↔ P → (q ≡ true) ↔ Q → ((not p || q) ≡ true) ↔ (P → Q)
  if_is {p = true} f g = (λ e _. g.0 e, λ h. g.1 (h (f.0 refl)))
  if_is {p = false} f g = (λ _ x. absurd (false≢true (f.1 x)), λ _. refl)

  pub unless_is : {p q : Bool} → (p ≡ true) ↔ P → (q ≡ true) ↔ Q → ((p || q) ≡ true) ↔ ((P → ⊥) → Q)
  unless_is {p = true} f g = (λ _ n. absurd (n (f.0 refl)), λ _. refl)
  unless_is {p = false} f g = (λ e _. g.0 e, λ h. g.1 (h (λ x. false≢true (f.1 x))))

pub not_is : {P : Type 0} {p : Bool} → (p ≡ true) ↔ P → (not p ≡ true) ↔ (P → ⊥)
not_is {p = true} f = (λ e _. false≢true e, λ h. absurd (h (f.0 refl)))
not_is {p = false} f = (λ _ x. false≢true (f.1 x), λ _. refl)

pub eq_is : (m n : ℕ) → (eqb m n ≡ true) ↔ (m ≡ n)
eq_is m n = (eqb-true m n, eq-eqb m n)

pub lt_is : (m n : ℕ) → (ltb m n ≡ true) ↔ (m < n)
lt_is m n = (ltb-true m n, lt-ltb m n)

pub le_is : (m n : ℕ) → (leb m n ≡ true) ↔ (m ≤ n)
le_is m n = (leb-true m n, le-leb m n)

-- two tests that agree
pub same_test : {P : Type 0} {p q : Bool} → p ≡ q → (q ≡ true) ↔ P → (p ≡ true) ↔ P
same_test e f = (λ t. f.0 (sym e ∙ t), λ x. e ∙ f.1 x)

pub beq_same : (p q : Bool) → beq p q ≡ true → p ≡ q
beq_same true true e = refl
beq_same true false e = absurd (false≢true e)
beq_same false true e = absurd (false≢true e)
beq_same false false e = refl
