-- From a test to what it says, and back. Assumes nothing.
use mathlib.Core.Path.{◌≡◌, refl, sym, ◌∙◌, subst}
use mathlib.Core.Bool.{Bool, true, false, ◌&&◌, ◌||◌, cond, true≢false, false≢true}
use mathlib.Core.Logic.{◌⊎◌, inl, inr, ⊎_elim, ◌↔◌, dite}
use Prim.Native.Nat.{ℕ, zero, suc, ◌≤◌, ◌<◌}
use native.Mathlib.Nat.{le_antisymm, le_of_suc-le-suc, not-suc-le-zero}
use lib.Dec.{ltb}
use borrow.Author.Tests.{ltb-true, ltb-false}

pub true_or_false : (p : Bool) → (p ≡ true) ⊎ (p ≡ false)
true_or_false true = inl refl
true_or_false false = inr refl

pub or_cases : (p q : Bool) → (p || q) ≡ true → (p ≡ true) ⊎ (q ≡ true)
or_cases true q e = inl refl
or_cases false q e = inr e

pub or_left : (p q : Bool) → p ≡ true → (p || q) ≡ true
or_left true q e = refl
or_left false q e = absurd (false≢true e)

pub or_right : (p q : Bool) → q ≡ true → (p || q) ≡ true
or_right true q e = refl
or_right false q e = e

pub and_left : (p q : Bool) → (p && q) ≡ true → p ≡ true
and_left true q e = refl
and_left false q e = e

pub and_right : (p q : Bool) → (p && q) ≡ true → q ≡ true
and_right true q e = e
and_right false q e = absurd (false≢true e)

pub and_both : (p q : Bool) → p ≡ true → q ≡ true → (p && q) ≡ true
and_both true q d e = e
and_both false q d e = d

-- a test that is not true is false, and the other way round
pub not_so : (p : Bool) → (p ≡ true → ⊥) → p ≡ false
not_so true h = absurd (h refl)
not_so false h = refl

pub false_no : {p : Bool} → p ≡ false → p ≡ true → ⊥
false_no e d = true≢false (sym d ∙ e)

-- two tests that say the same
pub iff_same : (p q : Bool) → (p ≡ true → q ≡ true) → (q ≡ true → p ≡ true) → p ≡ q
iff_same true q f g = sym (f refl)
iff_same false true f g = g refl
iff_same false false f g = refl

-- two tests of one fact: what settles a yes or no
pub test_unique : {P : Type 0} {p q : Bool} → (p ≡ true) ↔ P → (q ≡ true) ↔ P → p ≡ q
test_unique {p = p} {q = q} f g = iff_same p q (λ e. g.1 (f.0 e)) (λ e. f.1 (g.0 e))

-- what a test decides
pub decided : {P : Type 0} (p : Bool) → (p ≡ true) ↔ P → Dec P
decided true h = yes (h.0 refl)
decided false h = no (λ x. false≢true (h.1 x))

pub lt_or_ge : (x k : ℕ) → (x < k) ⊎ (k ≤ x)
lt_or_ge x k = ⊎_elim (λ e. inl (ltb-true x k e)) (λ e. inr (ltb-false x k e)) (true_or_false (ltb x k))

-- a fact about a choice, from its two cases
pub cond_elim : {A : Type 0} (P : A → Type 0) (p : Bool) (u v : A) → (p ≡ true → P u) → (p ≡ false → P v) → P (cond p u v)
cond_elim P true u v f g = f refl
cond_elim P false u v f g = g refl

-- where a property is decided, the least number that has it, or none below n has it
pub least_below : {P : ℕ → Type 0} → ((x : ℕ) → Dec (P x)) → (n : ℕ) → ((m : ℕ) × (P m × ((y : ℕ) → P y → m ≤ y))) ⊎ ((y : ℕ) → y < n → P y → ⊥)
least_below d zero = inr (λ y l _. not-suc-le-zero l)
least_below {P} d (suc n) = ⊎_elim (λ m. inl m) (λ none. dite (d n)
    (λ p. inl (n, (p, λ y q. ⊎_elim (λ l. absurd (none y l q)) (λ g. g) (lt_or_ge y n))))
    (λ k. inr (λ y l q. ⊎_elim (λ b. none y b q) (λ g. k (subst P (le_antisymm (le_of_suc-le-suc l) g) q)) (lt_or_ge y n))))
    (least_below d n)
