-- The numbers of which a test holds, ascending: what stands where, and how the list grows. Role bytes and edge records both go by it.
-- Assumes nothing.
use mathlib.Core.Path.{◌≡◌, refl, sym, ap, ap₂, ◌∙◌, subst}
use mathlib.Core.Bool.{Bool, true, false, cond}
use mathlib.Core.Logic.{⊎_elim}
use mathlib.Core.List.{List, [], ◌∷◌, ◌++◌, append-nil}
use Prim.Native.Nat.{ℕ, zero, suc, ◌+◌, ◌-◌, ◌≤◌, ◌<◌, zero-le, suc-le-suc}
use native.Mathlib.Nat.{zero-add, suc-add, add-suc, add-zero, add-sub_of_le, le_refl, le_antisymm, not-suc-le-zero, le_of_suc-le-suc}
use native.Mathlib.Omega.{arith}
use lib.ListN.{length, get_or, length-append}
use Rattle.sets.proofs.Bools.{lt_or_ge, iff_same}
use Rattle.writer.specs.Files.{from}

-- ---- one after the other

kept : (p : Bool) (x : ℕ) (ys zs : List ℕ) {xs : List ℕ} → xs ≡ ys ++ zs → cond p (x ∷ xs) xs ≡ cond p (x ∷ ys) ys ++ zs
kept true x ys zs e = ap (λ (l : List ℕ). x ∷ l) e
kept false x ys zs e = e

pub from_split : (m n k : ℕ) (f : ℕ → Bool) → from (m + n) k f ≡ from m k f ++ from n (k + m) f
unfolding from
from_split zero n k f = rw (zero-add, add-zero)
from_split (suc m) n k f = rw (suc-add, add-suc, ← suc-add) (kept (f k) k (from m (suc k) f) (from n (suc k + m) f) (from_split m n (suc k) f))

-- ---- tests that agree

pub from_same : (n k : ℕ) (f g : ℕ → Bool) → ((x : ℕ) → k ≤ x → x < k + n → f x ≡ g x) → from n k f ≡ from n k g
unfolding from
from_same zero k f g h = refl
from_same (suc n) k f g h =
    let rest : from n (suc k) f ≡ from n (suc k) g = from_same n (suc k) f g (λ x a b. h x (omega arith) (omega arith)) in
    ap₂ (λ (p : Bool) (l : List ℕ). cond p (k ∷ l) l) (h k (le_refl k) (omega arith)) rest

pub from_none : (n k : ℕ) (f : ℕ → Bool) → ((x : ℕ) → k ≤ x → x < k + n → f x ≡ false) → from n k f ≡ []
unfolding from
from_none zero k f h = refl
from_none (suc n) k f h =
    rw (h k (le_refl k) (omega arith)) (from_none n (suc k) f (λ x a b. h x (omega arith) (omega arith)))

-- ---- what stands at an index

pub record Stands (n k : ℕ) (f : ℕ → Bool) (x : ℕ) : Type 0 where
  pub holds : f x ≡ true
  pub low : k ≤ x
  pub high : x < k + n

further : (n k : ℕ) (f : ℕ → Bool) (x : ℕ) → Stands n (suc k) f x → Stands (suc n) k f x
further n k f x s = record { holds = s.holds; low = omega arith; high = omega arith }

pub from_at : (n k : ℕ) (f : ℕ → Bool) (i : ℕ) → i < length (from n k f) → Stands n k f (get_or (from n k f) i 0)
unfolding from
from_at zero k f i l = absurd (not-suc-le-zero l)
from_at (suc n) k f i l = go (f k) refl i l (from_at n (suc k) f)
  where
    go : (p : Bool) → f k ≡ p → (i : ℕ) → i < length (cond p (k ∷ from n (suc k) f) (from n (suc k) f))
        → ((j : ℕ) → j < length (from n (suc k) f) → Stands n (suc k) f (get_or (from n (suc k) f) j 0))
        → Stands (suc n) k f (get_or (cond p (k ∷ from n (suc k) f) (from n (suc k) f)) i 0)
    go true e zero l ih = record { holds = e; low = le_refl k; high = omega arith }
    go true e (suc i) l ih = further n k f (get_or (from n (suc k) f) i 0) (ih i (le_of_suc-le-suc l))
    go false e i l ih = further n k f (get_or (from n (suc k) f) i 0) (ih i l)

pub from_rises : (n k : ℕ) (f : ℕ → Bool) (i : ℕ) → suc i < length (from n k f) → get_or (from n k f) i 0 < get_or (from n k f) (suc i) 0
unfolding from
from_rises zero k f i l = absurd (not-suc-le-zero l)
from_rises (suc n) k f i l = go (f k) i l (from_rises n (suc k) f) (λ j h. (from_at n (suc k) f j h).low)
  where
    go : (p : Bool) (i : ℕ) → suc i < length (cond p (k ∷ from n (suc k) f) (from n (suc k) f))
        → ((j : ℕ) → suc j < length (from n (suc k) f) → get_or (from n (suc k) f) j 0 < get_or (from n (suc k) f) (suc j) 0)
        → ((j : ℕ) → j < length (from n (suc k) f) → suc k ≤ get_or (from n (suc k) f) j 0)
        → get_or (cond p (k ∷ from n (suc k) f) (from n (suc k) f)) i 0 < get_or (cond p (k ∷ from n (suc k) f) (from n (suc k) f)) (suc i) 0
    go true zero l ih low = low 0 (le_of_suc-le-suc l)
    go true (suc i) l ih low = ih i (le_of_suc-le-suc l)
    go false i l ih low = ih i l

pub from_first : (n k : ℕ) (f : ℕ → Bool) → f k ≡ true → get_or (from (suc n) k f) 0 0 ≡ k
unfolding from
from_first n k f h = rw h

-- ---- where a number stands

pub record Found (l : List ℕ) (x : ℕ) : Type 0 where
  pub at : ℕ
  pub inside : at < length l
  pub is : get_or l at 0 ≡ x

pub from_has : (n k : ℕ) (f : ℕ → Bool) (x : ℕ) → f x ≡ true → k ≤ x → x < k + n → Found (from n k f) x
unfolding from
from_has zero k f x h a b = absurd (omega arith)
from_has (suc n) k f x h a b = ⊎_elim
    (λ (l : k < x). go (f k) (from_has n (suc k) f x h l (omega arith)))
    (λ (g : x ≤ k). let e : k ≡ x = le_antisymm a g in rw (subst (λ (m : ℕ). f m ≡ true) (sym e) h) (record { at = 0; inside = suc-le-suc zero-le; is = e }))
    (lt_or_ge k x)
  where
    go : (p : Bool) → Found (from n (suc k) f) x → Found (cond p (k ∷ from n (suc k) f) (from n (suc k) f)) x
    go true w = record { at = suc w.at; inside = suc-le-suc w.inside; is = w.is }
    go false w = w

-- a list that ascends is settled by its members
pub from_settles : (n k : ℕ) (f g : ℕ → Bool) → from n k f ≡ from n k g → (x : ℕ) → k ≤ x → x < k + n → f x ≡ g x
from_settles n k f g e x a b = iff_same (f x) (g x) (one f g e) (one g f (sym e))
  where
    one : (f g : ℕ → Bool) → from n k f ≡ from n k g → f x ≡ true → g x ≡ true
    one f g e h =
        let w = from_has n k f x h a b in
        subst (λ (y : ℕ). g y ≡ true) (ap (λ (l : List ℕ). get_or l w.at 0) (sym e) ∙ w.is)
        (from_at n k g w.at (subst (λ (l : List ℕ). w.at < length l) e w.inside)).holds

-- ---- the list grows at its end

from_one : (k : ℕ) (f : ℕ → Bool) → f k ≡ true → from 1 k f ≡ k ∷ []
unfolding from
from_one k f h = rw h

-- behind p numbers looked at, the next is q, the d-th
pub from_next : (k p d q : ℕ) (f g : ℕ → Bool) → k + d ≡ q → p ≤ d
    → ((x : ℕ) → k ≤ x → x < k + p → g x ≡ f x) → ((x : ℕ) → k + p ≤ x → x < q → g x ≡ false) → g q ≡ true
    → from (suc d) k g ≡ from p k f ++ (q ∷ [])
from_next k p d q f g e l same none here =
    let m : ℕ = d - p in
    let tail : from (m + 1) (k + p) g ≡ q ∷ [] =
    from_split m 1 (k + p) g
    ∙ ap₂ ◌++◌ (from_none m (k + p) g (λ x a b. none x a (omega arith))) (ap (λ (x : ℕ). from 1 x g) (omega arith) ∙ from_one q g here) in
    ap (λ (n : ℕ). from n k g) (omega arith) ∙ from_split p (m + 1) k g ∙ ap₂ ◌++◌ (from_same p k g f same) tail

-- past n there is no number more
pub from_end : (m n k : ℕ) (f : ℕ → Bool) → n ≤ m → ((x : ℕ) → k + n ≤ x → x < k + m → f x ≡ false) → from m k f ≡ from n k f
from_end m n k f l none =
    ap (λ (x : ℕ). from x k f) (sym (add-sub_of_le l))
    ∙ from_split n (m - n) k f
    ∙ ap (λ (t : List ℕ). from n k f ++ t) (from_none (m - n) (k + n) f (λ x a b. none x a (omega arith)))
    ∙ append-nil (from n k f)

pub from_mono : (m n k : ℕ) (f : ℕ → Bool) → m ≤ n → length (from m k f) ≤ length (from n k f)
from_mono m n k f l =
    omega (arith, ap (λ (x : ℕ). length (from x k f)) (add-sub_of_le l), ap length (from_split m (n - m) k f), length-append (from m k f) (from (n - m) (k + m) f))

pub from_short : (n k : ℕ) (f : ℕ → Bool) → length (from n k f) ≤ n
unfolding from
from_short zero k f = zero-le
from_short (suc n) k f = go (f k) (from_short n (suc k) f)
  where
    go : (p : Bool) → length (from n (suc k) f) ≤ n → length (cond p (k ∷ from n (suc k) f) (from n (suc k) f)) ≤ suc n
    go true h = suc-le-suc h
    go false h = omega arith
