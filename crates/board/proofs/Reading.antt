-- What is read off the values that a board keeps. Assumes nothing.
use mathlib.Core.Path.{◌≡◌, refl, sym, ap, ap₂, ◌∙◌}
use mathlib.Core.Bool.{Bool, true, false, cond}
use mathlib.Core.Logic.{◌≢◌}
use mathlib.Core.List.{List}
use Prim.Native.Nat.{ℕ, zero, suc, ◌+◌, ◌<◌, ◌≤◌}
use native.Mathlib.Omega.{arith}
use lib.Dec.{ltb}
use lib.ListN.{length, get_or-eq_default}
use borrow.Author.Tests.{eq-eqb, ne_eqb, le-ltb, ltb-false}
use Rattle.std.specs.Prelude.{Some, None}
use Rattle.std.specs.Bool.{then_some}
use Rattle.hierarchy.specs.Views.{manager_at, steps_up}
use Rattle.board.specs.Kept.{manager_from}

-- ---- a manager as an answer

pub from_then : (m k : ℕ) → m ≡ k → then_some (ltb m 64) m ≡ manager_from k
unfolding manager_from
from_then m k e = go (ltb m 64) ∙ ap manager_from e
  where
    go : (p : Bool) → then_some p m ≡ cond p (Some m) None
    go true = refl
    go false = refl

pub from_none : (m k : ℕ) → m ≡ k → 64 ≤ m → None ≡ manager_from k
unfolding manager_from
from_none m k e g = sym (ap (λ (p : Bool). cond p (Some k) None) (le-ltb k 64 (omega arith)))

pub some_of : (k m : ℕ) → manager_from k ≡ Some m → m ≡ k
unfolding manager_from
some_of k m = go (ltb k 64)
  where
    go : (p : Bool) → cond p (Some k) None ≡ Some m → m ≡ k
    go true e = cc
    go false e = cc

pub none_of : (k : ℕ) → manager_from k ≡ None → 64 ≤ k
unfolding manager_from
none_of k = go (ltb k 64) refl
  where
    go : (p : Bool) → ltb k 64 ≡ p → cond p (Some k) None ≡ None → 64 ≤ k
    go true q e = let z : k ≡ 64 = cc in omega arith
    go false q e = ltb-false k 64 q

-- ---- going up from r: n steps are behind, x is met, and so many looks are left

pub record Climbing (manager : List ℕ) (r x n : ℕ) : Type 0 where
  pub left : ℕ
  pub sum : left + n ≡ 64
  pub same : steps_up manager left n x ≡ steps_up manager 64 0 r

pub climb_start : (manager : List ℕ) (r : ℕ) → Climbing manager r r 0
climb_start manager r = record { left = 64; sum = refl; same = refl }

-- nobody is met past the row, so who is not there stays nowhere
nowhere : (manager : List ℕ) (f k y : ℕ) → length manager ≡ 64 → 64 ≤ y → steps_up manager f k y ≡ 64
unfolding steps_up
nowhere manager zero k y w g = refl
nowhere manager (suc f) k y w g =
    ap (λ (p : Bool). cond p k (steps_up manager f (suc k) (manager_at manager y))) (ne_eqb y 0 (λ e. omega (arith, e)))
    ∙ ap (steps_up manager f (suc k)) (get_or-eq_default manager 64 {n = y} (omega arith))
    ∙ nowhere manager f (suc k) 64 w (omega arith)

module _ {manager : List ℕ} {r x n : ℕ} (inv : Climbing manager r x n) where
  -- before 64 steps a look is left, and where role 0 isn't met it goes on to the manager
  look : n < 64 → (f : ℕ) × (suc f + n ≡ 64) × (steps_up manager (suc f) n x ≡ steps_up manager 64 0 r)
  look l = go inv.left inv.sum inv.same
    where
      go : (f : ℕ) → f + n ≡ 64 → steps_up manager f n x ≡ steps_up manager 64 0 r → (f : ℕ) × (suc f + n ≡ 64) × (steps_up manager (suc f) n x ≡ steps_up manager 64 0 r)
      go zero s e = absurd (omega arith)
      go (suc f) s e = (f, s, e)

  onward : (f : ℕ) → x ≢ 0 → steps_up manager f (suc n) (manager_at manager x) ≡ steps_up manager (suc f) n x
  unfolding steps_up
  onward f z = sym (ap (λ (p : Bool). cond p n (steps_up manager f (suc n) (manager_at manager x))) (ne_eqb x 0 z))

  pub climb_arrived : n < 64 → x ≡ 0 → n ≡ steps_up manager 64 0 r
  unfolding steps_up
  climb_arrived l z = let k = look l in sym (ap (λ (p : Bool). cond p n (steps_up manager k.0 (suc n) (manager_at manager x))) (eq-eqb x 0 z)) ∙ k.2

  pub climb_turn : (m : ℕ) → n < 64 → x ≢ 0 → m ≡ manager_at manager x → Climbing manager r m (n + 1)
  climb_turn m l z q =
      let k = look l in
      let one : n + 1 ≡ suc n = omega arith in
      record { left = k.0; sum = omega (arith, k.1); same = ap₂ (steps_up manager k.0) one q ∙ onward k.0 z ∙ k.2 }

  pub climb_none : n < 64 → x ≢ 0 → length manager ≡ 64 → 64 ≤ manager_at manager x → 64 ≡ steps_up manager 64 0 r
  climb_none l z w g = let k = look l in sym (nowhere manager k.0 (suc n) (manager_at manager x) w g) ∙ onward k.0 z ∙ k.2

  pub climb_stopped : 64 ≤ n → 64 ≡ steps_up manager 64 0 r
  unfolding steps_up
  climb_stopped g = go inv.left inv.sum inv.same
    where
      go : (f : ℕ) → f + n ≡ 64 → steps_up manager f n x ≡ steps_up manager 64 0 r → 64 ≡ steps_up manager 64 0 r
      go zero s e = e
      go (suc f) s e = absurd (omega arith)
