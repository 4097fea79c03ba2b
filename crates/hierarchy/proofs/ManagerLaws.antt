-- The line managers that a board keeps: they are settled, and a role's steps can be read off them. Assumes nothing.
use mathlib.Core.Path.{◌≡◌, sym, ◌∙◌, ap, subst}
use mathlib.Core.Bool.{Bool, cond}
use mathlib.Core.Logic.{inl, inr, ◌≢◌, dite}
use mathlib.Core.List.{List}
use Prim.Native.Nat.{ℕ, zero, suc, ◌+◌, ◌<◌}
use native.Mathlib.Nat.{le_trans}
use native.Mathlib.Decide.{ℕ_discrete}
use native.Mathlib.Omega.{arith}
use lib.Count.{ones-le}
use lib.Seq.{ext_get_or}
use borrow.Author.Tests.{ne_eqb}
use Rattle.hierarchy.specs.Tables.{Tables}
use Rattle.hierarchy.specs.Words.{Reaches, LineManager, Sound, Climb, Climb.top, Climb.up}
use Rattle.hierarchy.specs.Views.{LiveLoops, ManagerIs, manager_at, AreManagers, RightValues, WorkedOut, steps_up}
use Rattle.hierarchy.proofs.Admin.{sound_loopless, admin_reaches, manager_unique}
use Rattle.hierarchy.proofs.ClimbLaws.{no_senior, climb_short}
use Rattle.hierarchy.proofs.FirstLaws.{first_unique, passed}
use Rattle.hierarchy.proofs.Order.{order_no_loop}
use Rattle.hierarchy.proofs.ViewLaws.{views_unique}

-- ---- what a board keeps is settled

module _ {t : Tables} (loopless : LiveLoops t → ⊥) where
  -- A role has one entry,
  manager_is_unique : {r : ℕ} (m n : ℕ) → ManagerIs t r m → ManagerIs t r n → m ≡ n
  manager_is_unique m n (inl h) (inl g) = manager_unique loopless h g
  manager_is_unique m n (inl h) (inr g) = absurd (g.0 m h)
  manager_is_unique m n (inr h) (inl g) = absurd (h.0 n g)
  manager_is_unique m n (inr h) (inr g) = h.1 ∙ sym g.1

  -- so that tables have one row of line managers,
  pub managers_unique : {m m' : List ℕ} → AreManagers t m → AreManagers t m' → m ≡ m'
  managers_unique {m} {m'} v w = ext_get_or 64 m m' (v.manager_rows ∙ sym w.manager_rows)
      (λ r _. manager_is_unique (manager_at m r) (manager_at m' r) (v.manager_is r) (w.manager_is r))

  -- and one of each of the three values.
  pub values_unique : {d u m d' u' m' : List ℕ} → RightValues t d u m → RightValues t d' u' m' → (d ≡ d') × ((u ≡ u') × (m ≡ m'))
  values_unique v w = let e = views_unique v.views w.views in (e.0, (e.1, managers_unique v.managers w.managers))

-- Two outcomes of working out coincide.
pub worked_out_unique : {t : Tables} {n n' : ℕ} {d u m d' u' m' : List ℕ}
    → WorkedOut t n d u m → WorkedOut t n' d' u' m' → (n ≡ n') × ((d ≡ d') × ((u ≡ u') × (m ≡ m')))
worked_out_unique {t} {n = n} {n' = n'} {d} {u} {m} {d'} {u'} {m'} v w = (same, dite (ℕ_discrete n 7) seven other)
  where
    same : n ≡ n'
    same = first_unique _ n n' v.numbered w.numbered

    seven : n ≡ 7 → (d ≡ d') × ((u ≡ u') × (m ≡ m'))
    seven q =
        let p = v.disordered q in
        let o = w.disordered (sym same ∙ q) in
        (p.0 ∙ sym o.0, (p.1.0 ∙ sym o.1.0, p.1.1 ∙ sym o.1.1))

    other : n ≢ 7 → (d ≡ d') × ((u ≡ u') × (m ≡ m'))
    other q = values_unique (λ l. passed 7 _ _ n q v.numbered (λ o. order_no_loop o l)) (v.right q) (w.right (λ e. q (same ∙ e)))

-- ---- reading them off sound tables

module _ {t : Tables} (sound : Sound t) {manager : List ℕ} (are : AreManagers t manager) where
  -- a role with a line manager has it as its entry
  pub manager_at_lem : {m r : ℕ} → LineManager t m r → manager_at manager r ≡ m
  manager_at_lem {m} {r} l = manager_is_unique (sound_loopless sound) (manager_at manager r) m (are.manager_is r) (inl l)

  steps_from : (f k : ℕ) {r n : ℕ} → Climb t r n → n < f → steps_up manager f k r ≡ k + n
  unfolding steps_up
  steps_from zero k c l = absurd (omega arith)
  steps_from (suc f) k top l = omega arith
  steps_from (suc f) k (up {r = r} {m = m} {n = n} h c) l =
      ap (λ (p : Bool). cond p k (steps_up manager f (suc k) (manager_at manager r))) (ne_eqb r 0 (λ e. no_senior sound m (subst (Reaches t m) e (admin_reaches h.admin))))
      ∙ ap (steps_up manager f (suc k)) (manager_at_lem h)
      ∙ steps_from f (suc k) c (omega arith)
      ∙ omega arith

  -- Going up by the entries takes as many steps as the climb has.
  pub steps_up_lem : {r n : ℕ} → Climb t r n → steps_up manager 64 0 r ≡ n
  steps_up_lem {n = n} c = steps_from 64 0 c (le_trans (climb_short sound c) (ones-le 64 t.live sound.shaped.live_fits)) ∙ omega arith
