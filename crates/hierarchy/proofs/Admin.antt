-- Administrators and line managers. Assumes nothing.
use mathlib.Core.Path.{◌≡◌, refl, sym, subst}
use mathlib.Core.Logic.{◌⊎◌, inl, inr, ⊎_elim, ⊎_map, ◌≢◌, dite}
use Prim.Native.Nat.{ℕ, zero, suc, ◌<◌}
use native.Mathlib.Nat.{not-suc-le-zero}
use native.Mathlib.Decide.{ℕ_discrete}
use native.Mathlib.Omega.{arith}
use Rattle.sets.proofs.Laws.{bit_lt}
use Rattle.hierarchy.specs.Tables.{Tables, Live, Shaped, join}
use Rattle.hierarchy.specs.Words.{Way, Reaches, Derives, Administrator, LineManager, Sound}
use Rattle.hierarchy.specs.Words.{Way.edge, Way.then}
use Rattle.hierarchy.specs.Views.{LiveLoops}
use Rattle.hierarchy.proofs.Joins.{join_assoc}
use Rattle.hierarchy.proofs.Decide.{admin_dec}

-- ---- on all tables

-- two paths put together join to what their kinds join to
pub way_trans : {t : Tables} {x y z j k : ℕ} → Way t x y j → Way t y z k → Way t x z (join j k)
way_trans (edge h) v = then h v
way_trans {t} {x} {z = z} (then {k = i} h w) v = subst (Way t x z) (sym (join_assoc _ i _)) (then h (way_trans w v))

pub reaches_trans : {t : Tables} {x y z : ℕ} → Reaches t x y → Reaches t y z → Reaches t x z
reaches_trans p q = (join p.0 q.0, way_trans p.1 q.1)

pub derives_refl : {t : Tables} {x : ℕ} → Live t x → Derives t x x
derives_refl l = record { from = l; to = l; by = inl refl }

same_or_reaches : {t : Tables} {x y : ℕ} → Derives t x y → (x ≡ y) ⊎ Reaches t x y
same_or_reaches d = ⊎_map (λ e. e) (λ w. (w.0, w.1)) d.by

pub derives_reaches : {t : Tables} {x y : ℕ} → Derives t x y → x ≢ y → Reaches t x y
derives_reaches d n = ⊎_elim (λ e. absurd (n e)) (λ r. r) (same_or_reaches d)

pub admin_live : {t : Tables} {a r : ℕ} → Administrator t a r → Live t a
admin_live h = h.scope.derives.from

pub admin_reaches : {t : Tables} {a r : ℕ} → Administrator t a r → Reaches t a r
admin_reaches h = derives_reaches h.scope.derives h.strict

-- Of two administrators of a role, one derives the other.
pub admins_related : {t : Tables} {a c r : ℕ} → Administrator t a r → Administrator t c r → Derives t a c ⊎ Derives t c a
admins_related h g = g.scope.rivals _ h.scope.derives

-- ---- on tables without loops of live roles

-- as sound ones are
pub sound_loopless : {t : Tables} → Sound t → LiveLoops t → ⊥
sound_loopless sound l = sound.loopless (l.0, l.1.1)

module _ {t : Tables} (loopless : LiveLoops t → ⊥) where
  pub no_return : {x y : ℕ} → Reaches t x y → Derives t y x → ⊥
  no_return {x} r d = ⊎_elim (λ e. loopless (x, (d.to, subst (Reaches t x) e r))) (λ w. loopless (x, (d.to, reaches_trans r w))) (same_or_reaches d)

  -- Two roles that derive each other are the same.
  pub antisym : {x y : ℕ} → Derives t x y → Derives t y x → x ≡ y
  antisym d e = ⊎_elim (λ q. q) (λ w. absurd (no_return w e)) (same_or_reaches d)

  -- Deriving is transitive where the two ends are related.
  pub trans : {x y z : ℕ} → Derives t x y → Derives t y z → Derives t x z ⊎ Derives t z x → Derives t x z
  trans d e (inl f) = f
  trans {x} {z = z} d e (inr f) = ⊎_elim
      (λ q. subst (λ w. Derives t w z) (sym q) e)
      (λ v. ⊎_elim (λ q. subst (Derives t x) q d) (λ w. absurd (no_return (reaches_trans v w) f)) (same_or_reaches e))
      (same_or_reaches d)

  -- So it is transitive among the administrators of a role.
  pub admins_trans : {a c e r : ℕ} → Administrator t a r → Administrator t c r → Administrator t e r
      → Derives t a c → Derives t c e → Derives t a e
  admins_trans h g k d e = trans d e (admins_related h k)

  -- A role has one line manager at most.
  pub manager_unique : {m n r : ℕ} → LineManager t m r → LineManager t n r → m ≡ n
  manager_unique {m} {n} p q =
      dite (ℕ_discrete m n) (λ e. e) (λ d. antisym (q.lowest m p.admin d) (p.lowest n q.admin (λ e. d (sym e))))

  module _ (shaped : Shaped t) (r : ℕ) where
    -- m is the lowest of the administrators with a number below n
    record Lowest (n : ℕ) : Type 0 where
      m : ℕ
      admin : Administrator t m r
      lowest : (a : ℕ) → a < n → Administrator t a r → Derives t a m

    widen : (n : ℕ) → Lowest n → Lowest (suc n)
    widen n s = dite (admin_dec shaped n r)
        (λ k. ⊎_elim
        (λ d. record { m = s.m; admin = s.admin; lowest = upto s.lowest (λ _. d) })
        (λ d. record { m = n; admin = k; lowest = upto (λ a l h. admins_trans h s.admin k (s.lowest a l h) d) (λ _. derives_refl (admin_live k)) })
        (admins_related k s.admin))
        (λ d. record { m = s.m; admin = s.admin; lowest = upto s.lowest (λ k. absurd (d k)) })
      where
        upto : {P : ℕ → Type 0} → ((a : ℕ) → a < n → P a) → P n → (a : ℕ) → a < suc n → P a
        upto {P} f p a l = dite (ℕ_discrete a n) (λ e. subst P (sym e) p) (λ d. f a (omega arith))

    lowest_below : {a : ℕ} → Administrator t a r → (n : ℕ) → Lowest n
    lowest_below {a} h zero = record { m = a; admin = h; lowest = λ c l _. absurd (not-suc-le-zero l) }
    lowest_below h (suc n) = widen n (lowest_below h n)

    -- A role that has an administrator has a line manager.
    pub manager_exists : {a : ℕ} → Administrator t a r → (m : ℕ) × LineManager t m r
    manager_exists h =
        let s = lowest_below h 64 in
        (s.m, record { admin = s.admin; lowest = λ a k _. s.lowest a (bit_lt 64 shaped.live_fits (admin_live k)) k })
