-- What holds of sound tables. Assumes nothing.
use mathlib.Core.Path.{◌≡◌, refl}
use mathlib.Core.Logic.{◌≢◌}
use Prim.Native.Nat.{ℕ, ◌+◌, ◌≤◌}
use native.Mathlib.Omega.{arith}
use lib.Count.{ones}
use Rattle.hierarchy.specs.Tables.{Tables, Live}
use Rattle.hierarchy.specs.Words.{Reaches, LineManager, Sound, Climb, met, Distinct}
use Rattle.hierarchy.proofs.Admin
use Rattle.hierarchy.proofs.ClimbLaws

module _ {t : Tables} (sound : Sound t) where
  -- Each live role but 0 has exactly one line manager.
  pub one_manager : (r : ℕ) → Live t r → r ≢ 0 → (m : ℕ) × LineManager t m r × ((n : ℕ) → LineManager t n r → n ≡ m)
  one_manager r l n =
      let m = Admin.manager_exists (Admin.sound_loopless sound) sound.shaped r (sound.managed r l n).1 in
      (m.0, m.1, λ k g. Admin.manager_unique (Admin.sound_loopless sound) g m.1)

  -- Role 0 has no senior,
  pub no_senior : (x : ℕ) → Reaches t x 0 → ⊥
  no_senior = ClimbLaws.no_senior sound

  -- and so no line manager.
  pub no_manager : (m : ℕ) → LineManager t m 0 → ⊥
  no_manager m l = no_senior m (Admin.admin_reaches l.admin)

  -- From each live role the line managers lead up to role 0, in one number of steps.
  pub one_climb : (r : ℕ) → Live t r → (n : ℕ) × Climb t r n × ((m : ℕ) → Climb t r m → m ≡ n)
  one_climb r l = let c = ClimbLaws.climbs sound r l in (c.0, c.1, λ m d. ClimbLaws.climb_unique sound d c.1)

  -- and by the same roles, whichever way is taken.
  pub one_way : {r m n : ℕ} (c : Climb t r m) (d : Climb t r n) → met c ≡ met d
  one_way c d = ClimbLaws.met_unique sound c d refl

  -- The roles met on the way are pairwise different,
  pub climb_distinct : {r n : ℕ} (c : Climb t r n) → Distinct (met c)
  climb_distinct = ClimbLaws.met_distinct sound

  -- and with the first they are no more than there are live roles.
  pub climb_short : {r n : ℕ} → Climb t r n → n + 1 ≤ ones t.live
  climb_short c = omega (arith, ClimbLaws.climb_short sound c)
