-- The climb from a role to role 0 by line managers. Assumes nothing.
use mathlib.Core.Path.{◌≡◌, refl, sym, ◌∙◌, ap, ap₂, subst}
use mathlib.Core.Logic.{dite}
use mathlib.Core.Bool.{not}
use mathlib.Core.List.{List, [], ◌∷◌}
use Prim.Native.Nat.{ℕ, zero, suc, ◌^◌, ◌≤◌, ◌<◌}
use native.Mathlib.Nat.{le_refl}
use native.Mathlib.Decide.{ℕ_discrete}
use native.Mathlib.Omega.{arith}
use lib.Count.{ones}
use lib.ListN.{length}
use Rattle.sets.specs.Sets.{bit, ◌is_in◌, same?}
use Rattle.sets.proofs.Bools.{and_both, not_so}
use Rattle.sets.proofs.Laws.{bit_lt, same_eq, set_of_fits, ones_less, but, bit_but}
use Rattle.hierarchy.specs.Tables.{Tables, Live}
use Rattle.hierarchy.specs.Words.{Reaches, LineManager, Sound, Climb, met, Each, Distinct}
use Rattle.hierarchy.specs.Words.{Climb.top, Climb.up}
use Rattle.hierarchy.proofs.Derive.{starts}
use Rattle.hierarchy.proofs.Admin.{sound_loopless, reaches_trans, admin_live, admin_reaches, manager_unique, manager_exists}

-- it meets one role more than it has steps
pub met_length : {t : Tables} {r n : ℕ} (c : Climb t r n) → length (met c) ≡ suc n
unfolding met
met_length top = refl
met_length (up h c) = ap suc (met_length c)

each_map : {P Q : ℕ → Type 0} → ((x : ℕ) → P x → Q x) → (l : List ℕ) → Each P l → Each Q l
each_map f [] h = tt
each_map f (x ∷ l) h = (f x h.0, each_map f l h.1)

module _ {t : Tables} (sound : Sound t) where
  -- ---- no role twice

  -- what a climb from the line manager of r meets reaches r
  met_above : {r m n : ℕ} → LineManager t m r → (c : Climb t m n) → Each (λ y. Reaches t y r) (met c)
  unfolding met
  met_above h top = (admin_reaches h.admin, tt)
  met_above {r} h (up g c) =
      let w = admin_reaches h.admin in
      (w, each_map (λ y v. reaches_trans v w) (met c) (met_above g c))

  -- The roles met are pairwise different.
  pub met_distinct : {r n : ℕ} (c : Climb t r n) → Distinct (met c)
  unfolding met
  met_distinct top = (tt, tt)
  met_distinct (up {r = r} h c) =
      (each_map (λ y w q. sound.loopless (r, subst (λ y. Reaches t y r) (sym q) w)) (met c) (met_above h c), met_distinct c)

  -- ---- a climb for each role

  -- s holds r and all that reaches r: a climb has fewer steps than s has members
  climb_in : (k s r : ℕ) → ones s ≤ k → s < 2 ^ 64 → r is_in s → ((x : ℕ) → Reaches t x r → x is_in s) → Live t r → (n : ℕ) × Climb t r n × (n < ones s)
  climb_in zero s r o h m f l = absurd (omega (arith, ones_less s (but s r) r (bit_lt 64 h m) m (bit_but s r h)))
  climb_in (suc k) s r o h m f l =
      let less = ones_less s (but s r) r (bit_lt 64 h m) m (bit_but s r h) in
      dite (ℕ_discrete r 0)
      (λ e. (0, subst (λ r. Climb t r 0) (sym e) top, omega arith))
      (λ n.
      let b = manager_exists (sound_loopless sound) sound.shaped r (sound.managed r l n).1 in
      let w = admin_reaches b.1.admin in
      let c = climb_in k (but s r) b.0 (omega arith) (set_of_fits _) (rest b.0 w) (λ x v. rest x (reaches_trans v w)) (admin_live b.1.admin) in
      (suc c.0, up b.1 c.1, omega arith))
    where
      rest : (x : ℕ) → Reaches t x r → x is_in but s r
      rest x w =
          bit_but s r h x
          ∙ and_both (bit s x) _ (f x w) (ap not (not_so (same? r x) (λ q. sound.loopless (r, subst (λ y. Reaches t y r) (same_eq r x q) w))))

  -- Each live role has a climb, with fewer steps than there are live roles.
  pub climbs : (r : ℕ) → Live t r → (n : ℕ) × Climb t r n × (n < ones t.live)
  climbs r l = climb_in (ones t.live) t.live r (le_refl _) sound.shaped.live_fits l (λ x w. starts sound.joined w.1) l

  -- ---- and only one

  root_reaches : {r m n : ℕ} → LineManager t m r → Climb t m n → Reaches t 0 r
  root_reaches h top = admin_reaches h.admin
  root_reaches h (up g c) = reaches_trans (root_reaches g c) (admin_reaches h.admin)

  -- Role 0 has no senior.
  pub no_senior : (x : ℕ) → Reaches t x 0 → ⊥
  no_senior x w = go (climbs x (starts sound.joined w.1)).1 w
    where
      go : {x n : ℕ} → Climb t x n → Reaches t x 0 → ⊥
      go top w = sound.loopless (0, w)
      go (up h c) w = sound.loopless (0, reaches_trans (root_reaches h c) w)

  -- A role has one number of steps at most.
  pub climb_unique : {r m n : ℕ} → Climb t r m → Climb t r n → m ≡ n
  climb_unique top top = refl
  climb_unique top (up h d) = absurd (no_senior _ (admin_reaches h.admin))
  climb_unique (up h c) top = absurd (no_senior _ (admin_reaches h.admin))
  climb_unique (up h c) (up {n = n} g d) =
      ap suc (climb_unique c (subst (λ m. Climb t m n) (manager_unique (sound_loopless sound) g h) d))

  -- Nor is there another way: two climbs meet the same roles.
  pub met_unique : {r s m n : ℕ} (c : Climb t r m) (d : Climb t s n) → r ≡ s → met c ≡ met d
  unfolding met
  met_unique top top e = refl
  met_unique top (up h d) e = absurd (no_senior _ (subst (Reaches t _) (sym e) (admin_reaches h.admin)))
  met_unique (up h c) top e = absurd (no_senior _ (subst (Reaches t _) e (admin_reaches h.admin)))
  met_unique (up h c) (up {m = k} g d) e = ap₂ ◌∷◌ e (met_unique c d (manager_unique (sound_loopless sound) h (subst (LineManager t k) (sym e) g)))

  climb_live : {r n : ℕ} → Climb t r n → Live t r
  climb_live top = sound.root
  climb_live (up h c) = h.admin.scope.derives.to

  -- A climb meets no more roles than there are live ones.
  pub climb_short : {r n : ℕ} → Climb t r n → suc n ≤ ones t.live
  climb_short {r} c = let d = climbs r (climb_live c) in subst (λ n. suc n ≤ ones t.live) (climb_unique d.1 c) d.2
