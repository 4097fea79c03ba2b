-- Each word of document 01, and of request 3, is decided by its computed function. Assumes nothing.
use mathlib.Core.Path.{◌≡◌, refl, sym, ◌∙◌, ap, subst}
use mathlib.Core.Logic.Iff
use mathlib.Core.Logic.{◌⊎◌, inl, inr, ⊎_elim, ◌≢◌, ◌↔◌}
use mathlib.Core.Bool.{true, ◌&&◌}
use mathlib.Core.List.{List, [], ◌∷◌}
use Prim.Native.Nat.{ℕ, zero, suc, ◌^◌, ◌≤◌, ◌<◌}
use native.Mathlib.Omega.{arith}
use lib.Bits.{bit_or, or_lt, or_zero_l, or_zero_r}
use lib.Dec.{eqb, ltb, lit<}
use lib.ListN.{length, get_or-eq_default}
use lib.Pow.{pow-lt}
use Rattle.sets.specs.Sets.{bit, ◌is_in◌, set_of}
use Rattle.sets.proofs.Bools.{decided, lt_or_ge, false_no}
use Rattle.sets.proofs.Digits.{bit_of_or, bit_zero}
use Rattle.sets.proofs.Laws.{bit_lt, in_set_of}
use Rattle.hierarchy.specs.Tables.{Tables, row, Live, Shaped, kind}
use Rattle.hierarchy.specs.Words.{Way, Reaches, Derives, Chain, Related, Scope, Administrator, InTheWay, OutOfScope, LineManager, Joined, Loops, Managed, Sound}
use Rattle.hierarchy.specs.Words.{Way.edge, Way.then, Chain.stop, Chain.step, OutOfScope.not_derived, OutOfScope.in_the_way}
use Rattle.hierarchy.specs.Views.{LiveLoops}
use Rattle.hierarchy.specs.Compute.{all, any, close, derived, derives?, related?, scope?, unrelated?, in_the_way?, out_of_scope?, admin?, manager?, unite, reaches?, loops?, joined?, managed?, shaped?, sound?}
use Rattle.hierarchy.proofs.Checks.{all_is, any_is, and_is, or_is, if_is, unless_is, not_is, eq_is, lt_is, le_is, same_test}
use Rattle.hierarchy.proofs.Derive.{edge_entry, derives↔descends}
use Rattle.hierarchy.proofs.Closure.{Led, close_fits, close_is, close_one}

-- ---- both tables in one

row_unite : (s t : List ℕ) (x : ℕ) → row (unite s t) x ≡ bit_or (row s x) (row t x)
unfolding unite
row_unite [] t x = sym (or_zero_l (row t x))
row_unite (m ∷ s) [] x = sym (or_zero_r (row (m ∷ s) x))
row_unite (m ∷ s) (n ∷ t) zero = refl
row_unite (m ∷ s) (n ∷ t) (suc x) = row_unite s t x

abbrev both : Tables → List ℕ
both t = unite t.i t.a

edge_is : (t : Tables) (x y : ℕ) → (y is_in row (both t) x) ↔ (kind t x y ≢ 0)
edge_is t x y =
    let e = ap (λ s. bit s y) (row_unite t.i t.a x) ∙ bit_of_or (row t.i x) (row t.a x) y in
    same_test e (Iff.trans (or_is Iff.rfl Iff.rfl) (Iff.symm (edge_entry t x y)))

leads : {t : Tables} {x y k : ℕ} → Way t x y k → Led (both t) (row (both t) x) y
leads {t} {x} {y} (edge h) = record { start = y; member = (edge_is t x y).1 h; chain = stop }
leads {t} {x} (then {y = z} h w) = let l = leads w in record { start = z; member = (edge_is t x z).1 h; chain = step l.member l.chain }

led : (t : Tables) (x : ℕ) {y z : ℕ} → z is_in row (both t) x → Chain (both t) z y → Reaches t x y
led t x {z = z} h stop = (kind t x z, edge ((edge_is t x z).0 h))
led t x {z = z} h (step g c) = let w = led t z g c in (_, then ((edge_is t x z).0 h) w.1)

-- ---- why a role is outside a scope, by its cases

abbrev pub Out : Type 0 → (ℕ → Type 0) → ℕ → ℕ → Type 0
Out D W cause way = ((cause ≡ 1) × ((way ≡ 0) × (D → ⊥))) ⊎ ((cause ≡ 2) × (D × W way))

pub out_cases : {t : Tables} {a r cause way : ℕ} → OutOfScope t a r cause way → Out (Derives t a r) (InTheWay t a r) cause way
out_cases (not_derived n) = inl (refl, (refl, n))
out_cases (in_the_way d w) = inr (refl, (d, w))

out_of : {t : Tables} {a r cause way : ℕ} → Out (Derives t a r) (InTheWay t a r) cause way → OutOfScope t a r cause way
out_of {t} {a} {r} {way = way} (inl p) = subst (λ c. OutOfScope t a r c way) (sym p.0) (subst (OutOfScope t a r 1) (sym p.1.0) (not_derived p.1.1))
out_of {t} {a} {r} {way = way} (inr p) = subst (λ c. OutOfScope t a r c way) (sym p.0) (in_the_way p.1.0 p.1.1)

-- ---- on tables in their shape

row_lt : (rows : List ℕ) → length rows ≡ 64 → (x y : ℕ) → y is_in row rows x → x < 64
row_lt rows e x y m = ⊎_elim (λ l. l)
    (λ (g : 64 ≤ x). absurd (false_no (ap (λ s. bit s y) (get_or-eq_default rows 0 (omega arith)) ∙ bit_zero y) m)) (lt_or_ge x 64)

module _ {t : Tables} (shaped : Shaped t) where
  live_lt : {x : ℕ} → Live t x → x < 64
  live_lt = bit_lt 64 shaped.live_fits

  derived_is : (x y : ℕ) → Live t x → Live t y → (y is_in derived t x) ↔ Derives t x y
  unfolding derived
  derived_is x y l m =
      let a = close_one t.a shaped.a_fits x (live_lt l) in
      Iff.trans (close_is t.i shaped.i_fits (close t.a 64 (2 ^ x)) (close_fits t.a shaped.a_fits (2 ^ x) (pow-lt (live_lt l))) y) (Iff.trans (
        λ v. record { from = l; to = m; mid = v.start; down_a = (a v.start).0 v.member; down_i = v.chain },
        λ d. record { start = d.mid; member = (a d.mid).1 d.down_a; chain = d.down_i },
      ) (Iff.symm derives↔descends))

  -- x derives y exactly when `derives?` says so, and so on for each word.
  pub derives_is : (x y : ℕ) → (derives? t x y ≡ true) ↔ Derives t x y
  unfolding derives?
  derives_is x y = Iff.trans (and_is Iff.rfl (λ l. and_is Iff.rfl (λ m. derived_is x y l m))) (λ h. h.1.1, λ d. (d.from, (d.to, d)))

  related_is : (a x : ℕ) → (related? t a x ≡ true) ↔ Related t a x
  related_is a x = or_is (derives_is x a) (derives_is a x)

  pub scope_is : (a r : ℕ) → (scope? t a r ≡ true) ↔ Scope t a r
  unfolding scope?
  scope_is a r = Iff.trans (and_is (derives_is a r) (λ _. all_is 64 (λ x. if_is (derives_is x r) (related_is a x)))) (
    λ h. record { derives = h.0; rivals = λ x d. h.1 x (live_lt d.from) d },
    λ s. (s.derives, λ x _. s.rivals x),
  )

  unrelated_is : (a r x : ℕ) → (unrelated? t a r x ≡ true) ↔ (Derives t x r × (Related t a x → ⊥))
  unrelated_is a r x = and_is (derives_is x r) (λ _. not_is (related_is a x))

  pub in_the_way_is : (a r x : ℕ) → (in_the_way? t a r x ≡ true) ↔ InTheWay t a r x
  unfolding in_the_way?
  in_the_way_is a r x = Iff.trans (and_is (unrelated_is a r x) (λ _. all_is 64 (λ y. if_is (unrelated_is a r y) (le_is x y)))) (
    λ h. record { derives = h.0.0; unrelated = h.0.1; lowest = λ y d n. h.1 y (live_lt d.from) (d, n) },
    λ w. ((w.derives, w.unrelated), λ y _ p. w.lowest y p.0 p.1),
  )

  pub out_of_scope_is : (a r cause way : ℕ) → (out_of_scope? t a r cause way ≡ true) ↔ OutOfScope t a r cause way
  unfolding out_of_scope?
  out_of_scope_is a r cause way = Iff.trans (or_is
      (and_is (eq_is cause 1) (λ _. and_is (eq_is way 0) (λ _. not_is (derives_is a r))))
      (and_is (eq_is cause 2) (λ _. and_is (derives_is a r) (λ _. in_the_way_is a r way))))
      (out_of, out_cases)

  pub admin_is : (a r : ℕ) → (admin? t a r ≡ true) ↔ Administrator t a r
  unfolding admin?
  admin_is a r = Iff.trans (and_is (scope_is a r) (λ _. not_is (eq_is a r))) (λ h. record { scope = h.0; strict = h.1 }, λ d. (d.scope, d.strict))

  pub manager_is : (m r : ℕ) → (manager? t m r ≡ true) ↔ LineManager t m r
  unfolding manager?
  manager_is m r = Iff.trans (and_is (admin_is m r) (λ _. all_is 64 (λ a. if_is (admin_is a r) (unless_is (eq_is a m) (derives_is a m))))) (
    λ h. record { admin = h.0; lowest = λ a k. h.1 a (live_lt k.scope.derives.from) k },
    λ l. (l.admin, λ a _. l.lowest a),
  )

  -- The computed set is the scope of a.
  pub scope_set : (a s : ℕ) → set_of (scope? t a) ≡ s → (r : ℕ) → Scope t a r ↔ (r is_in s)
  scope_set a s e r =
      let q = ap (λ n. bit n r) (sym e) ∙ in_set_of (scope? t a) r (λ h. live_lt ((scope_is a r).0 h).derives.to) in
      (λ h. q ∙ (scope_is a r).1 h, λ m. (scope_is a r).0 (sym q ∙ m))

  -- ---- the demands on a sound board

  united_fits : (x : ℕ) → row (both t) x < 2 ^ 64
  united_fits x = subst (λ n. n < 2 ^ 64) (sym (row_unite t.i t.a x)) (or_lt 64 (row t.i x) (row t.a x) (shaped.i_fits x) (shaped.a_fits x))

  pub reaches_is : (x y : ℕ) → (reaches? t x y ≡ true) ↔ Reaches t x y
  unfolding reaches?
  reaches_is x y = Iff.trans (close_is (both t) united_fits (row (both t) x) (united_fits x) y) (λ l. led t x l.member l.chain, λ w. leads w.1)

  -- entries are between roles
  pub edge_lt : (x y : ℕ) → kind t x y ≢ 0 → (x < 64) × (y < 64)
  edge_lt x y h = ⊎_elim
      (λ e. (row_lt t.i shaped.i_rows x y e, bit_lt 64 (shaped.i_fits x) e))
      (λ e. (row_lt t.a shaped.a_rows x y e, bit_lt 64 (shaped.a_fits x) e))
      ((edge_entry t x y).0 h)

  way_lt : {x y k : ℕ} → Way t x y k → x < 64
  way_lt (edge h) = (edge_lt _ _ h).0
  way_lt (then h w) = (edge_lt _ _ h).0

  pub loops_is : (loops? t ≡ true) ↔ Loops t
  unfolding loops?
  loops_is = any_is 64 (λ x. reaches_is x x) (λ x w. way_lt w.1)

  pub joined_is : (joined? t ≡ true) ↔ Joined t
  unfolding joined?
  joined_is = Iff.trans (all_is 64 (λ x. all_is 64 (λ y. unless_is (eq_is (kind t x y) 0) (and_is Iff.rfl (λ _. Iff.rfl))))) (
    λ h x y e. let l = edge_lt x y e in h x l.0 y l.1 e,
    λ h x _ y _. h x y,
  )

  pub managed_is : (managed? t ≡ true) ↔ Managed t
  unfolding managed?
  managed_is = Iff.trans (all_is 64 (λ r. if_is Iff.rfl (unless_is (eq_is r 0) (any_is 64 (λ a. admin_is a r) (λ a k. live_lt k.scope.derives.from))))) (
    λ h r l. h r (live_lt l) l,
    λ h r _. h r,
  )

  -- ---- so each is decided

  pub derives_dec : (x y : ℕ) → Dec (Derives t x y)
  derives_dec x y = decided (derives? t x y) (derives_is x y)

  pub related_dec : (a x : ℕ) → Dec (Related t a x)
  related_dec a x = decided (related? t a x) (related_is a x)

  pub scope_dec : (a r : ℕ) → Dec (Scope t a r)
  scope_dec a r = decided (scope? t a r) (scope_is a r)

  pub admin_dec : (a r : ℕ) → Dec (Administrator t a r)
  admin_dec a r = decided (admin? t a r) (admin_is a r)

  pub loops_dec : Dec (Loops t)
  loops_dec = decided (loops? t) loops_is

  pub live_loops_dec : Dec (LiveLoops t)
  live_loops_dec = decided (any 64 (λ x. bit t.live x && reaches? t x x)) (any_is 64 (λ x. and_is Iff.rfl (λ _. reaches_is x x)) (λ x w. way_lt w.1.1))

  pub joined_dec : Dec (Joined t)
  joined_dec = decided (joined? t) joined_is

  pub managed_dec : Dec (Managed t)
  managed_dec = decided (managed? t) managed_is

-- ---- on all tables

rows_is : (rows : List ℕ) → ((eqb (length rows) 64 && all 64 (λ x. ltb (row rows x) (2 ^ 64))) ≡ true) ↔ ((length rows ≡ 64) × ((x : ℕ) → row rows x < 2 ^ 64))
rows_is rows = and_is (eq_is (length rows) 64) (λ e. Iff.trans (all_is 64 (λ x. lt_is (row rows x) (2 ^ 64))) (
  λ h x. ⊎_elim (h x) (λ g. subst (λ n. n < 2 ^ 64) (sym (get_or-eq_default rows 0 (omega arith))) (lit< tt)) (lt_or_ge x 64),
  λ h x _. h x,
))

-- The shape is what `shaped?` says,
pub shaped_is : (t : Tables) → (shaped? t ≡ true) ↔ Shaped t
unfolding shaped?
shaped_is t = Iff.trans (and_is (lt_is t.live (2 ^ 64)) (λ _. and_is (rows_is t.i) (λ _. rows_is t.a))) (
  λ h. record { live_fits = h.0; i_rows = h.1.0.0; a_rows = h.1.1.0; i_fits = h.1.0.1; a_fits = h.1.1.1 },
  λ s. (s.live_fits, ((s.i_rows, s.i_fits), (s.a_rows, s.a_fits))),
)

-- and tables are sound exactly when `sound?` says so.
pub sound_is : (t : Tables) → (sound? t ≡ true) ↔ Sound t
unfolding sound?
sound_is t = Iff.trans (and_is (shaped_is t) (λ s. and_is (joined_is s) (λ _. and_is (not_is (loops_is s)) (λ _. and_is Iff.rfl (λ _. managed_is s))))) (
  λ (h : Shaped t × (Joined t × ((Loops t → ⊥) × (Live t 0 × Managed t)))).
      record { shaped = h.0; joined = h.1.0; loopless = h.1.1.0; root = h.1.1.1.0; managed = h.1.1.1.1 },
  λ s. (s.shaped, (s.joined, (s.loopless, (s.root, s.managed)))),
)

-- Whether tables are sound is decided, for all tables.
pub sound_dec : (t : Tables) → Dec (Sound t)
sound_dec t = decided (sound? t) (sound_is t)
