-- Scopes and line managers off the views: what each function's turn or return shows. Assumes nothing.
use mathlib.Core.Path.{◌≡◌, refl, sym, ap, ◌∙◌, subst}
use mathlib.Core.Bool.{true, false, not, ◌&&◌, ◌||◌, false≢true}
use mathlib.Core.Logic.Iff
use mathlib.Core.Logic.{◌⊎◌, inl, inr, ⊎_elim, ⊎_map, ◌↔◌, ◌≢◌, dite}
use mathlib.Core.List.{List}
use Prim.Native.Nat.{ℕ, ◌<◌, ◌≤◌, suc-le-suc}
use native.Mathlib.Nat.{le_trans}
use native.Mathlib.Decide.{ℕ_discrete}
use native.Mathlib.Omega.{arith}
use lib.Count.{ones}
use lib.ListN.{get_or, length, length-set, set, replicate, get_or-eq_default}
use Rattle.sets.specs.Sets.{bit, ◌is_in◌, ◌are_in◌, same?, LowestRole, NoRole}
use Rattle.sets.proofs.Bools.{lt_or_ge, and_left, false_no}
use Rattle.sets.proofs.Digits.{bit_zero}
use Rattle.sets.proofs.Laws.{same_eq, same_self, ones_mono}
use Rattle.sets.proofs.Members.{drawn_part, drawn_less, Taken, taken_part, taken_kept}
use Rattle.hierarchy.specs.Tables.{Tables, row}
use Rattle.hierarchy.specs.Words.{Reaches, Derives, Administrator, Managed}
use Rattle.hierarchy.specs.Views.{AreViews, RelatedBy, InTheWayBy, manager_at, AreManagers}
use Rattle.hierarchy.specs.Engine.{Above, AdminsOf, NearestIs, Orderly, Managers}
use Rattle.hierarchy.proofs.Admin.{reaches_trans, derives_refl, derives_reaches, admin_live, admins_related, no_return}
use Rattle.hierarchy.proofs.Rows.{entry_of, entry_set, one_entry}

-- a no that is right
pub no_iff : {P : Type 0} → (P → ⊥) → (false ≡ true) ↔ P
no_iff n = (λ e. absurd (false≢true e), λ p. absurd (n p))

-- a row past the table has no member
pub past_row : (t : List ℕ) (x y : ℕ) → length t ≡ 64 → 64 ≤ x → y is_in row t x → ⊥
past_row t x y l g e = false_no (ap (λ (n : ℕ). bit n y) (get_or-eq_default t 0 (subst (λ (n : ℕ). n ≤ x) (sym l) g)) ∙ bit_zero y) e

-- what bars r: the lowest that is left of whatever derives r
module _ {down up : List ℕ} {a r : ℕ} (near rest : ℕ) (near-is : (x : ℕ) → bit near x ≡ (bit (row up a) x || bit (row down a) x))
    (rest_is : (x : ℕ) → bit rest x ≡ (bit (row up r) x && not (bit near x))) where
  pub bar_way : {x : ℕ} → LowestRole rest x → InTheWayBy down up a r x
  bar_way {x} l = let w = (left x).0 l.member in record { derives = w.0; unrelated = w.1; lowest = λ y m n. l.least y ((left y).1 (m, n)) }
    where
      left : (y : ℕ) → (y is_in rest) ↔ ((y is_in row up r) × (RelatedBy down up a y → ⊥))
      left y = (λ e. (grind (arith, e, rest_is y), λ d. grind (arith, d, e, rest_is y, near-is y)), λ p. grind (arith, p.0, p.1, rest_is y, near-is y))

-- r goes from s
gone : (s r s' : ℕ) → r < 64 → ((a : ℕ) → bit s' a ≡ (bit s a && not (same? r a))) → (a : ℕ) → a is_in s' → a ≢ r
gone s r s' l h a m q = grind (arith, m, q, h a, same_self r l)

stays : (s r s' : ℕ) → ((a : ℕ) → bit s' a ≡ (bit s a && not (same? r a))) → (a : ℕ) → a is_in s → a ≢ r → a is_in s'
stays s r s' h a m n = grind (arith, m, n, h a, same_eq r a)

-- ---- administrators

module _ (down up : List ℕ) where
  -- of the first set those are left that are above or below all of s that are not in rest
  pub record Narrowed (s first found rest : ℕ) : Type 0 where
    pub part : rest are_in s
    pub only : (a : ℕ) → a is_in found → (a is_in first) × ((x : ℕ) → x is_in s → (x is_in rest) ⊎ RelatedBy down up x a)
    pub every : (a : ℕ) → a is_in first → ((x : ℕ) → x is_in s → RelatedBy down up x a) → a is_in found

  pub narrow_turn : {s first found rest x rest' : ℕ} (near found' : ℕ) → Taken rest x rest' → Narrowed s first found rest
      → ((a : ℕ) → bit near a ≡ (bit (row up x) a || bit (row down x) a))
      → ((a : ℕ) → bit found' a ≡ (bit found a && bit near a)) → Narrowed s first found' rest'
  narrow_turn {found = found} {x = x} near found' turn inv near-is found-is = record {
    part = λ y e. inv.part y (taken_part turn y e);
    only = λ a e.
        let o = inv.only a (grind (arith, e, found-is a)) in
        (o.0, λ y m. grind (arith, e, o.1 y m, taken_kept turn y, near-is a, found-is a));
    every = λ a e f. grind (arith, inv.every a e f, f x (inv.part x turn.lowest.member), near-is a, found-is a);
  }

  pub narrow_end : {r first found rest : ℕ} → r < 64 → ((a : ℕ) → bit first a ≡ (bit (row up r) a && not (same? r a)))
      → NoRole rest → Narrowed (row up r) first found rest → (a : ℕ) → (a is_in found) ↔ Above down up a r
  narrow_end {r} {first} l first-is empty inv a = (
    λ e. let o = inv.only a e in record {
      derives = grind (arith, o.0, first-is a);
      strict = gone (row up r) r first l first-is a o.0;
      rivals = λ x m. grind (arith, o.1 x m, empty.none x);
    },
    λ h. inv.every a (stays (row up r) r first first-is a h.derives h.strict) h.rivals,
  )

-- off the views these are the administrators
pub above_by : {t : Tables} {down up : List ℕ} → AreViews t down up → (a r : ℕ) → Above down up a r ↔ Administrator t a r
above_by views a r = (
  λ h. record {
    scope = record {
      derives = (views.up_is a r).0 h.derives;
      rivals = λ x d. grind (arith, h.rivals x ((views.up_is x r).1 d), (views.up_is a x).0, (views.down_is x a).0);
    };
    strict = h.strict;
  },
  λ h. record {
    derives = (views.up_is a r).1 h.scope.derives;
    strict = h.strict;
    rivals = λ x m. grind (arith, h.scope.rivals x ((views.up_is x r).0 m), (views.down_is x a).1, (views.up_is a x).1);
  },
)

-- ---- the nearest

-- m derives all that are left, and what is not left reaches m
pub record Nearer (t : Tables) (s m left : ℕ) : Type 0 where
  pub member : m is_in s
  pub below : (a : ℕ) → a is_in left → Derives t m a × (a ≢ m)
  pub above : (a : ℕ) → a is_in s → (a is_in left) ⊎ ((a ≡ m) ⊎ Reaches t a m)

pub record Nearing (down : List ℕ) (s found left : ℕ) : Type 0 where
  pub part : left are_in s
  pub so_far : (t : Tables) (r : ℕ) → AdminsOf t down s r → ((found ≡ 64) × (s are_in left)) ⊎ Nearer t s found left

-- from what is left it goes to m: of the others those stay that m derives
module _ {down : List ℕ} {s found left m : ℕ} (others left' : ℕ) (l : m < 64) (e : m is_in left) (inv : Nearing down s found left)
    (others-is : (a : ℕ) → bit others a ≡ (bit left a && not (same? m a)))
    (left_is : (a : ℕ) → bit left' a ≡ (bit others a && bit (row down m) a)) where
  goes_on : left' are_in others
  goes_on a k = grind (arith, k, left_is a)

  was_left : others are_in left
  was_left = drawn_part (record { role = l; member = e; rest_is = others-is })

  module _ (t : Tables) (r : ℕ) (h : AdminsOf t down s r) where
    -- what was left is still, or is m, or derives m; and the role found before derives m
    near_left : (a : ℕ) → a is_in left → (a is_in left') ⊎ ((a ≡ m) ⊎ Reaches t a m)
    near_left a k = dite (ℕ_discrete a m) (λ q. inr (inl q)) (λ n.
        let d = admins_related ((h.members a).0 (inv.part a k)) ((h.members m).0 (inv.part m e)) in
        grind (arith, d, stays left m others others-is a k n, left_is a, (h.down_is m a).1, λ (w : Derives t a m). derives_reaches w n))

    near_above : (a : ℕ) → a is_in s → (a is_in left') ⊎ ((a ≡ m) ⊎ Reaches t a m)
    near_above a k = ⊎_elim (λ p. near_left a (p.1 a k)) (λ p.
        let w = derives_reaches (p.below m e).0 (λ q. (p.below m e).1 (sym q)) in
        ⊎_elim (near_left a) (λ b. inr (inr (⊎_elim (λ q. subst (λ (x : ℕ). Reaches t x m) (sym q) w) (λ v. reaches_trans v w) b))) (p.above a k))
        (inv.so_far t r h)

    near_below : (a : ℕ) → a is_in left' → Derives t m a × (a ≢ m)
    near_below a k = ((h.down_is m a).0 (grind (arith, k, left_is a)), gone left m others l others-is a (goes_on a k))

  pub near_less : ones left' < ones left
  near_less = le_trans (suc-le-suc (ones_mono left' others goes_on)) (drawn_less (record { role = l; member = e; rest_is = others-is }))

  pub near_turn : Nearing down s m left'
  near_turn = record {
    part = λ a k. inv.part a (was_left a (goes_on a k));
    so_far = λ t r h. inr (record { member = inv.part m e; below = near_below t r h; above = near_above t r h });
  }

pub near_end : {down : List ℕ} {s found left : ℕ} → NoRole left → Nearing down s found left → (t : Tables) (r : ℕ) → AdminsOf t down s r → NearestIs t r found
near_end {s = s} {found = m} {left = left} empty inv t r h = ⊎_elim
    (λ p. inr (λ a k. false_no (empty.none a) (p.1 a ((h.members a).1 k)), p.0))
    (λ p. inl (record { admin = (h.members m).0 p.member; lowest = λ a k n. lowest p a k n }))
    (inv.so_far t r h)
  where
    -- the other one of the two would be a loop
    under : Nearer t s m left → (a : ℕ) → Administrator t a r → Reaches t a m → Derives t a m
    under p a k w = grind (arith, no_return h.loopless w, admins_related k ((h.members m).0 p.member))

    lowest : Nearer t s m left → (a : ℕ) → Administrator t a r → a ≢ m → Derives t a m
    lowest p a k n = grind (arith, n, empty.none a, under p a k, p.above a ((h.members a).1 k))

-- ---- the line managers of all

-- those of the roles that are not left stand
pub record Filling (live : ℕ) (down up manager : List ℕ) (rest : ℕ) : Type 0 where
  pub rows : length manager ≡ 64
  pub nearest : (t : Tables) → Orderly t live down up → (r : ℕ) → bit rest r ≡ false → NearestIs t r (manager_at manager r)

pub fill_start : {live left : ℕ} {down up manager : List ℕ} → manager ≡ replicate 64 64 → left ≡ live → Filling live down up manager left
fill_start {live} {down = down} {up} b q = subst (Filling live down up _) (sym q) (subst (λ (m : List ℕ). Filling live down up m live) (sym b) (record {
  rows = refl;
  nearest = λ t o r n. inr (λ a k. false_no n (subst (λ (s : ℕ). r is_in s) o.live_is k.scope.derives.to), one_entry 64 r 64);
}))

pub fill_turn : {live rest x rest' : ℕ} {down up manager : List ℕ} (s m : ℕ) → Taken rest x rest' → Filling live down up manager rest
    → ((a : ℕ) → (a is_in s) ↔ Above down up a x) → ((t : Tables) (r : ℕ) → AdminsOf t down s r → NearestIs t r m)
    → Filling live down up (set manager x m) rest'
fill_turn {x = x} {manager = manager} s m turn inv s-is m-is = record {
  rows = length-set manager x m ∙ inv.rows;
  nearest = λ t o r n. entry_set 64 manager x m r (subst (λ (k : ℕ). x < k) (sym inv.rows) turn.lowest.role) (NearestIs t r)
      (λ q. subst (λ (k : ℕ). NearestIs t k m) (sym q) (m-is t x (record {
        loopless = o.loopless;
        down_is = o.views.down_is;
        members = λ a. Iff.trans (s-is a) (above_by o.views a x);
      })))
      (λ q. inv.nearest t o r (grind (arith, n, q, turn.rest_is r, same_eq x r)));
}

pub fill_end : {live rest : ℕ} {down up manager : List ℕ} → NoRole rest → Filling live down up manager rest → (t : Tables) → Orderly t live down up → Managers t manager
fill_end empty inv t o = record { rows = inv.rows; nearest = λ r. inv.nearest t o r (empty.none r) }

-- a role that has no administrator has no line manager
pub managers_are : {t : Tables} {manager : List ℕ} → Managers t manager → AreManagers t manager
managers_are m = record { manager_rows = m.rows; manager_is = λ r. ⊎_map (λ l. l) (λ p. (λ n l. p.0 n l.admin, p.1)) (m.nearest r) }

-- a live role is one that has a row
live_role : {t : Tables} {down up : List ℕ} → AreViews t down up → (x : ℕ) → x is_in t.live → x < 64
live_role {up = up} views x l = ⊎_elim (λ k. k) (λ g. absurd (past_row up x x views.up_rows g ((views.up_is x x).1 (derives_refl l)))) (lt_or_ge x 64)

pub managed_is : {t : Tables} {down up manager : List ℕ} → AreViews t down up → Managers t manager
    → ((r : ℕ) → r is_in t.live → r ≢ 0 → manager_at manager r ≢ 64) ↔ Managed t
managed_is {t} {manager = manager} views m = (
  λ f r l n. ⊎_elim (λ g. (manager_at manager r, g.admin)) (λ p. absurd (f r l n p.1)) (m.nearest r),
  λ f r l n q. ⊎_elim
      (λ g. let k = live_role views (manager_at manager r) (admin_live g.admin) in absurd (omega arith))
      (λ p. p.0 (f r l n).0 (f r l n).1)
      (m.nearest r),
)

-- ---- each role but 0 passes a test

-- the entry of a role is the one that is read
pub at_role : (manager : List ℕ) (r : ℕ) → length manager ≡ 64 → r < 64 → manager_at manager r ≡ get_or manager r 0
at_role manager r e l = entry_of manager r 64 0 (subst (λ (k : ℕ). r < k) (sym e) l)

pub record Passing (P : ℕ → Type 0) (live rest : ℕ) : Type 0 where
  pub part : (r : ℕ) → r is_in rest → (r is_in live) × (r ≢ 0)
  pub done : (r : ℕ) → r is_in live → r ≢ 0 → (r is_in rest) ⊎ P r

pub pass_start : {P : ℕ → Type 0} {live left : ℕ} (rest : ℕ) → ((r : ℕ) → bit rest r ≡ (bit live r && not (same? 0 r))) → left ≡ rest → Passing P live left
pass_start {P} {live} rest rest_is q = subst (Passing P live) (sym q) (record {
  part = λ r e. (and_left (bit live r) (not (same? 0 r)) (sym (rest_is r) ∙ e), gone live 0 rest (omega arith) rest_is r e);
  done = λ r m n. inl (stays live 0 rest rest_is r m n);
})

pub pass_turn : {P : ℕ → Type 0} {live rest x rest' : ℕ} → Taken rest x rest' → Passing P live rest → P x → Passing P live rest'
pass_turn {P} turn inv p = record {
  part = λ r e. inv.part r (taken_part turn r e);
  done = λ r m n. grind (arith, p, inv.done r m n, taken_kept turn r);
}
