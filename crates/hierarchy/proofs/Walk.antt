-- What roles lead to, settled from the juniors up. Assumes nothing.
use mathlib.Core.Path.{◌≡◌, refl, sym, ap, ◌∙◌, subst}
use mathlib.Core.Bool.{Bool, true, false, not, ◌&&◌, ◌||◌}
use mathlib.Core.Logic.{◌⊎◌, inl, inr, ⊎_elim, ⊎_map, ◌↔◌, ◌≢◌, dite}
use mathlib.Core.List.{List}
use Prim.Native.Nat.{ℕ, zero, suc, ◌+◌, ◌-◌, ◌^◌, ◌≤◌, ◌<◌}
use native.Mathlib.Decide.{ℕ_discrete}
use native.Mathlib.Omega.{arith}
use lib.Count.{ones, ones-le}
use lib.ListN.{length, set, length-set, replicate}
use Rattle.sets.specs.Sets.{bit, ◌is_in◌, ◌are_in◌, same?, NoRole}
use Rattle.sets.proofs.Bools.{true_or_false, or_cases, or_left, false_no}
use Rattle.sets.proofs.Digits.{bit_zero}
use Rattle.sets.proofs.Laws.{bit_lt, same_eq, same_self, same_members, ones_mono, ones_more}
use Rattle.sets.proofs.Members.{Drawn, drawn_less, drawn_part, drawn_kept, Taken, taken_part, taken_kept}
use Rattle.hierarchy.specs.Tables.{Tables, row}
use Rattle.hierarchy.specs.declared.working.Kept.{Kept}
use Rattle.hierarchy.specs.Words.{Reaches, Derives, Chain, Chain.stop, Chain.step}
use Rattle.hierarchy.specs.Views.{Settles, Settles.settle, InOrder}
use Rattle.hierarchy.specs.Engine.{Entry, InRows, Spread, ByI, RowSettled, RightRows, Right, Founded, Founded.founded, Ready, Finished, SoFar, Starts, Descended, FilledDown}
use Rattle.hierarchy.proofs.Derive.{edge_entry, derives↔descends}
use Rattle.hierarchy.proofs.Order.{settles_live, settles_junior, over, order_no_loop}
use Rattle.hierarchy.proofs.Rows.{row_set, blank_row}

-- ---- the rows of a set's members

pub record Gathered (table : List ℕ) (s sum rest : ℕ) : Type 0 where
  pub part : rest are_in s
  pub only : (z : ℕ) → z is_in sum → InRows table s z
  pub every : (y z : ℕ) → y is_in s → z is_in row table y → (y is_in rest) ⊎ (z is_in sum)

pub gather_start : {table : List ℕ} {s left : ℕ} → left ≡ s → Gathered table s 0 left
gather_start {table} {s} q = subst (Gathered table s 0) (sym q) (record { part = λ x e. e; only = λ z e. absurd (false_no (bit_zero z) e); every = λ y z e d. inl e })

pub gather_turn : {table : List ℕ} {s sum rest y rest' : ℕ} (sum' : ℕ) → Taken rest y rest' → Gathered table s sum rest
    → ((z : ℕ) → bit sum' z ≡ (bit sum z || bit (row table y) z)) → Gathered table s sum' rest'
gather_turn {table} {s} {sum} {rest} {y} sum' turn inv sum_is_lem = record {
  part = λ x e. inv.part x (taken_part turn x e);
  only = λ z e. ⊎_elim (inv.only z) (λ d. record { of = y; member = inv.part y turn.lowest.member; on = d }) (or_cases (bit sum z) (bit (row table y) z) (sym (sum_is_lem z) ∙ e));
  every = λ x z e d. grind (arith, inv.every x z e d, taken_kept turn x, sum_is_lem z, d);
}

-- ---- one role is settled in one table

pub settled_is : {table reach : List ℕ} {x own : ℕ} (below r : ℕ) → x < 64 → length reach ≡ 64 → ((z : ℕ) → (z is_in below) ↔ InRows reach (row table x) z)
    → ((z : ℕ) → bit r z ≡ (bit own z || bit below z)) → RowSettled table reach x own r (set reach x r)
settled_is {table} {reach} {x} {own} below r l rows below-is r-is = record {
  rows = length-set reach x r ∙ rows;
  is = row_set reach x r x in_range (λ (w : ℕ). w ≡ r) (λ _. refl) (λ n. absurd (n refl));
  here = λ z. (
    λ e. grind (arith, e, r-is z, (below-is z).0),
    λ s. grind (arith, s, r-is z, (below-is z).1),
  );
  others = λ y n. row_set reach x r y in_range (λ (w : ℕ). w ≡ row reach y) (λ q. absurd (n q)) (λ _. refl);
}
  where
    in_range : x < length reach
    in_range = subst (λ (n : ℕ). x < n) (sym rows) l

module _ {table : List ℕ} {Own : ℕ → ℕ → Type 0} where
  -- x leads to what it has as its own, and to what its juniors lead to
  spread_here : {x z : ℕ} → Own x z → Spread table Own x z
  spread_here {x} e = record { at = x; chain = stop; on = e }

  spread_on : {x y z : ℕ} → y is_in row table x → Spread table Own y z → Spread table Own x z
  spread_on e s = record { at = s.at; chain = step e s.chain; on = s.on }

  spread_cases : {x z : ℕ} → Spread table Own x z → Own x z ⊎ ((y : ℕ) × (y is_in row table x) × Spread table Own y z)
  spread_cases {x} {z} s = go s.chain s.on
    where
      go : {x m : ℕ} → Chain table x m → Own m z → Own x z ⊎ ((y : ℕ) × (y is_in row table x) × Spread table Own y z)
      go stop e = inl e
      go {m = m} (step {y = y} d c) e = inr (y, d, record { at = m; chain = c; on = e })

  pub rows_start : RightRows table Own (replicate 64 0) 0
  rows_start = record { rows = refl; right = λ x e. absurd (false_no (bit_zero x) e); blank = λ x e. blank_row 64 x }

  -- its row is right where its juniors' rows are
  pub settled_right : {reach reach' : List ℕ} {done x own r : ℕ} → RightRows table Own reach done → row table x are_in done → ((z : ℕ) → (z is_in own) ↔ Own x z)
      → RowSettled table reach x own r reach' → (z : ℕ) → (z is_in r) ↔ Spread table Own x z
  settled_right inv below own_is set z = (
    λ e. ⊎_elim (λ d. spread_here ((own_is z).0 d)) (λ d. spread_on d.member ((inv.right d.of (below d.of d.member) z).0 d.on)) ((set.here z).0 e),
    λ s. (set.here z).1 (⊎_map (own_is z).1 (λ w. record { of = w.0; member = w.1; on = (inv.right w.0 (below w.0 w.1) z).1 w.2 }) (spread_cases s)),
  )

  -- and x is done too
  pub rows_more : {reach reach' : List ℕ} {done x own r : ℕ} (done' : ℕ) → RightRows table Own reach done → RowSettled table reach x own r reach'
      → ((z : ℕ) → (z is_in r) ↔ Spread table Own x z) → x < 64 → ((y : ℕ) → bit done' y ≡ (bit done y || same? x y)) → RightRows table Own reach' done'
  rows_more {reach} {reach'} {done} {x} done' inv set here l done_is = record {
    rows = set.rows;
    right = λ y e. dite (ℕ_discrete y x)
        (λ q z. subst (λ (n : ℕ). (z is_in row reach' n) ↔ Spread table Own n z) (sym q) (subst (λ (w : ℕ). (z is_in w) ↔ Spread table Own x z) (sym set.is) (here z)))
        (λ n z. subst (λ (w : ℕ). (z is_in w) ↔ Spread table Own y z) (sym (set.others y n))
        (inv.right y (grind (arith, e, n, done_is y, same_eq x y)) z));
    blank = λ y e. dite (ℕ_discrete y x)
        (λ q. absurd (grind (arith, e, q, done_is y, same_self x l)))
        (λ n. set.others y n ∙ inv.blank y (grind (arith, e, done_is y)));
  }

-- ---- a way down from a role that is done stays among the done

chain_in : {table : List ℕ} (done : ℕ) → ((x y : ℕ) → x is_in done → y is_in row table x → y is_in done) → {x y : ℕ} → x is_in done → Chain table x y → y is_in done
chain_in done f m stop = m
chain_in done f {x} m (step {y = y} e c) = chain_in done f (f x y m e) c

-- ---- nobody is done at first

pub at_first : {t : Tables} {kept : Kept} → kept.derives ≡ replicate 64 0 → kept.derivers ≡ replicate 64 0 → length kept.manager ≡ 64 → SoFar t kept 0
at_first d b n = record {
  right = record {
    i_rows = rw b rows_start;
    a_rows = rw d rows_start;
    closed = λ x y e. absurd (false_no (bit_zero x) e);
    ends = λ x e. absurd (false_no (bit_zero x) e);
  };
  part = λ x e. absurd (false_no (bit_zero x) e);
  places = n;
}

-- ---- a role whose juniors are done is settled

pub finished : {t : Tables} {kept kept' : Kept} {done x : ℕ} (one r s done' : ℕ) → Ready t kept done x → ((z : ℕ) → bit one z ≡ same? x z)
    → RowSettled t.i kept.derivers x one r kept'.derivers → RowSettled t.a kept.derives x r s kept'.derives
    → ((y : ℕ) → bit done' y ≡ (bit done y || same? x y)) → kept'.manager ≡ kept.manager → Finished t kept kept' done x done'
finished {t} {kept} {done = done} {x} one r s done' ready one-is i-set a-set done_is path_is = record {
  right = record {
    i_rows = rows_more done' right.i_rows i-set i_here ready.role done_is;
    a_rows = rows_more done' right.a_rows a-set (settled_right right.a_rows (λ y e. ready.below y (inr e)) i_here a-set) ready.role done_is;
    closed = λ y z e d. done_is z ∙ or_left (bit done z) (same? x z) (⊎_elim (λ m. right.closed y z m d) (λ q. ready.below z (subst (λ (n : ℕ). Entry t.i t.a n z) q d)) (now y e));
    ends = λ y e. ⊎_elim (right.ends y) (λ q. subst (Founded t.i t.a) (sym q) (founded (λ z d. right.ends z (ready.below z d)))) (now y e);
  };
  done_is = done_is;
  path_is = path_is;
}
  where
    right : Right t kept done
    right = ready.right

    now : (y : ℕ) → y is_in done' → (y is_in done) ⊎ (y ≡ x)
    now y e = grind (arith, e, done_is y, same_eq x y)

    i_here : (z : ℕ) → (z is_in r) ↔ ByI t.i x z
    i_here = settled_right right.i_rows (λ y e. ready.below y (inl e))
        (λ z. (λ e. grind (arith, e, one-is z, same_eq x z), λ q. grind (arith, q, one-is z, same_self x ready.role))) i-set

-- ---- the walk down from a root

-- a junior by I or by A that isn't left is done
waits_not : {i a both left done : Bool} → both ≡ (i || a) → left ≡ (both && not done) → left ≡ false → (i ≡ true) ⊎ (a ≡ true) → done ≡ true
waits_not b l n d = grind (arith, b, l, n, d)

-- v is on the path, whose last place is above
abbrev OnPath : List ℕ → ℕ → ℕ → Type 0
OnPath path above v = (k : ℕ) × (k ≤ above) × (row path k ≡ v)

-- the path goes down from the root by live roles; a live role is done, or fresh, or on the path
pub record Walking (t : Tables) (start root : ℕ) (kept : Kept) (done fresh above : ℕ) : Type 0 where
  pub fits : t.live < 2 ^ 64
  pub so_far : SoFar t kept done
  pub more : start are_in done
  pub room : above + ones fresh < 64
  pub unmet : fresh are_in t.live
  pub top : row kept.manager 0 ≡ root
  pub on : (k : ℕ) → k ≤ above → row kept.manager k is_in t.live
  pub linked : (k : ℕ) → k < above → Entry t.i t.a (row kept.manager k) (row kept.manager (suc k))
  pub whole : (v : ℕ) → v is_in t.live → (v is_in done) ⊎ ((v is_in fresh) ⊎ OnPath kept.manager above v)

-- the path with y at its end
abbrev longer : Kept → ℕ → ℕ → Kept
longer kept k y = record { derives = kept.derives; derivers = kept.derivers; manager = set kept.manager k y }

longer_so_far : {t : Tables} {kept : Kept} {done : ℕ} (k y : ℕ) → SoFar t kept done → SoFar t (longer kept k y) done
longer_so_far {kept = kept} k y s = record {
  right = record { i_rows = s.right.i_rows; a_rows = s.right.a_rows; closed = s.right.closed; ends = s.right.ends };
  part = s.part;
  places = length-set kept.manager k y ∙ s.places;
}

pub walk_start : {t : Tables} {kept : Kept} {start root : ℕ} (left fresh : ℕ) → t.live < 2 ^ 64 → left < 2 ^ 64 → Starts t kept start root
    → ((x : ℕ) → bit left x ≡ (bit t.live x && not (bit start x))) → ((x : ℕ) → bit fresh x ≡ (bit left x && not (same? root x)))
    → Walking t start root (longer kept 0 root) start fresh 0
walk_start {t} {kept} {start} {root} left fresh f l s left_is fresh-is = record {
  fits = f;
  so_far = longer_so_far 0 root s.so_far;
  more = λ x e. e;
  room = omega (arith, drawn_less drawn, ones-le 64 left l);
  unmet = λ x e. grind (arith, e, left_is x, fresh-is x);
  top = first;
  on = λ k n. subst (λ (w : ℕ). row (set kept.manager 0 root) w is_in t.live) (omega arith) (subst (λ (w : ℕ). w is_in t.live) (sym first) s.alive);
  linked = λ k n. absurd (omega arith);
  whole = λ v e. ⊎_elim (λ d. inl d)
      (λ n. inr (⊎_map (λ m. m) (λ q. (0, omega arith, first ∙ sym q)) (drawn_kept drawn v (grind (arith, e, n, left_is v)))))
      (true_or_false (bit start v));
}
  where
    drawn : Drawn left root fresh
    drawn = record { role = bit_lt 64 f s.alive; member = grind (arith, s.alive, s.fresh, left_is root); rest_is = fresh-is }

    first : row (set kept.manager 0 root) 0 ≡ root
    first = row_set kept.manager 0 root 0 (subst (λ (n : ℕ). 0 < n) (sym s.so_far.places) (omega arith)) (λ (w : ℕ). w ≡ root) (λ _. refl) (λ n. absurd (n refl))

module _ {t : Tables} {start root : ℕ} {kept : Kept} {done fresh above : ℕ} (inv : Walking t start root kept done fresh above) where
  abbrev x : ℕ
  x = row kept.manager above

  pub walk_role : x < 64
  walk_role = bit_lt 64 inv.fits (inv.on above (omega arith))

  -- what is on the path leads down to its last role
  leads : (n k : ℕ) → n ≤ above → k ≤ n → (row kept.manager k ≡ row kept.manager n) ⊎ Reaches t (row kept.manager k) (row kept.manager n)
  leads zero k h l = inl (ap (row kept.manager) (omega arith))
  leads (suc n) k h l = dite (ℕ_discrete k (suc n))
      (λ q. inl (ap (row kept.manager) q))
      (λ q. inr (over ((edge_entry t (row kept.manager n) (row kept.manager (suc n))).1 (inv.linked n (omega arith))) (leads n k (omega arith) (omega (arith, q)))))

  -- left are the juniors of its last role that aren't done
  module _ (both left : ℕ) (both_is : (y : ℕ) → bit both y ≡ (bit (row t.i x) y || bit (row t.a x) y)) (left_is : (y : ℕ) → bit left y ≡ (bit both y && not (bit done y))) where
    junior : (y : ℕ) → y is_in left → Entry t.i t.a x y
    junior y e = grind (arith, e, left_is y, both_is y)

    -- In order they are fresh: one that isn't would be on the path, or not live.
    all_fresh : InOrder t → left are_in fresh
    all_fresh o y e =
        let edge = (edge_entry t x y).1 (junior y e) in
        let alive = settles_live (settles_junior (o x (inv.on above (omega arith))) edge) in
        ⊎_elim (λ d. absurd (grind (arith, d, e, left_is y)))
        (⊎_elim (λ m. m) (λ p. absurd (order_no_loop o (y, (alive, subst (λ (v : ℕ). Reaches t v y) p.2 (over edge (leads above p.0 (omega arith) p.1)))))))
        (inv.whole y alive)

    pub walk_stuck : (left are_in fresh → ⊥) → Descended t kept start root done
    walk_stuck n = record { so_far = inv.so_far; more = inv.more; stuck = λ _ o. n (all_fresh o) }

    -- one of them is the next on the path
    pub walk_down : {y fresh' : ℕ} → y is_in left → Drawn fresh y fresh' → Walking t start root (longer kept (suc above) y) done fresh' (suc above)
    walk_down {y} {fresh'} e drawn = record {
      fits = inv.fits;
      so_far = longer_so_far (suc above) y inv.so_far;
      more = inv.more;
      room = omega (arith, drawn_less drawn, inv.room);
      unmet = λ z m. inv.unmet z (drawn_part drawn z m);
      top = place 0 (λ (w : ℕ). w ≡ root) (λ q. absurd (omega (arith, q))) (λ _. inv.top);
      on = λ k n. place k (λ (w : ℕ). w is_in t.live) (λ _. inv.unmet y drawn.member) (λ q. inv.on k (omega (arith, q)));
      linked = λ k n. place k (λ (w : ℕ). Entry t.i t.a w (row (set kept.manager (suc above) y) (suc k))) (λ q. absurd (omega (arith, q)))
          (λ _. place (suc k) (λ (w : ℕ). Entry t.i t.a (row kept.manager k) w)
          (λ q. subst (λ (m : ℕ). Entry t.i t.a (row kept.manager m) y) (omega (arith, q)) (junior y e)) (λ q. inv.linked k (omega (arith, q))));
      whole = λ v m. ⊎_map (λ d. d)
          (⊎_elim (λ f. ⊎_map (λ k. k) (λ q. (suc above, omega arith, place (suc above) (λ (w : ℕ). w ≡ v) (λ _. sym q) (λ n. absurd (n refl)))) (drawn_kept drawn v f))
          (λ p. inr (p.0, omega (arith, p.1), place p.0 (λ (w : ℕ). w ≡ v) (λ q. absurd (omega (arith, p.1, q))) (λ _. p.2))))
          (inv.whole v m);
    }
      where
        place : (k : ℕ) → (P : ℕ → Type 0) → (k ≡ suc above → P y) → (k ≢ suc above → P (row kept.manager k)) → P (row (set kept.manager (suc above) y) k)
        place k = row_set kept.manager (suc above) y k (subst (λ (n : ℕ). suc above < n) (sym inv.so_far.places) (omega (arith, drawn_less drawn, inv.room)))

    -- where there is none the last role can be settled
    pub walk_ready : NoRole left → Ready t kept done x
    walk_ready empty = record {
      right = inv.so_far.right;
      role = walk_role;
      below = λ y d. waits_not (both_is y) (left_is y) (empty.none y) d;
    }

  -- the last role of the path is settled
  module _ {kept' : Kept} (done' : ℕ) (fin : Finished t kept kept' done x done') where
    grown : done are_in done'
    grown y e = grind (arith, e, fin.done_is y)

    here : x is_in done'
    here = grind (arith, fin.done_is x, same_self x walk_role)

    alive : done' are_in t.live
    alive y e = grind (arith, e, inv.so_far.part y, fin.done_is y, same_eq x y, inv.on above (omega arith))

    settled : SoFar t kept' done'
    settled = record { right = fin.right; part = alive; places = ap length fin.path_is ∙ inv.so_far.places }

    -- and was the root,
    pub walk_end : above ≡ 0 → Descended t kept' start root done'
    walk_end q = record {
      so_far = settled;
      more = λ y e. grown y (inv.more y e);
      stuck = λ n. absurd (false_no n (subst (λ (w : ℕ). w is_in done') (ap (row kept.manager) q ∙ inv.top) here));
    }

    -- or the walk goes back to the one above it
    pub walk_back : (above ≡ 0 → ⊥) → Walking t start root kept' done' fresh (above - 1)
    walk_back n = record {
      fits = inv.fits;
      so_far = settled;
      more = λ y e. grown y (inv.more y e);
      room = omega (arith, inv.room);
      unmet = inv.unmet;
      top = rw fin.path_is inv.top;
      on = λ k l. rw fin.path_is (inv.on k (omega arith));
      linked = λ k l. rw fin.path_is (inv.linked k (omega arith));
      whole = λ v m. rw fin.path_is (⊎_elim (λ d. inl (grown v d)) (⊎_elim (λ e. inr (inl e))
          (λ p. dite (ℕ_discrete p.0 above)
          (λ q. inl (subst (λ (w : ℕ). w is_in done') (sym (ap (row kept.manager) q) ∙ p.2) here))
          (λ q. inr (inr (p.0, omega (arith, p.1, q, n), p.2)))))
          (inv.whole v m));
    }

-- ---- all live roles are done

module _ {t : Tables} {kept : Kept} (right : Right t kept t.live) where
  all_settle : {x : ℕ} → x is_in t.live → Founded t.i t.a x → Settles t x
  all_settle {x} m (founded f) = settle m (λ y h. let e = (edge_entry t x y).0 h in all_settle (right.closed x y m e) (f y e))

  of_live : (x : ℕ) → x is_in t.live → (z : ℕ) → (z is_in row kept.derives x) ↔ Derives t x z
  of_live x m z = (
    λ e.
        let s = (right.a_rows.right x m z).0 e in
        let n = chain_in t.live (λ x y k d. right.closed x y k (inr d)) m s.chain in
        let u : Chain t.i s.at z = subst (Chain t.i s.at) s.on.on s.on.chain in
        derives↔descends.1 (record {
          from = m;
          to = chain_in t.live (λ x y k d. right.closed x y k (inl d)) n u;
          mid = s.at;
          down_a = s.chain;
          down_i = u;
        }),
    λ d. let s = derives↔descends.0 d in (right.a_rows.right x m z).1 (record { at = s.mid; chain = s.down_a; on = record { at = z; chain = s.down_i; on = refl } }),
  )

  filled_down : FilledDown t true kept.derives
  filled_down = record {
    order = (λ _ x m. all_settle m (right.ends x m), λ _. refl);
    down_rows = λ _. right.a_rows.rows;
    down_is = λ _ x z. ⊎_elim
        (λ m. of_live x m z)
        (λ n. (λ e. absurd (grind (arith, e, right.a_rows.blank x n, bit_zero z)), λ d. absurd (false_no n d.from)))
        (true_or_false (bit t.live x));
  }

-- ---- walks until all live roles are done

module _ {t : Tables} {kept : Kept} {done : ℕ} (inv : SoFar t kept done) where
  module _ (left : ℕ) (left_is : (x : ℕ) → bit left x ≡ (bit t.live x && not (bit done x))) where
    pub order_end : NoRole left → FilledDown t true kept.derives
    order_end empty = filled_down (subst (Right t kept) all inv.right)
      where
        all : done ≡ t.live
        all = same_members done t.live (λ x. (
          inv.part x,
          λ l. grind (arith, l, empty.none x, left_is x),
        ))

module _ {t : Tables} {kept : Kept} {done root r : ℕ} (walk : Descended t kept done root r) where
  pub order_stuck : bit r root ≡ false → FilledDown t false kept.derives
  order_stuck n = record {
    order = (λ e. absurd (false_no refl e), λ o. absurd (walk.stuck n o));
    down_rows = λ e. absurd (false_no refl e);
    down_is = λ e. absurd (false_no refl e);
  }

  pub order_less : bit done root ≡ false → root is_in r → ones t.live - ones r < ones t.live - ones done
  order_less n e = omega (arith, ones_more done r root n e walk.more, ones_mono r t.live walk.so_far.part)
