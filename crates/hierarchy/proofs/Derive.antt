-- Deriving by joined paths is going down through the A table and then through the I table. Assumes nothing.
use mathlib.Core.Path.{◌≡◌, refl, sym, ◌∙◌, ap, subst}
use mathlib.Core.Logic.Iff
use mathlib.Core.Logic.{◌⊎◌, inl, inr, ⊎_elim, ⊎_map, ◌≢◌, ◌↔◌}
use mathlib.Core.Bool.{Bool, true, false, not, ◌&&◌, ◌||◌, beq, false≢true}
use mathlib.Core.List.{List}
use Prim.Native.Nat.{ℕ, ◌<◌}
use native.Mathlib.Nat.{suc-ne-zero, lt_trans}
use lib.Dec.{eqb, ltb, lit<}
use borrow.Author.Tests.{ltb-true, ne_eqb, eqb-false, not-true}
use Rattle.sets.specs.Sets.{bit, ◌is_in◌}
use Rattle.sets.proofs.Bools.{or_cases, or_left, and_left, and_right, and_both}
use Rattle.hierarchy.specs.Tables.{Tables, row, Live, kind_of, kind, joins, join, has_i, has_a}
use Rattle.hierarchy.specs.Words.{Way, Derives, Chain, Splits, Joined}
use Rattle.hierarchy.specs.Words.{Way.edge, Way.then, Chain.stop, Chain.step}
use Rattle.hierarchy.specs.Compute.{all}
use Rattle.hierarchy.proofs.Checks.{all_holds, beq_same}

-- x descends to y: between live roles, by A alone to some role and from there by I alone
pub record Descends (t : Tables) (x y : ℕ) : Type 0 where
  pub from : Live t x
  pub to : Live t y
  pub mid : ℕ
  pub down_a : Chain t.a x mid
  pub down_i : Chain t.i mid y

-- ---- what a kind says of an edge, or of a path that joins to it: it can go by I alone; by A alone; by A and then by I

abbrev by_i : ℕ → Bool
by_i = has_i

abbrev by_a : ℕ → Bool
by_a = has_a

abbrev by_ai : ℕ → Bool
by_ai k = not (eqb k 0)

-- an edge of kind j, and then a path of kind k, by A and then by I
abbrev falls : ℕ → ℕ → Bool
falls j k = by_a j && by_ai k || by_i j && by_i k

-- the kind of a pair, by its entries in the two tables
record Pair (p q : Bool) (k : ℕ) : Type 0 where
  small : k < 4
  i : by_i k ≡ p
  a : by_a k ≡ q
  some : (k ≢ 0) ↔ ((p ≡ true) ⊎ (q ≡ true))

pair_of : (p q : Bool) → Pair p q (kind_of p q)
pair_of false false = record { small = lit< tt; i = refl; a = refl; some = (λ h. absurd (h refl), ⊎_elim (λ e _. false≢true e) (λ e _. false≢true e)) }
pair_of true false = record { small = lit< tt; i = refl; a = refl; some = (λ _. inl refl, λ _. suc-ne-zero 0) }
pair_of false true = record { small = lit< tt; i = refl; a = refl; some = (λ _. inr refl, λ _. suc-ne-zero 1) }
pair_of true true = record { small = lit< tt; i = refl; a = refl; some = (λ _. inl refl, λ _. suc-ne-zero 2) }

pair : (t : Tables) (x y : ℕ) → Pair (bit (row t.i x) y) (bit (row t.a x) y) (kind t x y)
unfolding kind
pair t x y = pair_of (bit (row t.i x) y) (bit (row t.a x) y)

-- the parts of its kind are these entries
module _ (t : Tables) (x y : ℕ) where
  pub bit_i : bit (row t.i x) y ≡ has_i (kind t x y)
  bit_i = sym (pair t x y).i

  pub bit_a : bit (row t.a x) y ≡ has_a (kind t x y)
  bit_a = sym (pair t x y).a

-- the kind of a path, by its first edge and the rest
record Joint (j k n : ℕ) : Type 0 where
  small : n < 5
  i : by_i n ≡ (by_i j && by_i k)
  ai : by_ai n ≡ falls j k

abbrev test : ℕ → ℕ → Bool
test j k = let n = join j k in ltb n 5 && (beq (by_i n) (by_i j && by_i k) && beq (by_ai n) (falls j k))

tested : all 4 (λ j. all 5 (test j)) ≡ true
unfolding join joins all
tested = refl

joint : (t : Tables) (x y k : ℕ) → k < 5 → Joint (kind t x y) k (join (kind t x y) k)
joint t x y k l =
    let j = kind t x y in
    let n = join j k in
    let e = all_holds 5 (test j) (all_holds 4 (λ j. all 5 (test j)) tested j (pair t x y).small) k l in
    let f = and_right (ltb n 5) (beq (by_i n) (by_i j && by_i k) && beq (by_ai n) (falls j k)) e in
    record {
      small = ltb-true n 5 (and_left (ltb n 5) _ e);
      i = beq_same (by_i n) (by_i j && by_i k) (and_left _ _ f);
      ai = beq_same (by_ai n) (falls j k) (and_right (beq (by_i n) (by_i j && by_i k)) _ f);
    }

-- ---- entries are edges

-- a pair is an edge exactly when it is in one of the tables
pub edge_entry : (t : Tables) (x y : ℕ) → (kind t x y ≢ 0) ↔ ((y is_in row t.i x) ⊎ (y is_in row t.a x))
edge_entry t x y = (pair t x y).some

pub i_entry : (t : Tables) (x y : ℕ) → y is_in row t.i x → kind t x y ≢ 0
i_entry t x y h = (edge_entry t x y).1 (inl h)

pub a_entry : (t : Tables) (x y : ℕ) → y is_in row t.a x → kind t x y ≢ 0
a_entry t x y h = (edge_entry t x y).1 (inr h)

-- ---- from a joined path to A and then I

abbrev Falls : Tables → ℕ → ℕ → Type 0
Falls t x y = (m : ℕ) × Chain t.a x m × Chain t.i m y

module _ {t : Tables} where
  way_small : {x y k : ℕ} → Way t x y k → k < 5
  way_small (edge {x = x} {y = y} h) = lt_trans (pair t x y).small (lit< tt)
  way_small (then {x = x} {y = y} {k = k} h w) = (joint t x y k (way_small w)).small

  way_i : {x y k : ℕ} → Way t x y k → by_i k ≡ true → Chain t.i x y
  way_i (edge {x = x} {y = y} h) e = step (sym (pair t x y).i ∙ e) stop
  way_i (then {x = x} {y = y} {k = k} h w) e =
      let f = sym (joint t x y k (way_small w)).i ∙ e in
      step (sym (pair t x y).i ∙ and_left _ (by_i k) f) (way_i w (and_right (by_i (kind t x y)) _ f))

  way_falls : {x y k : ℕ} → Way t x y k → by_ai k ≡ true → Falls t x y
  way_falls (edge {x = x} {y = y} h) e = ⊎_elim (λ i. (x, stop, step i stop)) (λ a. (y, step a stop, stop)) ((edge_entry t x y).0 h)
  way_falls (then {x = x} {y = y} {k = k} h w) e =
      let j = kind t x y in
      ⊎_elim
      (λ f. let r = way_falls w (and_right (by_a j) _ f) in (r.0, step (sym (pair t x y).a ∙ and_left _ (by_ai k) f) r.1, r.2))
      (λ f. (x, stop, step (sym (pair t x y).i ∙ and_left _ (by_i k) f) (way_i w (and_right (by_i j) _ f))))
      (or_cases (by_a j && by_ai k) (by_i j && by_i k) (sym (joint t x y k (way_small w)).ai ∙ e))

-- ---- and back

-- no step, or a path to a kind of which f holds
abbrev Ways : Tables → (ℕ → Bool) → ℕ → ℕ → Type 0
Ways t f x y = (x ≡ y) ⊎ ((k : ℕ) × Way t x y k × (f k ≡ true))

i_ai : (k : ℕ) → by_i k ≡ true → by_ai k ≡ true
i_ai k e = ap not (ne_eqb k 0 (λ z. false≢true (sym (ap by_i z) ∙ e)))

module _ {t : Tables} where
  before : (f : ℕ → Bool) (x y : ℕ) {z : ℕ} → kind t x y ≢ 0 → f (kind t x y) ≡ true
      → ((k : ℕ) → Way t y z k → f k ≡ true → f (join (kind t x y) k) ≡ true) → Ways t f y z → Ways t f x z
  before f x y n e g (inl q) = inr (kind t x y, subst (λ z. Way t x z (kind t x y)) q (edge n), e)
  before f x y n e g (inr w) = inr (join (kind t x y) w.0, then n w.1, g w.0 w.1 w.2)

  i_ways : {x y : ℕ} → Chain t.i x y → Ways t by_i x y
  i_ways stop = inl refl
  i_ways (step {x = x} {y = y} h c) =
      let e = (pair t x y).i ∙ h in
      before by_i x y (i_entry t x y h) e (λ k w g. (joint t x y k (way_small w)).i ∙ and_both _ (by_i k) e g) (i_ways c)

  a_ways : {x y z : ℕ} → Chain t.a x y → Ways t by_ai y z → Ways t by_ai x z
  a_ways stop w = w
  a_ways (step {x = x} {y = y} h c) w =
      let n = a_entry t x y h in
      before by_ai x y n (ap not (ne_eqb (kind t x y) 0 n))
      (λ k v g. (joint t x y k (way_small v)).ai ∙ or_left _ (by_i (kind t x y) && by_i k) (and_both _ (by_ai k) ((pair t x y).a ∙ h) g)) (a_ways c w)

  -- Deriving by joined paths is going down by A alone and then by I alone, whatever the tables.
  pub derives↔descends : {x y : ℕ} → Derives t x y ↔ Descends t x y
  derives↔descends {x} {y} = (
    λ d. let r = ⊎_elim (λ e. (x, stop, subst (Chain t.i x) e stop)) (λ w. way_falls w.1 (ap not (ne_eqb w.0 0 w.2))) d.by in
        record { from = d.from; to = d.to; mid = r.0; down_a = r.1; down_i = r.2 },
    λ s. record {
      from = s.from;
      to = s.to;
      by = ⊎_map (λ e. e) (λ w. (w.0, w.1, eqb-false w.0 0 (not-true _ w.2)))
          (a_ways s.down_a (⊎_map (λ e. e) (λ w. (w.0, w.1, i_ai w.0 w.2)) (i_ways s.down_i)));
    },
  )

-- ---- where entries are between live roles

chain_live : (t : Tables) {rows : List ℕ} {x y : ℕ} → ((x y : ℕ) → y is_in row rows x → Live t x × Live t y) → Chain rows x y → Live t x ↔ Live t y
chain_live t entry stop = Iff.rfl
chain_live t entry (step h c) = (λ _. (chain_live t entry c).0 (entry _ _ h).1, λ _. (entry _ _ h).0)

module _ {t : Tables} (joined : Joined t) where
  -- the ends of a path are live
  pub starts : {x y k : ℕ} → Way t x y k → Live t x
  starts (edge h) = (joined _ _ h).0
  starts (then h w) = (joined _ _ h).0

  pub ends : {x y k : ℕ} → Way t x y k → Live t y
  ends (edge h) = (joined _ _ h).1
  ends (then h w) = ends w

  -- The two wordings of deriving say the same where entries are between live roles.
  pub derives↔splits : {x y : ℕ} → Derives t x y ↔ Splits t x y
  derives↔splits {x} {y} = Iff.trans derives↔descends (
    λ d. record { mid = d.mid; mid_live = (by_a_live d.down_a).0 d.from; down_a = d.down_a; down_i = d.down_i },
    λ s. record {
      from = (by_a_live s.down_a).1 s.mid_live;
      to = (chain_live t (λ x y h. joined x y (i_entry t x y h)) s.down_i).0 s.mid_live;
      mid = s.mid;
      down_a = s.down_a;
      down_i = s.down_i;
    },
  )
    where
      by_a_live : {m : ℕ} → Chain t.a x m → Live t x ↔ Live t m
      by_a_live = chain_live t (λ x y h. joined x y (a_entry t x y h))
