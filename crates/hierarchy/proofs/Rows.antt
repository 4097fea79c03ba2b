-- Tables that a loop fills, row by row or member by member. Assumes nothing.
use mathlib.Core.Path.{◌≡◌, refl, sym, ap, ◌∙◌, subst}
use mathlib.Core.Bool.{Bool, not, ◌&&◌, ◌||◌, and-not_self}
use mathlib.Core.Logic.{◌≢◌, dite}
use mathlib.Core.List.{List}
use Prim.Native.Nat.{ℕ, zero, suc, ◌<◌}
use native.Mathlib.Decide.{ℕ_discrete}
use native.Mathlib.Omega.{arith}
use lib.ListN.{get_or, set, length, length-set, replicate}
use lib.Seq.{get_or-set_same, get_or-set_other, set-get_or}
use Rattle.sets.specs.Sets.{bit, ◌are_in◌, same?, NoRole}
use Rattle.sets.proofs.Bools.{not_so}
use Rattle.sets.proofs.Digits.{bit_zero}
use Rattle.sets.proofs.Laws.{same_eq, same_self}
use Rattle.sets.proofs.Members.{Taken, taken_part}
use Rattle.hierarchy.specs.Tables.{row}
use Rattle.hierarchy.specs.Views.{Turned}
use Rattle.hierarchy.specs.Engine.{Marked}

-- a list of one entry has no other, and past it there is the same
pub one_entry : (n x d : ℕ) → get_or (replicate n d) x d ≡ d
one_entry zero x d = refl
one_entry (suc n) zero d = refl
one_entry (suc n) (suc x) d = one_entry n x d

-- a row of the blank table has no member
pub blank_row : (n x : ℕ) → row (replicate n 0) x ≡ 0
blank_row n x = one_entry n x 0

-- within the list it is all one what stands for an entry past it
pub entry_of : (l : List ℕ) (i d e : ℕ) → i < length l → get_or l i d ≡ get_or l i e
entry_of l i d e h = ap (λ (k : List ℕ). get_or k i d) (sym (set-get_or l i e)) ∙ get_or-set_same l i (get_or l i e) d h

-- a fact about an entry after a store, from its two cases
pub entry_set : (d : ℕ) (t : List ℕ) (x v y : ℕ) → x < length t → (P : ℕ → Type 0) → (y ≡ x → P v) → (y ≢ x → P (get_or t y d)) → P (get_or (set t x v) y d)
entry_set d t x v y l P same other = dite (ℕ_discrete y x)
    (λ e. subst P (sym (ap (λ (k : ℕ). get_or (set t x v) k d) e ∙ get_or-set_same t x v d l)) (same e))
    (λ n. subst P (sym (get_or-set_other t x y v d n)) (other n))

pub row_set : (t : List ℕ) (x v y : ℕ) → x < length t → (P : ℕ → Type 0) → (y ≡ x → P v) → (y ≢ x → P (row t y)) → P (row (set t x v) y)
row_set = entry_set 0

-- ---- a role goes into many rows

-- the rows of roles not left to do have x
pub record Marking (up : List ℕ) (s x : ℕ) (marked : List ℕ) (rest : ℕ) : Type 0 where
  pub rows : length marked ≡ 64
  pub part : rest are_in s
  pub members : (y z : ℕ) → bit (row marked y) z ≡ (bit (row up y) z || ((bit s y && not (bit rest y)) && same? x z))

pub marking_turn : {up marked : List ℕ} {s x rest y rest' : ℕ} (v : ℕ) → Taken rest y rest' → Marking up s x marked rest
    → ((z : ℕ) → bit v z ≡ (bit (row marked y) z || same? x z)) → Marking up s x (set marked y v) rest'
marking_turn {up} {marked} {s} {x} {rest} {y} {rest'} v turn inv h = record {
  rows = length-set marked y v ∙ inv.rows;
  part = λ w e. inv.part w (taken_part turn w e);
  members = λ w z. row_set marked y v w (subst (λ (n : ℕ). y < n) (sym inv.rows) turn.lowest.role)
      (λ r. bit r z ≡ (bit (row up w) z || ((bit s w && not (bit rest' w)) && same? x z)))
      (λ e. grind (arith, e, h z, inv.members y z, inv.part y turn.lowest.member, turn.lowest.member, turn.rest_is y, same_self y turn.lowest.role))
      (λ n. grind (arith, inv.members w z, turn.rest_is w, not_so (same? y w) (λ e. n (same_eq y w e))));
}

-- ---- a table turned round

pub record Turning (live : ℕ) (down up : List ℕ) (rest : ℕ) : Type 0 where
  pub rows : length up ≡ 64
  pub part : rest are_in live
  pub members : (x y : ℕ) → bit (row up y) x ≡ ((bit live x && not (bit rest x)) && bit (row down x) y)

pub turning_start : {live left : ℕ} {down up : List ℕ} → up ≡ replicate 64 0 → left ≡ live → Turning live down up left
turning_start {live} {down = down} b q = subst (Turning live down _) (sym q) (subst (λ (t : List ℕ). Turning live down t live) (sym b) (record {
  rows = refl;
  part = λ x e. e;
  members = λ x y. ap (λ (r : ℕ). bit r x) (blank_row 64 y) ∙ bit_zero x ∙ sym (ap (λ (p : Bool). p && bit (row down x) y) (and-not_self (bit live x)));
}))

pub turning_turn : {live rest x rest' : ℕ} {down up up' : List ℕ} → Taken rest x rest' → Turning live down up rest
    → Marked up (row down x) x up' → Turning live down up' rest'
turning_turn {live} {rest} {x} {rest'} {down} {up} {up'} turn inv mark = record {
  rows = mark.rows;
  part = λ y e. inv.part y (taken_part turn y e);
  members = λ z y. dite (ℕ_discrete z x)
      (λ e. grind (arith, e, mark.members y x, inv.members x y, inv.part x turn.lowest.member, turn.lowest.member, turn.rest_is x, same_self x turn.lowest.role))
      (λ n. grind (arith, mark.members y z, inv.members z y, turn.rest_is z, not_so (same? x z) (λ e. n (same_eq x z e))));
}

pub turning_end : {live rest : ℕ} {down up : List ℕ} → NoRole rest → Turning live down up rest → Turned live down up
turning_end {live} {rest} {down} {up} empty inv = record {
  up_is = λ x y. (λ e. grind (arith, e, inv.members x y, empty.none x), λ m. grind (arith, m.0, m.1, inv.members x y, empty.none x));
  up_rows = inv.rows;
}
