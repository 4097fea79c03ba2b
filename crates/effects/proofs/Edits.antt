-- Tables row by row and entry by entry: what the code of the effects cites. Assumes nothing.
use mathlib.Core.Path.{◌≡◌, refl, sym, ap, ap₂, ◌∙◌, subst}
use mathlib.Core.Bool.{Bool, true, false, cond, not, ◌&&◌, ◌||◌, and-true, and-false, or-true, or-false, or_assoc, and_comm}
use mathlib.Core.Logic.{◌≢◌, ◌⊎◌, inl, inr, ⊎_elim}
use mathlib.Core.List.{List}
use Prim.Native.Nat.{ℕ, zero, suc, ◌+◌, ◌^◌, ◌≤◌, ◌<◌}
use native.Mathlib.Nat.{not-suc-le-zero, le_of_suc-le-suc}
use native.Mathlib.Omega.{arith}
use lib.Dec.{eqb, lit<}
use lib.ListN.{set, length, length-set, get_or-eq_default}
use lib.Seq.{get_or-set_same, get_or-set_other, ext_get_or}
use borrow.Author.Tests.{eqb-true, eqb-false, ne_eqb}
use Rattle.sets.specs.Sets.{bit, ◌is_in◌, ◌are_in◌, same?, set_of}
use Rattle.sets.proofs.Bools.{true_or_false, and_left, and_right, false_no, lt_or_ge}
use Rattle.sets.proofs.Digits.{bit_zero}
use Rattle.sets.proofs.Laws.{same_is, same_out, same_eq, same_self, set_of_fits, bit_set_of, is_set_of, bit_lt}
use Rattle.sets.proofs.Members.{Taken, taken_part}
use Rattle.hierarchy.specs.Tables.{Tables, tables, row, IsTable, Shaped, has_i, has_a}
use Rattle.hierarchy.proofs.Rows.{row_set as by_Row}
use Rattle.board.specs.declared.Command.{Command}
use Rattle.effects.specs.Effects.{lives, list_of, pair, entry, table_after, after}
use Rattle.effects.specs.Rows.{RowSet, Entered, Left}

pub cond_true : {A : Type 0} {p : Bool} (u v : A) → p ≡ true → cond p u v ≡ u
cond_true u v e = ap (λ (q : Bool). cond q u v) e

pub cond_false : {A : Type 0} {p : Bool} (u v : A) → p ≡ false → cond p u v ≡ v
cond_false u v e = ap (λ (q : Bool). cond q u v) e

cond_when : {A : Type 0} (p : Bool) (u v w : A) → (p ≡ true → u ≡ v) → cond p u w ≡ cond p v w
cond_when true u v w h = h refl
cond_when false u v w h = refl

-- ---- one row, one set

pub row_set : (t : List ℕ) (x s z y : ℕ) → length t ≡ 64 → x < 64 → bit (row (set t x s) z) y ≡ cond (same? x z) (bit s y) (bit (row t z) y)
row_set t x s z y h l = ⊎_elim
    (λ e. rw (same_eq x z e, get_or-set_same t x s 0 (omega arith)) (sym (cond_true (bit s y) (bit (row t x) y) (same_self x l))))
    (λ e. rw (get_or-set_other t x z s 0 (λ (q : z ≡ x). false_no (ap (same? x) (sym q) ∙ e) (same_self x l))) (sym (cond_false (bit s y) (bit (row t z) y) e)))
    (true_or_false (same? x z))

pub whole_set : {t : List ℕ} (x s : ℕ) → x < 64 → s < 2 ^ 64 → IsTable t → IsTable (set t x s)
whole_set {t} x s l f whole = record {
  rows = length-set t x s ∙ whole.rows;
  fits = λ z. by_Row t x s z (omega (arith, whole.rows)) (λ r. r < 2 ^ 64) (λ _. f) (λ _. whole.fits z);
}

pub row_past : (t : List ℕ) (x s z y : ℕ) → 64 ≤ x → bit (row t z) y ≡ cond (same? x z) (bit s y) (bit (row t z) y)
row_past t x s z y g = sym (cond_false (bit s y) (bit (row t z) y) (same_out x z g))

pub put_in : (o m p : Bool) → p ≡ true → (o || m) ≡ cond m p o
put_in o true p e = or-true o ∙ sym e
put_in o false p e = or-false o

pub put_out : (o m p : Bool) → p ≡ false → (o && not m) ≡ cond m p o
put_out o true p e = and-false o ∙ sym e
put_out o false p e = and-true o

-- ---- the rows of some seniors: rest are those still to do

pub record Entering (t : List ℕ) (seniors junior : ℕ) (part : Bool) (n : List ℕ) (rest : ℕ) : Type 0 where
  pub whole : IsTable n
  pub few : rest are_in seniors
  pub entries : (x y : ℕ) → bit (row n x) y ≡ cond ((bit seniors x && not (bit rest x)) && same? junior y) part (bit (row t x) y)

-- a row is the one of this turn, e, or stays
one_more : (e s r m p o : Bool) → (e ≡ true → s ≡ true) → (e ≡ true → r ≡ true)
    → cond e (cond m p (cond ((s && not r) && m) p o)) (cond ((s && not r) && m) p o) ≡ cond ((s && not (r && not e)) && m) p o
one_more true s r m p o f g = rw (f refl, g refl)
one_more false s r m p o f g = rw and-true

pub entering_turn : {t n : List ℕ} {seniors junior rest x rest' : ℕ} {part : Bool} (w : ℕ)
    → w < 2 ^ 64 → Entering t seniors junior part n rest → Taken rest x rest' → ((y : ℕ) → bit w y ≡ cond (same? junior y) part (bit (row n x) y))
    → Entering t seniors junior part (set n x w) rest'
entering_turn {t} {n} {seniors} {junior} {rest} {x} {rest'} {part} w fits inv taken is = record {
  whole = whole_set x w taken.lowest.role fits inv.whole;
  few = λ z e. inv.few z (taken_part taken z e);
  entries = λ z y.
      row_set n x w z y inv.whole.rows taken.lowest.role
      ∙ cond_when (same? x z) (bit w y) (cond (same? junior y) part (bit (row n z) y)) (bit (row n z) y)
      (λ e. is y ∙ ap (λ (k : ℕ). cond (same? junior y) part (bit (row n k) y)) (sym (same_eq x z e)))
      ∙ rw (inv.entries z y, taken.rest_is z)
      (one_more (same? x z) (bit seniors z) (bit rest z) (same? junior y) part (bit (row t z) y)
      (λ e. rw (same_eq x z e) (inv.few x taken.lowest.member))
      (λ e. rw (same_eq x z e) taken.lowest.member));
}

-- ---- every row without a junior: the rows below x are done

pub record Leaving (t : List ℕ) (junior : ℕ) (n : List ℕ) (x : ℕ) : Type 0 where
  pub whole : IsTable n
  pub done : (z y : ℕ) → z < x → bit (row n z) y ≡ (bit (row t z) y && not (same? junior y))
  pub left : (z : ℕ) → x ≤ z → row n z ≡ row t z

pub leaving_turn : {t n : List ℕ} {junior x : ℕ} (w : ℕ) → w < 2 ^ 64 → x < 64 → Leaving t junior n x
    → ((y : ℕ) → bit w y ≡ (bit (row n x) y && not (same? junior y))) → Leaving t junior (set n x w) (x + 1)
leaving_turn {t} {n} {junior} {x} w fits l inv is =
    let k : x < length n = omega (arith, inv.whole.rows) in
    record {
      whole = whole_set x w l fits inv.whole;
      done = λ z y m. by_Row n x w z k (λ r. bit r y ≡ (bit (row t z) y && not (same? junior y)))
          (λ e. rw e (is y ∙ ap (λ (r : ℕ). bit r y && not (same? junior y)) (inv.left x (omega arith))))
          (λ d. inv.done z y (omega arith));
      left = λ z m. by_Row n x w z k (λ r. r ≡ row t z) (λ e. absurd (omega arith)) (λ d. inv.left z (omega arith));
    }

-- ---- a table known by its entries

pub list_of_length : (n : ℕ) (f : ℕ → ℕ) → length (list_of n f) ≡ n
unfolding list_of
list_of_length zero f = refl
list_of_length (suc n) f = ap suc (list_of_length n (λ k. f (suc k)))

pub list_of_row : (n : ℕ) (f : ℕ → ℕ) (x : ℕ) → x < n → row (list_of n f) x ≡ f x
unfolding list_of
list_of_row zero f x l = absurd (not-suc-le-zero l)
list_of_row (suc n) f zero l = refl
list_of_row (suc n) f (suc x) l = list_of_row n (λ k. f (suc k)) x (le_of_suc-le-suc l)

module _ (c : Command) (s j : ℕ) (p : Bool) (t : List ℕ) where
  pub table_length : length (table_after c s j p t) ≡ 64
  unfolding table_after
  table_length = list_of_length 64 _

  row_is : (x : ℕ) → x < 64 → row (table_after c s j p t) x ≡ set_of (λ y. entry c s j p (bit (row t x) y) x y)
  unfolding table_after
  row_is x l = list_of_row 64 _ x l

  pub table_entry : (x y : ℕ) → x < 64 → y < 64 → bit (row (table_after c s j p t) x) y ≡ entry c s j p (bit (row t x) y) x y
  table_entry x y l m = ap (λ (k : ℕ). bit k y) (row_is x l) ∙ bit_set_of _ y m

  pub table_fits : (x : ℕ) → row (table_after c s j p t) x < 2 ^ 64
  table_fits x = ⊎_elim
      (λ l. subst (λ (k : ℕ). k < 2 ^ 64) (sym (row_is x l)) (set_of_fits _))
      (λ g. subst (λ (k : ℕ). k < 2 ^ 64) (sym (get_or-eq_default (table_after c s j p t) 0 (omega (arith, table_length)))) (lit< tt))
      (lt_or_ge x 64)

  pub in_table : (x y : ℕ) → y is_in row (table_after c s j p t) x → (x < 64) × (y < 64) × (entry c s j p (bit (row t x) y) x y ≡ true)
  in_table x y e =
      let l : x < 64 = ⊎_elim (λ m. m)
      (λ g. absurd (false_no (bit_zero y) (ap (λ (k : ℕ). bit k y) (sym (get_or-eq_default (table_after c s j p t) 0 (omega (arith, table_length)))) ∙ e)))
      (lt_or_ge x 64) in
      let m : y < 64 = bit_lt 64 (table_fits x) e in
      (l, m, sym (table_entry x y l m) ∙ e)

  -- a whole table is the one after the command where each entry is
  pub table_is : (r : List ℕ) → IsTable r → ((x y : ℕ) → x < 64 → y < 64 → bit (row r x) y ≡ entry c s j p (bit (row t x) y) x y) → r ≡ table_after c s j p t
  table_is r whole e =
      ext_get_or 0 r (table_after c s j p t) (whole.rows ∙ sym table_length)
      (λ x l. let m : x < 64 = omega (arith, whole.rows) in is_set_of (row r x) _ (whole.fits x) (λ y k. e x y m k) ∙ sym (row_is x m))

-- ---- by code: what each line of the effects says of an entry

-- below 64 the test for a role is the test for a number
is_role : (r x : ℕ) → x < 64 → same? r x ≡ eqb x r
is_role r x l = ⊎_elim (λ (m : r < 64). same_is r x m) (λ (g : 64 ≤ r). same_out r x g ∙ sym (ne_eqb x r (λ q. absurd (omega arith)))) (lt_or_ge r 64)

module _ (c : Command) (s j : ℕ) (p o : Bool) (x y : ℕ) where
  pub entry_1 : c.code ≡ 1 → entry c s j p o x y ≡ (o || ((eqb y c.role && bit s x) || (eqb x c.role && bit j y)))
  unfolding entry
  entry_1 e = rw e

  pub entry_2 : c.code ≡ 2 → entry c s j p o x y ≡ (o && not (eqb x c.role || eqb y c.role))
  unfolding entry
  entry_2 e = rw e

  pub entry_3 : c.code ≡ 3 → entry c s j p o x y ≡ (o || (pair c x y && p))
  unfolding entry
  entry_3 e = rw e

  pub entry_4 : c.code ≡ 4 → entry c s j p o x y ≡ (o && not (pair c x y && p))
  unfolding entry
  entry_4 e = rw e

  entry_5 : c.code ≡ 5 → entry c s j p o x y ≡ cond (pair c x y) p o
  unfolding entry
  entry_5 e = rw e

  -- codes past the fifth or below the first leave every entry,
  pub entry_none : (c.code < 1) ⊎ (5 < c.code) → entry c s j p o x y ≡ o
  unfolding entry
  entry_none h =
      rw (ne_eqb c.code 1 (λ e. omega (arith, h, e)), ne_eqb c.code 2 (λ e. omega (arith, h, e)), ne_eqb c.code 3 (λ e. omega (arith, h, e)), ne_eqb c.code 4 (λ e. omega (arith, h, e)), ne_eqb c.code 5 (λ e. omega (arith, h, e)))

  -- and an edge command every other pair
  pub entry_other : c.code ≢ 1 → c.code ≢ 2 → pair c x y ≡ false → entry c s j p o x y ≡ o
  unfolding entry
  entry_other e1 e2 d = rw (ne_eqb c.code 1 e1, ne_eqb c.code 2 e2, d) (same (eqb c.code 3) (eqb c.code 4) (eqb c.code 5))
    where
      same : (k3 k4 k5 : Bool) → cond k3 (o || false) (cond k4 (o && true) (cond k5 o o)) ≡ o
      same true k4 k5 = or-false o
      same false true k5 = and-true o
      same false false true = refl
      same false false false = refl

-- at the pair that the command names stands the entry of its senior and junior
pub named : (c : Command) (x y : ℕ) (t : List ℕ) → pair c x y ≡ true → bit (row t x) y ≡ bit (row t c.role) c.junior
named c x y t e =
    let p = eqb x c.role in
    let q = eqb y c.junior in ap₂ (λ (u v : ℕ). bit (row t u) v) (eqb-true x c.role (and_left p q e)) (eqb-true y c.junior (and_right p q e))

-- the role's own row gets the juniors
grow : (e q j o : Bool) → cond e ((o || q) || j) (o || q) ≡ (o || (q || (e && j)))
grow true q j o = or_assoc o q j
grow false q j o = rw (or-false q)

-- the role's own row is emptied
shrink : (e m o : Bool) → cond e false (o && not m) ≡ (o && not (e || m))
shrink true m o = sym (and-false o)
shrink false m o = refl

module _ (c : Command) (s j : ℕ) (p : Bool) (t : List ℕ) where
  pub adds : c.code ≡ 1 → (n r : List ℕ) (w : ℕ) → Entered t s c.role true n → ((y : ℕ) → bit w y ≡ (bit (row n c.role) y || bit j y))
      → RowSet n c.role w r → r ≡ table_after c s j p t
  adds e n r w hn hw hr = table_is c s j p t r hr.whole
      (λ x y l m.
      let o = bit (row t x) y in
      let q = eqb y c.role && bit s x in
      let old : bit (row n x) y ≡ (o || q) =
      hn.entries x y ∙ sym (put_in o (bit s x && same? c.role y) true refl) ∙ rw (is_role c.role y m, and_comm (bit s x) (eqb y c.role)) in
      hr.entries x y
      ∙ cond_when (same? c.role x) (bit w y) (bit (row n x) y || bit j y) (bit (row n x) y)
      (λ d. hw y ∙ ap (λ (k : ℕ). bit (row n k) y || bit j y) (sym (same_eq c.role x d)))
      ∙ rw (old, is_role c.role x l) (grow (eqb x c.role) q (bit j y) o)
      ∙ sym (entry_1 c s j p o x y e))

  pub removes : c.code ≡ 2 → (n r : List ℕ) → Left t c.role n → RowSet n c.role 0 r → r ≡ table_after c s j p t
  removes e n r hn hr = table_is c s j p t r hr.whole
      (λ x y l m.
      hr.entries x y
      ∙ rw (hn.entries x y l, bit_zero y, is_role c.role x l, is_role c.role y m) (shrink (eqb x c.role) (eqb y c.role) (bit (row t x) y))
      ∙ sym (entry_2 c s j p (bit (row t x) y) x y e))

  module _ (k : ℕ) (single : (x : ℕ) → bit k x ≡ same? c.role x) where
    -- the table whose named pair became q, where that is what the command's line says of each entry
    paired : (q : Bool) → ((x y : ℕ) → cond (pair c x y) q (bit (row t x) y) ≡ entry c s j p (bit (row t x) y) x y)
        → (r : List ℕ) → Entered t k c.junior q r → r ≡ table_after c s j p t
    paired q is r h = table_is c s j p t r h.whole
        (λ x y l m. h.entries x y ∙ rw (single x, is_role c.role x l, is_role c.junior y m) (is x y))

    pub links : c.code ≡ 3 → p ≡ true → (r : List ℕ) → Entered t k c.junior true r → r ≡ table_after c s j p t
    links e d = paired true (λ x y. let o = bit (row t x) y in
        sym (put_in o (pair c x y) true refl) ∙ (rw (d, and-true (pair c x y))) ∙ sym (entry_3 c s j p o x y e))

    pub unlinks : c.code ≡ 4 → p ≡ true → (r : List ℕ) → Entered t k c.junior false r → r ≡ table_after c s j p t
    unlinks e d = paired false (λ x y. let o = bit (row t x) y in
        sym (put_out o (pair c x y) false refl) ∙ (rw (d, and-true (pair c x y))) ∙ sym (entry_4 c s j p o x y e))

    pub changes : c.code ≡ 5 → (r : List ℕ) → Entered t k c.junior p r → r ≡ table_after c s j p t
    changes e = paired p (λ x y. sym (entry_5 c s j p (bit (row t x) y) x y e))

  -- a change to the part that the edge has changes nothing
  pub idles : c.code ≡ 5 → bit (row t c.role) c.junior ≡ p → IsTable t → t ≡ table_after c s j p t
  idles e h whole = table_is c s j p t t whole (λ x y l m. here x y (pair c x y) refl ∙ sym (entry_5 c s j p (bit (row t x) y) x y e))
    where
      here : (x y : ℕ) (q : Bool) → pair c x y ≡ q → bit (row t x) y ≡ cond q p (bit (row t x) y)
      here x y true d = named c x y t d ∙ h
      here x y false d = refl

  -- an edge command that names no part of the table leaves it,
  pub not_linked : c.code ≡ 3 → p ≡ false → IsTable t → t ≡ table_after c s j p t
  not_linked e h whole = table_is c s j p t t whole
      (λ x y l m. let o = bit (row t x) y in sym (entry_3 c s j p o x y e ∙ rw (h, and-false (pair c x y), or-false o)))

  pub not_unlinked : c.code ≡ 4 → p ≡ false → IsTable t → t ≡ table_after c s j p t
  not_unlinked e h whole = table_is c s j p t t whole
      (λ x y l m. let o = bit (row t x) y in sym (entry_4 c s j p o x y e ∙ rw (h, and-false (pair c x y), and-true o)))

  -- and so does a code past the fifth or below the first
  pub past_keeps : (c.code < 1) ⊎ (5 < c.code) → IsTable t → t ≡ table_after c s j p t
  past_keeps k whole = table_is c s j p t t whole (λ x y l m. sym (entry_none c s j p (bit (row t x) y) x y k))

  pub keeps : c.code ≢ 1 → c.code ≢ 2 → (c.code ≡ 3 → p ≡ false) → (c.code ≡ 4 → p ≡ false) → c.code ≢ 5 → IsTable t → t ≡ table_after c s j p t
  keeps e1 e2 e3 e4 e5 whole =
      ⊎_elim (λ a. let n = eqb-true c.code 3 a in not_linked n (e3 n) whole)
      (λ d. ⊎_elim (λ a. let n = eqb-true c.code 4 a in not_unlinked n (e4 n) whole)
      (λ e. past_keeps (⊎_elim inl (λ g. inr (omega (arith, g, e1, e2, e5, eqb-false c.code 3 d, eqb-false c.code 4 e))) (lt_or_ge c.code 1)) whole)
      (true_or_false (eqb c.code 4))) (true_or_false (eqb c.code 3))

-- ---- the live roles, and all three

module _ (c : Command) (s r : ℕ) (fits : r < 2 ^ 64) where
  pub born : c.code ≡ 1 → ((x : ℕ) → bit r x ≡ (bit s x || same? c.role x)) → r ≡ set_of (λ x. lives c (bit s x) x)
  unfolding lives
  born e h = is_set_of r _ fits (λ x l. h x ∙ rw (e, is_role c.role x l))

  pub gone : c.code ≡ 2 → ((x : ℕ) → bit r x ≡ (bit s x && not (same? c.role x))) → r ≡ set_of (λ x. lives c (bit s x) x)
  unfolding lives
  gone e h = is_set_of r _ fits (λ x l. h x ∙ rw (e, is_role c.role x l))

  pub living : c.code ≢ 1 → c.code ≢ 2 → ((x : ℕ) → bit r x ≡ bit s x) → r ≡ set_of (λ x. lives c (bit s x) x)
  unfolding lives
  living e1 e2 h = is_set_of r _ fits (λ x l. h x ∙ rw (ne_eqb c.code 1 e1, ne_eqb c.code 2 e2))

-- commands past the second leave them
pub live_stays : (t : Tables) (c : Command) → t.live < 2 ^ 64 → 3 ≤ c.code → t.live ≡ (after t c).live
unfolding after
live_stays t c fits l = living c t.live t.live fits (λ k. absurd (omega arith)) (λ k. absurd (omega arith)) (λ x. refl)

pub tables_are : (b : Tables) (c : Command) (live : ℕ) (i a : List ℕ) (p q : Bool) → live ≡ set_of (λ x. lives c (bit b.live x) x)
    → p ≡ has_i c.kind → i ≡ table_after c c.i_seniors c.i_juniors p b.i
    → q ≡ has_a c.kind → a ≡ table_after c c.a_seniors c.a_juniors q b.a
    → tables live i a ≡ after b c
unfolding after
tables_are b c live i a p q hl hp hi hq ha = rw (hl, hi, ha, hp, hq)

-- commands past the fifth leave the very tables
pub tables_stay : (t : Tables) (c : Command) → Shaped t → 5 < c.code → after t c ≡ t
unfolding after
tables_stay t c shaped h =
    sym (tables_are t c t.live t.i t.a (has_i c.kind) (has_a c.kind) (live_stays t c shaped.live_fits (omega (arith, h)))
    refl (stays _ _ _ t.i record { rows = shaped.i_rows; fits = shaped.i_fits })
    refl (stays _ _ _ t.a record { rows = shaped.a_rows; fits = shaped.a_fits }))
  where
    stays : (s j : ℕ) (p : Bool) (r : List ℕ) → IsTable r → r ≡ table_after c s j p r
    stays s j p r whole = table_is c s j p r r whole (λ x y l m. sym (entry_none c s j p (bit (row r x) y) x y (inr h)))
