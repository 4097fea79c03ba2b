-- What a command leaves of the rights. Assumes nothing.
use mathlib.Core.Path.{◌≡◌, refl, sym, ap, ◌∙◌, subst}
use mathlib.Core.Bool.{Bool, true, false, cond, not, ◌&&◌, ◌||◌, and-false, and-true, or-false}
use mathlib.Core.Logic.{◌⊎◌, inl, inr, ⊎_elim, ◌≢◌}
use mathlib.Core.List.{List}
use Prim.Native.Nat.{ℕ, ◌^◌, ◌≤◌, ◌<◌}
use native.Mathlib.Omega.{arith}
use lib.Dec.{eqb, lit<}
use lib.ListN.{set, length, length-set, get_or-eq_default}
use lib.Seq.{get_or-set_same, get_or-set_other, set-get_or, ext_get_or}
use borrow.Author.Tests.{eqb-true, eqb-false, eq-eqb, ne_eqb}
use Rattle.sets.specs.Sets.{bit, ◌is_in◌, digits, set_of}
use Rattle.sets.proofs.Bools.{true_or_false, or_cases, or_right, and_left, and_right, not_so, false_no, lt_or_ge}
use Rattle.sets.proofs.Digits.{bit_zero, bit_out, digits_fit, bit_digits}
use Rattle.sets.proofs.Laws.{same_bits, set_of_fits, bit_set_of, is_set_of, bit_lt}
use Rattle.hierarchy.specs.Tables.{Tables, AreBytes}
use Rattle.board.specs.Rights.{rights_of, RightsFit}
use Rattle.board.specs.declared.Command.{Command}
use Rattle.effects.specs.Effects.{lives, after}
use Rattle.effects.proofs.Edits.{list_of_length, list_of_row}
use Rattle.refusals.specs.Refusals.{Malformed, needed, Missing}
use Rattle.refusals.proofs.Trying.{role_lt, code_high, rights_lt}
use Rattle.commands.specs.RightsAfter.{holds, rights_after}
use Rattle.commands.proofs.SoundAfter.{lives_left, lives_kept}

-- ---- the effects, line by line

module _ (c : Command) (o : Bool) (x k : ℕ) where
  holds_1 : c.code ≡ 1 → holds c o x k ≡ (o && not (eqb x c.role))
  unfolding holds
  holds_1 e = rw e

  holds_2 : c.code ≡ 2 → holds c o x k ≡ (o && not (eqb x c.role))
  unfolding holds
  holds_2 e = rw e

  holds_6 : c.code ≡ 6 → holds c o x k ≡ (o || (eqb x c.role && bit c.rights k))
  unfolding holds
  holds_6 e = rw e

  holds_7 : c.code ≡ 7 → holds c o x k ≡ (o && not (eqb x c.role && bit c.rights k))
  unfolding holds
  holds_7 e = rw e

  holds_else : c.code ≢ 1 → c.code ≢ 2 → c.code ≢ 6 → c.code ≢ 7 → holds c o x k ≡ o
  unfolding holds
  holds_else e1 e2 e6 e7 = rw (ne_eqb c.code 1 e1, ne_eqb c.code 2 e2, ne_eqb c.code 6 e6, ne_eqb c.code 7 e7)

  -- every other role keeps its rights,
  holds_other : eqb x c.role ≡ false → holds c o x k ≡ o
  unfolding holds
  holds_other d = rw d (same (eqb c.code 1) (eqb c.code 2) (eqb c.code 6) (eqb c.code 7))
    where
      same : (k1 k2 k6 k7 : Bool) → cond k1 (o && true) (cond k2 (o && true) (cond k6 (o || false) (cond k7 (o && true) o))) ≡ o
      same true k2 k6 k7 = and-true o
      same false true k6 k7 = and-true o
      same false false true k7 = or-false o
      same false false false true = and-true o
      same false false false false = refl

  -- and who holds a right held it, or was given it
  holds_from : holds c o x k ≡ true → (o ≡ true) ⊎ ((c.code ≡ 6) × (x ≡ c.role) × (k is_in c.rights))
  unfolding holds
  holds_from h = ⊎_elim
      (λ e. let q = eqb-true c.code 6 e in ⊎_elim inl
      (λ w. inr (q, eqb-true x c.role (and_left (eqb x c.role) _ w), and_right (eqb x c.role) (bit c.rights k) w))
      (or_cases o _ (sym (holds_6 q) ∙ h)))
      (λ e. inl (less (eqb-false c.code 6 e)))
      (true_or_false (eqb c.code 6))
    where
      less : c.code ≢ 6 → o ≡ true
      less n =
          let u = not (eqb x c.role) in
          let v = not (eqb x c.role && bit c.rights k) in
          let w = o || (eqb x c.role && bit c.rights k) in
          go (eqb c.code 1) (eqb c.code 2) (eqb c.code 7) u u v
          (subst (λ (p : Bool). cond (eqb c.code 1) (o && u) (cond (eqb c.code 2) (o && u) (cond p w (cond (eqb c.code 7) (o && v) o))) ≡ true) (ne_eqb c.code 6 n) h)
        where
          go : (k1 k2 k7 p q r : Bool) → cond k1 (o && p) (cond k2 (o && q) (cond k7 (o && r) o)) ≡ true → o ≡ true
          go true k2 k7 p q r g = and_left o p g
          go false true k7 p q r g = and_left o q g
          go false false true p q r g = and_left o r g
          go false false false p q r g = g

-- ---- the rights of the role named

module _ (c : Command) (held r : ℕ) where
  abbrev Named : Type 0
  Named = r ≡ set_of (λ k. holds c (bit held k) c.role k)

  itself : eqb c.role c.role ≡ true
  itself = eq-eqb c.role c.role refl

  -- a new role has none, and of a removed one none is left
  emptied : r ≡ 0 → ((o : Bool) (k : ℕ) → holds c o c.role k ≡ (o && not (eqb c.role c.role))) → Named
  emptied z is = is_set_of r _ (subst (λ (n : ℕ). n < 2 ^ 64) (sym z) (lit< tt)) (λ k l. ap (λ (n : ℕ). bit n k) z ∙ bit_zero k ∙ sym (is (bit held k) k ∙ rw itself (and-false (bit held k))))

  pub new_none : c.code ≡ 1 → r ≡ 0 → Named
  new_none e z = emptied z (λ o k. holds_1 c o c.role k e)

  pub removed_none : c.code ≡ 2 → r ≡ 0 → Named
  removed_none e z = emptied z (λ o k. holds_2 c o c.role k e)

  module _ (fits : r < 2 ^ 64) where
    pub given : c.code ≡ 6 → ((k : ℕ) → bit r k ≡ (bit held k || bit c.rights k)) → Named
    given e h = is_set_of r _ fits (λ k l. h k ∙ sym (holds_6 c (bit held k) c.role k e ∙ rw itself))

    pub taken : c.code ≡ 7 → ((k : ℕ) → bit r k ≡ (bit held k && not (bit c.rights k))) → Named
    taken e h = is_set_of r _ fits (λ k l. h k ∙ sym (holds_7 c (bit held k) c.role k e ∙ rw itself))

    pub untouched : c.code ≢ 1 → c.code ≢ 2 → c.code ≢ 6 → c.code ≢ 7 → r ≡ held → Named
    untouched e1 e2 e6 e7 z = is_set_of r _ fits (λ k l. ap (λ (n : ℕ). bit n k) z ∙ sym (holds_else c (bit held k) c.role k e1 e2 e6 e7))

-- ---- the row of rights afterwards

module _ (c : Command) (rights : List ℕ) where
  pub rights_length : length (rights_after c rights) ≡ 64
  unfolding rights_after
  rights_length = list_of_length 64 _

  rights_at_lem : (x : ℕ) → x < 64 → rights_of (rights_after c rights) x ≡ set_of (λ k. holds c (bit (rights_of rights x) k) x k)
  unfolding rights_after
  rights_at_lem x l = list_of_row 64 _ x l

  -- it is the row of before with another byte for the role named
  pub rights_set : AreBytes rights → c.role < 64 → (v : ℕ) → v ≡ set_of (λ k. holds c (bit (rights_of rights c.role) k) c.role k) → set rights c.role v ≡ rights_after c rights
  rights_set whole l v is = ext_get_or 0 _ _ (length-set rights c.role v ∙ whole.rows ∙ sym rights_length)
      (λ x m. let n : x < 64 = omega (arith, m, length-set rights c.role v, whole.rows) in ⊎_elim
      (λ e. let q = eqb-true x c.role e in rw q (get_or-set_same rights c.role v 0 (omega (arith, whole.rows, l)) ∙ is ∙ sym (rights_at_lem c.role l)))
      (λ e. get_or-set_other rights c.role x v 0 (λ q. eqb-false x c.role e q)
      ∙ is_set_of (rights_of rights x) _ (omega (arith, whole.fits x)) (λ k _. sym (holds_other c (bit (rights_of rights x) k) x k e)) ∙ sym (rights_at_lem x n))
      (true_or_false (eqb x c.role)))

  rights_bit : (x k : ℕ) → k is_in rights_of (rights_after c rights) x → (x < 64) × (holds c (bit (rights_of rights x) k) x k ≡ true)
  rights_bit x k e =
      let l : x < 64 = ⊎_elim (λ m. m)
      (λ g. absurd (false_no (bit_zero k) (ap (λ (n : ℕ). bit n k) (sym (get_or-eq_default (rights_after c rights) 0 (omega (arith, g, rights_length)))) ∙ e)))
      (lt_or_ge x 64) in
      let f = subst (λ (n : ℕ). k is_in n) (rights_at_lem x l) e in
      (l, sym (bit_set_of _ k (bit_lt 64 (set_of_fits _) f)) ∙ f)

-- a set of members below n is below 2 ^ n
small : (n s : ℕ) → ((k : ℕ) → k is_in s → k < n) → s < 2 ^ n
small n s h = subst (λ (t : ℕ). t < 2 ^ n) (sym (same_bits s (digits n (bit s)) here)) (digits_fit n (bit s))
  where
    here : (k : ℕ) → bit s k ≡ bit (digits n (bit s)) k
    here k = ⊎_elim
        (λ l. sym (bit_digits n (bit s) k l))
        (λ g. not_so (bit s k) (λ e. absurd (omega (arith, g, h k e))) ∙ sym (bit_out n (digits n (bit s)) k (digits_fit n (bit s)) g)) (lt_or_ge k n)

few : (s k : ℕ) → s ≤ 31 → k is_in s → k < 5
few s k l e = bit_lt 5 {s = s} {x = k} (omega (arith, l)) e

empty : (s : ℕ) → ((k : ℕ) → k is_in s → ⊥) → s ≡ 0
empty s h = same_bits s 0 (λ k. not_so (bit s k) (h k) ∙ sym (bit_zero k))

-- the rights of the role named are a byte still
pub rights_small : (c : Command) → (Malformed c → ⊥) → (held r : ℕ) → held < 256 → r ≡ set_of (λ k. holds c (bit held k) c.role k) → r < 256
rights_small c formed held r h is = small 8 r (λ k e.
    let f = subst (λ (n : ℕ). k is_in n) is e in ⊎_elim
    (λ o. bit_lt 8 {s = held} {x = k} h o)
    (λ w. let l = few c.rights k (let g = rights_lt c formed (omega (arith, w.0)) in omega (arith, g)) w.2 in omega (arith, l))
    (holds_from c (bit held k) c.role k (sym (bit_set_of _ k (bit_lt 64 (set_of_fits _) f)) ∙ f)))

-- what lived and does not was removed
gone : (c : Command) (o : Bool) (x : ℕ) → o ≡ true → lives c o x ≡ false → (c.code ≡ 2) × (x ≡ c.role)
gone c o x h e = ⊎_elim
    (λ w. (eqb-true c.code 2 w, ⊎_elim (eqb-true x c.role) (λ f. absurd (false_no e (lives_left c o x (eqb-true c.code 2 w) h (eqb-false x c.role f)))) (true_or_false (eqb x c.role))))
    (λ w. absurd (false_no e (lives_kept c o x (eqb-false c.code 2 w) h)))
    (true_or_false (eqb c.code 2))

-- The rights that a command leaves fit the live roles that it leaves.
pub rights_fit : (t : Tables) (rights : List ℕ) (c : Command) → RightsFit t.live rights → (Malformed c → ⊥) → (Missing t c → ⊥) → RightsFit (after t c).live (rights_after c rights)
unfolding after needed
rights_fit t rights c fit formed present = record {
  rows = rights_length c rights;
  five = λ x. let l = small 5 _ (λ k e. ⊎_elim
      (λ o. few (rights_of rights x) k (fit.five x) o)
      (λ w. few c.rights k (let l = rights_lt c formed (omega (arith, w.0)) in omega (arith, l)) w.2)
      (holds_from c _ x k (rights_bit c rights x k e).1)) in omega (arith, l);
  living = λ x d. empty _ (λ k e.
      let w = rights_bit c rights x k e in
      let dead : lives c (bit t.live x) x ≡ false = sym (bit_set_of _ x w.0) ∙ d in
      dies x k w.1 dead);
}
  where
    needs_role : c.code ≡ 6 → needed c c.role ≡ true
    needs_role e = rw (e, eq-eqb c.role c.role refl) (or_right (eqb c.role c.actor) _ (or_right false _ refl))

    dies : (x k : ℕ) → holds c (bit (rights_of rights x) k) x k ≡ true → lives c (bit t.live x) x ≡ false → ⊥
    dies x k h d = ⊎_elim
        (λ o. let g = gone c (bit t.live x) x (lived x k o) d in
        false_no (holds_2 c _ x k g.0 ∙ rw (eq-eqb x c.role g.1) (and-false (bit (rights_of rights x) k))) h)
        (λ w. let g = gone c (bit t.live x) x (subst (λ (y : ℕ). y is_in t.live) (sym w.1) (there w.0)) d in omega (arith, w.0, g.0))
        (holds_from c _ x k h)
      where
        lived : (x k : ℕ) → k is_in rights_of rights x → x is_in t.live
        lived x k o = ⊎_elim (λ m. m) (λ n. absurd (false_no (bit_zero k) (subst (λ (s : ℕ). k is_in s) (fit.living x n) o))) (true_or_false (bit t.live x))

        there : c.code ≡ 6 → c.role is_in t.live
        there e = ⊎_elim (λ m. m) (λ n. absurd (present record { who = c.role; is_needed = needs_role e; absent = n })) (true_or_false (bit t.live c.role))

-- ---- commands that leave the rights: 3, 4 and 5, and 6 and 7 where they name no right

module _ (c : Command) (formed : Malformed c → ⊥) {live : ℕ} {rights : List ℕ} (fit : RightsFit live rights) where
  -- it is enough that the role named keeps its byte
  kept : rights_of rights c.role ≡ set_of (λ k. holds c (bit (rights_of rights c.role) k) c.role k) → rights_after c rights ≡ rights
  kept same =
      sym (rights_set c rights record { rows = fit.rows; fits = λ x. let l = fit.five x in omega arith } (role_lt c formed) (rights_of rights c.role) same)
      ∙ set-get_or rights c.role 0

  fits_row : rights_of rights c.role < 2 ^ 64
  fits_row = let l = fit.five c.role in omega arith

  pub rights_stay : 3 ≤ c.code → c.code ≤ 5 → rights_after c rights ≡ rights
  rights_stay l h = kept (untouched c _ _ fits_row (λ e. omega (arith, e)) (λ e. omega (arith, e)) (λ e. omega (arith, e)) (λ e. omega (arith, e)) refl)

  pub idle_rights : 5 < c.code → c.rights ≡ 0 → rights_after c rights ≡ rights
  idle_rights l z = ⊎_elim
      (λ (h : 6 < c.code). kept (taken c _ _ fits_row (omega (arith, code_high c formed)) (λ k. sym (rw (z, bit_zero k) (and-true (bit (rights_of rights c.role) k))))))
      (λ (h : c.code ≤ 6). kept (given c _ _ fits_row (omega arith) (λ k. sym (rw (z, bit_zero k) (or-false (bit (rights_of rights c.role) k))))))
      (lt_or_ge 6 c.code)
