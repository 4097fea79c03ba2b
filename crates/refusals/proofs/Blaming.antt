-- Who offends, and why: one role with one cause, and only where the scope condition fails. Assumes nothing.
use mathlib.Core.Path.{◌≡◌, refl, sym, ap, ◌∙◌, subst, subst₂}
use mathlib.Core.Bool.{Bool, true, false, not, ◌&&◌, false≢true}
use mathlib.Core.Logic.Iff
use mathlib.Core.Logic.{◌⊎◌, inl, inr, ⊎_elim, ◌≢◌, ◌↔◌, dite}
use mathlib.Core.List.{List, [], ◌∷◌, ◌++◌}
use Prim.Native.Nat.{ℕ, ◌≤◌, ◌<◌}
use Rattle.std.specs.Prelude.{Option, Some, None, MatchOption}
use Rattle.std.specs.Option.{option_or, IsSome}
use native.Mathlib.Decide.{ℕ_discrete}
use native.Mathlib.Omega.{arith}
use lib.Dec.{eqb, leb}
use borrow.Author.Tests.{eqb-true, eq-eqb, ne_eqb, not-true}
use Rattle.sets.specs.Sets.{bit, ◌is_in◌, ◌are_in◌, same?}
use Rattle.sets.proofs.Bools.{and_left, and_right, and_both, false_no, not_so}
use Rattle.sets.proofs.Laws.{same_is, same_eq}
use Rattle.hierarchy.proofs.Checks.{and_is, or_is, eq_is, le_is, same_test}
use Rattle.board.specs.Answers.{Answer, plain, cause_number, cause_way, barred as cause_of}
use Rattle.board.specs.declared.Command.{Command}
use Rattle.hierarchy.specs.Views.{ScopeBy, OutOfScopeBy, BarBy}
use Rattle.hierarchy.specs.Views.{OutOfScopeBy.not_derived, OutOfScopeBy.in_the_way}
use Rattle.scopes.specs.Bars.{bar_cause, bar_way}
use Rattle.scopes.specs.declared.Bar.{Bar}
use Rattle.scopes.specs.declared.Bar.TheVariants.{NotDerived, InTheWay}
use Rattle.refusals.specs.Trusting.{BlamesBy}
use Rattle.refusals.specs.declared.offending.Offender.{Offender}
use Rattle.refusals.specs.Refusals.{LowestOut, names_edge, scoped, strictly, InScope, conditions, AsAsked, Breaks, Offends, Because, Blames, Names}
use Rattle.refusals.specs.Refusals.{Offends.here, Offends.later, Because.out, Because.itself}

abbrev pub Conditions : Type 0
Conditions = List ((ℕ → Bool) × Bool)

-- ---- one role, with one cause

offends_one : {In : ℕ → ℕ → Type 0} {a : ℕ} {ps : Conditions} {x y : ℕ} {s t : Bool} → Offends In a ps x s → Offends In a ps y t → (x ≡ y) × (s ≡ t)
offends_one (here h l) (here g m) = (omega (arith, l _ g, m _ h), refl)
offends_one (here h l) (later n g) = absurd (n _ h)
offends_one (later n h) (here g m) = absurd (n _ g)
offends_one (later n h) (later m g) = offends_one h g

module _ {Out : ℕ → ℕ → ℕ → ℕ → Type 0} (one : (a x c d v w : ℕ) → Out a x c v → Out a x d w → (c ≡ d) × (v ≡ w)) where
  because_one : {a x c d v w : ℕ} {s : Bool} → Because Out a x s c v → Because Out a x s d w → (c ≡ d) × (v ≡ w)
  because_one (out n h) (out m g) = one _ _ _ _ _ _ h g
  because_one (out n h) (itself e) = absurd (n refl e)
  because_one (itself e) (out n h) = absurd (n refl e)
  because_one (itself e) (itself f) = (refl, refl)

  pub blames_one : {In : ℕ → ℕ → Type 0} {c : Command} {m n : Answer} → m.number ≡ n.number → Blames In Out c m → Blames In Out c n → m ≡ n
  blames_one {c = c} {m} {n} e h g =
      let q = offends_one h.offends g.offends in
      let r = because_one (subst₂ (λ (x : ℕ) (s : Bool). Because Out c.actor x s m.cause m.way) q.0 q.1 h.because) g.because in
      λ k. record { number = e k; who = q.0 k; cause = r.0 k; way = r.1 k }

-- ---- what an answer names

module _ {Blame : Answer → Type 0} where
  pub names_plain : (n : ℕ) → n ≢ 6 → Names Blame (plain n)
  names_plain n d = record { six = λ e. absurd (d e); other = λ _. refl }

  pub names_six : {m : Answer} → m.number ≡ 6 → Blame m → Names Blame m
  names_six e h = record { six = λ _. h; other = λ d. absurd (d e) }

  pub names_one : {m n : Answer} → (Blame m → Blame n → m ≡ n) → m.number ≡ n.number → Names Blame m → Names Blame n → m ≡ n
  names_one {m} {n} one e h g = dite (ℕ_discrete m.number 6)
      (λ six. one (h.six six) (g.six (sym e ∙ six)))
      (λ d. h.other d ∙ ap plain e ∙ sym (g.other (λ six. d (e ∙ six))))

-- ---- by two meanings of scope that agree on the actor

module _ (In In' : ℕ → ℕ → Type 0) (a : ℕ) (same : (x : ℕ) → In a x ↔ In' a x) where
  there : {those : ℕ → Bool} {s : Bool} {x : ℕ} → Breaks In a those s x → Breaks In' a those s x
  there {x = x} h = record { among = h.among; wrong = λ k. h.wrong ((same x).1 k.0, k.1) }

  back : {those : ℕ → Bool} {s : Bool} {x : ℕ} → Breaks In' a those s x → Breaks In a those s x
  back {x = x} h = record { among = h.among; wrong = λ k. h.wrong ((same x).0 k.0, k.1) }

  pub offends_alike : {ps : Conditions} {x : ℕ} {s : Bool} → Offends In a ps x s → Offends In' a ps x s
  offends_alike (here h l) = here (there h) (λ y k. l y (back k))
  offends_alike (later n h) = later (λ y k. n y (back k)) (offends_alike h)

module _ {Out Out' : ℕ → ℕ → ℕ → ℕ → Type 0} where
  because_alike : {a x c w : ℕ} {s : Bool} → ((x c w : ℕ) → Out a x c w → Out' a x c w) → Because Out a x s c w → Because Out' a x s c w
  because_alike same (out n h) = out n (same _ _ _ h)
  because_alike same (itself e) = itself e

  pub blames_alike : {In In' : ℕ → ℕ → Type 0} {m : Answer} (c : Command) → ((x : ℕ) → In c.actor x ↔ In' c.actor x) → ((x k w : ℕ) → Out c.actor x k w → Out' c.actor x k w)
      → Blames In Out c m → Blames In' Out' c m
  blames_alike {In} {In'} c scope outside h = record { strict = h.strict; offends = offends_alike In In' c.actor scope h.offends; because = because_alike outside h.because }

-- ---- row 6, condition by condition

-- the code names an edge
abbrev pub OnEdge : Command → Type 0
OnEdge c = (3 ≤ c.code) × (c.code ≤ 5)

pub edge_is : (c : Command) → (names_edge c ≡ true) ↔ OnEdge c
edge_is c = and_is (le_is 3 c.code) (λ _. le_is c.code 5)

-- of whom each condition is, and whose scope is asked for
module _ (c : Command) (x : ℕ) where
  pub at_role : ((leb 2 c.code && eqb x c.role) ≡ true) ↔ ((2 ≤ c.code) × (x ≡ c.role))
  at_role = and_is (le_is 2 c.code) (λ _. eq_is x c.role)

  pub at_junior : ((names_edge c && eqb x c.junior) ≡ true) ↔ (OnEdge c × (x ≡ c.junior))
  at_junior = and_is (edge_is c) (λ _. eq_is x c.junior)

  pub at_set : (s : ℕ) → ((eqb c.code 1 && bit s x) ≡ true) ↔ ((c.code ≡ 1) × (x is_in s))
  at_set s = and_is (eq_is c.code 1) (λ _. Iff.rfl)

  abbrev Plainly : Type 0
  Plainly = ((c.code ≡ 1) × ((x is_in c.a_seniors) ⊎ (x is_in c.i_seniors))) ⊎ (((3 ≤ c.code) × (x ≡ c.role)) ⊎ (OnEdge c × (x ≡ c.junior)))

  abbrev Strictly : Type 0
  Strictly = ((c.code ≡ 1) × ((x is_in c.a_juniors) ⊎ (x is_in c.i_juniors))) ⊎ ((c.code ≡ 2) × (x ≡ c.role))

  scoped_is : (scoped c x ≡ true) ↔ Plainly
  unfolding scoped
  scoped_is = or_is (and_is (eq_is c.code 1) (λ _. or_is Iff.rfl Iff.rfl)) (or_is (and_is (le_is 3 c.code) (λ _. eq_is x c.role)) at_junior)

  strictly_is : (strictly c x ≡ true) ↔ Strictly
  unfolding strictly
  strictly_is = or_is (and_is (eq_is c.code 1) (λ _. or_is Iff.rfl Iff.rfl)) (and_is (eq_is c.code 2) (λ _. eq_is x c.role))

-- the conditions of command 1
abbrev sets : Command → Conditions
sets c =
    (λ x. eqb c.code 1 && bit c.a_seniors x, false)
    ∷ (λ x. eqb c.code 1 && bit c.i_seniors x, false)
    ∷ (λ x. eqb c.code 1 && bit c.a_juniors x, true)
    ∷ (λ x. eqb c.code 1 && bit c.i_juniors x, true)
    ∷ []

-- nobody breaks a condition
abbrev pub Clear : (ℕ → ℕ → Type 0) → ℕ → Conditions → Type 0
Clear In a [] = Unit {0}
Clear In a (p ∷ ps) = ((y : ℕ) → p.0 y ≡ true → AsAsked In a p.1 y) × Clear In a ps

module _ {In : ℕ → ℕ → Type 0} (c : Command) where
  -- which is the scope condition,
  pub clear_scope : Clear In c.actor (conditions c) → InScope In c
  clear_scope h = record {
    scope = λ x e. ⊎_elim
        (λ k. ⊎_elim (λ m. (h.1.1.0 x ((at_set c x c.a_seniors).1 (k.0, m))).0) (λ m. (h.1.1.1.0 x ((at_set c x c.i_seniors).1 (k.0, m))).0) k.1)
        (⊎_elim (λ m. (h.0 x ((at_role c x).1 (omega (arith, m.0), m.1))).0) (λ m. (h.1.0 x ((at_junior c x).1 m)).0))
        ((scoped_is c x).0 e);
    strict = λ x e. ⊎_elim
        (λ k. ⊎_elim (λ m. both (h.1.1.1.1.0 x ((at_set c x c.a_juniors).1 (k.0, m))) refl) (λ m. both (h.1.1.1.1.1.0 x ((at_set c x c.i_juniors).1 (k.0, m))) refl) k.1)
        (λ k. both (h.0 x ((at_role c x).1 (omega (arith, k.0), k.1))) (eq-eqb c.code 2 k.0))
        ((strictly_is c x).0 e);
  }
    where
      both : {s : Bool} {x : ℕ} → AsAsked In c.actor s x → s ≡ true → In c.actor x × (c.actor ≢ x)
      both q e = (q.0, q.1 e)

  -- both ways
  scope_clear : InScope In c → Clear In c.actor (conditions c)
  scope_clear h = (
    λ y e. let k = (at_role c y).0 e in dite (ℕ_discrete c.code 2)
        (λ two. strict _ y (inr (two, k.1)))
        (λ d. (h.scope y ((scoped_is c y).1 (inr (inl (omega (arith, k.0, d), k.1)))), λ two. absurd (d (eqb-true c.code 2 two)))),
    (
      λ y e. plainly y (inr (inr ((at_junior c y).0 e))),
      (
        λ y e. let k = (at_set c y c.a_seniors).0 e in plainly y (inl (k.0, inl k.1)),
        (
          λ y e. let k = (at_set c y c.i_seniors).0 e in plainly y (inl (k.0, inr k.1)),
          (
            λ y e. let k = (at_set c y c.a_juniors).0 e in strict _ y (inl (k.0, inl k.1)),
            (λ y e. let k = (at_set c y c.i_juniors).0 e in strict _ y (inl (k.0, inr k.1)), tt),
          ),
        ),
      ),
    ),
  )
    where
      plainly : (y : ℕ) → Plainly c y → AsAsked In c.actor false y
      plainly y k = (h.scope y ((scoped_is c y).1 k), λ e. absurd (false≢true e))

      strict : (s : Bool) (y : ℕ) → Strictly c y → AsAsked In c.actor s y
      strict s y k = let q = h.strict y ((strictly_is c y).1 k) in (q.0, λ _. q.1)

-- nobody offends where all is clear
offends_clear : (In : ℕ → ℕ → Type 0) (a : ℕ) {ps : Conditions} {x : ℕ} {s : Bool} → Offends In a ps x s → Clear In a ps → ⊥
offends_clear In a (here h l) k = h.wrong (k.0 _ h.among)
offends_clear In a (later n h) k = offends_clear In a h k.1

-- Where somebody offends the scope condition fails.
pub offends_out : {In : ℕ → ℕ → Type 0} (c : Command) {x : ℕ} {s : Bool} → Offends In c.actor (conditions c) x s → InScope In c → ⊥
offends_out {In} c h k = offends_clear In c.actor h (scope_clear c k)

-- ---- the first that offends, condition by condition

past : {In : ℕ → ℕ → Type 0} {a : ℕ} {those : ℕ → Bool} {asked s : Bool} {ps : Conditions} {x : ℕ}
    → ((y : ℕ) → those y ≡ true → AsAsked In a asked y) → Offends In a ps x s → Offends In a ((those, asked) ∷ ps) x s
past h k = later (λ y o. o.wrong (h y o.among)) k

-- the actor's scope as a set, and its strict scope: what is asked of a member
abbrev InSet : ℕ → ℕ → ℕ → Type 0
InSet all a x = x is_in all

module _ (all a : ℕ) where
  plain_asked : (y : ℕ) → (y is_in all) ↔ AsAsked (InSet all) a false y
  plain_asked y = (λ m. (m, λ e. absurd (false≢true e)), λ k. k.0)

  pub strict_asked : (w : ℕ) → a < 64 → ((x : ℕ) → bit w x ≡ (bit all x && not (same? a x))) → (y : ℕ) → (y is_in w) ↔ AsAsked (InSet all) a true y
  strict_asked w l h y = (
    λ m. let k = sym (h y) ∙ m in (and_left (bit all y) _ k, λ _ e. false_no (not-true _ (and_right (bit all y) (not (same? a y)) k)) (same_is a y l ∙ eq-eqb y a (sym e))),
    λ k. h y ∙ and_both (bit all y) (not (same? a y)) k.0 (ap not (not_so (same? a y) (λ e. k.1 refl (sym (same_eq a y e))))),
  )

-- what was looked through so far: nobody offends, or this role does first
abbrev pub Looked : (ℕ → ℕ → Type 0) → ℕ → Conditions → Option Offender → Type 0
Looked In a ps None = Clear In a ps
Looked In a ps (Some o) = (o.role < 64) × Offends In a ps o.role o.strict

module _ (In : ℕ → ℕ → Type 0) (a : ℕ) where
  offends_before : {ps : Conditions} (qs : Conditions) {x : ℕ} {s : Bool} → Offends In a ps x s → Offends In a (ps ++ qs) x s
  offends_before qs (here h l) = here h l
  offends_before qs (later n h) = later n (offends_before qs h)

  offends_after : (ps : Conditions) {qs : Conditions} {x : ℕ} {s : Bool} → Clear In a ps → Offends In a qs x s → Offends In a (ps ++ qs) x s
  offends_after [] k h = h
  offends_after (p ∷ ps) k h = past k.0 (offends_after ps k.1 h)

  clear_both : (ps qs : Conditions) → Clear In a ps → Clear In a qs → Clear In a (ps ++ qs)
  clear_both [] qs k l = l
  clear_both (p ∷ ps) qs k l = (k.0, clear_both ps qs k.1 l)

  -- one look after the other
  pub looked_or : (ps qs : Conditions) (p q : Option Offender) → Looked In a ps p → Looked In a qs q → Looked In a (ps ++ qs) (option_or p q)
  looked_or ps qs (Some o) q h k = (h.0, offends_before qs h.1)
  looked_or ps qs None (Some o) h k = (k.0, offends_after ps h k.1)
  looked_or ps qs None None h k = clear_both ps qs h k

  -- and none left
  pub looked_then : (ps qs : Conditions) (r : Option Offender) → Looked In a ps r → Clear In a qs → Looked In a (ps ++ qs) r
  looked_then ps qs None h k = clear_both ps qs h k
  looked_then ps qs (Some o) h k = (h.0, offends_before qs h.1)

  -- a condition of the members of `s`, where those of `w` are as is asked
  pub looked_set : (those : ℕ → Bool) (strict : Bool) (s w : ℕ) (r : Option Offender) → ((y : ℕ) → (those y ≡ true) ↔ (y is_in s)) → ((y : ℕ) → (y is_in w) ↔ AsAsked In a strict y)
      → MatchOption r (s are_in w) (λ o. LowestOut s w o.role × (o.strict ≡ strict)) → Looked In a ((those, strict) ∷ []) r
  looked_set those strict s w None is asked h = (λ y e. (asked y).0 (h y ((is y).0 e)), tt)
  looked_set those strict s w (Some o) is asked h = (
    h.0.role,
    subst (Offends In a ((those, strict) ∷ []) o.role) (sym h.1)
        (here (record { among = (is o.role).1 h.0.among; wrong = λ k. h.0.out ((asked o.role).1 k) }) (λ y b. h.0.least y ((is y).0 b.among) (λ m. b.wrong ((asked y).0 m)))),
  )

-- the members of a role alone
one_member : (r s : ℕ) → r < 64 → ((y : ℕ) → bit s y ≡ same? r y) → (y : ℕ) → (y is_in s) ↔ (y ≡ r)
one_member r s l is y = same_test (is y ∙ same_is r y l) (eq_is y r)

-- all conditions looked through
module _ (all : ℕ) (c : Command) where
  abbrev Through : Option Offender → Type 0
  Through = Looked (InSet all) c.actor (conditions c)

  pub looked_all : (r : Option Offender) → Through r → MatchOption r (InScope (InSet all) c) (λ o. (o.role < 64) × Offends (InSet all) c.actor (conditions c) o.role o.strict)
  looked_all None k = clear_scope c k
  looked_all (Some o) k = k

  -- a look at one set, as it is asked of it
  abbrev OutOf : ℕ → ℕ → Bool → Option Offender → Type 0
  OutOf s w strict r = MatchOption r (s are_in w) (λ o. LowestOut s w o.role × (o.strict ≡ strict))

  -- the conditions of sets are of nobody but for command 1, and that of a junior but for an edge
  none_of : c.code ≢ 1 → (s : ℕ) {strict : Bool} (y : ℕ) → (eqb c.code 1 && bit s y) ≡ true → AsAsked (InSet all) c.actor strict y
  none_of n s y e = absurd (n ((at_set c y s).0 e).0)

  no_junior : (OnEdge c → ⊥) → (y : ℕ) → (names_edge c && eqb y c.junior) ≡ true → AsAsked (InSet all) c.actor false y
  no_junior n y e = absurd (n ((at_junior c y).0 e).0)

  no_sets : c.code ≢ 1 → Clear (InSet all) c.actor (sets c)
  no_sets n = (none_of n c.a_seniors, (none_of n c.i_seniors, (none_of n c.a_juniors, (none_of n c.i_juniors, tt))))

  -- the condition of the role, and that of the junior
  abbrev of_role : (ℕ → Bool) × Bool
  of_role = (λ x. leb 2 c.code && eqb x c.role, eqb c.code 2)

  abbrev of_junior : (ℕ → Bool) × Bool
  of_junior = (λ x. names_edge c && eqb x c.junior, false)

  look_role : 2 ≤ c.code → c.role < 64 → (s w : ℕ) (strict : Bool) → strict ≡ eqb c.code 2 → (r : Option Offender) → ((y : ℕ) → bit s y ≡ same? c.role y)
      → ((y : ℕ) → (y is_in w) ↔ AsAsked (InSet all) c.actor strict y) → OutOf s w strict r → Looked (InSet all) c.actor (of_role ∷ []) r
  look_role low l s w strict e r is asked h =
      subst (λ (k : Bool). Looked (InSet all) c.actor ((λ x. leb 2 c.code && eqb x c.role, k) ∷ []) r) e
      (looked_set (InSet all) c.actor _ strict s w r (λ y. Iff.trans (at_role c y) (Iff.trans (λ k. k.1, λ q. (low, q)) (Iff.symm (one_member c.role s l is y)))) asked h)

  look_junior : OnEdge c → c.junior < 64 → (s : ℕ) (r : Option Offender) → ((y : ℕ) → bit s y ≡ same? c.junior y) → OutOf s all false r → Looked (InSet all) c.actor (of_junior ∷ []) r
  look_junior edge l s r is h =
      looked_set (InSet all) c.actor _ false s all r (λ y. Iff.trans (at_junior c y) (Iff.trans (λ k. k.1, λ q. (edge, q)) (Iff.symm (one_member c.junior s l is y)))) (plain_asked all c.actor) h

  module _ (l : c.actor < 64) (own : ℕ) (own_is : (y : ℕ) → bit own y ≡ (bit all y && not (same? c.actor y))) where
    -- command 1 looks through its sets,
    pub looked_1 : c.code ≡ 1 → (p q r s : Option Offender) → OutOf c.a_seniors all false p → OutOf c.i_seniors all false q → OutOf c.a_juniors own true r → OutOf c.i_juniors own true s
        → Through (option_or (option_or (option_or p q) r) s)
    looked_1 one p q r s hp hq hr hs =
        looked_or (InSet all) c.actor (of_role ∷ of_junior ∷ []) (sets c) None (option_or (option_or (option_or p q) r) s)
        (λ y e. absurd (omega (arith, one, ((at_role c y).0 e).0)), (no_junior (λ k. omega (arith, one, k.0)), tt))
        (looked_or (InSet all) c.actor (up_a ∷ up_i ∷ down_a ∷ []) (down_i ∷ []) (option_or (option_or p q) r) s
        (looked_or (InSet all) c.actor (up_a ∷ up_i ∷ []) (down_a ∷ []) (option_or p q) r
        (looked_or (InSet all) c.actor (up_a ∷ []) (up_i ∷ []) p q
        (look c.a_seniors all false (plain_asked all c.actor) p hp) (look c.i_seniors all false (plain_asked all c.actor) q hq))
        (look c.a_juniors own true strict r hr)) (look c.i_juniors own true strict s hs))
      where
        strict : (y : ℕ) → (y is_in own) ↔ AsAsked (InSet all) c.actor true y
        strict = strict_asked all c.actor own l own_is

        up_a : (ℕ → Bool) × Bool
        up_a = (λ x. eqb c.code 1 && bit c.a_seniors x, false)

        up_i : (ℕ → Bool) × Bool
        up_i = (λ x. eqb c.code 1 && bit c.i_seniors x, false)

        down_a : (ℕ → Bool) × Bool
        down_a = (λ x. eqb c.code 1 && bit c.a_juniors x, true)

        down_i : (ℕ → Bool) × Bool
        down_i = (λ x. eqb c.code 1 && bit c.i_juniors x, true)

        look : (s w : ℕ) (k : Bool) → ((y : ℕ) → (y is_in w) ↔ AsAsked (InSet all) c.actor k y) → (r : Option Offender) → OutOf s w k r → Looked (InSet all) c.actor ((λ x. eqb c.code 1 && bit s x, k) ∷ []) r
        look s w k asked r h = looked_set (InSet all) c.actor _ k s w r (λ y. Iff.trans (at_set c y s) (λ m. m.1, λ m. (one, m))) asked h

    -- command 2 at its role, strictly,
    pub looked_2 : c.code ≡ 2 → c.role < 64 → (s : ℕ) (r : Option Offender) → ((y : ℕ) → bit s y ≡ same? c.role y) → OutOf s own true r → Through r
    looked_2 two m s r is h =
        looked_then (InSet all) c.actor (of_role ∷ []) (of_junior ∷ sets c) r
        (look_role (omega (arith, two)) m s own true (sym (eq-eqb c.code 2 two)) r is (strict_asked all c.actor own l own_is) h)
        (no_junior (λ k. omega (arith, two, k.0)), no_sets (λ e. omega (arith, two, e)))

  -- commands 3 to 5 at both ends of the edge,
  pub looked_3 : OnEdge c → c.role < 64 → c.junior < 64 → (s t : ℕ) (p q : Option Offender) → ((y : ℕ) → bit s y ≡ same? c.role y) → ((y : ℕ) → bit t y ≡ same? c.junior y)
      → OutOf s all false p → OutOf t all false q → Through (option_or p q)
  looked_3 edge m n s t p q s_is t_is hp hq =
      looked_then (InSet all) c.actor (of_role ∷ of_junior ∷ []) (sets c) (option_or p q)
      (looked_or (InSet all) c.actor (of_role ∷ []) (of_junior ∷ []) p q
      (look_role (omega (arith, edge.0)) m s all false (sym (ne_eqb c.code 2 (λ e. omega (arith, edge.0, e)))) p s_is (plain_asked all c.actor) hp)
      (look_junior edge n t q t_is hq))
      (no_sets (λ e. omega (arith, edge.0, e)))

  -- and commands 6 and 7 at their role
  pub looked_6 : 6 ≤ c.code → c.role < 64 → (s : ℕ) (r : Option Offender) → ((y : ℕ) → bit s y ≡ same? c.role y) → OutOf s all false r → Through r
  looked_6 six m s r is h =
      looked_then (InSet all) c.actor (of_role ∷ []) (of_junior ∷ sets c) r
      (look_role (omega (arith, six)) m s all false (sym (ne_eqb c.code 2 (λ e. omega (arith, six, e)))) r is (plain_asked all c.actor) h)
      (no_junior (λ k. omega (arith, six, k.1)), no_sets (λ e. omega (arith, six, e)))

-- ---- a 6 put together

-- who offends is out of scope, or the actor where strict scope is asked
pub offender_out : (In : ℕ → ℕ → Type 0) (a : ℕ) {ps : Conditions} {x : ℕ} {s : Bool} → Offends In a ps x s → (s ≡ true → a ≢ x) → In a x → ⊥
offender_out In a (here h l) n m = h.wrong (m, n)
offender_out In a (later k h) n m = offender_out In a h n m

module _ {In : ℕ → ℕ → Type 0} {Out : ℕ → ℕ → ℕ → ℕ → Type 0} (c : Command) {x : ℕ} {s : Bool} (h : Offends In c.actor (conditions c) x s) where
  pub blames_itself : s ≡ true → c.actor ≡ x → Blames In Out c (record { number = 6; who = x; cause = 3; way = 0 })
  blames_itself t e = record { strict = true; offends = subst (Offends In c.actor (conditions c) x) t h; because = itself e }

  pub blames_out : {k w : ℕ} → (s ≡ true → c.actor ≢ x) → (In c.actor x × ((k ≡ 0) × (w ≡ 0))) ⊎ Out c.actor x k w → Blames In Out c (record { number = 6; who = x; cause = k; way = w })
  blames_out n o = record { strict = s; offends = h; because = out n (⊎_elim (λ q. absurd (offender_out In c.actor h n q.0)) (λ q. q) o) }

-- who offends is found where the scope condition fails,
pub offender_some : {A P : Type 0} (Q : A → Type 0) (r : Option A) → (P → ⊥) → MatchOption r P Q → IsSome r
offender_some Q (Some v) n h = refl
offender_some Q None n h = absurd (n h)

out_cause : {down up : List ℕ} {a x k w : ℕ} → OutOfScopeBy down up a x k w → k ≢ 0
out_cause (not_derived n) e = absurd (omega (arith, e))
out_cause (in_the_way d e w) q = absurd (omega (arith, q))

-- and is barred, off the sets that a board keeps, but for the actor itself
module _ (down up : List ℕ) (c : Command) {x : ℕ} {s : Bool} (h : Offends (ScopeBy down up) c.actor (conditions c) x s) (n : s ≡ true → c.actor ≢ x) where
  -- the cause is that of the bar
  pub blames_barred : (bar : Bar) → BarBy down up c.actor x (bar_cause (Some bar)) (bar_way (Some bar))
      → BlamesBy down up c (record { number = 6; who = x; cause = cause_number (cause_of bar); way = cause_way (cause_of bar) })
  blames_barred NotDerived b = blames_out c h n b
  blames_barred (InTheWay y) b = blames_out c h n b

  pub barred : (r : Option Bar) → BarBy down up c.actor x (bar_cause r) (bar_way r) → IsSome r
  barred (Some bar) b = refl
  barred None b = ⊎_elim (λ q. absurd (offender_out (ScopeBy down up) c.actor h n q.0)) (λ q. absurd (out_cause q refl)) b
