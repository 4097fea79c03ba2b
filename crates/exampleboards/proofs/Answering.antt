-- On a sound board the computed number of a command is the one that document 01's table of refusals gives it, and its 6 names whom the
-- test says.
-- Assumes nothing.
use mathlib.Core.Path.{◌≡◌, refl, sym, subst, subst₂}
use mathlib.Core.Logic.Iff
use mathlib.Core.Logic.{inl, inr, ⊎_elim, ◌↔◌, ◌≢◌}
use mathlib.Core.Bool.{Bool, true, false, cond, false≢true}
use mathlib.Core.List.{List, [], ◌∷◌}
use Prim.Native.Nat.{ℕ, suc, ◌^◌, ◌≤◌, ◌<◌}
use native.Mathlib.Omega.{arith}
use lib.Dec.{eqb, ltb, leb}
use borrow.Author.Tests.{eqb-true, leb-true, leb-false}
use Rattle.sets.specs.Sets.{bit}
use Rattle.sets.proofs.Bools.{or_cases, lt_or_ge, not_so, false_no, cond_elim}
use Rattle.sets.proofs.Laws.{bit_lt}
use Rattle.hierarchy.specs.Tables.{Tables, Shaped}
use Rattle.hierarchy.specs.Words.{Derives, Scope, OutOfScope, Joined, Sound}
use Rattle.hierarchy.specs.First.{First}
use Rattle.hierarchy.proofs.FirstLaws.{pass, passed, hit, none}
use Rattle.hierarchy.proofs.Checks.{all_is, any_is, and_is, or_is, if_is, not_is, eq_is, lt_is, le_is}
use Rattle.hierarchy.proofs.Decide.{derives_is, scope_is, out_of_scope_is, admin_is, managed_is}
use Rattle.hierarchy.proofs.Order.{joined_loops}
use Rattle.board.specs.Rights.{rights_of}
use Rattle.board.specs.declared.Command.{Command}
use Rattle.effects.specs.Effects.{after}
use Rattle.effects.proofs.Edits.{tables_stay}
use Rattle.refusals.specs.Entitled.{names_rights, MayUse, asks, Entitled}
use Rattle.refusals.specs.Entitled.{MayUse.own, MayUse.derived}
use Rattle.refusals.specs.Refusals.{names_edge, Fits, Malformed, Missing, PartsStand, Standing, Lacking, InScope, as_senior, as_junior, needed, scoped, strictly, conditions, Breaks, Offends, Because, Blames}
use Rattle.refusals.specs.Refusals.{Malformed.no_code, Malformed.no_actor, Malformed.no_role, Malformed.no_junior, Malformed.no_kind, Malformed.no_rights, Offends.here, Offends.later, Because.out, Because.itself}
use Rattle.refusals.proofs.Offenders.{Small, all_small}
use Rattle.refusals.proofs.Trying.{rights_lt, parts_row, edge_row, standing_row, lacking_row}
use Rattle.commands.specs.Commands.{Outside, afterwards, on_tables}
use Rattle.commands.proofs.SoundAfter.{shaped_after, joined_after}
use Rattle.commands.proofs.TakingBack.{sound_passes}
use Rattle.exampleboards.specs.Answer.{left, malformed?, missing?, parts_stand?, linked?, standing?, lacking?, may_use?, entitled?, in_scope?, outside?, first?, afterwards?, answer?, other?, breaks?, because?, offends?, blames?, fits?}
use Rattle.exampleboards.proofs.Leaving.{left_is}
use Rattle.exampleboards.proofs.Ordering.{is, live_loops_is}

fit_is : (s : ℕ) → (ltb s (2 ^ 64) ≡ true) ↔ (s < 2 ^ 64)
fit_is s = lt_is s (2 ^ 64)

pub fits_is : (c : Command) → (fits? c ≡ true) ↔ Fits c
unfolding fits?
fits_is c =
    let i = and_is (fit_is c.a_seniors) (λ _. and_is (fit_is c.i_seniors) (λ _. and_is (fit_is c.a_juniors) (λ _. fit_is c.i_juniors))) in (
      λ e. let h = i.0 e in record { a_seniors = h.0; i_seniors = h.1.0; a_juniors = h.1.1.0; i_juniors = h.1.1.1 },
      λ f. i.1 (f.a_seniors, (f.i_seniors, (f.a_juniors, f.i_juniors))),
    )

-- ---- a row each

pub malformed_is : (c : Command) → (malformed? c ≡ true) ↔ Malformed c
unfolding malformed?
malformed_is c =
    let code = or_is (lt_is c.code 1) (lt_is 7 c.code) in
    let junior = and_is (is (names_edge c)) (λ _. lt_is 63 c.junior) in
    let kind = and_is (is (names_edge c)) (λ _. or_is (lt_is c.kind 1) (lt_is 3 c.kind)) in
    let rights = and_is (is (names_rights c)) (λ _. lt_is 31 c.rights) in
    let i = or_is code (or_is (lt_is 63 c.actor) (or_is (lt_is 63 c.role) (or_is junior (or_is kind rights)))) in (
      λ e. ⊎_elim no_code (⊎_elim no_actor (⊎_elim no_role (⊎_elim (λ h. no_junior h.0 h.1) (⊎_elim (λ h. no_kind h.0 h.1) (λ h. no_rights h.0 h.1))))) (i.0 e),
      λ m. i.1 (elim m [
        | no_code h ↦ inl h
        | no_actor h ↦ inr (inl h)
        | no_role h ↦ inr (inr (inl h))
        | no_junior e h ↦ inr (inr (inr (inl (e, h))))
        | no_kind e h ↦ inr (inr (inr (inr (inl (e, h)))))
        | no_rights e h ↦ inr (inr (inr (inr (inr (e, h)))))
      ]),
    )

parts_is : (t : Tables) (c : Command) → (parts_stand? t c ≡ true) ↔ PartsStand t c
unfolding parts_stand?
parts_is t c = parts_row t c refl

standing_is : (t : Tables) (c : Command) → (standing? t c ≡ true) ↔ Standing t c
unfolding standing?
standing_is t c = standing_row t c (parts_is t c) refl

lacking_is : (t : Tables) (c : Command) → (lacking? t c ≡ true) ↔ Lacking t c
unfolding lacking? linked?
lacking_is t c = lacking_row t c (parts_is t c) (edge_row t c refl) refl

outside_is : (t : Tables) (c : Command) → Shaped t → (outside? t c ≡ true) ↔ Outside t c
unfolding outside?
outside_is t c s =
    let i = and_is (eq_is c.code 1) (λ _. not_is (admin_is s c.actor c.role)) in
    (λ e. let h = i.0 e in record { adds = h.0; outside = h.1 }, λ o. i.1 (o.adds, o.outside))

-- ---- the rows that speak of all the roles that a well-formed command names

below : (x y : ℕ) → (63 < y → ⊥) → x ≡ y → x < 64
below x y h e = ⊎_elim (λ l. l) (λ (g : 64 ≤ x). absurd (h (omega arith))) (lt_or_ge x 64)

module _ {c : Command} (fits : Fits c) (well : Malformed c → ⊥) (x : ℕ) where
  senior_lt : as_senior c x ≡ true → x < 64
  senior_lt e = ⊎_elim (bit_lt 64 fits.a_seniors) (bit_lt 64 fits.i_seniors) (or_cases (bit c.a_seniors x) (bit c.i_seniors x) e)

  junior_lt : as_junior c x ≡ true → x < 64
  junior_lt e = ⊎_elim (bit_lt 64 fits.a_juniors) (bit_lt 64 fits.i_juniors) (or_cases (bit c.a_juniors x) (bit c.i_juniors x) e)

  role_lt : x ≡ c.role → x < 64
  role_lt = below x c.role (λ g. well (no_role g))

  end_lt : names_edge c ≡ true → x ≡ c.junior → x < 64
  end_lt l = below x c.junior (λ g. well (no_junior l g))

  needed_lt : needed c x ≡ true → x < 64
  unfolding needed
  needed_lt e =
      let sets = and_is (eq_is c.code 1) (λ _. or_is (is (as_senior c x)) (is (as_junior c x))) in
      let ends = or_is (and_is (le_is 2 c.code) (λ _. eq_is x c.role)) (and_is (is (names_edge c)) (λ _. eq_is x c.junior)) in
      ⊎_elim (below x c.actor (λ g. well (no_actor g)))
      (⊎_elim (λ h. ⊎_elim senior_lt junior_lt h.1) (⊎_elim (λ h. role_lt h.1) (λ h. end_lt h.0 h.1)))
      ((or_is (eq_is x c.actor) (or_is sets ends)).0 e)

  scoped_lt : scoped c x ≡ true → x < 64
  unfolding scoped
  scoped_lt e =
      let seniors = and_is (eq_is c.code 1) (λ _. is (as_senior c x)) in
      let ends = or_is (and_is (le_is 3 c.code) (λ _. eq_is x c.role)) (and_is (is (names_edge c)) (λ _. eq_is x c.junior)) in
      ⊎_elim (λ h. senior_lt h.1) (⊎_elim (λ h. role_lt h.1) (λ h. end_lt h.0 h.1)) ((or_is seniors ends).0 e)

  strictly_lt : strictly c x ≡ true → x < 64
  unfolding strictly
  strictly_lt e =
      let juniors = and_is (eq_is c.code 1) (λ _. is (as_junior c x)) in
      let gone = and_is (eq_is c.code 2) (λ _. eq_is x c.role) in
      ⊎_elim (λ h. junior_lt h.1) (λ h. role_lt h.1) ((or_is juniors gone).0 e)

  -- and all the rights that it asks for are of the five
  asks_lt : asks c x ≡ true → x < 5
  unfolding asks
  asks_lt = cond_elim (λ p. p ≡ true → x < 5) (leb 6 c.code) (bit c.rights x) (eqb c.code (suc x))
      (λ named e. bit_lt 5 {s = c.rights} {x = x} (rights_lt c well (leb-true 6 c.code named)) e)
      (λ own e. let n = leb-false 6 c.code own in let q = eqb-true c.code (suc x) e in omega (arith, n, q))

module _ (t : Tables) {c : Command} (fits : Fits c) (well : Malformed c → ⊥) where
  missing_is : (missing? t c ≡ true) ↔ Missing t c
  unfolding missing?
  missing_is =
      let i = any_is 64 (λ x. and_is (is (needed c x)) (λ _. not_is (is (bit t.live x)))) (λ x h. needed_lt fits well x h.0) in (
        λ e. let h = i.0 e in record { who = h.0; is_needed = h.1.0; absent = not_so (bit t.live h.0) h.1.1 },
        λ m. i.1 (m.who, (m.is_needed, false_no m.absent)),
      )

  in_scope_is : Shaped t → (in_scope? t c ≡ true) ↔ InScope (Scope t) c
  unfolding in_scope?
  in_scope_is s =
      let i = all_is 64 (λ x. and_is (if_is (is (scoped c x)) (scope_is s c.actor x)) (λ _. if_is (is (strictly c x)) (admin_is s c.actor x))) in (
        λ e. let h = i.0 e in record { scope = λ x d. (h x (scoped_lt fits well x d)).0 d; strict = λ x d. let m = (h x (strictly_lt fits well x d)).1 d in (m.scope, m.strict) },
        λ h. i.1 (λ x _. (h.scope x, λ d. let m = h.strict x d in record { scope = m.0; strict = m.1 })),
      )

-- ---- row 13

module _ {t : Tables} (s : Shaped t) (rights : List ℕ) where
  may_use_is : (a k : ℕ) → (may_use? t rights a k ≡ true) ↔ MayUse (Derives t) rights a k
  unfolding may_use?
  may_use_is a k =
      let lower = any_is 64 (λ x. and_is (is (bit (rights_of rights x) k)) (λ _. derives_is s a x)) (λ x h. bit_lt 64 s.live_fits h.1.to) in
      Iff.trans (or_is (is (bit (rights_of rights a) k)) lower) (
        ⊎_elim own (λ w. derived w.1.1 w.1.0),
        λ m. elim m [
          | own h ↦ inl h
          | derived {x} d h ↦ inr (x, (h, d))
        ],
      )

  entitled_is : {c : Command} → Fits c → (Malformed c → ⊥) → (entitled? t rights c ≡ true) ↔ Entitled (Derives t) rights c
  unfolding entitled?
  entitled_is {c} fits well =
      let i = all_is 5 (λ k. if_is (is (asks c k)) (may_use_is c.actor k)) in
      (λ e k a. i.0 e k (asks_lt fits well k a) a, λ h. i.1 (λ k _. h k))

-- ---- all rows

-- one row: its test decides it, and where it fails the rest is tried
tried : (k n : ℕ) (rest : List (ℕ × Type 0)) {X : Type 0} {p : Bool} → (p ≡ true) ↔ X → ((X → ⊥) → First rest n) → First ((k, X) ∷ rest) (cond p k n)
tried k n rest {X} {p = true} d f = hit k X rest (d.0 refl)
tried k n rest {X} {p = false} d f = let fails : X → ⊥ = λ x. false≢true (d.1 x) in pass k X rest n fails (f fails)

afterwards_is : (t : Tables) (c : Command) → Shaped t → Joined t → First (afterwards t c) (first? (afterwards? t c))
unfolding first?
afterwards_is t c s joined =
    tried 7 _ _ (Iff.trans (live_loops_is s) (joined_loops joined)) (λ _.
    tried 8 _ _ (outside_is t c s) (λ _.
    tried 9 _ _ (not_is (managed_is s)) (λ _. none)))

-- The computed number of a command is that of its first refusal in document 01's table, on sound tables.
pub answer_is : (t : Tables) (rights : List ℕ) (c : Command) → Sound t → Fits c → First (on_tables t rights c) (answer? t rights c)
unfolding answer? first?
answer_is t rights c sound fits =
    let s = sound.shaped in
    tried 2 _ _ (malformed_is c) (λ well.
    tried 3 _ _ (missing_is t fits well) (λ there.
    tried 4 _ _ (standing_is t c) (λ _.
    tried 5 _ _ (lacking_is t c) (λ _.
    tried 13 _ _ (not_is (entitled_is s rights fits well)) (λ _.
    tried 6 _ _ (not_is (in_scope_is t fits well s)) (λ _.
    cond_elim (λ rows. First (afterwards (after t c) c) (first? rows)) (names_rights c) [] (afterwards? (left t c) c)
    (λ e. let past = leb-true 6 c.code e in subst (λ d. First (afterwards d c) 0) (sym (tables_stay t c s past)) (sound_passes t c sound (λ q. omega (arith, past, q))))
    (λ _. subst (λ d. First (afterwards (after t c) c) (first? (afterwards? d c))) (sym (left_is t c s))
    (afterwards_is (after t c) c (shaped_after t c) (joined_after t c sound.joined well there)))))))))

-- ---- request 3: whom a 6 names

module _ {t : Tables} (s : Shaped t) (a : ℕ) where
  other_is : (strict : Bool) (x : ℕ) → (other? a strict x ≡ true) ↔ (strict ≡ true → a ≢ x)
  other_is strict x = if_is (is strict) (not_is (eq_is a x))

  breaks_is : (those : ℕ → Bool) (strict : Bool) (x : ℕ) → (breaks? t a (those, strict) x ≡ true) ↔ Breaks (Scope t) a those strict x
  unfolding breaks?
  breaks_is those strict x = Iff.trans (and_is (is (those x)) (λ _. not_is (and_is (scope_is s a x) (λ _. other_is strict x))))
      (λ h. record { among = h.0; wrong = h.1 }, λ o. (o.among, o.wrong))

  because_holds : {x cause way : ℕ} {strict : Bool} → because? t a x strict cause way ≡ true → Because (OutOfScope t) a x strict cause way
  unfolding because?
  because_holds {x} {cause} {way} {strict} e = ⊎_elim
      (λ h. subst (λ s. Because (OutOfScope t) a x s cause way) (sym h.0) (subst₂ (Because (OutOfScope t) a x true) (sym h.1.1.0) (sym h.1.1.1) (itself h.1.0)))
      (λ h. out h.0 h.1)
      ((or_is
      (and_is (is strict) (λ _. and_is (eq_is a x) (λ _. and_is (eq_is cause 3) (λ _. eq_is way 0))))
      (and_is (other_is strict x) (λ _. out_of_scope_is s a x cause way))).0 e)

  offends_holds : (conditions : List ((ℕ → Bool) × Bool)) → Small conditions → (who cause way : ℕ) → offends? t a conditions who cause way ≡ true
      → (strict : Bool) × (Offends (Scope t) a conditions who strict × Because (OutOfScope t) a who strict cause way)
  unfolding offends?
  offends_holds [] roles who cause way e = absurd (false≢true e)
  offends_holds ((those, strict) ∷ rest) roles who cause way e =
      ⊎_elim
      (λ h. (strict, (here h.0 (λ y o. ⊎_elim (λ l. absurd (h.1.0 y l o)) (λ g. g) (lt_or_ge y who)), because_holds h.1.1)))
      (λ h. let r = offends_holds rest roles.1 who cause way h.1 in (r.0, (later (λ y o. h.0 y (roles.0 y o.among) o) r.1.0, r.1.1)))
      ((or_is
      (and_is (breaks_is those strict who) (λ _. and_is (all_is who (λ x. not_is (breaks_is those strict x))) (λ _. is (because? t a who strict cause way))))
      (and_is (all_is 64 (λ x. not_is (breaks_is those strict x))) (λ _. is (offends? t a rest who cause way)))).0 e)

-- Where the command gives 6 its answer names those that the test is true of.
pub blames_holds : (t : Tables) (rights : List ℕ) (c : Command) (who cause way : ℕ) → Shaped t → Fits c → First (on_tables t rights c) 6 → blames? t c who cause way ≡ true
    → Blames (Scope t) (OutOfScope t) c (record { number = 6; who = who; cause = cause; way = way })
blames_holds t rights c who cause way s fits f e =
    let r = offends_holds s c.actor (conditions c) (all_small c (passed 2 _ _ 6 (λ d. absurd (omega (arith, d))) f) fits) who cause way e in
    record { strict = r.0; offends = r.1.0; because = r.1.1 }
