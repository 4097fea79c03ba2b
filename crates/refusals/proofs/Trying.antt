-- The rows of the table of refusals on the board handed in, each from what the code tests. Assumes nothing.
use mathlib.Core.Path.{◌≡◌, refl, sym, ap, ◌∙◌, subst}
use mathlib.Core.Bool.{Bool, true, false, not, ◌&&◌, ◌||◌, or-false, or_comm}
use mathlib.Core.Logic.Iff
use mathlib.Core.Logic.{◌⊎◌, inl, inr, ⊎_elim, ◌≢◌, ◌↔◌}
use Prim.Native.Nat.{ℕ, ◌^◌, ◌≤◌, ◌<◌}
use native.Mathlib.Decide.{ℕ_discrete}
use native.Mathlib.Omega.{arith}
use lib.Count.{count_trailing_zeros}
use lib.Dec.{eqb}
use borrow.Author.Tests.{eqb-true, eqb-false, ne_eqb, leb-true, le-leb, lt-leb, not-true}
use Rattle.sets.specs.Sets.{bit, ◌is_in◌, ◌are_in◌, same?}
use Rattle.sets.proofs.Bools.{true_or_false, or_cases, or_left, or_right, and_left, and_right, and_both, false_no, lt_or_ge}
use Rattle.sets.proofs.Digits.{bit_zero}
use Rattle.sets.proofs.Laws.{same_is, bit_lowest}
use Rattle.hierarchy.specs.Tables.{Tables, row, has_i, has_a}
use Rattle.hierarchy.specs.First.{First}
use Rattle.hierarchy.proofs.Checks.{and_is, or_is, if_is, not_is, eq_is, same_test}
use Rattle.hierarchy.proofs.Derive.{edge_entry}
use Rattle.hierarchy.proofs.FirstLaws.{hit, pass, none}
use Rattle.board.specs.Answers.{Answer, plain}
use Rattle.board.specs.Codes.{code_number}
use Rattle.board.specs.declared.Command.{Command}
use Rattle.board.specs.declared.Code.{Code}
use Rattle.board.specs.declared.Code.TheVariants.{AddEdge, RemoveEdge, ChangeEdge}
use Rattle.board.proofs.Rules.{stable}
use Rattle.refusals.specs.Refusals.{Malformed, as_senior, as_junior, needed, Missing, edge_kind, PartsStand, Standing, Lacking, scoped, strictly, InScope, Names, unscoped, by_scope}
use Rattle.refusals.specs.Refusals.{Malformed.no_code, Malformed.no_actor, Malformed.no_role, Malformed.no_junior, Malformed.no_kind, Malformed.no_rights, Standing.role, Standing.edge, Lacking.no_part, Lacking.no_edge}
use Rattle.refusals.proofs.Blaming.{OnEdge, edge_is, names_plain, names_six, strict_asked}

-- ---- row 2

-- what is in range is not malformed
pub ranged : (c : Command) → 1 ≤ c.code → c.code ≤ 7 → c.actor ≤ 63 → c.role ≤ 63 → (OnEdge c → c.junior ≤ 63)
    → (OnEdge c → (1 ≤ c.kind) × (c.kind ≤ 3)) → (6 ≤ c.code → c.rights ≤ 31) → Malformed c → ⊥
ranged c l h a r j k g (no_code (inl w)) = omega arith
ranged c l h a r j k g (no_code (inr w)) = omega arith
ranged c l h a r j k g (no_actor w) = omega arith
ranged c l h a r j k g (no_role w) = omega arith
ranged c l h a r j k g (no_junior n w) = omega (arith, j ((edge_is c).0 n))
ranged c l h a r j k g (no_kind n (inl w)) = let q = k ((edge_is c).0 n) in omega arith
ranged c l h a r j k g (no_kind n (inr w)) = let q = k ((edge_is c).0 n) in omega arith
ranged c l h a r j k g (no_rights n w) = omega (arith, g (leb-true 6 c.code n))

-- the codes of an edge
pub on_edge : (c : Command) (k : Code) → c.code ≡ code_number k → (k ≡ AddEdge) ⊎ ((k ≡ RemoveEdge) ⊎ (k ≡ ChangeEdge)) → OnEdge c
on_edge c k e (inl h) = let q : c.code ≡ 3 = e ∙ ap code_number h in (omega arith, omega arith)
on_edge c k e (inr (inl h)) = let q : c.code ≡ 4 = e ∙ ap code_number h in (omega arith, omega arith)
on_edge c k e (inr (inr h)) = let q : c.code ≡ 5 = e ∙ ap code_number h in (omega arith, omega arith)

-- and the other way round
module _ (c : Command) (formed : Malformed c → ⊥) where
  pub code_low : 1 ≤ c.code
  code_low = ⊎_elim (λ l. absurd (formed (no_code (inl l)))) (λ g. g) (lt_or_ge c.code 1)

  pub actor_lt : c.actor < 64
  actor_lt = ⊎_elim (λ l. l) (λ g. absurd (formed (no_actor g))) (lt_or_ge c.actor 64)

  pub role_lt : c.role < 64
  role_lt = ⊎_elim (λ l. l) (λ g. absurd (formed (no_role g))) (lt_or_ge c.role 64)

  pub junior_lt : OnEdge c → c.junior < 64
  junior_lt n = ⊎_elim (λ l. l) (λ g. absurd (formed (no_junior ((edge_is c).1 n) g))) (lt_or_ge c.junior 64)

  pub code_high : c.code ≤ 7
  code_high = ⊎_elim (λ l. absurd (formed (no_code (inr l)))) (λ g. g) (lt_or_ge 7 c.code)

  pub rights_lt : 6 ≤ c.code → c.rights < 32
  rights_lt n = ⊎_elim (λ l. l) (λ g. absurd (formed (no_rights (le-leb 6 c.code n) g))) (lt_or_ge c.rights 32)

  -- ---- row 6: whose scope is asked for

  module _ (x : ℕ) where
    pub scoped_1 : c.code ≡ 1 → as_senior c x ≡ scoped c x
    unfolding scoped
    scoped_1 e = rw e (sym (or-false (as_senior c x)))

    pub scoped_2 : c.code ≡ 2 → bit 0 x ≡ scoped c x
    unfolding scoped
    scoped_2 e = rw (e, bit_zero x)

    pub scoped_3 : OnEdge c → (same? c.role x || same? c.junior x) ≡ scoped c x
    unfolding scoped
    scoped_3 n =
        rw (same_is c.role x role_lt, same_is c.junior x (junior_lt n), ne_eqb c.code 1 (λ e. omega (arith, n.0, e)), le-leb 3 c.code n.0, le-leb c.code 5 n.1)

    pub scoped_6 : 6 ≤ c.code → same? c.role x ≡ scoped c x
    unfolding scoped
    scoped_6 n =
        rw (same_is c.role x role_lt, ne_eqb c.code 1 (λ e. omega (arith, n, e)), le-leb 3 c.code (omega (arith, n)), lt-leb c.code 5 n) (sym (or-false (eqb x c.role)))

    pub strictly_1 : c.code ≡ 1 → as_junior c x ≡ strictly c x
    unfolding strictly
    strictly_1 e = rw e (sym (or-false (as_junior c x)))

    pub strictly_2 : c.code ≡ 2 → same? c.role x ≡ strictly c x
    unfolding strictly
    strictly_2 e = rw (e, same_is c.role x role_lt)

    pub strictly_3 : c.code ≢ 1 → c.code ≢ 2 → bit 0 x ≡ strictly c x
    unfolding strictly
    strictly_3 n1 n2 = rw (ne_eqb c.code 1 n1, ne_eqb c.code 2 n2, bit_zero x)

    -- ---- row 3: these and the actor must exist

    needed_1 : c.code ≡ 1 → ((as_senior c x || as_junior c x) || eqb x c.actor) ≡ needed c x
    unfolding needed
    needed_1 e = rw (e, or-false (as_senior c x || as_junior c x)) (or_comm (as_senior c x || as_junior c x) (eqb x c.actor))

    needed_2 : c.code ≡ 2 → (eqb x c.role || eqb x c.actor) ≡ needed c x
    unfolding needed
    needed_2 e = rw (e, or-false (eqb x c.role)) (or_comm (eqb x c.role) (eqb x c.actor))

    needed_3 : OnEdge c → ((eqb x c.role || eqb x c.junior) || eqb x c.actor) ≡ needed c x
    unfolding needed
    needed_3 n =
        rw (ne_eqb c.code 1 (λ e. omega (arith, n.0, e)), le-leb 3 c.code n.0, le-leb c.code 5 n.1, le-leb 2 c.code (omega (arith, n.0))) (or_comm (eqb x c.role || eqb x c.junior) (eqb x c.actor))

    needed_6 : 6 ≤ c.code → (eqb x c.role || eqb x c.actor) ≡ needed c x
    unfolding needed
    needed_6 n =
        rw (ne_eqb c.code 1 (λ e. omega (arith, n, e)), le-leb 3 c.code (omega (arith, n)), lt-leb c.code 5 n, le-leb 2 c.code (omega (arith, n)), or-false (eqb x c.role)) (or_comm (eqb x c.role) (eqb x c.actor))

    pub needed_is : ((scoped c x || strictly c x) || same? c.actor x) ≡ needed c x
    needed_is = ⊎_elim
        (λ k. let e = eqb-true c.code 1 k in rw (← scoped_1 e, ← strictly_1 e, same_is c.actor x actor_lt) (needed_1 e))
        (λ k. ⊎_elim
        (λ m. let e = eqb-true c.code 2 m in
        rw (← scoped_2 e, ← strictly_2 e, bit_zero x, same_is c.actor x actor_lt, same_is c.role x role_lt) (needed_2 e))
        (λ m.
        let n1 = eqb-false c.code 1 k in
        let n2 = eqb-false c.code 2 m in ⊎_elim
        (λ six. rw (← scoped_6 six, ← strictly_3 n1 n2, bit_zero x, or-false (same? c.role x), same_is c.actor x actor_lt, same_is c.role x role_lt) (needed_6 six))
        (λ five.
        let edge : OnEdge c = (omega (arith, code_low), five) in
        rw (← scoped_3 edge, ← strictly_3 n1 n2, bit_zero x, or-false (same? c.role x || same? c.junior x), same_is c.actor x actor_lt, same_is c.role x role_lt, same_is c.junior x (junior_lt edge)) (needed_3 edge))
        (lt_or_ge 5 c.code))
        (true_or_false (eqb c.code 2)))
        (true_or_false (eqb c.code 1))

-- a set that is not 0 has a member
pub some_member : (d : ℕ) → d < 2 ^ 64 → (not (eqb d 0) ≡ true) ↔ ((x : ℕ) × (x is_in d))
some_member d h = (
  λ e. (count_trailing_zeros 64 d, bit_lowest 64 d (let n = eqb-false d 0 (not-true (eqb d 0) e) in omega arith) h),
  λ w. ap not (ne_eqb d 0 (λ z. false_no (bit_zero w.0) (subst (λ (k : ℕ). w.0 is_in k) z w.1))),
)

-- the members of the first that the second lacks
pub missing_is : (c : Command) (n d live : ℕ) → d < 2 ^ 64 → ((x : ℕ) → bit n x ≡ needed c x) → ((x : ℕ) → bit d x ≡ (bit n x && not (bit live x)))
    → (not (eqb d 0) ≡ true) ↔ ((x : ℕ) × (needed c x ≡ true) × (bit live x ≡ false))
missing_is c n d live h hn hd = Iff.trans (some_member d h) (
  λ w.
      let e = sym (hd w.0) ∙ w.1 in (
        w.0,
        sym (hn w.0) ∙ and_left (bit n w.0) (not (bit live w.0)) e,
        not-true (bit live w.0) (and_right (bit n w.0) (not (bit live w.0)) e),
      ),
  λ w. (w.0, hd w.0 ∙ and_both (bit n w.0) (not (bit live w.0)) (hn w.0 ∙ w.1) (ap not w.2)),
)

-- the scope condition, by the sets of those asked for
pub within_is : (scope : ℕ) (c : Command) (u s w : ℕ) → (Malformed c → ⊥) → ((x : ℕ) → bit u x ≡ scoped c x) → ((x : ℕ) → bit s x ≡ strictly c x)
    → ((x : ℕ) → bit w x ≡ (bit scope x && not (same? c.actor x))) → u are_in scope → (s are_in w) ↔ InScope (λ a x. x is_in scope) c
within_is scope c u s w formed hu hs hw p =
    let asked = strict_asked scope c.actor w (actor_lt c formed) hw in (
      λ q. record { scope = λ x e. p x (hu x ∙ e); strict = λ x e. let m = (asked x).0 (q x (hs x ∙ e)) in (m.0, m.1 refl) },
      λ r x e. let m = r.strict x (sym (hs x) ∙ e) in (asked x).1 (m.0, λ _. m.1),
    )

-- the scope condition by two relations that agree on the actor
pub in_scope_alike : {In In' : ℕ → ℕ → Type 0} (c : Command) → ((x : ℕ) → In c.actor x ↔ In' c.actor x) → InScope In c ↔ InScope In' c
in_scope_alike c h = (
  λ s. record { scope = λ x e. (h x).0 (s.scope x e); strict = λ x e. let m = s.strict x e in ((h x).0 m.0, m.1) },
  λ s. record { scope = λ x e. (h x).1 (s.scope x e); strict = λ x e. let m = s.strict x e in ((h x).1 m.0, m.1) },
)

-- ---- rows 3, 4 and 5 as the table says them

module _ (b : Tables) (c : Command) where
  pub missing_row : {r : Bool} → (r ≡ true) ↔ ((x : ℕ) × (needed c x ≡ true) × (bit b.live x ≡ false)) → (r ≡ true) ↔ Missing b c
  missing_row h = Iff.trans h (λ w. record { who = w.0; is_needed = w.1; absent = w.2 }, λ m. (m.who, m.is_needed, m.absent))

  pub edge_row : {linked : Bool} → linked ≡ (bit (row b.i c.role) c.junior || bit (row b.a c.role) c.junior) → (linked ≡ true) ↔ (edge_kind b c ≢ 0)
  edge_row h =
      let e = edge_entry b c.role c.junior in
      let i = bit (row b.i c.role) c.junior in
      let a = bit (row b.a c.role) c.junior in
      (λ t. e.1 (or_cases i a (sym h ∙ t)), λ n. h ∙ ⊎_elim (or_left i a) (or_right i a) (e.0 n))

  pub parts_row : {parts : Bool}
      → parts ≡ ((not (has_i c.kind) || bit (row b.i c.role) c.junior) && (not (has_a c.kind) || bit (row b.a c.role) c.junior))
      → (parts ≡ true) ↔ PartsStand b c
  parts_row h = same_test h (Iff.trans (and_is (if_is Iff.rfl Iff.rfl) (λ _. if_is Iff.rfl Iff.rfl)) (λ w. record { i = w.0; a = w.1 }, λ s. (s.i, s.a)))

  module _ {parts : Bool} (stand : (parts ≡ true) ↔ PartsStand b c) where
    pub standing_row : {r : Bool} → r ≡ ((eqb c.code 1 && bit b.live c.role) || (eqb c.code 3 && parts)) → (r ≡ true) ↔ Standing b c
    standing_row h = same_test h (Iff.trans (or_is (and_is (eq_is c.code 1) (λ _. Iff.rfl)) (and_is (eq_is c.code 3) (λ _. stand))) (
      ⊎_elim (λ w. role w.0 w.1) (λ w. edge w.0 w.1),
      rows,
    ))
      where
        rows : Standing b c → ((c.code ≡ 1) × (c.role is_in b.live)) ⊎ ((c.code ≡ 3) × PartsStand b c)
        rows (role e m) = inl (e, m)
        rows (edge e n) = inr (e, n)

    pub lacking_row : {linked r : Bool} → (linked ≡ true) ↔ (edge_kind b c ≢ 0) → r ≡ ((eqb c.code 4 && not parts) || (eqb c.code 5 && not linked)) → (r ≡ true) ↔ Lacking b c
    lacking_row is h = same_test h (Iff.trans (or_is (and_is (eq_is c.code 4) (λ _. not_is stand)) (and_is (eq_is c.code 5) (λ _. not_is is))) (
      ⊎_elim (λ w. no_part w.0 w.1) (λ w. no_edge w.0 (stable (ℕ_discrete (edge_kind b c) 0) w.1)),
      rows,
    ))
      where
        rows : Lacking b c → ((c.code ≡ 4) × (PartsStand b c → ⊥)) ⊎ ((c.code ≡ 5) × ((edge_kind b c ≢ 0) → ⊥))
        rows (no_part e n) = inl (e, n)
        rows (no_edge e z) = inr (e, λ k. k z)

-- ---- the rows on the board handed in

module _ (b : Tables) (c : Command) where
  pub refused_2 : Malformed c → First (unscoped b c) 2
  refused_2 m = hit _ _ _ m

  module _ (formed : Malformed c → ⊥) where
    pub refused_3 : Missing b c → First (unscoped b c) 3
    refused_3 m = pass _ _ _ _ formed (hit _ _ _ m)

    module _ (present : Missing b c → ⊥) where
      pub refused_4 : Standing b c → First (unscoped b c) 4
      refused_4 s = pass _ _ _ _ formed (pass _ _ _ _ present (hit _ _ _ s))

      module _ (free : Standing b c → ⊥) where
        pub refused_5 : Lacking b c → First (unscoped b c) 5
        refused_5 n = pass _ _ _ _ formed (pass _ _ _ _ present (pass _ _ _ _ free (hit _ _ _ n)))

        pub refused_not : (Lacking b c → ⊥) → First (unscoped b c) 0
        refused_not there = pass _ _ _ _ formed (pass _ _ _ _ present (pass _ _ _ _ free (pass _ _ _ _ there none)))

-- row 6 where nobody offends,
pub scope_holds : {In : ℕ → ℕ → Type 0} {Blame : Answer → Type 0} {c : Command} → InScope In c → First (by_scope In c) 0 × Names Blame (plain 0)
scope_holds s = (pass _ _ _ _ (λ k. k s) none, names_plain 0 (λ q. omega arith))

-- and where somebody does, with whom it names
pub scope_fails : {In : ℕ → ℕ → Type 0} {Blame : Answer → Type 0} {c : Command} {m : Answer} → (InScope In c → ⊥) → (m.number ≡ 6) × Blame m → First (by_scope In c) m.number × Names Blame m
scope_fails {In} {c = c} n q = (subst (First (by_scope In c)) (sym q.0) (hit _ _ _ n), names_six q.0 q.1)
