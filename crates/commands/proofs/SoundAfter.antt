-- A command that is done leaves sound tables. Assumes nothing.
use mathlib.Core.Path.{◌≡◌, refl, sym, ap, ◌∙◌}
use mathlib.Core.Bool.{Bool, true, false, cond, not, ◌&&◌, ◌||◌, or-true}
use mathlib.Core.Logic.{inl, inr, ⊎_elim, ◌≢◌}
use mathlib.Core.List.{List}
use Prim.Native.Nat.{ℕ, ◌≤◌, ◌<◌}
use native.Mathlib.Omega.{arith}
use lib.Dec.{eqb, lit<}
use borrow.Author.Tests.{eqb-true, eqb-false, eq-eqb, ne_eqb, le-leb, not-true}
use Rattle.sets.specs.Sets.{bit, ◌is_in◌}
use Rattle.sets.proofs.Bools.{true_or_false, or_cases, or_left, or_right, and_left, and_right, false_no, lt_or_ge}
use Rattle.sets.proofs.Laws.{set_of_fits, bit_set_of}
use Rattle.hierarchy.specs.Tables.{Tables, Live, Shaped, row, has_i, has_a}
use Rattle.hierarchy.specs.Words.{Scope, Joined, Sound}
use Rattle.hierarchy.specs.First.{First}
use Rattle.hierarchy.proofs.Admin.{admin_reaches}
use Rattle.hierarchy.proofs.Decide.{managed_dec}
use Rattle.hierarchy.proofs.Derive.{bit_i, bit_a, edge_entry, i_entry, a_entry}
use Rattle.hierarchy.proofs.Theorems.{no_senior}
use Rattle.board.specs.declared.Command.{Command}
use Rattle.board.proofs.Rules.{stable, first_done}
use Rattle.effects.specs.Effects.{lives, pair, entry, after}
use Rattle.effects.proofs.Edits.{table_length, table_fits, in_table, entry_1, entry_2, entry_none, entry_other, idles, live_stays, tables_are}
use Rattle.refusals.specs.Refusals.{as_senior, as_junior, needed, strictly, Malformed, Missing, InScope, edge_kind}
use Rattle.refusals.specs.Refusals.{Malformed.no_code}
use Rattle.refusals.proofs.Blaming.{OnEdge, edge_is}
use Rattle.commands.specs.Commands.{on_tables}

-- ---- the shape, by construction

pub shaped_after : (b : Tables) (c : Command) → Shaped (after b c)
unfolding after
shaped_after b c = record {
  live_fits = set_of_fits _;
  i_rows = table_length c _ _ _ b.i;
  a_rows = table_length c _ _ _ b.a;
  i_fits = table_fits c _ _ _ b.i;
  a_fits = table_fits c _ _ _ b.a;
}

-- ---- who lives afterwards, and who must live before

module _ (c : Command) (o : Bool) (x : ℕ) where
  lives_new : c.code ≡ 1 → x ≡ c.role → lives c o x ≡ true
  unfolding lives
  lives_new e q = rw (e, eq-eqb x c.role q) (or-true o)

  pub lives_left : c.code ≡ 2 → o ≡ true → x ≢ c.role → lives c o x ≡ true
  unfolding lives
  lives_left e h n = rw (e, h, ne_eqb x c.role n)

  pub lives_kept : c.code ≢ 2 → o ≡ true → lives c o x ≡ true
  unfolding lives
  lives_kept n h = rw (h, ne_eqb c.code 2 n) (same (eqb c.code 1))
    where
      same : (p : Bool) → cond p true true ≡ true
      same true = refl
      same false = refl

module _ (c : Command) (x : ℕ) where
  needed_senior : c.code ≡ 1 → as_senior c x ≡ true → needed c x ≡ true
  unfolding needed
  needed_senior e h = rw (e, h) (or-true (eqb x c.actor))

  needed_junior : c.code ≡ 1 → as_junior c x ≡ true → needed c x ≡ true
  unfolding needed
  needed_junior e h = rw (e, h, or-true (as_senior c x)) (or-true (eqb x c.actor))

  needed_end : OnEdge c → (eqb x c.role || eqb x c.junior) ≡ true → needed c x ≡ true
  unfolding needed
  needed_end l h =
      rw ((edge_is c).1 l, le-leb 2 c.code (omega (arith, l.0)), h, or-true (eqb c.code 1 && (as_senior c x || as_junior c x))) (or-true (eqb x c.actor))

-- ---- each entry joins roles that live afterwards

module _ (b : Tables) (c : Command) (formed : Malformed c → ⊥) (present : (x : ℕ) → needed c x ≡ true → x is_in b.live) where
  abbrev Alive : ℕ → Type 0
  Alive x = lives c (bit b.live x) x ≡ true

  alive : (x : ℕ) → c.code ≢ 2 → x is_in b.live → Alive x
  alive x n e = lives_kept c (bit b.live x) x n e

  -- one table, with the sets that command 1 names for it
  module _ (s j : ℕ) (p : Bool) (t : List ℕ)
      (seniors : (x : ℕ) → x is_in s → as_senior c x ≡ true) (juniors : (x : ℕ) → x is_in j → as_junior c x ≡ true)
      (joined : (x y : ℕ) → y is_in row t x → (x is_in b.live) × (y is_in b.live)) (x y : ℕ) (here : entry c s j p (bit (row t x) y) x y ≡ true) where
    abbrev o : Bool
    o = bit (row t x) y

    added : c.code ≡ 1 → Alive x × Alive y
    added e =
        let n : c.code ≢ 2 = λ k. absurd (omega arith) in ⊎_elim
        (λ k. let l = joined x y k in (alive x n l.0, alive y n l.1))
        (λ k. ⊎_elim
        (λ m. (
          alive x n (present x (needed_senior c x e (seniors x (and_right (eqb y c.role) (bit s x) m)))),
          lives_new c (bit b.live y) y e (eqb-true y c.role (and_left (eqb y c.role) (bit s x) m)),
        ))
        (λ m. (
          lives_new c (bit b.live x) x e (eqb-true x c.role (and_left (eqb x c.role) (bit j y) m)),
          alive y n (present y (needed_junior c y e (juniors y (and_right (eqb x c.role) (bit j y) m)))),
        ))
        (or_cases (eqb y c.role && bit s x) (eqb x c.role && bit j y) k))
        (or_cases o ((eqb y c.role && bit s x) || (eqb x c.role && bit j y)) (sym (entry_1 c s j p o x y e) ∙ here))

    removed : c.code ≡ 2 → Alive x × Alive y
    removed e =
        let h : (o && not (eqb x c.role || eqb y c.role)) ≡ true = sym (entry_2 c s j p o x y e) ∙ here in
        let l = joined x y (and_left o (not (eqb x c.role || eqb y c.role)) h) in
        let n : (eqb x c.role || eqb y c.role) ≡ false = not-true _ (and_right o (not (eqb x c.role || eqb y c.role)) h) in (
          lives_left c (bit b.live x) x e l.0 (λ q. false_no n (or_left (eqb x c.role) (eqb y c.role) (eq-eqb x c.role q))),
          lives_left c (bit b.live y) y e l.1 (λ q. false_no n (or_right (eqb x c.role) (eqb y c.role) (eq-eqb y c.role q))),
        )

    edged : c.code ≢ 1 → c.code ≢ 2 → Alive x × Alive y
    edged n1 n2 =
        let three : 3 ≤ c.code = ⊎_elim (λ l. absurd (formed (no_code (inl l)))) (λ g. omega arith) (lt_or_ge c.code 1) in
        let left : entry c s j p o x y ≡ o → Alive x × Alive y = λ q. let l = joined x y (sym q ∙ here) in (alive x n2 l.0, alive y n2 l.1) in ⊎_elim
        (λ past. left (entry_none c s j p o x y (inr past)))
        (λ five. ⊎_elim
        (λ q. (
          alive x n2 (present x (needed_end c x (three, five) (or_left (eqb x c.role) (eqb x c.junior) (and_left (eqb x c.role) (eqb y c.junior) q)))),
          alive y n2 (present y (needed_end c y (three, five) (or_right (eqb y c.role) (eqb y c.junior) (and_right (eqb x c.role) (eqb y c.junior) q)))),
        ))
        (λ q. left (entry_other c s j p o x y n1 n2 q))
        (true_or_false (pair c x y)))
        (lt_or_ge 5 c.code)

    both_alive : Alive x × Alive y
    both_alive = ⊎_elim
        (λ k. added (eqb-true c.code 1 k))
        (λ k. ⊎_elim (λ m. removed (eqb-true c.code 2 m)) (λ m. edged (eqb-false c.code 1 k) (eqb-false c.code 2 m)) (true_or_false (eqb c.code 2)))
        (true_or_false (eqb c.code 1))

live_after : (b : Tables) (c : Command) (x : ℕ) → x < 64 → lives c (bit b.live x) x ≡ true → Live (after b c) x
unfolding after
live_after b c x l e = bit_set_of _ x l ∙ e

pub joined_after : (b : Tables) (c : Command) → Joined b → (Malformed c → ⊥) → (Missing b c → ⊥) → Joined (after b c)
unfolding after
joined_after b c joined formed missing x y h =
    let present : (z : ℕ) → needed c z ≡ true → z is_in b.live =
    λ z n. ⊎_elim (λ e. e) (λ e. absurd (missing record { who = z; is_needed = n; absent = e })) (true_or_false (bit b.live z)) in ⊎_elim
    (λ e.
    let w = in_table c _ _ _ b.i x y e in
    let l = both_alive b c formed present c.i_seniors c.i_juniors (has_i c.kind) b.i
    (λ z. or_right (bit c.a_seniors z) (bit c.i_seniors z)) (λ z. or_right (bit c.a_juniors z) (bit c.i_juniors z))
    (λ u v m. joined u v (i_entry b u v m)) x y w.2 in
    (live_after b c x w.0 l.0, live_after b c y w.1 l.1))
    (λ e.
    let w = in_table c _ _ _ b.a x y e in
    let l = both_alive b c formed present c.a_seniors c.a_juniors (has_a c.kind) b.a
    (λ z. or_left (bit c.a_seniors z) (bit c.i_seniors z)) (λ z. or_left (bit c.a_juniors z) (bit c.i_juniors z))
    (λ u v m. joined u v (a_entry b u v m)) x y w.2 in
    (live_after b c x w.0 l.0, live_after b c y w.1 l.1))
    ((edge_entry (after b c) x y).0 h)

strictly_removed : (c : Command) (x : ℕ) → c.code ≡ 2 → x ≡ c.role → strictly c x ≡ true
unfolding strictly
strictly_removed c x e q = rw (e, eq-eqb x c.role q)

-- role 0 is nobody's junior, so it is in nobody's strict scope, and command 2 on it is refused
root_after : (b : Tables) (c : Command) → Sound b → ((InScope (Scope b) c → ⊥) → ⊥) → Live (after b c) 0
root_after b c sound scoped = live_after b c 0 (lit< tt) (⊎_elim
    (λ k. lives_left c (bit b.live 0) 0 (eqb-true c.code 2 k) sound.root
    (λ q. scoped (λ s. let m = s.strict 0 (strictly_removed c 0 (eqb-true c.code 2 k) q) in no_senior sound c.actor (admin_reaches (record { scope = m.0; strict = m.1 })))))
    (λ k. lives_kept c (bit b.live 0) 0 (eqb-false c.code 2 k) sound.root)
    (true_or_false (eqb c.code 2)))

-- A done command on sound tables leaves sound tables.
pub sound_after : (b : Tables) (rights : List ℕ) (c : Command) → Sound b → First (on_tables b rights c) 0 → Sound (after b c)
sound_after b rights c sound f =
    let rows = first_done (on_tables b rights c) refl f in
    let late = rows.1.1.1.1.1 in record {
      shaped = shaped_after b c;
      joined = joined_after b c sound.joined rows.0 rows.1.0;
      loopless = late.1.0;
      root = root_after b c sound late.0;
      managed = stable (managed_dec (shaped_after b c)) late.1.1.1.0;
    }

-- ---- changing an edge to the kind it has

-- It leaves the very tables.
pub idle_change : (b : Tables) (c : Command) → Shaped b → c.code ≡ 5 → edge_kind b c ≡ c.kind → after b c ≡ b
unfolding after
idle_change b c shaped e same =
    sym (tables_are b c b.live b.i b.a (has_i c.kind) (has_a c.kind)
    (live_stays b c shaped.live_fits (omega arith))
    refl (idles c _ _ _ b.i e (bit_i b c.role c.junior ∙ ap has_i same) record { rows = shaped.i_rows; fits = shaped.i_fits })
    refl (idles c _ _ _ b.a e (bit_a b c.role c.junior ∙ ap has_a same) record { rows = shaped.a_rows; fits = shaped.a_fits }))
