-- The tables and the rights afterwards as they are computed, with the rows that a command cannot touch taken as they are, are those of the
-- definitions. Assumes nothing.
use mathlib.Core.Path.{◌≡◌, refl, sym, ◌∙◌, ap, ap₂, subst, fun_ext}
use mathlib.Core.Bool.{Bool, true, false, cond, not, ◌&&◌, ◌||◌, and-true, and-false, or-false}
use mathlib.Core.List.{List}
use Prim.Native.Nat.{ℕ, ◌^◌, ◌<◌}
use native.Mathlib.Omega.{arith}
use lib.Dec.{eqb}
use borrow.Author.Tests.{eqb-true, leb-true}
use Rattle.std.proofs.lemmas.Bool.{or_parts}
use Rattle.sets.specs.Sets.{bit, set_of}
use Rattle.sets.proofs.Bools.{cond_elim}
use Rattle.sets.proofs.Laws.{is_set_of}
use Rattle.hierarchy.specs.Tables.{Tables, row, Shaped, has_i, has_a, AreBytes}
use Rattle.hierarchy.proofs.Rows.{row_set}
use Rattle.board.specs.declared.Command.{Command}
use Rattle.effects.specs.Effects.{lives, entry, list_of, table_after, after}
use Rattle.effects.proofs.Edits.{tables_stay}
use Rattle.refusals.specs.Entitled.{names_rights}
use Rattle.refusals.specs.Refusals.{Malformed}
use Rattle.refusals.proofs.Trying.{role_lt}
use Rattle.commands.specs.RightsAfter.{rights_after}
use Rattle.commands.proofs.RightsLeft.{rights_length, rights_set, rights_small}
use Rattle.exampleboards.specs.Answer.{touched?, table_left, left, rights_left}

stays : (old r : Bool) → (r ≡ true → old ≡ false) → (old && not r) ≡ old
stays old true h = and-false old ∙ sym (h refl)
stays old false h = and-true old

-- the entries of a row that is not touched stay
entry_stays : (c : Command) (seniors juniors : ℕ) (part old : Bool) (x y : ℕ)
    → eqb x c.role ≡ false → bit seniors x ≡ false → (eqb y c.role ≡ true → old ≡ false) → entry c seniors juniors part old x y ≡ old
unfolding entry
entry_stays c seniors juniors part old x y e s h =
    pick (eqb c.code 1)
    (ap₂ (λ p q. old || ((eqb y c.role && q) || (p && bit juniors y))) e s ∙ ap (λ q. old || (q || false)) (and-false (eqb y c.role)) ∙ or-false old)
    (pick (eqb c.code 2)
    (ap (λ p. old && not (p || eqb y c.role)) e ∙ stays old (eqb y c.role) h)
    (pick (eqb c.code 3)
    (ap (λ p. old || ((p && eqb y c.junior) && part)) e ∙ or-false old)
    (pick (eqb c.code 4)
    (ap (λ p. old && not ((p && eqb y c.junior) && part)) e ∙ and-true old)
    (pick (eqb c.code 5)
    (ap (λ p. cond (p && eqb y c.junior) part old) e)
    refl))))
  where
    pick : (p : Bool) {u v : Bool} → u ≡ old → v ≡ old → cond p u v ≡ old
    pick true f g = f
    pick false f g = g

table_left_is : (c : Command) (seniors juniors : ℕ) (part : Bool) (t : List ℕ) → ((x : ℕ) → row t x < 2 ^ 64)
    → table_left c seniors juniors part t ≡ table_after c seniors juniors part t
unfolding table_left table_after touched?
table_left_is c seniors juniors part t fits = ap (list_of 64) (fun_ext (λ x.
    let f : ℕ → Bool = λ y. entry c seniors juniors part (bit (row t x) y) x y in
    cond_elim (λ s. s ≡ set_of f) (touched? c seniors t x) (set_of f) (row t x) (λ _. refl) (λ e.
    let p = or_parts (eqb x c.role) (bit seniors x || bit (row t x) c.role) e in
    let q = or_parts (bit seniors x) (bit (row t x) c.role) p.1 in
    is_set_of (row t x) f (fits x) (λ y _.
    sym (entry_stays c seniors juniors part (bit (row t x) y) x y p.0 q.0 (λ d. ap (bit (row t x)) (eqb-true y c.role d) ∙ q.1))))))

pub left_is : (t : Tables) (c : Command) → Shaped t → left t c ≡ after t c
unfolding left after
left_is t c s = cond_elim (λ d. d ≡ after t c) (names_rights c) t _
    (λ e. sym (tables_stay t c s (leb-true 6 c.code e)))
    (λ _ k. record {
      live = set_of (λ x. lives c (bit t.live x) x);
      i = table_left_is c c.i_seniors c.i_juniors (has_i c.kind) t.i s.i_fits k;
      a = table_left_is c c.a_seniors c.a_juniors (has_a c.kind) t.a s.a_fits k;
    })

module _ (c : Command) (formed : Malformed c → ⊥) {rights : List ℕ} (whole : AreBytes rights) where
  pub rights_left_is : rights_left c rights ≡ rights_after c rights
  unfolding rights_left
  rights_left_is = rights_set c rights whole (role_lt c formed) _ refl

  -- and so they stay bytes
  pub bytes_after : AreBytes (rights_after c rights)
  unfolding rights_left
  bytes_after = record {
    rows = rights_length c rights;
    fits = λ x. subst (λ (l : List ℕ). row l x < 256) rights_left_is
        (row_set rights c.role _ x (omega (arith, whole.rows, role_lt c formed)) (λ n. n < 256)
        (λ _. rights_small c formed _ _ (whole.fits c.role) refl) (λ _. whole.fits x));
  }
