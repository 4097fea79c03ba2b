-- What adding to an edge and removing from it leave of it, and taking back what was added. Assumes nothing.
use mathlib.Core.Path.{◌≡◌, refl, sym, ap, ap₂, ◌∙◌}
use mathlib.Core.Bool.{Bool, true, false, not, ◌&&◌, ◌||◌, or-false, and-true, and-false}
use mathlib.Core.List.{List}
use Prim.Native.Nat.{ℕ, ◌<◌}
use native.Mathlib.Omega.{arith}
use lib.Dec.{eqb}
use borrow.Author.Tests.{eq-eqb}
use Rattle.sets.specs.Sets.{bit}
use Rattle.sets.proofs.Bools.{and_both, and_left, and_right}
use Rattle.sets.proofs.Laws.{set_of_fits}
use Rattle.hierarchy.specs.Tables.{Tables, Shaped, IsTable, row, kind_of, kind, has_i, has_a}
use Rattle.hierarchy.proofs.Derive.{bit_i, bit_a}
use Rattle.board.specs.declared.Command.{Command}
use Rattle.effects.specs.Effects.{pair, table_after, after}
use Rattle.effects.proofs.Edits.{table_entry, table_is, named, entry_3, entry_4, live_stays, tables_are}
use Rattle.refusals.specs.Refusals.{edge_kind}
use Rattle.commands.specs.EdgeParts.{both, less, NoneStands, TakesBack}

-- ---- what a command leaves of its own edge

module _ (c : Command) (l : c.role < 64) (m : c.junior < 64) where
  here : pair c c.role c.junior ≡ true
  here = and_both _ _ (eq-eqb c.role c.role refl) (eq-eqb c.junior c.junior refl)

  -- in one table, which had `old` there
  module _ (s j : ℕ) (p : Bool) (t : List ℕ) where
    abbrev old : Bool
    old = bit (row t c.role) c.junior

    abbrev new : Bool
    new = bit (row (table_after c s j p t) c.role) c.junior

    pub added : c.code ≡ 3 → new ≡ (old || p)
    added e = table_entry c s j p t c.role c.junior l m ∙ entry_3 c s j p old c.role c.junior e ∙ ap (λ q. old || (q && p)) here

    removed : c.code ≡ 4 → new ≡ (old && not p)
    removed e = table_entry c s j p t c.role c.junior l m ∙ entry_4 c s j p old c.role c.junior e ∙ ap (λ q. old && not (q && p)) here

  module _ (t : Tables) where
    pub kind_added : c.code ≡ 3 → edge_kind (after t c) c ≡ both (edge_kind t c) c.kind
    unfolding after kind
    kind_added e = ap₂ kind_of
        (added _ _ _ t.i e ∙ ap (λ o. o || has_i c.kind) (bit_i t c.role c.junior))
        (added _ _ _ t.a e ∙ ap (λ o. o || has_a c.kind) (bit_a t c.role c.junior))

    pub kind_removed : c.code ≡ 4 → edge_kind (after t c) c ≡ less (edge_kind t c) c.kind
    unfolding after kind
    kind_removed e = ap₂ kind_of
        (removed _ _ _ t.i e ∙ ap (λ o. o && not (has_i c.kind)) (bit_i t c.role c.junior))
        (removed _ _ _ t.a e ∙ ap (λ o. o && not (has_a c.kind)) (bit_a t c.role c.junior))

-- ---- taking back what was added

back : (o q : Bool) → (q ≡ true → o ≡ false) → o ≡ ((o || q) && not q)
back o true h = h refl ∙ sym (and-false (o || true))
back o false h = sym (and-true (o || false) ∙ or-false o)

module _ {c d : Command} (w : TakesBack c d) where
  back_table : (s j s' j' : ℕ) (p : Bool) (t : List ℕ) → IsTable t → (p ≡ true → bit (row t c.role) c.junior ≡ false)
      → t ≡ table_after d s' j' p (table_after c s j p t)
  back_table s j s' j' p t whole free = table_is d s' j' p (table_after c s j p t) t whole
      (λ x y l m.
      let o = bit (row t x) y in
      back o (pair c x y && p)
      (λ q. named c x y t (and_left (pair c x y) p q) ∙ free (and_right (pair c x y) p q))
      ∙ sym (entry_4 d s' j' p _ x y w.removes
      ∙ ap₂ (λ n q. n && not (q && p)) (table_entry c s j p t x y l m ∙ entry_3 c s j p o x y w.adds) (ap₂ (λ u v. eqb x u && eqb y v) w.role w.junior)))

  -- It leaves the tables of before.
  pub taken_back : (t : Tables) → Shaped t → NoneStands t c → after (after t c) d ≡ t
  unfolding after
  taken_back t shaped free = sym (tables_are (after t c) d t.live t.i t.a (has_i c.kind) (has_a c.kind)
      (live_stays t c shaped.live_fits (omega (arith, w.adds)) ∙ live_stays (after t c) d (set_of_fits _) (omega (arith, w.removes)))
      (ap has_i (sym w.kind)) (back_table _ _ _ _ _ t.i record { rows = shaped.i_rows; fits = shaped.i_fits } free.i)
      (ap has_a (sym w.kind)) (back_table _ _ _ _ _ t.a record { rows = shaped.a_rows; fits = shaped.a_fits } free.a))
