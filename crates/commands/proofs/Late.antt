-- The rows on the tables that a command would leave, each from what the code tests. Assumes nothing.
use mathlib.Core.Path.{◌≡◌, refl, sym, subst, ◌∙◌}
use mathlib.Core.Bool.{Bool, true, false, ◌||◌, false≢true}
use mathlib.Core.Logic.Iff
use mathlib.Core.Logic.{◌⊎◌, inl, inr, ⊎_elim, ⊎_map, ◌≢◌, ◌↔◌}
use mathlib.Core.List.{List, [], ◌∷◌}
use Prim.Native.Nat.{ℕ}
use Rattle.sets.specs.Sets.{bit, ◌is_in◌, ◌are_in◌}
use Rattle.sets.proofs.Members.{Taken, taken_part, taken_kept}
use Rattle.hierarchy.specs.Tables.{Tables, tables, row, kind, Shaped}
use Rattle.hierarchy.specs.First.{First}
use Rattle.hierarchy.specs.Words.{Managed}
use Rattle.hierarchy.specs.Views.{InOrder, Inward, AreViews, WorkedOut, fault_number}
use Rattle.hierarchy.specs.declared.working.Fault.{Fault}
use Rattle.hierarchy.specs.declared.working.Fault.TheVariants.{Loops, Unmanaged}
use Rattle.hierarchy.proofs.Checks.{or_is}
use Rattle.hierarchy.proofs.Derive.{edge_entry}
use Rattle.hierarchy.proofs.Decide.{live_loops_dec}
use Rattle.hierarchy.proofs.FirstLaws.{hit, pass}
use Rattle.hierarchy.proofs.Order.{order_no_loop, inward_order}
use Rattle.hierarchy.proofs.ViewLaws.{admin_by}
use Rattle.board.specs.declared.Command.{Command}
use Rattle.board.proofs.Rules.{stable}
use Rattle.board.proofs.Looking.{worked_disordered, worked_order, worked_rest}
use Rattle.board.specs.Answers.{number_of, faulted}
use Rattle.commands.specs.Commands.{Outside}
use Rattle.commands.specs.Trusting.{OutOfOrder, late, OutsideBy, LateBy}
use Rattle.std.specs.Prelude.{Result, Ok, Err}
use Rattle.std.specs.Result.{result_eq}
use native.Mathlib.Omega.{arith}

-- ---- whether juniors of live roles are live: those of the roles in rest are not looked at yet

pub record Looked (live : ℕ) (i a : List ℕ) (rest : ℕ) : Type 0 where
  pub part : rest are_in live
  pub done : (x : ℕ) → x is_in live → (x is_in rest) ⊎ ((y : ℕ) → kind (tables live i a) x y ≢ 0 → y is_in live)

module _ (live : ℕ) (i a : List ℕ) (x both : ℕ) (w : Bool) (both_is : (y : ℕ) → bit both y ≡ (bit (row i x) y || bit (row a x) y))
    (test : (w ≡ true) ↔ (both are_in live)) where
  joins : (y : ℕ) → (y is_in both) ↔ (kind (tables live i a) x y ≢ 0)
  joins y =
      let o = or_is {p = bit (row i x) y} Iff.rfl (Iff.rfl {A = bit (row a x) y ≡ true}) in
      Iff.trans (λ m. o.0 (sym (both_is y) ∙ m), λ d. both_is y ∙ o.1 d) (Iff.symm (edge_entry (tables live i a) x y))

  pub looked_turn : {rest rest' : ℕ} → Taken rest x rest' → w ≡ true → Looked live i a rest → Looked live i a rest'
  looked_turn turn e inv = record {
    part = λ z m. inv.part z (taken_part turn z m);
    done = λ z m. ⊎_elim
        (λ k. ⊎_map (λ r. r) (λ q. subst (λ (n : ℕ). (y : ℕ) → kind (tables live i a) n y ≢ 0 → y is_in live) (sym q) (λ y h. test.0 e y ((joins y).1 h))) (taken_kept turn z k))
        inr (inv.done z m);
  }

  pub looked_out : {rest : ℕ} → x is_in rest → w ≡ false → Looked live i a rest → Inward (tables live i a) → ⊥
  looked_out m e inv inward = false≢true (sym e ∙ test.1 (λ y k. inward x y (inv.part x m) ((joins y).0 k)))

-- ---- the rows on the tables that a command would leave, by whether they are in order

pub late_disordered : (t : Tables) (c : Command) (n : ℕ) → Shaped t → (InOrder t → ⊥) → OutOfOrder t n → First (late t c) n
late_disordered t c n shaped without (inl w) =
    subst (First (late t c)) (sym w.1) (pass _ _ _ _ (λ k. k.outward w.0)
    (hit _ _ _ (stable (live_loops_dec shaped) (λ m. without ((inward_order shaped.live_fits w.0).1 m)))))
late_disordered t c n shaped without (inr w) = subst (First (late t c)) (sym w.1) (hit _ _ _ (record { disordered = without; outward = w.0 }))

pub late_ordered : (t : Tables) (c : Command) (n : ℕ) → ((InOrder t → ⊥) → ⊥) → First ((8, Outside t c) ∷ (9, (Managed t → ⊥)) ∷ []) n → First (late t c) n
late_ordered t c n order f = pass _ _ _ _ (λ k. order k.disordered) (pass _ _ _ _ (λ l. order (λ o. order_no_loop o l)) f)

-- row 8
module _ (b : Tables) (c : Command) where
  pub outside_row : {down up : List ℕ} → AreViews b down up → OutsideBy down up c ↔ Outside b c
  outside_row v = (λ o. record { adds = o.adds; outside = λ a. o.outside ((admin_by v).1 a) }, λ o. record { adds = o.adds; outside = λ a. o.outside ((admin_by v).0 a) })

-- ---- the same, as the values were worked out

-- what a result says of order
module _ (eu : Unit {0} → Unit {0} → Bool) (ef : Fault → Fault → Bool) where
  pub loops_seven : (r : Result (Unit {0}) Fault) → ef Unmanaged Loops ≡ false → true ≡ result_eq eu ef r (Err Loops) → fault_number r ≡ 7
  loops_seven (Ok v) h e = absurd (false≢true (sym e))
  loops_seven (Err Loops) h e = refl
  loops_seven (Err Unmanaged) h e = absurd (false≢true (sym h ∙ sym e))

  pub other_seven : (r : Result (Unit {0}) Fault) → ef Loops Loops ≡ true → false ≡ result_eq eu ef r (Err Loops) → fault_number r ≢ 7
  other_seven (Ok v) h e = λ q. omega (arith, q)
  other_seven (Err Loops) h e = absurd (false≢true (e ∙ h))
  other_seven (Err Unmanaged) h e = λ q. omega (arith, q)

pub fault_same : (f : Fault) → fault_number {A = Unit {0}} (Err f) ≡ number_of (faulted f)
fault_same Loops = refl
fault_same Unmanaged = refl

module _ {t : Tables} (c : Command) {n : ℕ} {d u m : List ℕ} (w : WorkedOut t n d u m) where
  pub late_loops : {k : ℕ} → Shaped t → n ≡ 7 → OutOfOrder t k → LateBy t c k d u m
  late_loops {k} shaped e o = record {
    numbered = late_disordered t c k shaped (worked_disordered w e) o;
    right = λ z. ⊎_elim (λ p. absurd (omega (arith, z, p.1))) (λ p. absurd (omega (arith, z, p.1))) o;
  }

  module _ (order : n ≢ 7) where
    pub late_outside : OutsideBy d u c → LateBy t c 8 d u m
    late_outside o = record {
      numbered = late_ordered t c 8 (worked_order w order) (hit _ _ _ ((outside_row t c (w.right order).views).0 o));
      right = λ z. absurd (omega (arith, z));
    }

    pub late_rest : (OutsideBy d u c → ⊥) → LateBy t c n d u m
    late_rest inside = record {
      numbered = late_ordered t c n (worked_order w order) (pass _ _ _ _ (λ o. inside ((outside_row t c (w.right order).views).1 o)) (worked_rest w order));
      right = λ _. w.right order;
    }
