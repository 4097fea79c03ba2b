-- What the test of a sound board's tables and rights says. Assumes nothing.
use mathlib.Core.Path.{◌≡◌, sym, ap, ◌∙◌}
use mathlib.Core.Bool.{Bool, true}
use mathlib.Core.Logic.Iff
use mathlib.Core.Logic.{⊎_elim, ◌↔◌}
use mathlib.Core.List.{List}
use Prim.Native.Nat.{ℕ}
use lib.Bits.{bit_or}
use lib.Dec.{lit≤}
use lib.ListN.{length}
use Rattle.sets.specs.Sets.{bit, ◌is_in◌}
use Rattle.sets.proofs.Bools.{or_left, false_no}
use Rattle.sets.proofs.Digits.{bit_of_or, bit_zero}
use Rattle.sets.proofs.Laws.{bit_lt}
use Rattle.hierarchy.specs.Tables.{Tables, row, Shaped}
use Rattle.hierarchy.specs.Words.{Joined, Sound}
use Rattle.hierarchy.specs.Views.{LiveLoops}
use Rattle.hierarchy.proofs.Checks.{all_is, any_is, and_is, or_is, unless_is, not_is, eq_is, le_is}
use Rattle.hierarchy.proofs.Decide.{reaches_is, edge_lt, managed_is}
use Rattle.hierarchy.proofs.Derive.{edge_entry}
use Rattle.hierarchy.proofs.Order.{joined_loops}
use Rattle.board.specs.Rights.{rights_of, RightsFit}
use Rattle.board.proofs.Fitting.{all_fit}
use Rattle.exampleboards.specs.Answer.{joins?, joined_rows?, live_loops?, rightful?, in_order?}

-- a test says itself
pub is : (p : Bool) → (p ≡ true) ↔ (p ≡ true)
is p = Iff.rfl

-- who is in the row of x lives, and so does x
joins_holds : (live x s y : ℕ) → joins? live x s ≡ true → y is_in s → (x is_in live) × (y is_in live)
unfolding joins?
joins_holds live x s y e m = ⊎_elim
    (λ none. absurd (false_no (ap (λ (n : ℕ). bit n y) none ∙ bit_zero y) m))
    (λ h. (h.0, ap (λ (n : ℕ). bit n y) (sym h.1) ∙ bit_of_or s live y ∙ or_left (bit s y) (bit live y) m))
    ((or_is (eq_is s 0) (and_is (is (bit live x)) (λ _. eq_is (bit_or s live) live))).0 e)

module _ {t : Tables} (s : Shaped t) where
  joined_holds : joined_rows? t ≡ true → Joined t
  unfolding joined_rows?
  joined_holds e x y k =
      let i = all_is 64 (λ z. and_is (is (joins? t.live z (row t.i z))) (λ _. is (joins? t.live z (row t.a z)))) in
      let h = i.0 e x (edge_lt s x y k).0 in
      ⊎_elim (joins_holds t.live x (row t.i x) y h.0) (joins_holds t.live x (row t.a x) y h.1) ((edge_entry t x y).0 k)

  pub live_loops_is : (live_loops? t ≡ true) ↔ LiveLoops t
  unfolding live_loops?
  live_loops_is = any_is 64 (λ x. and_is (is (bit t.live x)) (λ _. reaches_is s x x)) (λ x w. bit_lt 64 s.live_fits w.0)

rightful_holds : (live : ℕ) (rights : List ℕ) → rightful? live rights ≡ true → RightsFit live rights
unfolding rightful?
rightful_holds live rights e =
    let byte = all_is 64 (λ x. and_is (le_is (rights_of rights x) 31) (λ _. unless_is (is (bit live x)) (eq_is (rights_of rights x) 0))) in
    let h = (and_is (eq_is (length rights) 64) (λ _. byte)).0 e in
    all_fit h.0 (lit≤ tt) (λ x l. let m = h.1 x l in (m.0, λ dead. m.1 (false_no dead)))

pub in_order : (t : Tables) (rights : List ℕ) → Shaped t → in_order? t rights ≡ true → Sound t × RightsFit t.live rights
unfolding in_order?
in_order t rights s e =
    let manned = and_is (managed_is s) (λ _. is (rightful? t.live rights)) in
    let rest = and_is (not_is (live_loops_is s)) (λ _. and_is (is (bit t.live 0)) (λ _. manned)) in
    let h = (and_is (is (joined_rows? t)) (λ _. rest)).0 e in
    let joined = joined_holds s h.0 in (
      record { shaped = s; joined = joined; loopless = λ l. h.1.0 ((joined_loops joined).1 l); root = h.1.1.0; managed = h.1.1.1.0 },
      rightful_holds t.live rights h.1.1.1.1,
    )
