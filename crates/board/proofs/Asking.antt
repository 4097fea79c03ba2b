-- Rows 2 and 3 of what is asked about named roles, and an answer by its number. Assumes nothing.
use mathlib.Core.Path.{◌≡◌, refl, subst}
use mathlib.Core.Bool.{false}
use mathlib.Core.Logic.{◌⊎◌, inl, inr, ⊎_elim, ◌≢◌}
use mathlib.Core.List.{List}
use Prim.Native.Nat.{ℕ, ◌<◌}
use native.Mathlib.Omega.{arith}
use Rattle.sets.specs.Sets.{bit, ◌is_in◌}
use Rattle.sets.proofs.Bools.{true_or_false, false_no, lt_or_ge}
use Rattle.hierarchy.specs.First.{First}
use Rattle.hierarchy.proofs.FirstLaws.{hit, pass, none}
use Rattle.board.specs.Asked.{misnamed, Answered}
use Rattle.board.proofs.Rules.{first_done}

-- ---- the refusals of a sound board

module _ (live x y : ℕ) where
  pub asked_2 : (63 < x) ⊎ (63 < y) → First (misnamed live x y) 2
  asked_2 h = hit _ _ _ h

  module _ (l : x < 64) (m : y < 64) where
    small : (63 < x) ⊎ (63 < y) → ⊥
    small = ⊎_elim (λ g. omega arith) (λ g. omega arith)

    pub asked_3 : (bit live x ≡ false) ⊎ (bit live y ≡ false) → First (misnamed live x y) 3
    asked_3 h = pass _ _ _ _ small (hit _ _ _ (⊎_elim (λ e. inl (false_no e)) (λ e. inr (false_no e)) h))

    pub asked_0 : x is_in live → y is_in live → First (misnamed live x y) 0
    asked_0 e d = pass _ _ _ _ small (pass _ _ _ _ (⊎_elim (λ k. k e) (λ k. k d)) none)

-- what a question knows that is not refused
pub record Asked (live x y : ℕ) : Type 0 where
  pub x_lt : x < 64
  pub y_lt : y < 64
  pub x_live : x is_in live
  pub y_live : y is_in live

pub asked : (live x y n : ℕ) → First (misnamed live x y) n → n ≡ 0 → Asked live x y
asked live x y n f z =
    let rows = first_done (misnamed live x y) refl (subst (First (misnamed live x y)) z f) in record {
      x_lt = ⊎_elim (λ l. l) (λ g. absurd (rows.0 (inl g))) (lt_or_ge x 64);
      y_lt = ⊎_elim (λ l. l) (λ g. absurd (rows.0 (inr g))) (lt_or_ge y 64);
      x_live = ⊎_elim (λ e. e) (λ e. absurd (rows.1.0 (inl (false_no e)))) (true_or_false (bit live x));
      y_live = ⊎_elim (λ e. e) (λ e. absurd (rows.1.0 (inr (false_no e)))) (true_or_false (bit live y));
    }

-- ---- an answer, by its number

module _ {A : Type 0} {rules : List (ℕ × Type 0)} {Right : A → Type 0} {none : A} {n : ℕ} (f : First rules n) where
  pub answer_refused : n ≢ 0 → Answered rules Right none n none
  answer_refused z = record { numbered = f; done = λ k. absurd (z k); refused = λ _. refl }

  pub answer_done : {v : A} → n ≡ 0 → Right v → Answered rules Right none n v
  answer_done z h = record { numbered = f; done = λ _. h; refused = λ k. absurd (k z) }

-- what is the same whatever the table and the words: a value that is right by the one is right by the other
pub answer_as : {A : Type 0} {rules rules' : List (ℕ × Type 0)} {Right Right' : A → Type 0} {none v : A} {n : ℕ}
    → (First rules n → First rules' n) → (n ≡ 0 → Right v → Right' v) → Answered rules Right none n v → Answered rules' Right' none n v
answer_as f g a = record { numbered = f a.numbered; done = λ z. g z (a.done z); refused = a.refused }
