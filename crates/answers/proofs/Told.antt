-- A result is packed as its answer. Assumes nothing.
use mathlib.Core.Path.{◌≡◌, subst}
use Prim.Native.Nat.{ℕ}
use Rattle.std.specs.Prelude.{Result}
use Rattle.board.specs.Answers.{Answer, answer}
use Rattle.board.specs.declared.answers.Refusal.{Refusal}
use Rattle.answers.specs.Packing.{answer_of}

pub told_result : {A : Type 0} {n : ℕ} (q : Result A Refusal) (place value : ℕ) → (told : Answer) × ((told ≡ answer q) × (n ≡ answer_of told place value))
    → n ≡ answer_of (answer q) place value
told_result {n = n} q place value w = subst (λ (told : Answer). n ≡ answer_of told place value) w.1.0 w.1.1
