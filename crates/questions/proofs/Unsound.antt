-- A question about a board that may not be sound. Assumes nothing.
use mathlib.Core.Path.{◌≡◌, refl, subst}
use Prim.Native.Nat.{ℕ}
use native.Mathlib.Omega.{arith}
use Rattle.hierarchy.specs.Words.{Sound}
use Rattle.hierarchy.specs.First.{First}
use Rattle.hierarchy.proofs.Decide.{sound_dec}
use Rattle.hierarchy.proofs.FirstLaws.{hit}
use Rattle.board.specs.Boards.{tables_of, SoundBoard}
use Rattle.board.specs.Asked.{Answered}
use Rattle.board.specs.declared.Board.{Board}
use Rattle.board.proofs.Rules.{stable, first_done}
use Rattle.board.proofs.Asking.{answer_refused}
use Rattle.questions.specs.Questions.{refusals}

-- and of any board
pub asked_1 : (b : Board) (x y : ℕ) → (SoundBoard b → ⊥) → First (refusals b x y) 1
asked_1 b x y n = hit _ _ _ n

-- what is not refused is asked of sound tables
pub asked_sound : (b : Board) (x y n : ℕ) → First (refusals b x y) n → n ≡ 0 → Sound (tables_of b)
asked_sound b x y n f z =
    let rows = first_done (refusals b x y) refl (subst (First (refusals b x y)) z f) in
    stable (sound_dec (tables_of b)) (λ k. rows.0 (λ s. k s.sound))

-- of a board that isn't sound
pub answer_unsound : {A : Type 0} {Right : A → Type 0} {none : A} (b : Board) (x y : ℕ) → (SoundBoard b → ⊥) → Answered (refusals b x y) Right none 1 none
answer_unsound b x y n = answer_refused (asked_1 b x y n) (λ k. omega (arith, k))
