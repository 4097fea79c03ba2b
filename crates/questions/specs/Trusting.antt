-- What the questions answer by the values that a board keeps, whatever they hold. `Rattle.questions.proofs.Viewing` says that on a
-- sound board this is document 01's answer.
use Rattle.std.specs.Prelude.{Option, None, ◌≡◌, Bool, false, List, ℕ}
use Rattle.sets.specs.Sets.{◌is_in◌}
use Rattle.hierarchy.specs.Tables.{row}
use Rattle.hierarchy.specs.Views.{ScopeBy, OutOfScopeBy, manager_at, steps_up}
use Rattle.board.specs.Asked.{misnamed, Answered}
use Rattle.board.specs.Kept.{manager_from}
use Rattle.questions.specs.Questions.{Says, Tells}

-- ---- the questions: their rows 2 and 3, and the value read off what is kept

abbrev pub DerivesTrusting : ℕ → List ℕ → ℕ → ℕ → ℕ → Bool → Type 0
DerivesTrusting live down x y = Answered (misnamed live x y) (Says (y is_in row down x)) false

abbrev pub ScopeTrusting : ℕ → List ℕ → List ℕ → ℕ → ℕ → ℕ → Bool → ℕ → ℕ → ℕ → Type 0
ScopeTrusting live down up a r number said count cause way =
    Answered (misnamed live a r) (Tells (ScopeBy down up a) (OutOfScopeBy down up a) r) (false, 0, 0, 0) number (said, count, cause, way)

abbrev pub ManagerTrusting : ℕ → List ℕ → ℕ → ℕ → Option ℕ → Type 0
ManagerTrusting live manager r = Answered (misnamed live r r) (λ m. m ≡ manager_from (manager_at manager r)) None

abbrev pub StepsTrusting : ℕ → List ℕ → ℕ → ℕ → ℕ → Type 0
StepsTrusting live manager r = Answered (misnamed live r r) (λ n. n ≡ steps_up manager 64 0 r) 0
