-- What is asked about named roles: document 01's rows 2 and 3, and an answer by whatever table of refusals.
use Rattle.std.specs.Prelude.{◌≡◌, ◌⊎◌, ◌≢◌, List, [], ◌∷◌, ℕ, ◌<◌}
use Rattle.sets.specs.Sets.{◌is_in◌}
use Rattle.hierarchy.specs.First.{First}

-- the refusals of a question that names the roles x and y (one that names a single role names it twice)
abbrev pub misnamed : ℕ → ℕ → ℕ → List (ℕ × Type 0)
misnamed live x y =
    (2, (63 < x) ⊎ (63 < y))
    ∷ (3, (x is_in live → ⊥) ⊎ (y is_in live → ⊥))
    ∷ []

-- What a question answers: the number by its table, with 0 a value that is right, with a refusal the one that says no, none or zero.
pub record Answered {A : Type 0} (rules : List (ℕ × Type 0)) (Right : A → Type 0) (none : A) (number : ℕ) (value : A) : Type 0 where
  pub numbered : First rules number
  pub done : number ≡ 0 → Right value
  pub refused : number ≢ 0 → value ≡ none
