-- Document 01 gives refusal numbers in an order of trial. A refusal table here is that list: pairs of a number and its condition.
use Rattle.std.specs.Prelude.{◌≡◌, ◌⊎◌, List, [], ◌∷◌, ℕ}

-- `First rules n`: n is the number of the first rule whose condition holds, and 0, done, where none does
unfoldable pub First : List (ℕ × Type 0) → ℕ → Type 0
First [] n = n ≡ 0
First (rule ∷ rest) n = (rule.1 × (n ≡ rule.0)) ⊎ ((rule.1 → ⊥) × First rest n)

-- n is a number of the table
abbrev pub Among : ℕ → List (ℕ × Type 0) → Type 0
Among n [] = ⊥
Among n (rule ∷ rest) = (n ≡ rule.0) ⊎ Among n rest

-- no row of the table holds
abbrev pub Passed : List (ℕ × Type 0) → Type 0
Passed [] = Unit {0}
Passed (rule ∷ rest) = (rule.1 → ⊥) × Passed rest
