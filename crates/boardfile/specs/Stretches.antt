-- The edge records of one senior, as a part of the caller's own file.
use Rattle.std.specs.Prelude.{Result, Ok, Err, ◌≡◌, List, [], ℕ, ◌+◌}
use Rattle.std.specs.Borrow.{Bor}
use Rattle.board.specs.Answers.{number_of}
use Rattle.board.specs.declared.answers.Refusal.{Refusal}
use Rattle.boardfile.specs.Answers.{StretchAnswer}

-- They are a part of the caller's own file: `part_at` and `file_at` are where the two lie in memory, a block and a place in it.
abbrev pub StretchOf : List ℕ → ℕ × ℕ → ℕ → ℕ → List ℕ → ℕ × ℕ → Type 0
StretchOf f file_at role number part part_at =
    (start : ℕ) × StretchAnswer f role number part start × (part_at.0 ≡ file_at.0) × (part_at.1 ≡ file_at.1 + start)

-- a result in these words: with a refusal there is no part
abbrev pub Stretched : List ℕ → ℕ × ℕ → ℕ → Result (Bor (List ℕ)) Refusal → Type 0
Stretched f file_at role (Ok part) = StretchOf f file_at role 0 part.now part.ref_ptr
Stretched f file_at role (Err e) = StretchOf f file_at role (number_of e) [] file_at
