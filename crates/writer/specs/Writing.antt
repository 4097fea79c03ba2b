-- Writing to a place of a buffer, and where the records of one senior stand in a file.
use Rattle.std.specs.Prelude.{◌≡◌, cond, ◌≢◌, List, [], ◌∷◌, ◌++◌, ℕ, ◌+◌, ◌-◌, ◌<◌, eqb, length, take, drop}
use Rattle.hierarchy.specs.Tables.{Tables}
use Rattle.hierarchy.specs.First.{First}
use Rattle.board.specs.Boards.{tables_of, SoundBoard}
use Rattle.board.specs.declared.Board.{Board}
use Rattle.writer.specs.Files.{file_of, stretch_of, start_of}

-- ---- where the edge records of one senior stand

-- A senior without an edge has no place to name, and its start is 0.
unfoldable pub start_or_none : Tables → ℕ → ℕ
start_or_none t role = cond (eqb (length (stretch_of t role)) 0) 0 (start_of t role)

-- where they begin in the file, and how many bytes they are
abbrev pub Stands : ℕ → Tables → ℕ × ℕ → Type 0
Stands role t place = (place.0 ≡ start_or_none t role) × (place.1 ≡ length (stretch_of t role))

-- ---- writing to a place of a buffer

-- row 12: the place is past the end, or there are too few bytes from it on
pub data NoRoom (file : List ℕ) (entry : List ℕ) (at : ℕ) : Type 0 where
  past_end : length entry < at → NoRoom file entry at
  too_few : length entry - at < length file → NoRoom file entry at

-- the file stands there, and the bytes before it and after it stay
abbrev pub Placed : List ℕ → List ℕ → ℕ → List ℕ → ℕ → Type 0
Placed file entry at exit len = (len ≡ length file) × (exit ≡ take at entry ++ file ++ drop (at + length file) entry)

-- no byte is changed
abbrev pub Unplaced : List ℕ → List ℕ → ℕ → Type 0
Unplaced entry exit len = (len ≡ 0) × (exit ≡ entry)

-- 1, then 12
abbrev pub write_refusals : Board → List ℕ → ℕ → List (ℕ × Type 0)
write_refusals b entry at = (1, (SoundBoard b → ⊥)) ∷ (12, NoRoom (file_of (tables_of b) b.rights) entry at) ∷ []

-- done puts the file there, a refusal leaves every byte, and the length is 0
pub record WriteAnswer (b : Board) (entry : List ℕ) (at : ℕ) (exit : List ℕ) (number len : ℕ) : Type 0 where
  pub numbered : First (write_refusals b entry at) number
  pub done : number ≡ 0 → Placed (file_of (tables_of b) b.rights) entry at exit len
  pub refused : number ≢ 0 → Unplaced entry exit len
