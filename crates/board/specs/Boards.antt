-- A board of the code as the tables of the mathematics, the founding board, and what a sound board is.
use Rattle.std.specs.Prelude.{List, ◌∷◌, ℕ, replicate}
use Rattle.hierarchy.specs.Tables.{Tables, tables}
use Rattle.hierarchy.specs.Words.{Sound}
use Rattle.hierarchy.specs.Views.{RightValues}
use Rattle.hierarchy.specs.declared.working.Kept.{Kept}
use Rattle.board.specs.Rights.{founding_rights, RightsFit}
use Rattle.board.specs.declared.Board.{Board}

abbrev pub tables_of : Board → Tables
tables_of b = b.tables

abbrev pub kept_values : List ℕ → List ℕ → List ℕ → Kept
kept_values derives derivers manager = record { derives = derives; derivers = derivers; manager = manager }

abbrev pub board_of : ℕ → List ℕ → List ℕ → List ℕ → List ℕ → List ℕ → List ℕ → Board
board_of live i a derives derivers manager rights = record { tables = tables live i a; kept = kept_values derives derivers manager; rights = rights }

-- Document 01's founding board: role 0 lives, and there is no edge. So role 0 derives itself, and nobody has a line manager. By request 4 it
-- has all rights.
unfoldable pub founding_board : Board
founding_board = board_of 1 (replicate 64 0) (replicate 64 0) (1 ∷ replicate 63 0) (1 ∷ replicate 63 0) (replicate 64 64) founding_rights

-- request 1: the values that the board keeps are those of its tables
abbrev pub KeepsRight : Board → Type 0
KeepsRight b = RightValues (tables_of b) b.kept.derives b.kept.derivers b.kept.manager

-- Sound: document 01's soundness of its tables, right values kept, and by request 4 rights of live roles alone.
pub record SoundBoard (b : Board) : Type 0 where
  pub sound : Sound (tables_of b)
  pub right : KeepsRight b
  pub rightful : RightsFit b.tables.live b.rights
