-- These rows with deriving and scope read off the sets that a board keeps, whatever they hold.
use Rattle.std.specs.Prelude.{List, ℕ}
use Rattle.sets.specs.Sets.{◌is_in◌}
use Rattle.hierarchy.specs.Tables.{row}
use Rattle.hierarchy.specs.Views.{ScopeBy, OutOfScopeBy}
use Rattle.board.specs.Boards.{tables_of}
use Rattle.board.specs.declared.Board.{Board}
use Rattle.board.specs.Answers.{Answer}
use Rattle.board.specs.declared.Command.{Command}
use Rattle.refusals.specs.Refusals.{before, Blames}

-- a derives x, by the row of a
abbrev pub DerivesBy : List ℕ → ℕ → ℕ → Type 0
DerivesBy down a x = x is_in row down a

-- who offends and why, read off the two tables
abbrev pub BlamesBy : List ℕ → List ℕ → Command → Answer → Type 0
BlamesBy down up = Blames (ScopeBy down up) (OutOfScopeBy down up)

-- the rows on the board handed in
abbrev pub before_trusting : Board → Command → List (ℕ × Type 0)
before_trusting b c = before (DerivesBy b.kept.derives) (ScopeBy b.kept.derives b.kept.derivers) (tables_of b) b.rights c
