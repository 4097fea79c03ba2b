-- Document 01's table of refusals for a command, whole and in its order, and what a command answers and leaves.
use Rattle.std.specs.Prelude.{◌≡◌, ◌≢◌, List, [], ◌∷◌, ◌++◌, ℕ}
use Rattle.hierarchy.specs.Tables.{Tables}
use Rattle.hierarchy.specs.Words.{Derives, Scope, OutOfScope, Administrator, Loops, Managed}
use Rattle.hierarchy.specs.First.{First}
use Rattle.board.specs.Boards.{tables_of, SoundBoard}
use Rattle.board.specs.declared.Board.{Board}
use Rattle.board.specs.Answers.{Answer}
use Rattle.board.specs.declared.Command.{Command}
use Rattle.effects.specs.Effects.{after}
use Rattle.refusals.specs.Refusals.{Blames, Names, before}
use Rattle.commands.specs.RightsAfter.{rights_after}

-- ---- row 8, on the tables afterwards: the new role is outside the actor's strict scope

pub record Outside (t : Tables) (c : Command) : Type 0 where
  pub adds : c.code ≡ 1
  pub outside : Administrator t c.actor c.role → ⊥

-- ---- the table of refusals, in the order they are tried

-- on the tables that the command would leave: past loops, and all
abbrev pub past_loops : Tables → Command → List (ℕ × Type 0)
past_loops t c =
    (8, Outside t c)
    ∷ (9, (Managed t → ⊥))
    ∷ []

abbrev pub afterwards : Tables → Command → List (ℕ × Type 0)
afterwards t c = (7, Loops t) ∷ past_loops t c

-- document 01's rows past the first, with its own words for deriving and scope
abbrev pub on_tables : Tables → List ℕ → Command → List (ℕ × Type 0)
on_tables t rights c = before (Derives t) (Scope t) t rights c ++ afterwards (after t c) c

-- and an unsound board refused before all others
abbrev pub refusals : Board → Command → List (ℕ × Type 0)
refusals b c = (1, (SoundBoard b → ⊥)) ∷ on_tables (tables_of b) b.rights c

-- ---- what a command answers: the number by the table, and who offends; done makes the change, a refusal leaves the very board

-- The change: tables and rights are those afterwards, and the board is as a board has to be, which settles the values it keeps.
pub record Made (Fit : Board → Type 0) (b : Board) (c : Command) (board : Board) : Type 0 where
  pub tables_are : tables_of board ≡ after (tables_of b) c
  pub rights_are : board.rights ≡ rights_after c b.rights
  pub fit : Fit board

pub record DecidedBy (rules : List (ℕ × Type 0)) (Blame : Answer → Type 0) (Fit : Board → Type 0) (b : Board) (c : Command) (answer : Answer) (board : Board) : Type 0 where
  pub numbered : First rules answer.number
  pub named : Names Blame answer
  pub done : answer.number ≡ 0 → Made Fit b c board
  pub refused : answer.number ≢ 0 → board ≡ b

abbrev pub Decided : Board → Command → Answer → Board → Type 0
Decided b c = DecidedBy (refusals b c) (Blames (Scope (tables_of b)) (OutOfScope (tables_of b)) c) SoundBoard b c
