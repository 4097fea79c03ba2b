-- The boards that demand 3 speaks of: the founding board, any board that an accepted file gives, and whatever a command leaves of one
-- of these, done or refused.
use Rattle.std.specs.Prelude.{List, ℕ}
use Rattle.board.specs.Boards.{founding_board}
use Rattle.board.specs.declared.Board.{Board}
use Rattle.board.specs.declared.Command.{Command}
use Rattle.board.specs.Answers.{Answer}
use Rattle.commands.specs.Commands.{Decided}
use Rattle.boardfile.specs.Answers.{ReadAnswer}

pub data Reached : Board → Type 0 where
  founding : Reached founding_board
  file : {f : List ℕ} {b : Board} → ReadAnswer f 0 b → Reached b
  command : {b next : Board} {c : Command} {answer : Answer} → Reached b → Decided b c answer next → Reached next
