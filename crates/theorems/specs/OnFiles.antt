-- Commands on files: what a refusal may be, and the files that commands leave one after the other.
use Rattle.std.specs.Prelude.{◌≡◌, ◌⊎◌, List, [], ◌∷◌, ℕ, take}
use Rattle.hierarchy.specs.First.{Among}
use Rattle.board.specs.declared.Board.{Board}
use Rattle.board.specs.declared.Command.{Command}
use Rattle.board.specs.Answers.{Answer}
use Rattle.commands.specs.Commands.{refusals as command_refusals}
use Rattle.boardfile.specs.Answers.{refusals, ReadAnswer, Place, CommandAnswer}

-- A command on a file is refused with a number of the file's table, of the command's on the board in it, or with 12 for want of room.
abbrev pub Refused : List ℕ → Command → ℕ → Type 0
Refused f c number =
    Among number (refusals f)
    ⊎ ((b : Board) × ReadAnswer f 0 b × (Among number (command_refusals b c) ⊎ (number ≡ 12)))

-- `Chain f commands g`: each of the commands was done, the first on the file f, each other one on the file that the one before it left at
-- the start of its buffer, and g is the last file. What was refused in between left no file, and isn't in the chain.
pub data Chain : List ℕ → List Command → List ℕ → Type 0 where
  begun : {f : List ℕ} → Chain f [] f
  followed : {f g entry exit : List ℕ} {c : Command} {rest : List Command} {place : Place} {answer : Answer} {len : ℕ}
      → CommandAnswer f c entry exit place answer len → answer.number ≡ 0 → Chain (take len exit) rest g → Chain f (c ∷ rest) g
