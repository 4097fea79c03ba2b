-- The commands of a text, one or many, and what giving them to a board leaves: a run, as request 6 has it.
use Rattle.std.specs.Prelude.{◌≡◌, Bool, false, cond, ◌||◌, List, [], ◌∷◌, ◌++◌, Ok, Err, ℕ, eqb, length, get_or}
use Rattle.board.specs.declared.Board.{Board}
use Rattle.board.specs.declared.Command.{Command}
use Rattle.board.specs.Answers.{Answer}
use Rattle.runs.specs.Runs.{Ran}
use Rattle.wording.specs.Texts.{pieces, word_at}
use Rattle.wording.specs.Meanings.{Meaning, meaning_of}
use Rattle.boardchange.specs.declared.given.Asked.{Asked}
use Rattle.boardchange.specs.declared.given.Asked.TheVariants.{One, Many}

-- the command that a line means, if it means one
abbrev pub meant_by : Meaning → List Command
meant_by (Ok c) = c ∷ []
meant_by (Err wrong) = []

-- a line of many is passed over where it has no word, or its first begins with '#'
unfoldable pub passed? : List ℕ → Bool
passed? line = eqb (length (word_at line 0)) 0 || eqb (get_or (word_at line 0) 0 0) 35

abbrev pub line_commands : List ℕ → List Command
line_commands line = cond (passed? line) [] (meant_by (meaning_of line))

unfoldable pub commands_of : List (List ℕ) → List Command
commands_of [] = []
commands_of (line ∷ lines) = line_commands line ++ commands_of lines

-- a text is one command, or has a command a line
abbrev pub text_commands : Asked → List Command
text_commands (One text) = meant_by (meaning_of text.now)
text_commands (Many text) = commands_of (pieces 10 text.now)

-- whether one of them was done
unfoldable pub some_done : List Answer → Bool
some_done [] = false
some_done (a ∷ answers) = eqb a.number 0 || some_done answers

-- the commands were given one by one, each to the board that the one before it left; this is the last board, and whether one was done
pub record Gave (b : Board) (commands : List Command) (board : Board) (done : Bool) : Type 0 where
  pub answers : List Answer
  pub ran : Ran b commands answers board
  pub told : done ≡ some_done answers
