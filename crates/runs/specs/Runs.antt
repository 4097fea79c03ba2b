-- Request 6: a run of commands handed over together, with a row for their answers.
use Rattle.std.specs.Prelude.{◌≡◌, ◌≢◌, List, [], ◌∷◌, ◌++◌, map, ℕ, ◌<◌, length, get_or, take, drop, replicate}
use Rattle.hierarchy.specs.First.{First}
use Rattle.board.specs.declared.Board.{Board}
use Rattle.board.specs.declared.Command.{Command}
use Rattle.board.specs.Answers.{Answer}
use Rattle.commands.specs.Commands.{Decided}
use Rattle.answers.specs.Packing.{answer_of}
use Rattle.runs.specs.declared.Evening.{Evening}

-- `Ran b commands answers last`: the commands are given one by one, the first to b and each other to the board that the one before it left,
-- done or refused; these are their answers, and this is the last board.
pub data Ran : Board → List Command → List Answer → Board → Type 0 where
  over : {b : Board} → Ran b [] [] b
  given : {b next last : Board} {c : Command} {rest : List Command} {a : Answer} {answers : List Answer}
      → Decided b c a next → Ran next rest answers last → Ran b (c ∷ rest) (a ∷ answers) last

-- the row afterwards: each answer whole, its own place and value 0, at its command's place of the row; the places beyond the run as they were
abbrev pub row_after : List Answer → List ℕ → List ℕ
row_after answers entry = map (λ (a : Answer). answer_of a 0 0) answers ++ drop (length answers) entry

-- the run's own refusal, before any command is tried: the row has fewer places than the run has commands
abbrev pub run_refusals : ℕ → ℕ → List (ℕ × Type 0)
run_refusals commands places = (12, places < commands) ∷ []

-- what a run leaves of the board b and of a row that held `entry`
pub record Went (b : Board) (commands : List Command) (entry exit : List ℕ) (board : Board) : Type 0 where
  pub answers : List Answer
  pub ran : Ran b commands answers board
  pub row : exit ≡ row_after answers entry

-- done, all commands were given, whatever their answers; refused, none was, and board and row are as they were
pub record RanBy (rules : List (ℕ × Type 0)) (b : Board) (commands : List Command) (entry exit : List ℕ) (number : ℕ) (board : Board) : Type 0 where
  pub numbered : First rules number
  pub done : number ≡ 0 → Went b commands entry exit board
  pub refused : number ≢ 0 → (board ≡ b) × (exit ≡ entry)

-- on a board and a row that are lent
abbrev pub RunAnswer : Board → List Command → List ℕ → List ℕ → ℕ → Board → Type 0
RunAnswer b commands entry = RanBy (run_refusals (length commands) (length entry)) b commands entry

-- by value: the first n of 64 commands, with a row of 64 places of its own, each 0 before
abbrev pub EveningAnswer : Board → List Command → ℕ → List ℕ → ℕ → Board → Type 0
EveningAnswer b commands n = RanBy (run_refusals n 64) b (take n commands) (replicate 64 0)

-- what a run by value has before any command is tried, and has still where it is refused
abbrev pub untried : Board → Evening
untried b = record { answers = replicate 64 0; board = b }

-- ---- what the theorems on runs say

-- a run that is cut in two: the run of the first part, and from where that ends the run of the second, and their answers in a row
pub record InParts (b : Board) (first rest : List Command) (answers : List Answer) (last : Board) : Type 0 where
  pub early : List Answer
  pub late : List Answer
  pub between : Board
  pub in_a_row : answers ≡ early ++ late
  pub begun : Ran b first early between
  pub ended : Ran between rest late last

-- a command c of a run, after the commands `first`: it is decided on the board that they leave, its answer is in its own place of the row, between
-- theirs and those of the rest, and the run goes on from the board that it leaves
pub record InItsPlace (b : Board) (first : List Command) (c : Command) (rest : List Command) (entry exit : List ℕ) (last : Board) : Type 0 where
  pub before : Board
  pub after : Board
  pub answer : Answer
  pub early : List Answer
  pub late : List Answer
  pub begun : Ran b first early before
  pub decided : Decided before c answer after
  pub ended : Ran after rest late last
  pub row : exit ≡ row_after (early ++ answer ∷ late) entry
  pub place : get_or exit (length first) 0 ≡ answer_of answer 0 0
