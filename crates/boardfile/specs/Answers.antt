-- What the functions on a board file answer: the refusals of each in the order they are tried, and what goes with done and with a refusal.
use Rattle.std.specs.Prelude.{Option, None, Result, Ok, Err, ◌≡◌, Bool, false, ◌⊎◌, ◌≢◌, List, [], ◌∷◌, ◌++◌, ℕ, ◌<◌}
use Rattle.sets.specs.Sets.{◌is_in◌}
use Rattle.hierarchy.specs.Tables.{Tables, Shaped}
use Rattle.hierarchy.specs.Words.{Derives, Scope, OutOfScope, Climb, Loops, Managed}
use Rattle.hierarchy.specs.First.{First}
use Rattle.board.specs.Rights.{RightsFit}
use Rattle.board.specs.Boards.{tables_of, founding_board, SoundBoard}
use Rattle.board.specs.Answers.{Answer, plain, answer}
use Rattle.board.specs.Asked.{Answered}
use Rattle.board.specs.declared.Board.{Board}
use Rattle.board.specs.declared.Command.{Command}
use Rattle.questions.specs.Questions.{Says, Tells, Manages}
use Rattle.commands.specs.Commands.{Decided}
use Rattle.frames.specs.Frames.{BadFrame}
use Rattle.writer.specs.Files.{file_of, stretch_of}
use Rattle.writer.specs.Writing.{start_or_none, Stands, WriteAnswer}
use Rattle.boardfile.specs.Faults.{BadRecord}
use Rattle.boardfile.specs.declared.change.Rejected.{Rejected}
use Rattle.boardfile.specs.declared.change.Rejected.TheVariants as rejected

-- f is the file of the board of these tables, whose roles are 0 to 63, and of these rights
pub record IsFile (f : List ℕ) (t : Tables) (rights : List ℕ) : Type 0 where
  pub shaped : Shaped t
  pub rightful : RightsFit t.live rights
  pub bytes : f ≡ file_of t rights

-- what is true of the tables whose file f is; there are no two such (`one_tables`)
abbrev pub TablesIn : List ℕ → (Tables → Type 0) → Type 0
TablesIn f P = (t : Tables) × ((rights : List ℕ) × IsFile f t rights) × P t

-- ---- reading: what has neither fault is the file of a board, and that board may have trouble of its own

abbrev pub refusals : List ℕ → List (ℕ × Type 0)
refusals f =
    (10, BadFrame f)
    ∷ (11, BadRecord f)
    ∷ (7, TablesIn f Loops)
    ∷ (9, TablesIn f (λ t. Managed t → ⊥))
    ∷ []

-- done gives the board, a refusal the founding board
pub record ReadAnswer (f : List ℕ) (number : ℕ) (board : Board) : Type 0 where
  pub numbered : First (refusals f) number
  pub done : number ≡ 0 → IsFile f (tables_of board) board.rights × SoundBoard board
  pub refused : number ≢ 0 → board ≡ founding_board

-- the same into a board that is lent: a refusal leaves what was there
pub record ReadInto (f : List ℕ) (entry exit : Board) (number : ℕ) : Type 0 where
  pub numbered : First (refusals f) number
  pub done : number ≡ 0 → ReadAnswer f 0 exit
  pub refused : number ≢ 0 → exit ≡ entry

-- ---- a question about the board in a file, on the roles x and y: the reader's refusals, then 2, then 3

abbrev pub asked_refusals : List ℕ → ℕ → ℕ → List (ℕ × Type 0)
asked_refusals f x y =
    refusals f
    ++ ((2, (63 < x) ⊎ (63 < y))
    ∷ (3, TablesIn f (λ t. (x is_in t.live → ⊥) ⊎ (y is_in t.live → ⊥)))
    ∷ [])

-- what is right of the board that the file is read as
abbrev pub OfFile : {A : Type 0} → List ℕ → (Board → A → Type 0) → A → Type 0
OfFile f Right value = (b : Board) × ReadAnswer f 0 b × Right b value

-- document 01's four questions, with no, none or zero beside a refusal; by request 3 a no on scope says why
abbrev pub DerivesOnFile : List ℕ → ℕ → ℕ → ℕ → Bool → Type 0
DerivesOnFile f x y = Answered (asked_refusals f x y) (OfFile f (λ b. Says (Derives (tables_of b) x y))) false

abbrev pub ScopeOnFile : List ℕ → ℕ → ℕ → ℕ → Bool → ℕ → ℕ → ℕ → Type 0
ScopeOnFile f a r number said count cause way =
    Answered (asked_refusals f a r) (OfFile f (λ b. Tells (Scope (tables_of b) a) (OutOfScope (tables_of b) a) r)) (false, 0, 0, 0) number (said, count, cause, way)

abbrev pub ManagerOnFile : List ℕ → ℕ → ℕ → Option ℕ → Type 0
ManagerOnFile f r = Answered (asked_refusals f r r) (OfFile f (λ b. Manages b r)) None

abbrev pub StepsOnFile : List ℕ → ℕ → ℕ → ℕ → Type 0
StepsOnFile f r = Answered (asked_refusals f r r) (OfFile f (λ b. Climb (tables_of b) r)) 0

abbrev pub BoundsAnswer : List ℕ → ℕ → ℕ → ℕ → ℕ → Type 0
BoundsAnswer f role number start len = Answered (asked_refusals f role role) (OfFile f (λ b. Stands role (tables_of b))) (0, 0) number (start, len)

-- the records themselves, and where they begin; no bytes where the number isn't 0
pub record StretchAnswer (f : List ℕ) (role number : ℕ) (part : List ℕ) (start : ℕ) : Type 0 where
  pub numbered : First (asked_refusals f role role) number
  pub done : number ≡ 0 → TablesIn f (λ t. (part ≡ stretch_of t role) × (start ≡ start_or_none t role))
  pub refused : number ≢ 0 → (part ≡ []) × (start ≡ 0)

-- ---- a command on the board in a file: read, decided, and written to the start of a buffer

-- where a number arose: in the command (and every 0), in the file handed in, in writing the new one
pub data Place : Type 0 where
  Asked : Place
  File : Place
  Writing : Place

-- A refusal of the file, of the command on its board, or of the writing; done is the command's. Only the command's own 6 names anybody. The buffer holds `entry` before the call and `exit` after it, and every refusal leaves it.
pub data CommandAnswer (f : List ℕ) (c : Command) (entry exit : List ℕ) : Place → Answer → ℕ → Type 0 where
  unread : {number : ℕ} {b : Board} → ReadAnswer f number b → number ≢ 0 → exit ≡ entry → CommandAnswer f c entry exit File (plain number) 0
  refused : {answer : Answer} {b next : Board} → ReadAnswer f 0 b → Decided b c answer next → answer.number ≢ 0 → exit ≡ entry → CommandAnswer f c entry exit Asked answer 0
  no_room : {b next : Board} → ReadAnswer f 0 b → Decided b c (plain 0) next → WriteAnswer next entry 0 exit 12 0 → CommandAnswer f c entry exit Writing (plain 12) 0
  done : {len : ℕ} {b next : Board} → ReadAnswer f 0 b → Decided b c (plain 0) next → WriteAnswer next entry 0 exit 0 len → CommandAnswer f c entry exit Asked (plain 0) len

-- a result in these words
abbrev pub Commanded : List ℕ → Command → List ℕ → List ℕ → Result ℕ Rejected → Type 0
Commanded f c entry exit (Ok len) = CommandAnswer f c entry exit Asked (plain 0) len
Commanded f c entry exit (Err (rejected.File r)) = CommandAnswer f c entry exit File (answer {A = ℕ} (Err r)) 0
Commanded f c entry exit (Err (rejected.Asked r)) = CommandAnswer f c entry exit Asked (answer {A = ℕ} (Err r)) 0
Commanded f c entry exit (Err (rejected.Writing r)) = CommandAnswer f c entry exit Writing (answer {A = ℕ} (Err r)) 0
