-- What the functions for programs in C answer: one number that holds the refusal number, the place where it arose, and a value, and by
-- request 3 who offends and why. These parts are the answers of `board`, `runs` and `boardfile`; `runs` says how
-- they are packed.
use Rattle.std.specs.Prelude.{◌≡◌, Bool, cond, ◌||◌, List, ℕ, ◌+◌, ◌*◌, eqb, Option, Some, None}
use Rattle.sets.specs.Sets.{num}
use Rattle.hierarchy.specs.First.{First}
use Rattle.board.specs.declared.Board.{Board}
use Rattle.board.specs.declared.Command.{Command}
use Rattle.board.specs.Answers.{Answer}
use Rattle.commands.specs.Commands.{Decided}
use Rattle.answers.specs.Packing.{answer, reason, answer_of}
use Rattle.runs.specs.Runs.{RunAnswer}
use Rattle.writer.specs.Writing.{WriteAnswer}
use Rattle.boardfile.specs.Answers.{refusals, ReadInto, DerivesOnFile, ScopeOnFile, ManagerOnFile, StepsOnFile, BoundsAnswer, CommandAnswer, Place}
use Rattle.boardfile.specs.Answers.{Place.Asked, Place.File, Place.Writing}

-- The places: 0 is the command or the question, and every answer that is done; 1 the file handed in; 2 the writing.
abbrev pub place_number : Place → ℕ
place_number Asked = 0
place_number File = 1
place_number Writing = 2

-- of a question, whose own refusals are 2 and 3
abbrev pub place_of : ℕ → ℕ
place_of number = cond (eqb number 0 || (eqb number 2 || eqb number 3)) 0 1

-- of a writing, whose own refusal is 12
abbrev pub place_of_writing : ℕ → ℕ
place_of_writing number = cond (eqb number 12) 2 0

-- ---- questions

-- whether the file can be read, and nothing more
abbrev pub Checked : List ℕ → ℕ → Type 0
Checked f r = (number : ℕ) × First (refusals f) number × (r ≡ answer number (place_of number) 0)

-- yes is 1, no is 0
abbrev pub DerivesPacked : List ℕ → ℕ → ℕ → ℕ → Type 0
DerivesPacked f x y r = (number : ℕ) × ((said : Bool) × DerivesOnFile f x y number said × (r ≡ answer number (place_of number) (num said)))

-- the lowest bit is the answer on r, the others are the count; a no has its reason, and names no offender
abbrev pub ScopePacked : List ℕ → ℕ → ℕ → ℕ → Type 0
ScopePacked f a x r =
    (number : ℕ) × ((said : Bool) × ((count : ℕ) × ((cause : ℕ) × ((way : ℕ) × ScopeOnFile f a x number said count cause way
    × (r ≡ answer number (place_of number) (num said + 2 * count) + reason 0 cause way)))))

-- the manager's role, and 64 for none
abbrev pub manager_or64 : Option ℕ → ℕ
manager_or64 (Some m) = m
manager_or64 None = 64

abbrev pub ManagerPacked : List ℕ → ℕ → ℕ → Type 0
ManagerPacked f x r = (number : ℕ) × ((m : Option ℕ) × ManagerOnFile f x number m × (r ≡ answer number (place_of number) (manager_or64 m)))

abbrev pub StepsPacked : List ℕ → ℕ → ℕ → Type 0
StepsPacked f x r = (number : ℕ) × ((steps : ℕ) × StepsOnFile f x number steps × (r ≡ answer number (place_of number) steps))

-- the start, and the length from bit 16 of the value on
abbrev pub StretchPacked : List ℕ → ℕ → ℕ → Type 0
StretchPacked f role r =
    (number : ℕ) × ((start : ℕ) × ((len : ℕ) × BoundsAnswer f role number start len × (r ≡ answer number (place_of number) (start + 65536 * len))))

-- ---- a command on the board in a file: the buffer holds `entry` before the call and `exit` after it, and the value is the new file's length

abbrev pub Commanded : List ℕ → Command → List ℕ → List ℕ → ℕ → Type 0
Commanded f c entry exit r =
    (place : Place) × ((a : Answer) × ((len : ℕ) × CommandAnswer f c entry exit place a len × (r ≡ answer_of a (place_number place) len)))

-- ---- the caller's own board: `entry` before the call and `exit` after it

abbrev pub Applied : Board → Command → Board → ℕ → Type 0
Applied entry c exit r = (a : Answer) × Decided entry c a exit × (r ≡ answer_of a 0 0)

-- a run on it, with a row that holds `row` before the call and `answered` after it; 12 is the writing's
abbrev pub RunPacked : Board → List Command → List ℕ → List ℕ → Board → ℕ → Type 0
RunPacked entry commands row answered exit r = (number : ℕ) × RunAnswer entry commands row answered number exit × (r ≡ answer number (place_of_writing number) 0)

abbrev pub ReadPacked : List ℕ → Board → Board → ℕ → Type 0
ReadPacked f entry exit r = (number : ℕ) × ReadInto f entry exit number × (r ≡ answer number (place_of number) 0)

-- its file in a buffer from a place on; the value is the file's length
abbrev pub WritePacked : Board → List ℕ → ℕ → List ℕ → ℕ → Type 0
WritePacked b entry at exit r = (number : ℕ) × ((len : ℕ) × WriteAnswer b entry at exit number len × (r ≡ answer number (place_of_writing number) len))
