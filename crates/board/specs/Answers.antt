-- What a command or a question answers: the number of its refusal, and whom refusal 6 names.
use Rattle.std.specs.Prelude.{Result, Ok, Err, ℕ}
use Rattle.board.specs.declared.answers.Answer as code
use Rattle.board.specs.declared.answers.Cause.{Cause}
use Rattle.board.specs.declared.answers.Cause.TheVariants.{NotDerived, InTheWay, Itself}
use Rattle.board.specs.declared.answers.Refusal.{Refusal}
use Rattle.board.specs.declared.answers.Refusal.TheVariants.{Unsound, Malformed, Missing, Standing, Lacking, OutOfScope, Loops, Outside, Unmanaged, BadFrame, BadRecord, NoRoom, NotEntitled, WrongState, NotTheirs}
use Rattle.hierarchy.specs.declared.working.Fault.{Fault}
use Rattle.hierarchy.specs.declared.working.Fault.TheVariants as fault
use Rattle.scopes.specs.declared.Bar.{Bar}
use Rattle.scopes.specs.declared.Bar.TheVariants as bar

-- The number, 0 for done. With 6: the first role that offends, the cause, and with cause 2 the role in the way, which may be role 0, else 0.
-- With any other number all three are 0.
abbrev pub Answer : Type 0
Answer = code.Answer

-- a number alone, with nobody named
abbrev pub plain : ℕ → Answer
plain number = record { number = number; who = 0; cause = 0; way = 0 }

-- document 01's numbers, and those of the requests after it
abbrev pub number_of : Refusal → ℕ
number_of Unsound = 1
number_of Malformed = 2
number_of Missing = 3
number_of Standing = 4
number_of Lacking = 5
number_of (OutOfScope who cause) = 6
number_of Loops = 7
number_of Outside = 8
number_of Unmanaged = 9
number_of BadFrame = 10
number_of BadRecord = 11
number_of NoRoom = 12
number_of NotEntitled = 13
number_of WrongState = 14
number_of NotTheirs = 15

-- request 3's numbers of a cause, and one for strict scope: the role is the actor itself
abbrev pub cause_number : Cause → ℕ
cause_number NotDerived = 1
cause_number (InTheWay x) = 2
cause_number Itself = 3

-- the role in the way
abbrev pub cause_way : Cause → ℕ
cause_way NotDerived = 0
cause_way (InTheWay x) = x
cause_way Itself = 0

-- whom a refusal names: with 6 the role that offends, its cause and the role in the way
abbrev pub offender : Refusal → ℕ × ℕ × ℕ
offender (OutOfScope who cause) = (who, cause_number cause, cause_way cause)
offender r = (0, 0, 0)

-- the number that a result stands for
abbrev pub number : {A : Type 0} → Result A Refusal → ℕ
number (Ok v) = 0
number (Err r) = number_of r

-- the value that is given, or else what stands for none
abbrev pub value_or : {A : Type 0} → A → Result A Refusal → A
value_or none (Ok v) = v
value_or none (Err r) = none

-- whom a result names
abbrev pub named : {A : Type 0} → Result A Refusal → ℕ × ℕ × ℕ
named (Ok v) = (0, 0, 0)
named (Err r) = offender r

-- a result as an answer
abbrev pub answer : {A : Type 0} → Result A Refusal → Answer
answer a = let n = named a in record { number = number a; who = n.0; cause = n.1; way = n.2 }

-- the refusal of a board that has a fault, and the cause that bars a role from a scope
abbrev pub faulted : Fault → Refusal
faulted fault.Loops = Loops
faulted fault.Unmanaged = Unmanaged

abbrev pub barred : Bar → Cause
barred bar.NotDerived = NotDerived
barred (bar.InTheWay x) = InTheWay x
