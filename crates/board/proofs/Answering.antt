-- Results as answers: what a number says of one. Assumes nothing.
use mathlib.Core.Path.{◌≡◌, refl, sym, ap, ap₂, ◌∙◌}
use mathlib.Core.Bool.{cond}
use mathlib.Core.Logic.{◌≢◌}
use Prim.Native.Nat.{ℕ}
use native.Mathlib.Omega.{arith}
use lib.Dec.{eqb}
use Rattle.std.specs.Prelude.{Result, Ok, Err}
use Rattle.board.specs.Answers.{Answer, plain, number_of, cause_number, cause_way, offender, number, value_or, answer}
use Rattle.board.specs.declared.answers.Cause.{Cause}
use Rattle.board.specs.declared.answers.Cause.TheVariants.{NotDerived, InTheWay, Itself}
use Rattle.board.specs.declared.answers.Refusal.{Refusal}
use Rattle.board.specs.declared.answers.Refusal.TheVariants.{Unsound, Malformed, Missing, Standing, Lacking, OutOfScope, Loops, Outside, Unmanaged, BadFrame, BadRecord, NoRoom, NotEntitled, WrongState, NotTheirs}

-- no refusal has the number of done
pub number_of_some : (r : Refusal) → number_of r ≢ 0
number_of_some Unsound = λ z. omega (arith, z)
number_of_some Malformed = λ z. omega (arith, z)
number_of_some Missing = λ z. omega (arith, z)
number_of_some Standing = λ z. omega (arith, z)
number_of_some Lacking = λ z. omega (arith, z)
number_of_some (OutOfScope who cause) = λ z. omega (arith, z)
number_of_some Loops = λ z. omega (arith, z)
number_of_some Outside = λ z. omega (arith, z)
number_of_some Unmanaged = λ z. omega (arith, z)
number_of_some BadFrame = λ z. omega (arith, z)
number_of_some BadRecord = λ z. omega (arith, z)
number_of_some NoRoom = λ z. omega (arith, z)
number_of_some NotEntitled = λ z. omega (arith, z)
number_of_some WrongState = λ z. omega (arith, z)
number_of_some NotTheirs = λ z. omega (arith, z)

-- a refusal but 6 names nobody
pub names_nobody : (r : Refusal) → number_of r ≢ 6 → answer {A = Unit {0}} (Err r) ≡ plain (number_of r)
names_nobody Unsound n = refl
names_nobody Malformed n = refl
names_nobody Missing n = refl
names_nobody Standing n = refl
names_nobody Lacking n = refl
names_nobody (OutOfScope who cause) n = absurd (n refl)
names_nobody Loops n = refl
names_nobody Outside n = refl
names_nobody Unmanaged n = refl
names_nobody BadFrame n = refl
names_nobody BadRecord n = refl
names_nobody NoRoom n = refl
names_nobody NotEntitled n = refl
names_nobody WrongState n = refl
names_nobody NotTheirs n = refl

module _ {A : Type 0} where
  -- a result with number 0 has its value, and another none
  pub done_value : (none : A) (a : Result A Refusal) → number a ≡ 0 → a ≡ Ok (value_or none a)
  done_value none (Ok v) z = refl
  done_value none (Err r) z = absurd (number_of_some r z)

  pub refused_value : (none : A) (a : Result A Refusal) → number a ≢ 0 → value_or none a ≡ none
  refused_value none (Ok v) n = absurd (n refl)
  refused_value none (Err r) n = refl

-- ---- one result

-- the cause of these numbers
abbrev cause_at : ℕ → ℕ → Cause
cause_at c w = cond (eqb c 1) NotDerived (cond (eqb c 2) (InTheWay w) Itself)

cause_found : (c : Cause) → c ≡ cause_at (cause_number c) (cause_way c)
cause_found NotDerived = refl
cause_found (InTheWay x) = refl
cause_found Itself = refl

-- the refusal of a number that names these, found by trying all
abbrev pick : ℕ → ℕ → Refusal → Refusal → Refusal
pick n k r rest = cond (eqb n k) r rest

abbrev refusal_at : ℕ → ℕ × ℕ × ℕ → Refusal
refusal_at n p =
    pick n 1 Unsound (pick n 2 Malformed (pick n 3 Missing (pick n 4 Standing (pick n 5 Lacking (pick n 6 (OutOfScope p.0 (cause_at p.1 p.2))
    (pick n 7 Loops (pick n 8 Outside (pick n 9 Unmanaged (pick n 10 BadFrame (pick n 11 BadRecord (pick n 12 NoRoom (pick n 13 NotEntitled (pick n 14 WrongState NotTheirs)))))))))))))

refusal_found : (r : Refusal) → r ≡ refusal_at (number_of r) (offender r)
refusal_found Unsound = refl
refusal_found Malformed = refl
refusal_found Missing = refl
refusal_found Standing = refl
refusal_found Lacking = refl
refusal_found (OutOfScope who cause) = ap (OutOfScope who) (cause_found cause)
refusal_found Loops = refl
refusal_found Outside = refl
refusal_found Unmanaged = refl
refusal_found BadFrame = refl
refusal_found BadRecord = refl
refusal_found NoRoom = refl
refusal_found NotEntitled = refl
refusal_found WrongState = refl
refusal_found NotTheirs = refl

-- a refusal is known by its number and whom it names,
pub refusal_unique : (r s : Refusal) → number_of r ≡ number_of s → offender r ≡ offender s → r ≡ s
refusal_unique r s e h = refusal_found r ∙ ap₂ refusal_at e h ∙ sym (refusal_found s)

-- and a result by its answer and its value
pub result_unique : {A : Type 0} (none : A) (a b : Result A Refusal) → answer a ≡ answer b → value_or none a ≡ value_or none b → a ≡ b
result_unique none (Ok v) (Ok w) e h = ap Ok h
result_unique none (Ok v) (Err s) e h = absurd (number_of_some s (sym (ap (λ (x : Answer). x.number) e)))
result_unique none (Err r) (Ok w) e h = absurd (number_of_some r (ap (λ (x : Answer). x.number) e))
result_unique none (Err r) (Err s) e h = ap Err (refusal_unique r s (λ k. (e k).number) (λ k. ((e k).who, (e k).cause, (e k).way)))
