-- What the functions on a job list for programs in C answer: the number alone; of a job also its state, and by request 5 its member from bit 32 on.
use Rattle.std.specs.Prelude.{◌≡◌, List, ℕ, ◌+◌, ◌*◌, Option, Some, None}
use Rattle.board.specs.declared.Board.{Board}
use Rattle.answers.specs.Packing.{answer}
use Rattle.jobs.specs.Lists.{Jobs}
use Rattle.jobs.specs.Answers.{StartAnswer, ClaimAnswer, ReleaseAnswer, LookAnswer}

abbrev pub StartPacked : List ℕ → Jobs → ℕ → Type 0
StartPacked listed list r = (number : ℕ) × StartAnswer listed number list × (r ≡ answer number 0 0)

abbrev pub ClaimPacked : Board → Jobs → ℕ → ℕ → ℕ → Jobs → ℕ → Type 0
ClaimPacked b jobs j m role list r = (number : ℕ) × ClaimAnswer b jobs j m role number list × (r ≡ answer number 0 0)

abbrev pub ReleasePacked : Board → Jobs → ℕ → ℕ → ℕ → Jobs → ℕ → Type 0
ReleasePacked b jobs j m role list r = (number : ℕ) × ReleaseAnswer b jobs j m role number list × (r ≡ answer number 0 0)

-- 1 where the job is held, and by whom
abbrev pub one_if_held : Option ℕ → ℕ
one_if_held None = 0
one_if_held (Some m) = 1

abbrev pub member_or0 : Option ℕ → ℕ
member_or0 None = 0
member_or0 (Some m) = m

abbrev pub JobPacked : Jobs → ℕ → ℕ → Type 0
JobPacked jobs j r = (number : ℕ) × ((holder : Option ℕ) × LookAnswer jobs j number holder × (r ≡ answer number 0 (one_if_held holder) + 4294967296 * member_or0 holder))
