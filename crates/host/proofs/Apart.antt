-- An answer can be taken apart again, as the macros of `host/board.h` and `host/jobs.h` do. Assumes nothing.
use mathlib.Core.Path.{◌≡◌}
use Prim.Native.Nat.{ℕ, ◌+◌, ◌*◌, ◌/◌, ◌%◌, ◌<◌}
use native.Mathlib.Omega.{arith}
use Rattle.answers.specs.Packing.{answer, reason}

module _ (number place value who cause way : ℕ) (n : number < 256) (p : place < 256) (v : value < 65536) (o : who < 256) (c : cause < 256) (w : way < 256) where
  -- one without a reason is one with 0, 0 and 0
  abbrev whole : ℕ
  whole = answer number place value + reason who cause way

  pub number_of : whole % 256 ≡ number
  number_of = omega arith

  pub place_of : whole / 256 % 256 ≡ place
  place_of = omega arith

  pub value_of : whole / 65536 % 65536 ≡ value
  value_of = omega arith

  pub who_of : whole / 4294967296 % 256 ≡ who
  who_of = omega arith

  pub cause_of : whole / 1099511627776 % 256 ≡ cause
  cause_of = omega arith

  pub way_of : whole / 281474976710656 % 256 ≡ way
  way_of = omega arith

-- the value of a scope: the answer on one role, and the count
pub scope_of : (yes_or_no count : ℕ) → yes_or_no < 2 → ((yes_or_no + 2 * count) % 2 ≡ yes_or_no) × ((yes_or_no + 2 * count) / 2 ≡ count)
scope_of y count l = (omega arith, omega arith)

-- a stretch: its start is the value, and its length stands where others have a reason
module _ (number place start len : ℕ) (n : number < 256) (p : place < 256) (s : start < 65536) (l : len < 65536) where
  pub start_of : answer number place (start + 65536 * len) / 65536 % 65536 ≡ start
  start_of = omega arith

  pub length_of : answer number place (start + 65536 * len) / 4294967296 % 65536 ≡ len
  length_of = omega arith

-- a job: whether it is held is the value, and its member stands above
module _ (number held member : ℕ) (n : number < 256) (h : held < 65536) where
  pub held_of : (answer number 0 held + 4294967296 * member) / 65536 % 65536 ≡ held
  held_of = omega arith

  pub member_of_lem : (answer number 0 held + 4294967296 * member) / 4294967296 ≡ member
  member_of_lem = omega arith
