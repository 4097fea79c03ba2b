-- A loop that takes the roles of a set one by one, the lowest first. Assumes nothing.
use mathlib.Core.Path.{◌≡◌, subst}
use mathlib.Core.Bool.{false, not, ◌&&◌}
use mathlib.Core.Logic.{◌⊎◌}
use Prim.Native.Nat.{ℕ, ◌<◌}
use native.Mathlib.Omega.{arith}
use lib.Count.{ones}
use Rattle.sets.specs.Sets.{bit, ◌is_in◌, ◌are_in◌, same?, LowestRole, NoRole, Lowest, ButLowest}
pub use Rattle.sets.specs.Sets.{Taken}
use Rattle.std.specs.Prelude.{Option, Some, None}
use Rattle.sets.proofs.Laws.{same_eq, ones_less}

-- one turn: the role x of rest goes
pub record Drawn (rest x rest' : ℕ) : Type 0 where
  pub role : x < 64
  pub member : x is_in rest
  pub rest_is : (y : ℕ) → bit rest' y ≡ (bit rest y && not (same? x y))

module _ {rest x rest' : ℕ} (t : Drawn rest x rest') where
  pub drawn_less : ones rest' < ones rest
  drawn_less = ones_less rest rest' x t.role t.member t.rest_is

  pub drawn_part : rest' are_in rest
  drawn_part y e = grind (arith, e, t.rest_is y)

  -- what is left out of rest' was left out of rest, or is x
  pub drawn_cases : (y : ℕ) → bit rest' y ≡ false → (bit rest y ≡ false) ⊎ (y ≡ x)
  drawn_cases y e = grind (arith, e, t.rest_is y, same_eq x y)

  -- what was in rest is in rest', or is x
  pub drawn_kept : (y : ℕ) → y is_in rest → (y is_in rest') ⊎ (y ≡ x)
  drawn_kept y e = grind (arith, e, t.rest_is y, same_eq x y)

-- x is the lowest role of a part of rest
pub drawn_by : {part rest x rest' : ℕ} → LowestRole part x → part are_in rest → ((y : ℕ) → bit rest' y ≡ (bit rest y && not (same? x y))) → Drawn rest x rest'
drawn_by {x = x} l p r = record { role = l.role; member = p x l.member; rest_is = r }

-- the same where x is the lowest role of rest
module _ {rest x rest' : ℕ} (t : Taken rest x rest') where
  pub drawn : Drawn rest x rest'
  drawn = record { role = t.lowest.role; member = t.lowest.member; rest_is = t.rest_is }

  pub taken_less : ones rest' < ones rest
  taken_less = drawn_less drawn

  pub taken_part : rest' are_in rest
  taken_part = drawn_part drawn

  pub taken_kept : (y : ℕ) → y is_in rest → (y is_in rest') ⊎ (y ≡ x)
  taken_kept = drawn_kept drawn

pub taken_by : {rest x rest' : ℕ} → LowestRole rest x → ButLowest rest rest' → Taken rest x rest'
taken_by {x = x} l b = record { lowest = l; rest_is = b.rest x l }

-- what the answer of `lowest` says, by its two cases
pub picked : {s r : ℕ} {p : Option ℕ} → p ≡ Some r → Lowest s p → LowestRole s r
picked {s} e l = subst (Lowest s) e l

pub nobody : {s : ℕ} {p : Option ℕ} → p ≡ None → Lowest s p → NoRole s
nobody {s} e l = subst (Lowest s) e l
