-- Request 4: the rights that roles hold. Right k, from 0 to 4, is the one to give command k + 1, and a row of rights has a byte for each
-- role, a set of these.
use Rattle.std.specs.Prelude.{◌≡◌, false, List, ◌∷◌, ℕ, ◌≤◌, length, get_or, replicate}
use Rattle.sets.specs.Sets.{bit}

-- the rights of role x; past the row there are none
abbrev pub rights_of : List ℕ → ℕ → ℕ
rights_of rights x = get_or rights x 0

-- the founding board's: role 0 holds all five, and nobody else any
abbrev pub founding_rights : List ℕ
founding_rights = 31 ∷ replicate 63 0

-- There are five rights, and only live roles hold any.
pub record RightsFit (live : ℕ) (rights : List ℕ) : Type 0 where
  pub rows : length rights ≡ 64
  pub five : (x : ℕ) → rights_of rights x ≤ 31
  pub living : (x : ℕ) → bit live x ≡ false → rights_of rights x ≡ 0
