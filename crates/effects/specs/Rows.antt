-- What the functions on one lent table promise each other. No promise of a public function speaks of these.
use Rattle.std.specs.Prelude.{◌≡◌, Bool, cond, not, ◌&&◌, List, ℕ, ◌<◌}
use Rattle.sets.specs.Sets.{bit, same?}
use Rattle.hierarchy.specs.Tables.{row, IsTable}

-- t has become r: s is the row of x now, and the others are as they were
pub record RowSet (t : List ℕ) (x s : ℕ) (r : List ℕ) : Type 0 where
  pub whole : IsTable r
  pub entries : (z y : ℕ) → bit (row r z) y ≡ cond (same? x z) (bit s y) (bit (row t z) y)

-- t has become r: the junior is in the row of each senior now, or out of it, as `part` says
pub record Entered (t : List ℕ) (seniors junior : ℕ) (part : Bool) (r : List ℕ) : Type 0 where
  pub whole : IsTable r
  pub entries : (x y : ℕ) → bit (row r x) y ≡ cond (bit seniors x && same? junior y) part (bit (row t x) y)

-- t has become r: the junior is out of every row
pub record Left (t : List ℕ) (junior : ℕ) (r : List ℕ) : Type 0 where
  pub whole : IsTable r
  pub entries : (x y : ℕ) → x < 64 → bit (row r x) y ≡ (bit (row t x) y && not (same? junior y))
