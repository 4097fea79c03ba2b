-- What document 01 lists against the records of a board file and request 4 against its sibling's, read off the bytes: refusal 11.
use Rattle.std.specs.Prelude.{◌≡◌, ◌≢◌, ◌⊎◌, List, ℕ, suc, ◌+◌, ◌*◌, ◌≤◌, ◌<◌}
use Rattle.board.specs.Rights.{rights_of, founding_rights}
use Rattle.frames.specs.Frames.{byte, EndsHR, role_count, edge_count}

-- ---- refusal 11

-- the bytes of edge record k
unfoldable pub senior : List ℕ → ℕ → ℕ
senior f k = byte f (role_count f + 3 * k)

unfoldable pub junior : List ℕ → ℕ → ℕ
junior f k = byte f (role_count f + 3 * k + 1)

unfoldable pub kind_byte : List ℕ → ℕ → ℕ
kind_byte f k = byte f (role_count f + 3 * k + 2)

-- its place in the order: by senior, then junior, for roles up to 63; a record with another number is bad whatever its place
abbrev pub place : List ℕ → ℕ → ℕ
place f k = senior f k * 64 + junior f k

-- in HR: the rights byte of role byte k
unfoldable pub rights_byte : List ℕ → ℕ → ℕ
rights_byte f k = byte f (role_count f + 3 * edge_count f + k)

-- r is one of the role bytes
pub record Listed (f : List ℕ) (r : ℕ) : Type 0 where
  pub at : ℕ
  pub in_roles : at < role_count f
  pub is : byte f at ≡ r

pub data BadRecord (f : List ℕ) : Type 0 where
  first_role : byte f 0 ≢ 0 → BadRecord f
  high_role : (k : ℕ) → k < role_count f → 63 < byte f k → BadRecord f
  role_order : (k : ℕ) → suc k < role_count f → byte f (suc k) ≤ byte f k → BadRecord f
  no_senior : (k : ℕ) → k < edge_count f → (Listed f (senior f k) → ⊥) → BadRecord f
  no_junior : (k : ℕ) → k < edge_count f → (Listed f (junior f k) → ⊥) → BadRecord f
  itself : (k : ℕ) → k < edge_count f → senior f k ≡ junior f k → BadRecord f
  no_kind : (k : ℕ) → k < edge_count f → (kind_byte f k < 1) ⊎ (3 < kind_byte f k) → BadRecord f
  edge_order : (k : ℕ) → suc k < edge_count f → place f (suc k) ≤ place f k → BadRecord f
  high_rights : EndsHR f → (k : ℕ) → k < role_count f → 31 < rights_byte f k → BadRecord f
  founding_rights_lem : EndsHR f → ((k : ℕ) → k < role_count f → rights_byte f k ≡ rights_of founding_rights (byte f k)) → BadRecord f
