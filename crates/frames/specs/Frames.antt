-- The trailer of a board file, as document 01 has it and request 4 its sibling's, and what is listed against a frame: refusal 10.
use Rattle.std.specs.Prelude.{cond, Bool, List, [], ◌∷◌, ℕ, ◌+◌, ◌/◌, ◌%◌, ◌-◌, ◌*◌, ◌<◌, eqb, ◌≡◌, ◌≢◌, length, get_or}

-- a distance in two bytes, the low one first; both distances, the edges' and the roles'; then HH
unfoldable pub trailer : ℕ → ℕ → List ℕ
trailer e r = e % 256 ∷ e / 256 ∷ r % 256 ∷ r / 256 ∷ 72 ∷ 72 ∷ []

-- request 4's three distances, the rights', the edges' and the roles'; then HR
unfoldable pub rights_trailer : ℕ → ℕ → ℕ → List ℕ
rights_trailer h e r = h % 256 ∷ h / 256 ∷ e % 256 ∷ e / 256 ∷ r % 256 ∷ r / 256 ∷ 72 ∷ 82 ∷ []

-- how far back the edge records begin where h rights bytes and e bytes of records lie before the trailer: 0 where there is no record
unfoldable pub edges_back : ℕ → ℕ → ℕ
edges_back h e = cond (eqb e 0) 0 (h + e)

abbrev pub byte : List ℕ → ℕ → ℕ
byte f k = get_or f k 0

-- two bytes, the low one first
abbrev pub word : List ℕ → ℕ → ℕ
word f k = byte f k + 256 * byte f (k + 1)

-- the last two bytes: HH, or by request 4 HR
abbrev pub Ends : List ℕ → ℕ → ℕ → Type 0
Ends f x y = (byte f (length f - 2) ≡ x) × (byte f (length f - 1) ≡ y)

abbrev pub EndsHH : List ℕ → Type 0
EndsHH f = Ends f 72 72

abbrev pub EndsHR : List ℕ → Type 0
EndsHR f = Ends f 72 82

-- the last byte tells the two apart
abbrev pub with_rights : List ℕ → Bool
with_rights f = eqb (byte f (length f - 1)) 82

-- what the trailer says: how far before it the rights bytes (in HR), the edge records and the role bytes begin
abbrev pub rights_distance : List ℕ → ℕ
rights_distance f = word f (length f - 8)

abbrev pub edge_distance : List ℕ → ℕ
edge_distance f = word f (length f - 6)

abbrev pub role_distance : List ℕ → ℕ
role_distance f = word f (length f - 4)

-- in HR: the bytes between as many role bytes and rights bytes as the trailer says there are
abbrev pub between : List ℕ → ℕ
between f = role_distance f - 2 * rights_distance f

-- the role bytes: in HR as many as rights bytes, in HH what lies before the edge records
unfoldable pub role_count : List ℕ → ℕ
role_count f = cond (with_rights f) (rights_distance f) (role_distance f - edge_distance f)

unfoldable pub edge_count : List ℕ → ℕ
edge_count f = cond (with_rights f) (between f / 3) (edge_distance f / 3)

-- ---- refusal 10

-- document 01's faults of a frame that ends in HH
pub data BadHH (f : List ℕ) : Type 0 where
  long : 6118 < length f → BadHH f
  not_all : role_distance f ≢ length f - 6 → BadHH f
  too_far : role_distance f < edge_distance f → BadHH f
  no_triples : edge_distance f % 3 ≢ 0 → BadHH f
  no_roles : role_distance f - edge_distance f < 1 → BadHH f
  many_roles : 64 < role_distance f - edge_distance f → BadHH f

-- request 4's of one that ends in HR
pub data BadHR (f : List ℕ) : Type 0 where
  short : length f < 8 → BadHR f
  long : 6184 < length f → BadHR f
  not_all : role_distance f ≢ length f - 8 → BadHR f
  no_roles : rights_distance f < 1 → BadHR f
  many_roles : 64 < rights_distance f → BadHR f
  too_far : role_distance f < 2 * rights_distance f → BadHR f
  no_triples : between f % 3 ≢ 0 → BadHR f
  wrong_edges : edge_distance f ≢ edges_back (rights_distance f) (between f) → BadHR f

pub data BadFrame (f : List ℕ) : Type 0 where
  short : length f < 6 → BadFrame f
  unmarked : (EndsHH f → ⊥) → (EndsHR f → ⊥) → BadFrame f
  hh : EndsHH f → BadHH f → BadFrame f
  hr : EndsHR f → BadHR f → BadFrame f
