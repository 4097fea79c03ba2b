-- Document 01, part "The board file and its trailer", and request 4's sibling: the bytes of a board, which its tables and its rights settle.
use Rattle.std.specs.Prelude.{Bool, cond, not, List, [], ◌∷◌, ◌++◌, map, ℕ, zero, suc, ◌+◌, ◌*◌, ◌/◌, ◌%◌, eqb, length}
use Rattle.sets.specs.Sets.{bit}
use Rattle.hierarchy.specs.Tables.{Tables, kind}
use Rattle.board.specs.Rights.{rights_of, founding_rights}
use Rattle.frames.specs.Frames.{trailer, rights_trailer, edges_back}

-- the numbers of which f holds, ascending: n numbers are looked at, from k on
unfoldable pub from : ℕ → ℕ → (ℕ → Bool) → List ℕ
from zero k f = []
from (suc n) k f = cond (f k) (k ∷ from n (suc k) f) (from n (suc k) f)

-- Edges stand by senior, and those of one senior by junior: in the order of one number, the place senior * 64 + junior.
unfoldable pub kind_at : Tables → ℕ → ℕ
kind_at t e = kind t (e / 64) (e % 64)

-- an edge's three bytes: senior, junior, kind
unfoldable pub records : (ℕ → ℕ) → List ℕ → List ℕ
records kinds [] = []
records kinds (e ∷ es) = e / 64 ∷ e % 64 ∷ kinds e ∷ records kinds es

-- whether a place has an edge; the records of those among n places that do, from the place k on
abbrev pub edge? : (ℕ → ℕ) → ℕ → Bool
edge? kinds e = not (eqb (kinds e) 0)

unfoldable pub edge_bytes : (ℕ → ℕ) → ℕ → ℕ → List ℕ
edge_bytes kinds n k = records kinds (from n k (edge? kinds))

-- The whole of the file HH: role bytes, edge records, trailer. The first edge record lies as far back from the trailer as the records are
-- long, which is 0 where there are none.
unfoldable pub bytes_of : (ℕ → Bool) → (ℕ → ℕ) → List ℕ
bytes_of lives kinds =
    let roles = from 64 0 lives in
    let edges = edge_bytes kinds 4096 0 in
    roles ++ edges ++ trailer (length edges) (length roles + length edges)

-- The whole of its file HR: role bytes, edge records, a rights byte for each live role, trailer.
unfoldable pub bytes_with : (ℕ → Bool) → (ℕ → ℕ) → List ℕ → List ℕ
bytes_with lives kinds rights =
    let roles = from 64 0 lives in
    let edges = edge_bytes kinds 4096 0 in
    let held = map (rights_of rights) roles in
    roles ++ edges ++ held ++ rights_trailer (length held) (edges_back (length held) (length edges)) (length roles + length edges + length held)

-- whether the rights are the founding board's: role 0 has all five, and nobody else of the 64 any
unfoldable pub founding? : List ℕ → Bool
founding? rights = eqb (length (from 64 0 (λ x. not (eqb (rights_of rights x) (rights_of founding_rights x))))) 0

-- A board with just these rights has the file HH, every other one HR.
unfoldable pub file_of : Tables → List ℕ → List ℕ
file_of t rights = cond (founding? rights) (bytes_of (bit t.live) (kind_at t)) (bytes_with (bit t.live) (kind_at t) rights)

-- the part of it that has the edges of one senior, and where that begins: behind the role bytes and the edges of lower seniors
unfoldable pub stretch_of : Tables → ℕ → List ℕ
stretch_of t role = edge_bytes (kind_at t) 64 (role * 64)

unfoldable pub start_of : Tables → ℕ → ℕ
start_of t role = length (from 64 0 (bit t.live)) + length (edge_bytes (kind_at t) (role * 64) 0)
