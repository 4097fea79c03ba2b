-- What the parts of the writer do, and what the place of a senior's records is in the tables of a board.
use Rattle.std.specs.Prelude.{◌≡◌, Bool, not, cond, ◌≢◌, List, [], ◌∷◌, ◌++◌, map, ℕ, ◌+◌, ◌*◌, ◌/◌, ◌%◌, ◌≤◌, ◌<◌, length, drop}
use Rattle.std.specs.List.{AllZip}
use Rattle.sets.specs.Sets.{bit}
use Rattle.hierarchy.specs.Tables.{Tables, kind_of}
use Rattle.hierarchy.specs.First.{First}
use Rattle.board.specs.Rights.{rights_of}
use Rattle.board.specs.Asked.{misnamed, Answered}
use Rattle.frames.specs.Frames.{byte}
use Rattle.frames.specs.declared.Layout.{Layout}
use Rattle.frames.specs.Framing.{trailer_of}
use Rattle.writer.specs.declared.records.Span.{Span}
use Rattle.writer.specs.Files.{from, edge?, edge_bytes, kind_at, founding?}
use Rattle.writer.specs.Writing.{Stands, NoRoom, Placed, Unplaced}

-- ---- what the parts of the writer do

-- the bytes go to the front of what was there
abbrev pub Put : List ℕ → List ℕ → List ℕ → Type 0
Put bytes entry exit = exit ≡ bytes ++ drop (length bytes) entry

-- the same with a byte for each x of a list, one that `Gives` says of it
abbrev pub PutEach : (ℕ → ℕ → Type 0) → List ℕ → List ℕ → List ℕ → Type 0
PutEach Gives xs entry exit = (bytes : List ℕ) × AllZip Gives xs bytes × Put bytes entry exit

-- the last six bytes of either trailer: two distances, and the two bytes of its mark
unfoldable pub last_six : ℕ → ℕ → List ℕ → List ℕ
last_six e r mark = e % 256 ∷ e / 256 ∷ r % 256 ∷ r / 256 ∷ byte mark 0 ∷ byte mark 1 ∷ []

-- the edge records of one senior, by its two rows
unfoldable pub row_bytes : ℕ → ℕ → ℕ → List ℕ
row_bytes x i a = edge_bytes (λ e. kind_of (bit i (e % 64)) (bit a (e % 64))) 64 (x * 64)

-- what lies behind the edge records, and its length
unfoldable pub tail_of : Bool → ℕ → List ℕ → ℕ → ℕ → List ℕ
tail_of plain live rights roles edges = cond plain [] (map (rights_of rights) (from 64 0 (bit live))) ++ trailer_of plain roles edges

unfoldable pub tail_length : Bool → ℕ → ℕ
tail_length plain roles = cond plain 6 (roles + 8)

-- what lies in the file of a board
pub record Laid (t : Tables) (rights : List ℕ) (l : Layout) : Type 0 where
  pub which : not l.rights ≡ founding? rights
  pub roles : l.roles ≡ length (from 64 0 (bit t.live))
  pub edges : l.edges ≡ length (from 4096 0 (edge? (kind_at t)))

pub record TailRoom (live : ℕ) (plain : Bool) (roles edges : ℕ) (out : List ℕ) : Type 0 where
  pub role_bytes : roles ≡ length (from 64 0 (bit live))
  pub few : roles + edges < 65000
  pub enough : tail_length plain roles ≤ length out

-- the sizes of a file's parts, and room for it
pub record Room (t : Tables) (rights : List ℕ) (plain : Bool) (roles edges : ℕ) (out : List ℕ) : Type 0 where
  pub which : plain ≡ founding? rights
  pub role_bytes : roles ≡ length (from 64 0 (bit t.live))
  pub edge_bytes_lem : edges ≡ length (edge_bytes (kind_at t) 4096 0)
  pub enough : roles + edges + tail_length plain roles ≤ length out

-- a file put from a place on, where there is room
pub record PutAnswer (file : List ℕ) (entry : List ℕ) (at : ℕ) (exit : List ℕ) (number len : ℕ) : Type 0 where
  pub numbered : First ((12, NoRoom file entry at) ∷ []) number
  pub done : number ≡ 0 → Placed file entry at exit len
  pub refused : number ≢ 0 → Unplaced entry exit len

-- ---- what the stretch finds in the tables of a board

-- no place, beside a refusal and of a senior without an edge
abbrev pub nowhere : Span
nowhere = record { start = 0; len = 0 }

abbrev pub PlaceAnswer : Tables → ℕ → ℕ → ℕ → ℕ → Type 0
PlaceAnswer t role number start len = Answered (misnamed t.live role role) (Stands role t) (0, 0) number (start, len)
