-- Document 01, part "Roles, edges, paths": which roles live, the two tables of edges, the kinds, and how kinds join.
use Rattle.std.specs.Prelude.{◌≡◌, Bool, true, false, ◌||◌, List, [], ◌∷◌, ℕ, ◌^◌, ◌<◌, eqb, get_or, length}
use Rattle.sets.specs.Sets.{bit, ◌is_in◌}
use Rattle.hierarchy.specs.declared.tables.Tables as code

-- Row x of the I table is the set of the juniors that x has by I, row x of the A table those by A; an IA edge is in both.
-- The mathematics stands on this record alone, whatever a board of the code holds besides.
abbrev pub Tables : Type 0
Tables = code.Tables

abbrev pub tables : ℕ → List ℕ → List ℕ → Tables
tables live i a = record { live = live; i = i; a = a }

abbrev pub row : List ℕ → ℕ → ℕ
row t x = get_or t x 0

-- 64 rows, and no row has a member above 63, as the type of a table says
pub record IsTable (t : List ℕ) : Type 0 where
  pub rows : length t ≡ 64
  pub fits : (x : ℕ) → row t x < 2 ^ 64

-- 64 bytes, as the type of a row says
pub record AreBytes (t : List ℕ) : Type 0 where
  pub rows : length t ≡ 64
  pub fits : (x : ℕ) → row t x < 256

abbrev pub Live : Tables → ℕ → Type 0
Live t x = x is_in t.live

-- Its range of role numbers: 64 rows, and no set has a member above 63. The code's types say so of every board.
pub record Shaped (t : Tables) : Type 0 where
  pub live_fits : t.live < 2 ^ 64
  pub i_rows : length t.i ≡ 64
  pub a_rows : length t.a ≡ 64
  pub i_fits : (x : ℕ) → row t.i x < 2 ^ 64
  pub a_fits : (x : ℕ) → row t.a x < 2 ^ 64

-- Its numbers for kinds, from whether a pair is in the I table and whether it is in the A table: 1 = I, 2 = A, 3 = IA, 0 = no edge
abbrev pub kind_of : Bool → Bool → ℕ
kind_of false false = 0
kind_of true false = 1
kind_of false true = 2
kind_of true true = 3

-- which parts a kind has: 1 is I, 2 is A, 3 is both
abbrev pub has_i : ℕ → Bool
has_i k = eqb k 1 || eqb k 3

abbrev pub has_a : ℕ → Bool
has_a k = eqb k 2 || eqb k 3

-- the kind of the pair of senior x and junior y
unfoldable pub kind : Tables → ℕ → ℕ → ℕ
kind t x y = kind_of (bit (row t.i x) y) (bit (row t.a x) y)

-- Its table of how two steps join, the first picking the row and the second the place in it; 4 = conditioned, with row and column 0
unfoldable pub joins : List (List ℕ)
joins =
    (0 ∷ 0 ∷ 0 ∷ 0 ∷ 0 ∷ [])
    ∷ (0 ∷ 1 ∷ 0 ∷ 1 ∷ 0 ∷ [])
    ∷ (0 ∷ 4 ∷ 2 ∷ 2 ∷ 4 ∷ [])
    ∷ (0 ∷ 1 ∷ 2 ∷ 3 ∷ 4 ∷ [])
    ∷ (0 ∷ 4 ∷ 0 ∷ 4 ∷ 0 ∷ [])
    ∷ []

-- past the table there is no kind
unfoldable pub join : ℕ → ℕ → ℕ
join j k = get_or (get_or joins j []) k 0
