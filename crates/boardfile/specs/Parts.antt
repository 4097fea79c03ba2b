-- What the steps of the reader promise each other: document 01's fault, or a part of a board.
use Rattle.std.specs.Prelude.{Result, Ok, Err, ◌≡◌, Bool, true, false, ◌&&◌, ◌||◌, ◌≢◌, ◌⊎◌, List, map, ℕ, ◌+◌, ◌*◌, ◌/◌, ◌%◌, ◌^◌, ◌≤◌, ◌<◌, length, take, drop, set}
use Rattle.sets.specs.Sets.{bit, ◌is_in◌, same?}
use Rattle.hierarchy.specs.Tables.{Tables, row, IsTable, has_i, has_a}
use Rattle.hierarchy.specs.First.{First}
use Rattle.board.specs.Rights.{rights_of, founding_rights, RightsFit}
use Rattle.board.specs.Boards.{tables_of, SoundBoard}
use Rattle.board.specs.declared.Board.{Board}
use Rattle.board.specs.declared.answers.Refusal.{Refusal}
use Rattle.board.specs.declared.answers.Refusal.TheVariants as refusal
use Rattle.frames.specs.Frames.{byte}
use Rattle.writer.specs.Files.{from, edge_bytes, kind_at, founding?}
use Rattle.boardfile.specs.Answers.{IsFile, refusals}
use Rattle.boardfile.specs.Faults.{BadRecord}

-- what a part of the file is read as, which is good; or one of its records is bad
abbrev pub Read : {A : Type 0} → List ℕ → (A → Type 0) → Result A Refusal → Type 0
Read f Good (Ok value) = Good value
Read f Good (Err e) = BadRecord f × (e ≡ refusal.BadRecord)

-- ---- the n role bytes

pub record GoodRoles (f : List ℕ) (n live : ℕ) : Type 0 where
  pub bytes : take n f ≡ from 64 0 (bit live)
  pub root : 0 is_in live
  pub fits : live < 2 ^ 64

-- ---- an edge record by itself

pub record Spelt (f : List ℕ) (at s j k : ℕ) : Type 0 where
  pub senior_is : s ≡ byte f at
  pub junior_is : j ≡ byte f (at + 1)
  pub kind_is : k ≡ byte f (at + 2)

pub record Right (live s j k : ℕ) : Type 0 where
  pub senior_lives : s is_in live
  pub junior_lives : j is_in live
  pub apart : s ≢ j
  pub known : (1 ≤ k) × (k ≤ 3)

pub data Wrong (live s j k : ℕ) : Type 0 where
  dead_senior : bit live s ≡ false → Wrong live s j k
  dead_junior : bit live j ≡ false → Wrong live s j k
  same : s ≡ j → Wrong live s j k
  unknown : (k < 1) ⊎ (3 < k) → Wrong live s j k

-- a table with j in the row of s besides, where `part`
pub record Grown (table : List ℕ) (s j : ℕ) (part : Bool) (table' : List ℕ) : Type 0 where
  pub row' : ℕ
  pub fits : row' < 2 ^ 64
  pub grown : (y : ℕ) → bit row' y ≡ (bit (row table s) y || (part && same? j y))
  pub is : table' ≡ set table s row'

-- the two tables with one edge more
pub record Entered (t : Tables) (s j k : ℕ) (t' : Tables) : Type 0 where
  pub live_stays : t'.live ≡ t.live
  pub i_grown : Grown t.i s j (has_i k) t'.i
  pub a_grown : Grown t.a s j (has_a k) t'.a

-- ---- the m edge records

-- a place whose edge a file may have
pub record Fine (lives : ℕ → Bool) (e : ℕ) : Type 0 where
  pub senior_lives : lives (e / 64) ≡ true
  pub junior_lives : lives (e % 64) ≡ true
  pub apart : e / 64 ≢ e % 64

pub record GoodEdges (f : List ℕ) (n m : ℕ) (t : Tables) : Type 0 where
  pub bytes : take (3 * m) (drop n f) ≡ edge_bytes (kind_at t) 4096 0
  pub fine : (e : ℕ) → kind_at t e ≢ 0 → Fine (bit t.live) e
  pub i_table : IsTable t.i
  pub a_table : IsTable t.a

-- ---- the rights bytes

pub record GoodRights (f : List ℕ) (at live : ℕ) (rights : List ℕ) : Type 0 where
  pub fit : RightsFit live rights
  pub bytes : take (length (from 64 0 (bit live))) (drop at f) ≡ map (rights_of rights) (from 64 0 (bit live))

-- the rights that a file gives, by whether it has rights bytes
abbrev pub Granted : List ℕ → ℕ → ℕ → Bool → ℕ → List ℕ → Type 0
Granted f n m true live rights = GoodRights f (n + 3 * m) live rights × (founding? rights ≡ false)
Granted f n m false live rights = rights ≡ founding_rights

-- ---- the parts together

-- a file opened: its refusal, or its board, which is sound
pub record Opening (f : List ℕ) (number : ℕ) (b : Board) : Type 0 where
  pub numbered : First (refusals f) number
  pub done : number ≡ 0 → IsFile f (tables_of b) b.rights × SoundBoard b
