-- Text as people type it: bytes, the pieces between separators, and the words of a line.
use Rattle.std.specs.Prelude.{◌≡◌, Bool, true, false, cond, ◌&&◌, ◌||◌, List, [], ◌∷◌, Option, Some, None, ℕ, zero, suc, ◌+◌, ◌≤◌, ◌<◌, eqb, length, get_or}
use Rattle.std.specs.Borrow.{Bor}
use Rattle.wording.specs.declared.pieces.Pieces.{Pieces}
use Prim.Native.Char.{code}
use Prim.Native.String.{String, len, char_at}

-- the bytes of a name; all names here are ASCII
abbrev pub bytes_from : ℕ → ℕ → String → List ℕ
bytes_from zero at name = []
bytes_from (suc n) at name = code (char_at name at) ∷ bytes_from n (suc at) name

abbrev pub bytes : String → List ℕ
bytes name = bytes_from (len name) 0 name

-- whether two texts are the same bytes
unfoldable pub alike? : List ℕ → List ℕ → Bool
alike? [] [] = true
alike? [] (y ∷ ys) = false
alike? (x ∷ xs) [] = false
alike? (x ∷ xs) (y ∷ ys) = eqb x y && alike? xs ys

-- Whether a byte separates: the separator itself, and beside the space (32) the other blanks of a line, the tab (9) and the return (13)
-- that some editors put before the end of a line.
unfoldable pub separates : ℕ → ℕ → Bool
separates sep b = eqb b sep || (eqb sep 32 && (eqb b 9 || eqb b 13))

-- the bytes before the first separator
unfoldable pub piece : ℕ → List ℕ → List ℕ
piece sep [] = []
piece sep (b ∷ rest) = cond (separates sep b) [] (b ∷ piece sep rest)

-- all pieces, between separators, before the first and behind the last: one more than there are separators
unfoldable pub longer : ℕ → List (List ℕ) → List (List ℕ)
longer b [] = (b ∷ []) ∷ []
longer b (p ∷ ps) = (b ∷ p) ∷ ps

unfoldable pub pieces : ℕ → List ℕ → List (List ℕ)
pieces sep [] = [] ∷ []
pieces sep (b ∷ rest) = cond (separates sep b) ([] ∷ pieces sep rest) (longer b (pieces sep rest))

-- the pieces that begin at `from` or behind it, where a piece begins there; past the end there are none
unfoldable pub rest_of : ℕ → List ℕ → ℕ → List (List ℕ)
rest_of sep text zero = pieces sep text
rest_of sep [] (suc from) = []
rest_of sep (b ∷ rest) (suc from) = rest_of sep rest from

-- One turn of a loop over pieces: of those from s on the first is given, as a part of the text, and t goes on behind it; or none is left, and t is s.
pub record Given (s : Pieces) (part : Bor (List ℕ)) (t : Pieces) : Type 0 where
  pub same_text : t.text ≡ s.text
  pub same_sep : t.sep ≡ s.sep
  pub within : t.from ≤ length s.text.now + 1
  pub first : rest_of s.sep s.text.now s.from ≡ part.now ∷ rest_of s.sep s.text.now t.from
  pub behind : t.from ≡ s.from + length part.now + 1
  pub block : part.ref_ptr.0 ≡ s.text.ref_ptr.0
  pub begins : part.ref_ptr.1 ≡ s.text.ref_ptr.1 + s.from

abbrev pub Cut : Pieces → Option (Bor (List ℕ)) → Pieces → Type 0
Cut s (Some part) t = Given s part t
Cut s None t = (length s.text.now < s.from) × (t ≡ s)

-- the pieces that have a byte
unfoldable pub filled : List (List ℕ) → List (List ℕ)
filled [] = []
filled ([] ∷ ps) = filled ps
filled ((b ∷ p) ∷ ps) = (b ∷ p) ∷ filled ps

-- the words of a line, and the word at a place, which has no byte past the last word
abbrev pub words : List ℕ → List (List ℕ)
words line = filled (pieces 32 line)

abbrev pub word_at : List ℕ → ℕ → List ℕ
word_at line k = get_or (words line) k []

-- where the pieces that have a byte begin; the first piece lies at `at`, and a separator between any two
unfoldable pub beginnings : ℕ → List (List ℕ) → List ℕ
beginnings at [] = []
beginnings at ([] ∷ ps) = beginnings (at + 1) ps
beginnings at ((b ∷ p) ∷ ps) = at ∷ beginnings (at + length (b ∷ p) + 1) ps

-- where in the line the word at a place begins; 0 past the last word
abbrev pub word_start : List ℕ → ℕ → ℕ
word_start line k = get_or (beginnings 0 (pieces 32 line)) k 0

-- The word is a part of the caller's own line: `part_at` and `line_at` are where the two lie in memory, a block and a place in it.
abbrev pub WordOf : List ℕ → ℕ × ℕ → ℕ → List ℕ → ℕ × ℕ → Type 0
WordOf line line_at k part part_at = (part ≡ word_at line k) × (part_at.0 ≡ line_at.0) × (part_at.1 ≡ line_at.1 + word_start line k)
