-- Document 01 numbers roles from 0 to 63, so a set of roles is one 64-bit number: role r is in it when its binary digit r is 1.
use Rattle.std.specs.Prelude.{Option, Some, None, ◌≡◌, Bool, true, false, not, ◌&&◌, ℕ, zero, suc, ◌+◌, ◌*◌, ◌/◌, ◌%◌, ◌^◌, ◌≤◌, ◌<◌, eqb, ltb}

-- whether role r is in the set s
unfoldable pub bit : ℕ → ℕ → Bool
bit s r = eqb (s / 2 ^ r % 2) 1

infix 4 ◌is_in◌
abbrev pub ◌is_in◌ : ℕ → ℕ → Type 0
r is_in s = bit s r ≡ true

-- every role of s is in t
infix 4 ◌are_in◌
abbrev pub ◌are_in◌ : ℕ → ℕ → Type 0
s are_in t = (x : ℕ) → x is_in s → x is_in t

-- whether x is the role r; a number above 63 is no role
unfoldable pub same? : ℕ → ℕ → Bool
same? r x = eqb x r && ltb r 64

-- a binary digit
abbrev pub num : Bool → ℕ
num true = 1
num false = 0

-- the number of k binary digits whose digit r is 1 where f r is true
unfoldable pub digits : ℕ → (ℕ → Bool) → ℕ
digits zero f = 0
digits (suc k) f = digits k (λ i. f (suc i)) * 2 + num (f 0)

-- the set of the roles of which f is true
unfoldable pub set_of : (ℕ → Bool) → ℕ
set_of f = digits 64 f

-- r is the lowest role of s
pub record LowestRole (s r : ℕ) : Type 0 where
  pub role : r < 64
  pub member : r is_in s
  pub least : (x : ℕ) → x is_in s → r ≤ x

-- s has no role
pub record NoRole (s : ℕ) : Type 0 where
  pub none : (x : ℕ) → bit s x ≡ false

-- the lowest role of s, or nobody where s has none
abbrev pub Lowest : ℕ → Option ℕ → Type 0
Lowest s (Some r) = LowestRole s r
Lowest s None = NoRole s

-- t is s but its lowest role
pub record ButLowest (s t : ℕ) : Type 0 where
  pub rest : (r : ℕ) → LowestRole s r → (x : ℕ) → bit t x ≡ (bit s x && not (same? r x))
  pub none : NoRole s → NoRole t

-- x is the lowest role of s, and t is s without it
pub record Taken (s x t : ℕ) : Type 0 where
  pub lowest : LowestRole s x
  pub rest_is : (y : ℕ) → bit t y ≡ (bit s y && not (same? x y))

-- one turn of a loop over s: the lowest role is given and t is left, or s has no role and stays
abbrev pub Turn : ℕ → Option ℕ → ℕ → Type 0
Turn s (Some r) t = Taken s r t
Turn s None t = NoRole s × (t ≡ s)

-- r is the highest role of s
pub record HighestRole (s r : ℕ) : Type 0 where
  pub role : r < 64
  pub member : r is_in s
  pub most : (x : ℕ) → x is_in s → x ≤ r

-- the highest role of s, or nobody where s has none
abbrev pub Highest : ℕ → Option ℕ → Type 0
Highest s (Some r) = HighestRole s r
Highest s None = NoRole s
