-- What a word names: a role by its decimal number, a command, a kind or a set's name by its place among the names of such, and several by commas.
use Rattle.std.specs.Prelude.{◌≡◌, Bool, true, false, cond, ◌&&◌, ◌||◌, List, [], ◌∷◌, Option, Some, None, option_map, ℕ, zero, suc, ◌+◌, ◌*◌, ◌-◌, eqb, leb}
use Rattle.std.specs.Borrow.{Bor}
use Rattle.sets.specs.Sets.{set_of}
use Rattle.wording.specs.Texts.{bytes, alike?, pieces}
use Rattle.wording.specs.declared.names.SetName.{SetName}
use Rattle.wording.specs.declared.names.SetName.TheVariants.{ASeniors, ISeniors, AJuniors, IJuniors}

-- ---- one name among several, which stand in a row with commas between

-- the place of the first that is this text, if one is
unfoldable pub place_in : List ℕ → List (List ℕ) → Option ℕ
place_in w [] = None
place_in w (p ∷ ps) = cond (alike? w p) (Some 0) (option_map suc (place_in w ps))

-- commands 1 to 7
abbrev pub code_of : List ℕ → Option ℕ
code_of w = option_map (λ k. k + 1) (place_in w (pieces 44 (bytes "add-role,remove-role,add-edge,remove-edge,change-edge,give-rights,take-rights")))

-- kinds 1 to 3
abbrev pub kind_of : List ℕ → Option ℕ
kind_of w = option_map (λ k. k + 1) (place_in w (pieces 44 (bytes "I,A,IA")))

-- the four sets of a new role
abbrev pub set_name_at : ℕ → SetName
set_name_at zero = ASeniors
set_name_at (suc zero) = ISeniors
set_name_at (suc (suc zero)) = AJuniors
set_name_at (suc (suc (suc k))) = IJuniors

abbrev pub set_name_of : List ℕ → Option SetName
set_name_of w = option_map set_name_at (place_in w (pieces 44 (bytes "a-seniors,i-seniors,a-juniors,i-juniors")))

-- the rights, each named by its command, 0 to 4 for the rights to commands 1 to 5
abbrev pub right_of : List ℕ → Option ℕ
right_of w = place_in w (pieces 44 (bytes "add-role,remove-role,add-edge,remove-edge,change-edge"))

-- ---- a decimal number

abbrev pub digit? : ℕ → Bool
digit? b = leb 48 b && leb b 57

unfoldable pub digits? : List ℕ → Bool
digits? [] = true
digits? (b ∷ rest) = digit? b && digits? rest

-- the number that begins with the digits of v and goes on with these
unfoldable pub value_from : ℕ → List ℕ → ℕ
value_from v [] = v
value_from v (b ∷ rest) = value_from (v * 10 + (b - 48)) rest

abbrev pub some? : List ℕ → Bool
some? [] = false
some? (b ∷ rest) = true

-- the role that a decimal number names, however many digits it has; none where it is above 63 or no number
unfoldable pub role_of : List ℕ → Option ℕ
role_of w = cond (some? w && digits? w && leb (value_from 0 w) 63) (Some (value_from 0 w)) None

-- ---- several, with commas between: what `name` makes of each piece

-- it names something, and that is x
abbrev pub one? : Option ℕ → Bool
one? None = false
one? (Some x) = true

abbrev pub is? : ℕ → Option ℕ → Bool
is? x None = false
is? x (Some y) = eqb x y

-- each piece names one
unfoldable pub all_named? : (List ℕ → Option ℕ) → List (List ℕ) → Bool
all_named? name [] = true
all_named? name (p ∷ ps) = one? (name p) && all_named? name ps

-- some piece names x
unfoldable pub named? : (List ℕ → Option ℕ) → List (List ℕ) → ℕ → Bool
named? name [] x = false
named? name (p ∷ ps) x = is? x (name p) || named? name ps x

-- the set of all that are named, if this text is such a list
unfoldable pub members_of : (List ℕ → Option ℕ) → List ℕ → Option ℕ
members_of name w = cond (all_named? name (pieces 44 w)) (Some (set_of (named? name (pieces 44 w)))) None

-- rights by name, or all five
unfoldable pub rights_of : List ℕ → Option ℕ
rights_of w = cond (alike? w (bytes "all")) (Some 31) (members_of right_of w)

-- what a reader of names gives is what `name` makes of the text
abbrev pub Reads : (Bor (List ℕ) → Option ℕ → Type 0) → (List ℕ → Option ℕ) → Type 0
Reads gives name = (w : Bor (List ℕ)) (r : Option ℕ) → gives w r → r ≡ name w.now
