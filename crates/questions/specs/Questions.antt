-- What the four questions about a board answer, as document 01 has them, with the causes of request 3.
use Rattle.std.specs.Prelude.{Option, Some, None, ◌≡◌, Bool, true, false, ◌↔◌, List, ◌∷◌, ℕ}
use Rattle.std.specs.Int.Count.{ones}
use Rattle.sets.specs.Sets.{◌is_in◌}
use Rattle.hierarchy.specs.Words.{Derives, Scope, OutOfScope, LineManager, Climb}
use Rattle.board.specs.Boards.{tables_of, SoundBoard}
use Rattle.board.specs.Asked.{misnamed, Answered}
use Rattle.board.specs.declared.Board.{Board}

-- an unsound board is refused before the roles named are looked at
abbrev pub refusals : Board → ℕ → ℕ → List (ℕ × Type 0)
refusals b x y = (1, (SoundBoard b → ⊥)) ∷ misnamed b.tables.live x y

-- yes where P holds, no where it doesn't
abbrev pub Says : Type 0 → Bool → Type 0
Says P said = (said ≡ true) ↔ P

-- yes or no on r, and how many there are in all, whatever the answer on r
abbrev pub Counts : (ℕ → Type 0) → ℕ → Bool × ℕ → Type 0
Counts In r said = Says (In r) said.0 × ((set : ℕ) × ((x : ℕ) → (x is_in set) ↔ In x) × (said.1 ≡ ones set))

-- beside a yes nothing, beside a no its cause and the role in the way
pub record Reasons (Out : ℕ → ℕ → Type 0) (said : Bool) (cause way : ℕ) : Type 0 where
  pub yes : said ≡ true → (cause ≡ 0) × (way ≡ 0)
  pub no : said ≡ false → Out cause way

abbrev pub Tells : (ℕ → Type 0) → (ℕ → ℕ → ℕ → Type 0) → ℕ → Bool × ℕ × ℕ × ℕ → Type 0
Tells In Out r said = Counts In r (said.0, said.1) × Reasons (Out r) said.0 said.2 said.3

-- does x derive y
abbrev pub DerivesAnswer : Board → ℕ → ℕ → ℕ → Bool → Type 0
DerivesAnswer b x y = Answered (refusals b x y) (Says (Derives (tables_of b) x y)) false

-- is r in the scope of a; the count is of all live roles in that scope; and why not
abbrev pub ScopeAnswer : Board → ℕ → ℕ → ℕ → Bool → ℕ → ℕ → ℕ → Type 0
ScopeAnswer b a r number said count cause way =
    Answered (refusals b a r) (Tells (Scope (tables_of b) a) (OutOfScope (tables_of b) a) r) (false, 0, 0, 0) number (said, count, cause, way)

-- the line manager of r as document 01 says it for each case of the answer: a role that is it, or none
abbrev pub Manages : Board → ℕ → Option ℕ → Type 0
Manages b r (Some m) = LineManager (tables_of b) m r
Manages b r None = (m : ℕ) → LineManager (tables_of b) m r → ⊥

abbrev pub ManagerAnswer : Board → ℕ → ℕ → Option ℕ → Type 0
ManagerAnswer b r = Answered (refusals b r r) (Manages b r) None

-- the steps from r to role 0
abbrev pub StepsAnswer : Board → ℕ → ℕ → ℕ → Type 0
StepsAnswer b r = Answered (refusals b r r) (Climb (tables_of b) r) 0
