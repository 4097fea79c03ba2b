-- Request 4, row 13: the rights that a command asks for, and who may use one.
use Rattle.std.specs.Prelude.{◌≡◌, Bool, true, cond, List, ℕ, suc, eqb, leb}
use Rattle.sets.specs.Sets.{bit, ◌is_in◌}
use Rattle.board.specs.Rights.{rights_of}
use Rattle.board.specs.declared.Command.{Command}

-- ---- who may use a right: an actor when it holds it, or a role that it derives; `Derive a x` says that a derives x

pub data MayUse (Derive : ℕ → ℕ → Type 0) (rights : List ℕ) (a k : ℕ) : Type 0 where
  own : k is_in rights_of rights a → MayUse Derive rights a k
  derived : {x : ℕ} → Derive a x → k is_in rights_of rights x → MayUse Derive rights a k

-- commands 6 and 7 name a role and rights
abbrev pub names_rights : Command → Bool
names_rights c = leb 6 c.code

-- the rights that a command asks for: commands 1 to 5 the one of their number, 6 and 7 those that they name
unfoldable pub asks : Command → ℕ → Bool
asks c k = cond (names_rights c) (bit c.rights k) (eqb c.code (suc k))

-- row 13 is that the actor may not use one of them
abbrev pub Entitled : (ℕ → ℕ → Type 0) → List ℕ → Command → Type 0
Entitled Derive rights c = (k : ℕ) → asks c k ≡ true → MayUse Derive rights c.actor k

-- one of these roles holds the right k
abbrev pub HeldAmong : List ℕ → ℕ → ℕ → Type 0
HeldAmong rights roles k = (x : ℕ) × (x is_in roles) × (k is_in rights_of rights x)
