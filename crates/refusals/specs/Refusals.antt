-- Document 01's rows 2 to 6 for a command, with rows 2, 4 and 5 as request 2 has them and row 13 by request 4; and by request 3, who
-- offends and why.
use Rattle.std.specs.Prelude.{◌≡◌, Bool, true, false, ◌&&◌, ◌||◌, ◌⊎◌, ◌≢◌, List, [], ◌∷◌, ◌++◌, ℕ, ◌^◌, ◌≤◌, ◌<◌, eqb, leb}
use Rattle.sets.specs.Sets.{bit, ◌is_in◌}
use Rattle.hierarchy.specs.Tables.{Tables, row, kind, has_i, has_a}
use Rattle.board.specs.Answers.{Answer, plain}
use Rattle.board.specs.declared.Command.{Command}
use Rattle.refusals.specs.Entitled.{names_rights, Entitled}

-- ---- the fields that a command uses

-- commands 3, 4 and 5 name a senior (in `role`), a junior and a kind
abbrev pub names_edge : Command → Bool
names_edge c = leb 3 c.code && leb c.code 5

-- no set that it names has a member above 63: its type says so of each command of the code
pub record Fits (c : Command) : Type 0 where
  pub a_seniors : c.a_seniors < 2 ^ 64
  pub i_seniors : c.i_seniors < 2 ^ 64
  pub a_juniors : c.a_juniors < 2 ^ 64
  pub i_juniors : c.i_juniors < 2 ^ 64

-- ---- row 2: a number out of its range, in a field that is used

pub data Malformed (c : Command) : Type 0 where
  no_code : (c.code < 1) ⊎ (7 < c.code) → Malformed c
  no_actor : 63 < c.actor → Malformed c
  no_role : 63 < c.role → Malformed c
  no_junior : names_edge c ≡ true → 63 < c.junior → Malformed c
  no_kind : names_edge c ≡ true → (c.kind < 1) ⊎ (3 < c.kind) → Malformed c
  no_rights : names_rights c ≡ true → 31 < c.rights → Malformed c

-- ---- row 3: a role that must exist isn't live

-- whether x is among the seniors that command 1 names, by A or by I; and among the juniors
abbrev pub as_senior : Command → ℕ → Bool
as_senior c x = bit c.a_seniors x || bit c.i_seniors x

abbrev pub as_junior : Command → ℕ → Bool
as_junior c x = bit c.a_juniors x || bit c.i_juniors x

-- whether x must exist: the actor; for command 1 each set's members; for the others the role; for an edge its junior
unfoldable pub needed : Command → ℕ → Bool
needed c x =
    eqb x c.actor
    || ((eqb c.code 1 && (as_senior c x || as_junior c x))
    || ((leb 2 c.code && eqb x c.role) || (names_edge c && eqb x c.junior)))

-- one that must exist and does not
pub record Missing (t : Tables) (c : Command) : Type 0 where
  pub who : ℕ
  pub is_needed : needed c who ≡ true
  pub absent : bit t.live who ≡ false

-- ---- rows 4 and 5, an edge taken by its parts as request 2 has it

-- the kind of the edge that the command names, 0 where there is none
abbrev pub edge_kind : Tables → Command → ℕ
edge_kind t c = kind t c.role c.junior

-- every part of the kind that the command names stands between its senior and its junior
pub record PartsStand (t : Tables) (c : Command) : Type 0 where
  pub i : has_i c.kind ≡ true → c.junior is_in row t.i c.role
  pub a : has_a c.kind ≡ true → c.junior is_in row t.a c.role

-- what is to be added is there: the new role, or every part of the edge
pub data Standing (t : Tables) (c : Command) : Type 0 where
  role : c.code ≡ 1 → c.role is_in t.live → Standing t c
  edge : c.code ≡ 3 → PartsStand t c → Standing t c

-- what is to go or to change is missing: a part that a removal names, or an edge, of whatever kind, to change
pub data Lacking (t : Tables) (c : Command) : Type 0 where
  no_part : c.code ≡ 4 → (PartsStand t c → ⊥) → Lacking t c
  no_edge : c.code ≡ 5 → edge_kind t c ≡ 0 → Lacking t c

-- ---- row 6: the column "Scope condition before"

-- who must be in the actor's scope: command 1's seniors, the two ends of an edge, the role whose rights are given or taken
unfoldable pub scoped : Command → ℕ → Bool
scoped c x = (eqb c.code 1 && as_senior c x) || ((leb 3 c.code && eqb x c.role) || (names_edge c && eqb x c.junior))

-- who must be in its strict scope: command 1's juniors, command 2's role
unfoldable pub strictly : Command → ℕ → Bool
strictly c x = (eqb c.code 1 && as_junior c x) || (eqb c.code 2 && eqb x c.role)

-- `In a x` says that x is in the scope of a: document 01's word in its own table, what was worked out of it in another's. Strict scope
-- leaves out the actor itself.
pub record InScope (In : ℕ → ℕ → Type 0) (c : Command) : Type 0 where
  pub scope : (x : ℕ) → scoped c x ≡ true → In c.actor x
  pub strict : (x : ℕ) → strictly c x ≡ true → In c.actor x × (c.actor ≢ x)

-- ---- request 3: who offends, and why

-- The scope conditions of a command in the order they are looked through: of whom, and whether strict scope is asked. Nobody breaks one
-- exactly where `InScope` holds (`Rattle.refusals.proofs.Offenders`).
abbrev pub conditions : Command → List ((ℕ → Bool) × Bool)
conditions c =
    (λ x. leb 2 c.code && eqb x c.role, eqb c.code 2)
    ∷ (λ x. names_edge c && eqb x c.junior, false)
    ∷ (λ x. eqb c.code 1 && bit c.a_seniors x, false)
    ∷ (λ x. eqb c.code 1 && bit c.i_seniors x, false)
    ∷ (λ x. eqb c.code 1 && bit c.a_juniors x, true)
    ∷ (λ x. eqb c.code 1 && bit c.i_juniors x, true)
    ∷ []

-- as is asked of x: in the scope of a, and where strict scope is asked not a itself
abbrev pub AsAsked : (ℕ → ℕ → Type 0) → ℕ → Bool → ℕ → Type 0
AsAsked In a strict x = In a x × (strict ≡ true → a ≢ x)

-- x breaks a condition: it is one of those, and not as is asked
pub record Breaks (In : ℕ → ℕ → Type 0) (a : ℕ) (those : ℕ → Bool) (strict : Bool) (x : ℕ) : Type 0 where
  pub among : those x ≡ true
  pub wrong : AsAsked In a strict x → ⊥

-- r is the lowest of those that is not within
pub record LowestOut (those within r : ℕ) : Type 0 where
  pub role : r < 64
  pub among : r is_in those
  pub out : r is_in within → ⊥
  pub least : (y : ℕ) → y is_in those → (y is_in within → ⊥) → r ≤ y

-- `Offends In a conditions x strict`: x is the first to offend, the lowest who breaks the first condition that is broken, and `strict` is
-- what that one asks
pub data Offends (In : ℕ → ℕ → Type 0) (a : ℕ) : List ((ℕ → Bool) × Bool) → ℕ → Bool → Type 0 where
  here : {those : ℕ → Bool} {strict : Bool} {rest : List ((ℕ → Bool) × Bool)} {x : ℕ}
      → Breaks In a those strict x → ((y : ℕ) → Breaks In a those strict y → x ≤ y) → Offends In a ((those, strict) ∷ rest) x strict
  later : {those : ℕ → Bool} {asked strict : Bool} {rest : List ((ℕ → Bool) × Bool)} {x : ℕ}
      → ((y : ℕ) → Breaks In a those asked y → ⊥) → Offends In a rest x strict → Offends In a ((those, asked) ∷ rest) x strict

-- Why x offends, with the role in the way: `Out` has the causes 1 and 2 of being out of scope; 3, where strict scope is asked, is that x is
-- the actor itself, which goes before the others, and nobody is in the way.
pub data Because (Out : ℕ → ℕ → ℕ → ℕ → Type 0) (a x : ℕ) : Bool → ℕ → ℕ → Type 0 where
  out : {strict : Bool} {cause way : ℕ} → (strict ≡ true → a ≢ x) → Out a x cause way → Because Out a x strict cause way
  itself : a ≡ x → Because Out a x true 3 0

-- what a 6 says of the command
pub record Blames (In : ℕ → ℕ → Type 0) (Out : ℕ → ℕ → ℕ → ℕ → Type 0) (c : Command) (answer : Answer) : Type 0 where
  pub strict : Bool
  pub offends : Offends In c.actor (conditions c) answer.who strict
  pub because : Because Out c.actor answer.who strict answer.cause answer.way

-- a 6 names who offends and why, all other answers nobody
pub record Names (Blame : Answer → Type 0) (answer : Answer) : Type 0 where
  pub six : answer.number ≡ 6 → Blame answer
  pub other : answer.number ≢ 6 → answer ≡ plain answer.number

-- ---- the table of refusals, in the order they are tried

-- on the tables handed in, short of scope
abbrev pub unscoped : Tables → Command → List (ℕ × Type 0)
unscoped t c =
    (2, Malformed c)
    ∷ (3, Missing t c)
    ∷ (4, Standing t c)
    ∷ (5, Lacking t c)
    ∷ []

-- by what deriving and scope mean there: no right, and out of scope
abbrev pub by_rights : (ℕ → ℕ → Type 0) → List ℕ → Command → List (ℕ × Type 0)
by_rights Derive rights c = (13, (Entitled Derive rights c → ⊥)) ∷ []

abbrev pub by_scope : (ℕ → ℕ → Type 0) → Command → List (ℕ × Type 0)
by_scope In c = (6, (InScope In c → ⊥)) ∷ []

abbrev pub before : (Derive In : ℕ → ℕ → Type 0) → Tables → List ℕ → Command → List (ℕ × Type 0)
before Derive In t rights c = unscoped t c ++ by_rights Derive rights c ++ by_scope In c
