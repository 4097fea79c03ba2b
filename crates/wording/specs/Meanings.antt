-- What a line means: ACTOR, the command's name, ROLE or SENIOR, and what that command needs besides; or which word of it is wrong.
--
--     ACTOR add-role ROLE [a-seniors SET] [i-seniors SET] [a-juniors SET] [i-juniors SET]      each set once, in any order
--     ACTOR remove-role ROLE
--     ACTOR add-edge | remove-edge | change-edge SENIOR JUNIOR KIND
--     ACTOR give-rights | take-rights ROLE RIGHTS
use Rattle.std.specs.Prelude.{Bool, cond, List, Option, Some, None, Result, Ok, Err, ℕ, zero, suc, ◌+◌, eqb, leb, length}
use Rattle.board.specs.declared.Command.{Command}
use Rattle.wording.specs.Texts.{word_at}
use Rattle.wording.specs.Names.{code_of, kind_of, set_name_of, role_of, members_of, rights_of}
use Rattle.wording.specs.declared.Wrong.{Wrong}
use Rattle.wording.specs.declared.Wanted.{Wanted}
use Rattle.wording.specs.declared.Wanted.TheVariants.{Role, Name, Kind, Roles, Rights, SetName, Nothing}
use Rattle.wording.specs.declared.names.SetName.{SetName as NameOfSet}
use Rattle.wording.specs.declared.names.SetName.TheVariants.{ASeniors, ISeniors, AJuniors, IJuniors}

-- what a line means: a command, or which word is wrong
abbrev pub Meaning : Type 0
Meaning = Result Command Wrong

abbrev pub wrong : ℕ → Wanted → Meaning
wrong k what = Err (record { place = k; wanted = what })

-- where the word at this place names nothing that is wanted there, the line is wrong at it; else it means the rest
abbrev pub wanting : {A : Type 0} → Option A → ℕ → Wanted → (A → Meaning) → Meaning
wanting None k what rest = wrong k what
wanting (Some x) k what rest = rest x

-- a command that names an actor and a role and nothing else
abbrev pub bare : (code actor role : ℕ) → Command
bare code actor role =
    record {
      code = code;
      actor = actor;
      role = role;
      junior = 0;
      kind = 0;
      rights = 0;
      a_seniors = 0;
      i_seniors = 0;
      a_juniors = 0;
      i_juniors = 0;
    }

-- whether the line has no word at this place; and where it should end before this place, and then means c
abbrev pub none? : List ℕ → ℕ → Bool
none? line k = eqb (length (word_at line k)) 0

abbrev pub ends_at : List ℕ → ℕ → Command → Meaning
ends_at line k c = cond (none? line k) (Ok c) (wrong k Nothing)

-- ---- the sets of a new role

-- the set of this name, and the command with another set there
abbrev pub set_at : NameOfSet → Command → ℕ
set_at ASeniors c = c.a_seniors
set_at ISeniors c = c.i_seniors
set_at AJuniors c = c.a_juniors
set_at IJuniors c = c.i_juniors

abbrev pub with_set : NameOfSet → ℕ → Command → Command
with_set ASeniors set c = record c { a_seniors = set }
with_set ISeniors set c = record c { i_seniors = set }
with_set AJuniors set c = record c { a_juniors = set }
with_set IJuniors set c = record c { i_juniors = set }

-- From this place on up to n names of sets, each with its roles behind it. None may have been named before: a set that was has a role in it
-- (`set_some`).
unfoldable pub sets_from : ℕ → List ℕ → ℕ → Command → Meaning
sets_from zero line k c = ends_at line k c
sets_from (suc n) line k c =
    cond (none? line k) (Ok c)
    (wanting (set_name_of (word_at line k)) k SetName (λ name.
    cond (eqb (set_at name c) 0)
    (wanting (members_of role_of (word_at line (k + 1))) (k + 1) Roles (λ set.
    sets_from n line (k + 2) (with_set name set c)))
    (wrong k SetName)))

-- ---- what follows the role, by command

unfoldable pub edge_from : List ℕ → Command → Meaning
edge_from line c =
    wanting (role_of (word_at line 3)) 3 Role (λ junior.
    wanting (kind_of (word_at line 4)) 4 Kind (λ kind.
    ends_at line 5 (record c { junior = junior; kind = kind })))

unfoldable pub rights_from : List ℕ → Command → Meaning
rights_from line c = wanting (rights_of (word_at line 3)) 3 Rights (λ rights. ends_at line 4 (record c { rights = rights }))

unfoldable pub by_code : List ℕ → Command → Meaning
by_code line c =
    cond (eqb c.code 1) (sets_from 4 line 3 c)
    (cond (eqb c.code 2) (ends_at line 3 c)
    (cond (leb c.code 5) (edge_from line c) (rights_from line c)))

unfoldable pub meaning_of : List ℕ → Meaning
meaning_of line =
    wanting (role_of (word_at line 0)) 0 Role (λ actor.
    wanting (code_of (word_at line 1)) 1 Name (λ code.
    wanting (role_of (word_at line 2)) 2 Role (λ role.
    by_code line (bare code actor role))))
