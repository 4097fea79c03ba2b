-- Words of request 2's theorems: a kind as a set of parts, and a command that takes back what another added.
use Rattle.std.specs.Prelude.{◌≡◌, true, false, not, ◌&&◌, ◌||◌, ℕ}
use Rattle.sets.specs.Sets.{bit}
use Rattle.hierarchy.specs.Tables.{Tables, row, kind_of, has_i, has_a}
use Rattle.board.specs.declared.Command.{Command}

-- the kind with the parts of h and those of k
abbrev pub both : ℕ → ℕ → ℕ
both h k = kind_of (has_i h || has_i k) (has_a h || has_a k)

-- the kind with the parts of h that k lacks; 0, no edge, where there is none
abbrev pub less : ℕ → ℕ → ℕ
less h k = kind_of (has_i h && not (has_i k)) (has_a h && not (has_a k))

-- no part that the command names stands on its edge
pub record NoneStands (t : Tables) (c : Command) : Type 0 where
  pub i : has_i c.kind ≡ true → bit (row t.i c.role) c.junior ≡ false
  pub a : has_a c.kind ≡ true → bit (row t.a c.role) c.junior ≡ false

-- the same actor removes just what c adds
pub record TakesBack (c d : Command) : Type 0 where
  pub adds : c.code ≡ 3
  pub removes : d.code ≡ 4
  pub actor : d.actor ≡ c.actor
  pub role : d.role ≡ c.role
  pub junior : d.junior ≡ c.junior
  pub kind : d.kind ≡ c.kind
