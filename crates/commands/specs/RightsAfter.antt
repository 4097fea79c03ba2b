-- Request 4: what a command does to the rights.
use Rattle.std.specs.Prelude.{Bool, cond, not, ◌&&◌, ◌||◌, List, ℕ, eqb}
use Rattle.sets.specs.Sets.{bit, set_of}
use Rattle.board.specs.Rights.{rights_of}
use Rattle.board.specs.declared.Command.{Command}
use Rattle.effects.specs.Effects.{list_of}

-- ---- the rights afterwards

-- Whether x holds right k afterwards, by whether it held it: a new role has none, a removed role's go, 6 gives the rights named to the role
-- named, and 7 takes them.
unfoldable pub holds : Command → Bool → ℕ → ℕ → Bool
holds c old x k =
    cond (eqb c.code 1) (old && not (eqb x c.role))
    (cond (eqb c.code 2) (old && not (eqb x c.role))
    (cond (eqb c.code 6) (old || (eqb x c.role && bit c.rights k))
    (cond (eqb c.code 7) (old && not (eqb x c.role && bit c.rights k))
    old)))

-- the whole row afterwards
unfoldable pub rights_after : Command → List ℕ → List ℕ
rights_after c rights = list_of 64 (λ x. set_of (λ k. holds c (bit (rights_of rights x) k) x k))
