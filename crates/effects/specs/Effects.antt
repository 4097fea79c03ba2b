-- What each command does, member by member: the column "Effect" of document 01's table, with commands 3 and 4 as request 2 has them. What no
-- line names stays as it was.
use Rattle.std.specs.Prelude.{Bool, cond, not, ◌&&◌, ◌||◌, List, [], ◌∷◌, ℕ, zero, suc, eqb}
use Rattle.sets.specs.Sets.{bit, set_of}
use Rattle.hierarchy.specs.Tables.{Tables, tables, row, has_i, has_a}
use Rattle.board.specs.declared.Command.{Command}

-- whether x lives afterwards, by whether it lived: command 1 adds its role, command 2 removes it
unfoldable pub lives : Command → Bool → ℕ → Bool
lives c old x =
    cond (eqb c.code 1) (old || eqb x c.role)
    (cond (eqb c.code 2) (old && not (eqb x c.role))
    old)

-- whether x and y are the senior and the junior that the command names
abbrev pub pair : Command → ℕ → ℕ → Bool
pair c x y = eqb x c.role && eqb y c.junior

-- Whether one table has the entry of senior x and junior y afterwards, by whether it had it. It is one rule for both tables:
-- `seniors` and `juniors` are the sets that command 1 names for this table, `part` whether the named kind has this table's part. By command:
-- 1, what stood and the new role's edges; 2, what stood but the role's edges; 3, what stood and the part named; 4, what stood but the part
-- named; 5, the part named and no other.
unfoldable pub entry : Command → ℕ → ℕ → Bool → Bool → ℕ → ℕ → Bool
entry c seniors juniors part old x y =
    cond (eqb c.code 1) (old || ((eqb y c.role && bit seniors x) || (eqb x c.role && bit juniors y)))
    (cond (eqb c.code 2) (old && not (eqb x c.role || eqb y c.role))
    (cond (eqb c.code 3) (old || (pair c x y && part))
    (cond (eqb c.code 4) (old && not (pair c x y && part))
    (cond (eqb c.code 5) (cond (pair c x y) part old)
    old))))

-- f 0, f 1, .. up to n of them
unfoldable pub list_of : ℕ → (ℕ → ℕ) → List ℕ
list_of zero f = []
list_of (suc n) f = f 0 ∷ list_of n (λ k. f (suc k))

-- a whole table afterwards
unfoldable pub table_after : Command → ℕ → ℕ → Bool → List ℕ → List ℕ
table_after c seniors juniors part t = list_of 64 (λ x. set_of (λ y. entry c seniors juniors part (bit (row t x) y) x y))

-- The tables afterwards, which commands 6 and 7 leave. What a board keeps besides follows from them, so no line has to name it.
unfoldable pub after : Tables → Command → Tables
after t c = tables
    (set_of (λ x. lives c (bit t.live x) x))
    (table_after c c.i_seniors c.i_juniors (has_i c.kind) t.i)
    (table_after c c.a_seniors c.a_juniors (has_a c.kind) t.a)
