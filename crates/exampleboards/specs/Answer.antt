-- The number of a command on a sound board, computed: each row of document 01's table of refusals past the first as a test that can be run
-- on tables and rights; a test of a sound board; and one of whom a 6 names. `Rattle.exampleboards.proofs.Answering` and `Ordering` say that
-- these are what the definitions give.
use Rattle.std.specs.Prelude.{Bool, false, cond, not, ◌&&◌, ◌||◌, List, [], ◌∷◌, ◌++◌, ℕ, ◌^◌, eqb, ltb, leb, length, set}
use Rattle.std.specs.Int.Bits.{bit_or}
use Rattle.sets.specs.Sets.{bit, set_of}
use Rattle.hierarchy.specs.Tables.{Tables, row, has_i, has_a}
use Rattle.hierarchy.specs.Compute.{all, any, derives?, scope?, out_of_scope?, admin?, reaches?, managed?}
use Rattle.board.specs.Rights.{rights_of}
use Rattle.board.specs.declared.Command.{Command}
use Rattle.effects.specs.Effects.{lives, entry, list_of}
use Rattle.refusals.specs.Entitled.{names_rights, asks}
use Rattle.refusals.specs.Refusals.{names_edge, needed, scoped, strictly, conditions}
use Rattle.commands.specs.RightsAfter.{holds}

-- ---- tables and rights afterwards

-- whether the command may touch row x of a table that `seniors` are entered in: only its own role's, and those with it as a junior
unfoldable pub touched? : Command → ℕ → List ℕ → ℕ → Bool
touched? c seniors t x = eqb x c.role || (bit seniors x || bit (row t x) c.role)

-- a table afterwards; a row that isn't touched is taken as it is, and not worked out member by member
unfoldable pub table_left : Command → ℕ → ℕ → Bool → List ℕ → List ℕ
table_left c seniors juniors part t =
    list_of 64 (λ x. cond (touched? c seniors t x) (set_of (λ y. entry c seniors juniors part (bit (row t x) y) x y)) (row t x))

-- the same tables as `after t c`, in fewer steps; commands 6 and 7 leave them
unfoldable pub left : Tables → Command → Tables
left t c = cond (names_rights c) t (record {
  live = set_of (λ x. lives c (bit t.live x) x);
  i = table_left c c.i_seniors c.i_juniors (has_i c.kind) t.i;
  a = table_left c c.a_seniors c.a_juniors (has_a c.kind) t.a;
})

-- the same rights as `rights_after c rights`: only the byte of the role named may be another
unfoldable pub rights_left : Command → List ℕ → List ℕ
rights_left c rights = set rights c.role (set_of (λ k. holds c (bit (rights_of rights c.role) k) c.role k))

-- ---- a sound board, in fewer steps than by `sound?`: rows are looked at and not entries, and for loops only live roles

-- whether nobody is in the row s of x, or x and all of them live
unfoldable pub joins? : (live x s : ℕ) → Bool
joins? live x s = eqb s 0 || (bit live x && eqb (bit_or s live) live)

unfoldable pub joined_rows? : Tables → Bool
joined_rows? t = all 64 (λ x. joins? t.live x (row t.i x) && joins? t.live x (row t.a x))

unfoldable pub live_loops? : Tables → Bool
live_loops? t = any 64 (λ x. bit t.live x && reaches? t x x)

-- whether only live roles hold rights, and only the five
unfoldable pub rightful? : ℕ → List ℕ → Bool
rightful? live rights = eqb (length rights) 64 && all 64 (λ x. leb (rights_of rights x) 31 && (bit live x || eqb (rights_of rights x) 0))

-- all of it, for tables in their shape
unfoldable pub in_order? : Tables → List ℕ → Bool
in_order? t rights = joined_rows? t && (not (live_loops? t) && (bit t.live 0 && (managed? t && rightful? t.live rights)))

-- ---- a test for each row

unfoldable pub malformed? : Command → Bool
malformed? c =
    (ltb c.code 1 || ltb 7 c.code)
    || (ltb 63 c.actor
    || (ltb 63 c.role
    || ((names_edge c && ltb 63 c.junior)
    || ((names_edge c && (ltb c.kind 1 || ltb 3 c.kind))
    || (names_rights c && ltb 31 c.rights)))))

unfoldable pub missing? : Tables → Command → Bool
missing? t c = any 64 (λ x. needed c x && not (bit t.live x))

unfoldable pub parts_stand? : Tables → Command → Bool
parts_stand? t c =
    (not (has_i c.kind) || bit (row t.i c.role) c.junior) && (not (has_a c.kind) || bit (row t.a c.role) c.junior)

unfoldable pub linked? : Tables → Command → Bool
linked? t c = bit (row t.i c.role) c.junior || bit (row t.a c.role) c.junior

unfoldable pub standing? : Tables → Command → Bool
standing? t c = (eqb c.code 1 && bit t.live c.role) || (eqb c.code 3 && parts_stand? t c)

unfoldable pub lacking? : Tables → Command → Bool
lacking? t c = (eqb c.code 4 && not (parts_stand? t c)) || (eqb c.code 5 && not (linked? t c))

-- whether a may use right k; that it holds it itself is looked at first, being the least work
unfoldable pub may_use? : Tables → List ℕ → (a k : ℕ) → Bool
may_use? t rights a k = bit (rights_of rights a) k || any 64 (λ x. bit (rights_of rights x) k && derives? t a x)

unfoldable pub entitled? : Tables → List ℕ → Command → Bool
entitled? t rights c = all 5 (λ k. not (asks c k) || may_use? t rights c.actor k)

unfoldable pub in_scope? : Tables → Command → Bool
in_scope? t c =
    all 64 (λ x. (not (scoped c x) || scope? t c.actor x) && (not (strictly c x) || admin? t c.actor x))

unfoldable pub outside? : Tables → Command → Bool
outside? t c = eqb c.code 1 && not (admin? t c.actor c.role)

-- ---- the rows in the order they are tried

-- the number of the first test that is true, and 0 where none is
unfoldable pub first? : List (ℕ × Bool) → ℕ
first? [] = 0
first? (test ∷ rest) = cond test.1 test.0 (first? rest)

-- on the tables and rights handed in
abbrev pub before? : Tables → List ℕ → Command → List (ℕ × Bool)
before? t rights c =
    (2, malformed? c)
    ∷ (3, missing? t c)
    ∷ (4, standing? t c)
    ∷ (5, lacking? t c)
    ∷ (13, not (entitled? t rights c))
    ∷ (6, not (in_scope? t c))
    ∷ []

-- on the tables that the command would leave
abbrev pub afterwards? : Tables → Command → List (ℕ × Bool)
afterwards? t c =
    (7, live_loops? t)
    ∷ (8, outside? t c)
    ∷ (9, not (managed? t))
    ∷ []

-- 6 and 7 leave the tables, which are sound: nothing to try afterwards
unfoldable pub answer? : Tables → List ℕ → Command → ℕ
answer? t rights c = first? (before? t rights c ++ cond (names_rights c) [] (afterwards? (left t c) c))

-- ---- request 3: who offends first, and why

-- x is not the actor itself, where strict scope is asked
abbrev pub other? : ℕ → Bool → ℕ → Bool
other? a strict x = not strict || not (eqb a x)

-- x breaks the condition
unfoldable pub breaks? : Tables → ℕ → (ℕ → Bool) × Bool → ℕ → Bool
breaks? t a condition x = condition.0 x && not (scope? t a x && other? a condition.1 x)

unfoldable pub because? : Tables → (a x : ℕ) → Bool → (cause way : ℕ) → Bool
because? t a x strict cause way =
    (strict && (eqb a x && (eqb cause 3 && eqb way 0))) || (other? a strict x && out_of_scope? t a x cause way)

-- of those who break the first condition that is broken `who` is the lowest, and this is why
unfoldable pub offends? : Tables → ℕ → List ((ℕ → Bool) × Bool) → (who cause way : ℕ) → Bool
offends? t a [] who cause way = false
offends? t a (condition ∷ rest) who cause way =
    (breaks? t a condition who && (all who (λ x. not (breaks? t a condition x)) && because? t a who condition.1 cause way))
    || (all 64 (λ x. not (breaks? t a condition x)) && offends? t a rest who cause way)

abbrev pub blames? : Tables → Command → (who cause way : ℕ) → Bool
blames? t c = offends? t c.actor (conditions c)

-- ---- the shape of a command

-- no set that it names has a member above 63
unfoldable pub fits? : Command → Bool
fits? c =
    ltb c.a_seniors (2 ^ 64)
    && (ltb c.i_seniors (2 ^ 64)
    && (ltb c.a_juniors (2 ^ 64)
    && ltb c.i_juniors (2 ^ 64)))
