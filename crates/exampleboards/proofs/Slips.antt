-- Where a careful reader of document 01 slips: for each case, a board that shows it. Assumes nothing.
use mathlib.Core.Path.{◌≡◌, refl}
use mathlib.Core.Logic.{◌≢◌}
use mathlib.Core.Bool.{true, false}
use mathlib.Core.List.{[], ◌∷◌}
use Prim.Native.Nat.{ℕ}
use native.Mathlib.Omega.{arith}
use lib.ListN.{replicate}
use Rattle.sets.proofs.Laws.{bit_lt}
use Rattle.hierarchy.specs.Tables.{Tables, kind, joins, join}
use Rattle.hierarchy.specs.Words.{Derives, Scope, Administrator, Loops, Managed, Sound}
use Rattle.hierarchy.proofs.Checks.{all_is, unless_is, eq_is}
use Rattle.hierarchy.proofs.Decide.{scope_is}
use Rattle.effects.specs.Effects.{after}
use Rattle.exampleboards.specs.Boards.{P, W, L, I, A, add_edge, change_edge}
use Rattle.exampleboards.specs.Table.{Stage.on, Stage.◌then◌, Fact.sound, Fact.derives, Fact.alone, Fact.loops}
use Rattle.exampleboards.proofs.Entries.{right_holds}
use Rattle.exampleboards.proofs.Theorem.{running}

-- 1. A test for loops by whether the junior derives the senior lets this one through: with 3 I 1 the board L has a loop, and 1 does
-- not derive 3, since I followed by A leads nowhere.
pub loop_unseen : Loops ((after L (add_edge 0 3 1 I))) × (Derives L 1 3 → ⊥)
unfolding running
loop_unseen = ((right_holds (on L then add_edge 0 3 1 I) (loops ∷ []) refl).0, (right_holds (on L) (derives 1 3 false ∷ []) refl).0)

-- 2. Document 002's Theorem 3.3 puts a role into a scope that all its immediate seniors are in. On P the one immediate senior of role 3
-- is role 1; that is in the scope of role 0, and role 3 is not.
P-sound : Sound P
unfolding running
P-sound = (right_holds (on P) (sound ∷ []) refl).0.0

seniors_in : (x : ℕ) → kind P x 3 ≢ 0 → Scope P 0 x
unfolding running
seniors_in x e =
    let s = P-sound.shaped in
    let i = all_is 64 (λ z. unless_is (eq_is (kind P z 3) 0) (scope_is s 0 z)) in
    i.0 refl x (bit_lt 64 s.live_fits (P-sound.joined x 3 e).0) e

pub scope_stops : (kind P 1 3 ≡ A) × ((x : ℕ) → kind P x 3 ≢ 0 → Scope P 0 x) × (Scope P 0 3 → ⊥)
unfolding running
scope_stops = (refl, seniors_in, λ s. (right_holds (on P) (derives 0 3 false ∷ []) refl).0 s.derives)

-- 3. A change of kind can cost a role its administrators. W with 2 I 3 is sound; once 2 to 3 is A, role 5 has none.
abbrev W' : Tables
W' = after W (add_edge 0 2 3 I)

pub kind_costs : Sound W' × ((a : ℕ) → Administrator (after W' (change_edge 0 2 3 A)) a 5 → ⊥)
unfolding running
kind_costs = ((right_holds (on W then add_edge 0 2 3 I) (sound ∷ []) refl).0.0, (right_holds (on W then add_edge 0 2 3 I then change_edge 0 2 3 A) (alone 5 ∷ []) refl).0)

-- 4. It is not enough to look for an I step with an A step right behind it. I, IA, A joins to 0 and neither pair of neighbours does; so with
-- 0 I 1, 1 IA 2, 2 A 3 role 0 derives 2, role 1 derives 3, and role 0 does not derive 3.
pub no_neighbours : (join 1 (join 3 2) ≡ 0) × (join 1 3 ≢ 0) × (join 3 2 ≢ 0)
unfolding join joins
no_neighbours = (refl, λ e. absurd (omega (arith, e)), λ e. absurd (omega (arith, e)))

unfoldable pub N : Tables
N = record { live = 0b1111; i = 0b0010 ∷ 0b0100 ∷ replicate 62 0; a = 0 ∷ 0b0100 ∷ 0b1000 ∷ replicate 61 0 }

pub stopped : Derives N 0 2 × Derives N 1 3 × (Derives N 0 3 → ⊥)
unfolding running N
stopped = let h = right_holds (on N) (derives 0 2 true ∷ derives 1 3 true ∷ derives 0 3 false ∷ []) refl in (h.0, h.1.0, h.1.1.0)

-- 5. Refusal 9 is worked out on the board afterwards. On W before the change all roles have administrators; with 2 A 3 role 5 has none.
pub managed_before : Managed W × (Managed (after W (add_edge 0 2 3 A)) → ⊥)
unfolding running after
managed_before = (
  (right_holds (on W) (sound ∷ []) refl).0.0.managed,
  λ m. let a = m 5 refl (λ e. absurd (omega (arith, e))) in (right_holds (on W then add_edge 0 2 3 A) (alone 5 ∷ []) refl).0 a.0 a.1,
)
