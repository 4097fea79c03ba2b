-- The table by which kinds join. Assumes nothing.
use mathlib.Core.Path.{◌≡◌, refl, sym, ◌∙◌, ap}
use mathlib.Core.Bool.{true}
use mathlib.Core.List.{[]}
use Prim.Native.Nat.{ℕ, zero, suc, ◌≤◌, ◌<◌}
use native.Mathlib.Decide.{dec_lt}
use native.Mathlib.Omega.{arith}
use lib.Dec.{eqb}
use lib.ListN.{get_or-eq_default, get_or}
use borrow.Author.Tests.{eqb-true}
use Rattle.hierarchy.specs.Tables.{joins, join}
use Rattle.hierarchy.specs.Compute.{all}
use Rattle.hierarchy.proofs.Checks.{all_holds}

-- no step joins with anything to none
pub zero_join : (k : ℕ) → join 0 k ≡ 0
unfolding join joins
zero_join zero = refl
zero_join (suc zero) = refl
zero_join (suc (suc zero)) = refl
zero_join (suc (suc (suc zero))) = refl
zero_join (suc (suc (suc (suc zero)))) = refl
zero_join (suc (suc (suc (suc (suc k))))) = refl

pub join_zero : (j : ℕ) → join j 0 ≡ 0
unfolding join joins
join_zero zero = refl
join_zero (suc zero) = refl
join_zero (suc (suc zero)) = refl
join_zero (suc (suc (suc zero))) = refl
join_zero (suc (suc (suc (suc zero)))) = refl
join_zero (suc (suc (suc (suc (suc j))))) = refl

-- past the table
pub out_join : (j k : ℕ) → 5 ≤ j → join j k ≡ 0
unfolding join joins
out_join j k h = ap (λ r. get_or r k 0) (get_or-eq_default joins [] h)

pub join_out : (j k : ℕ) → 5 ≤ k → join j k ≡ 0
unfolding join joins
join_out zero k h = get_or-eq_default (get_or joins 0 []) 0 h
join_out (suc zero) k h = get_or-eq_default (get_or joins 1 []) 0 h
join_out (suc (suc zero)) k h = get_or-eq_default (get_or joins 2 []) 0 h
join_out (suc (suc (suc zero))) k h = get_or-eq_default (get_or joins 3 []) 0 h
join_out (suc (suc (suc (suc zero)))) k h = get_or-eq_default (get_or joins 4 []) 0 h
join_out (suc (suc (suc (suc (suc j))))) k h = refl

in_table : all 5 (λ i. all 5 (λ j. all 5 (λ k. eqb (join (join i j) k) (join i (join j k))))) ≡ true
unfolding join joins all
in_table = refl

-- three steps join to the same however they are bracketed
pub join_assoc : (i j k : ℕ) → join (join i j) k ≡ join i (join j k)
join_assoc i j k = go (dec_lt i 5) (dec_lt j 5) (dec_lt k 5)
  where
    go : Dec (i < 5) → Dec (j < 5) → Dec (k < 5) → join (join i j) k ≡ join i (join j k)
    go (yes p) (yes q) (yes r) = eqb-true _ _ (all_holds 5 _ (all_holds 5 _ (all_holds 5 _ in_table i p) j q) k r)
    go (yes p) (yes q) (no r) = join_out (join i j) k (omega arith) ∙ sym (ap (join i) (join_out j k (omega arith)) ∙ join_zero i)
    go (yes p) (no q) d = ap (λ n. join n k) (join_out i j (omega arith)) ∙ zero_join k ∙ sym (ap (join i) (out_join j k (omega arith)) ∙ join_zero i)
    go (no p) c d = ap (λ n. join n k) (out_join i j (omega arith)) ∙ zero_join k ∙ sym (out_join i (join j k) (omega arith))
