-- All that a board keeps of its tables: the outcome is the one that the steps lead to. Assumes nothing.
use mathlib.Core.Path.{◌≡◌, refl}
use mathlib.Core.Bool.{Bool, true, false}
use mathlib.Core.Logic.{◌≢◌, ◌↔◌}
use mathlib.Core.List.{List, [], ◌∷◌}
use Prim.Native.Nat.{ℕ}
use lib.ListN.{replicate}
use native.Mathlib.Omega.{arith}
use Rattle.sets.proofs.Bools.{false_no}
use Rattle.hierarchy.specs.Tables.{Tables, Live}
use Rattle.hierarchy.specs.Words.{Managed}
use Rattle.hierarchy.specs.First.{First}
use Rattle.hierarchy.specs.Views.{InOrder, Turned, WorkedOut, manager_at}
use Rattle.hierarchy.specs.Engine.{FilledDown, Orderly, Managers}
use Rattle.hierarchy.proofs.FirstLaws.{hit, pass, none}
use Rattle.hierarchy.proofs.Managing.{managers_are, managed_is}
use Rattle.hierarchy.proofs.Order.{order_no_loop}
use Rattle.hierarchy.proofs.ViewLaws.{turned_views}

pub out_of_order : {t : Tables} {d₀ d u m : List ℕ} {r : Bool} → FilledDown t r d₀ → r ≡ false → d ≡ replicate 64 0 → u ≡ replicate 64 0 → m ≡ replicate 64 64 → WorkedOut t 7 d u m
out_of_order filled n d u m = record {
  numbered = hit 7 _ _ (λ o. false_no n (filled.order.1 o));
  right = λ q. absurd (q refl);
  disordered = λ _. (d, (u, m));
}

module _ {t : Tables} {d u : List ℕ} {r : Bool} (filled : FilledDown t r d) (all : r ≡ true) (turned : Turned t.live d u) where
  ordered : InOrder t
  ordered = filled.order.0 all

  pub orderly : Orderly t t.live d u
  orderly = record { live_is = refl; loopless = order_no_loop ordered; views = turned_views (filled.down_rows all) (filled.down_is all) turned }

  module _ {m : List ℕ} (managers : Managers t m) where
    in_order : {n : ℕ} → n ≢ 7 → First ((9, (Managed t → ⊥)) ∷ []) n → WorkedOut t n d u m
    in_order {n} q f = record {
      numbered = pass 7 _ _ n (λ o. o ordered) f;
      right = λ _. record { views = orderly.views; managers = managers_are managers };
      disordered = λ e. absurd (q e);
    }

    is : ((r : ℕ) → Live t r → r ≢ 0 → manager_at m r ≢ 64) ↔ Managed t
    is = managed_is orderly.views managers

    pub all_have_one : ((r : ℕ) → Live t r → r ≢ 0 → manager_at m r ≢ 64) → WorkedOut t 0 d u m
    all_have_one f = in_order (λ q. absurd (omega arith)) (pass 9 _ _ 0 (λ n. n (is.0 f)) none)

    pub one_has_none : (((r : ℕ) → Live t r → r ≢ 0 → manager_at m r ≢ 64) → ⊥) → WorkedOut t 9 d u m
    one_has_none n = in_order (λ q. absurd (omega arith)) (hit 9 _ _ (λ f. n (is.1 f)))
