-- Order among the live roles, and loops. Assumes nothing.
use mathlib.Core.Path.{◌≡◌, sym, subst}
use mathlib.Core.Bool.{false}
use mathlib.Core.Logic.{◌⊎◌, inl, inr, ⊎_elim, ◌↔◌, ◌≢◌}
use Prim.Native.Nat.{ℕ, zero, suc, ◌^◌, ◌≤◌, ◌<◌}
use native.Mathlib.Omega.{arith}
use lib.Count.{ones, ones-le}
use Rattle.sets.specs.Sets.{bit, ◌is_in◌}
use Rattle.sets.proofs.Bools.{true_or_false, false_no}
use Rattle.sets.proofs.Laws.{bit_lt, set_of_fits, but, bit_but}
use Rattle.sets.proofs.Members.{Drawn, drawn_less, drawn_cases}
use Rattle.hierarchy.specs.Tables.{Tables, Live, kind}
use Rattle.hierarchy.specs.Words.{Way, Way.edge, Way.then, Reaches, Loops, Joined}
use Rattle.hierarchy.specs.Views.{Settles, Settles.settle, InOrder, Inward, LiveLoops}
use Rattle.hierarchy.proofs.Admin.{reaches_trans}

-- a path starts with an edge
starts : {t : Tables} {x z k : ℕ} → Way t x z k → (y : ℕ) × (kind t x y ≢ 0)
starts (edge {y = y} h) = (y, h)
starts (then {y = y} h w) = (y, h)

pub settles_live : {t : Tables} {x : ℕ} → Settles t x → Live t x
settles_live (settle l f) = l

pub settles_junior : {t : Tables} {x y : ℕ} → Settles t x → kind t x y ≢ 0 → Settles t y
settles_junior {y = y} (settle l f) h = f y h

-- what settles does not reach itself: its juniors would
settles_loopless : {t : Tables} {x : ℕ} → Settles t x → Reaches t x x → ⊥
settles_loopless {x = x} (settle l f) (k, edge h) = settles_loopless (f x h) (k, edge h)
settles_loopless (settle l f) (_, then {y = y} h w) = settles_loopless (f y h) (reaches_trans (_, w) (_, edge h))

-- a role is drawn from a set
out_of : (s y : ℕ) → s < 2 ^ 64 → y is_in s → Drawn s y (but s y)
out_of s y f e = record { role = bit_lt 64 f e; member = e; rest_is = bit_but s y f }

-- v is x or reaches it, and x has the junior y
pub over : {t : Tables} {v x y : ℕ} → kind t x y ≢ 0 → (v ≡ x) ⊎ Reaches t v x → Reaches t v y
over {t} {y = y} h (inl q) = subst (λ (z : ℕ). Reaches t z y) (sym q) (_, edge h)
over h (inr w) = reaches_trans w (_, edge h)

module _ {t : Tables} (inward : Inward t) (loopless : LiveLoops t → ⊥) where
  -- Going down from x, s holds the live roles not yet met; whoever was met is x or reaches it, so a junior that was met would close a loop.
  goes_down : (k s x : ℕ) → s < 2 ^ 64 → ones s ≤ k → Live t x → ((v : ℕ) → Live t v → bit s v ≡ false → (v ≡ x) ⊎ Reaches t v x) → Settles t x
  goes_down zero s x f o l met = settle l (λ y h. ⊎_elim
      (λ e. absurd (omega (arith, drawn_less (out_of s y f e))))
      (λ e. absurd (loopless (y, (inward x y l h, over h (met y (inward x y l h) e)))))
      (true_or_false (bit s y)))
  goes_down (suc k) s x f o l met = settle l (λ y h. ⊎_elim
      (λ e. goes_down k (but s y) y (set_of_fits _) (omega (arith, drawn_less (out_of s y f e))) (inward x y l h)
      (λ v m d. ⊎_elim (λ n. inr (over h (met v m n))) (λ q. inl q) (drawn_cases (out_of s y f e) v d)))
      (λ e. absurd (loopless (y, (inward x y l h, over h (met y (inward x y l h) e)))))
      (true_or_false (bit s y)))

  all_settle : t.live < 2 ^ 64 → InOrder t
  all_settle f x l = goes_down 64 t.live x f (ones-le 64 t.live f) l (λ v m n. absurd (false_no n m))

-- in order, no live role reaches itself
pub order_no_loop : {t : Tables} → InOrder t → LiveLoops t → ⊥
order_no_loop o l = settles_loopless (o l.0 l.1.0) l.1.1

-- Where the juniors of live roles are live, order is that none does,
pub inward_order : {t : Tables} → t.live < 2 ^ 64 → Inward t → InOrder t ↔ (LiveLoops t → ⊥)
inward_order f inward = (order_no_loop, λ n. all_settle inward n f)

-- and where entries join live roles, that there is no loop at all.
pub joined_inward : (t : Tables) → Joined t → Inward t
joined_inward t joined x y l h = (joined x y h).1

pub joined_loops : {t : Tables} → Joined t → LiveLoops t ↔ Loops t
joined_loops joined = (λ l. (l.0, l.1.1), λ l. let s = starts l.1.1 in (l.0, ((joined l.0 s.0 s.1).0, l.1)))

pub order_loopless : {t : Tables} → t.live < 2 ^ 64 → Joined t → InOrder t ↔ (Loops t → ⊥)
order_loopless f joined =
    let order = inward_order f (joined_inward _ joined) in
    let loops = joined_loops joined in
    (λ o l. order.0 o (loops.1 l), λ n. order.1 (λ l. n (loops.0 l)))
