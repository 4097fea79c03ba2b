-- A set grown until it does not change holds just what its members lead to. Assumes nothing.
use mathlib.Core.Path.{◌≡◌, refl, sym, ◌∙◌, ap, subst}
use mathlib.Core.Logic.Iff
use mathlib.Core.Logic.{◌⊎◌, inl, inr, ⊎_elim, ◌↔◌}
use mathlib.Core.Bool.{Bool, true, false, cond, ◌&&◌, ◌||◌, or_assoc}
use mathlib.Core.List.{List}
use Prim.Native.Nat.{ℕ, zero, suc, ◌^◌, ◌+◌, ◌≤◌, ◌<◌}
use native.Mathlib.Omega.{arith}
use lib.Bits.{bit_or, or_lt}
use lib.Dec.{eqb}
use lib.Pow.{pow-lt}
use lib.Count.{ones, ones-le}
use borrow.Author.Tests.{eqb-true, eqb-false, eq-eqb}
use Rattle.sets.specs.Sets.{bit, ◌is_in◌, ◌are_in◌}
use Rattle.sets.proofs.Bools.{cond_elim, lt_or_ge}
use Rattle.sets.proofs.Digits.{bit_of_or, bit_pow}
use Rattle.sets.proofs.Laws.{bit_lt, part_whole}
use Rattle.hierarchy.specs.Tables.{row}
use Rattle.hierarchy.specs.Words.{Chain}
use Rattle.hierarchy.specs.Words.{Chain.stop, Chain.step}
use Rattle.hierarchy.specs.Compute.{any, spread, grow, close}
use Rattle.hierarchy.proofs.Checks.{any_is, and_is, or_is}

-- y is led to, through one table alone, from a role of s
pub record Led (rows : List ℕ) (s y : ℕ) : Type 0 where
  pub start : ℕ
  pub member : start is_in s
  pub chain : Chain rows start y

module _ (t : List ℕ) where
  -- ---- one round

  bit_spread : (s n y : ℕ) → bit (spread t s n) y ≡ (any n (λ x. bit s x && bit (row t x) y) || bit s y)
  unfolding spread any
  bit_spread s zero y = refl
  bit_spread s (suc n) y =
      let r = spread t s n in
      picked (bit s n) (row t n) r
      ∙ ap (λ p. bit s n && bit (row t n) y || p) (bit_spread s n y)
      ∙ sym (or_assoc (bit s n && bit (row t n) y) (any n (λ x. bit s x && bit (row t x) y)) (bit s y))
    where
      picked : (p : Bool) (w r : ℕ) → bit (cond p (bit_or w r) r) y ≡ (p && bit w y || bit r y)
      picked true w r = bit_of_or w r y
      picked false w r = refl

  module _ (fits : (x : ℕ) → row t x < 2 ^ 64) where
    spread_fits : (s n : ℕ) → s < 2 ^ 64 → spread t s n < 2 ^ 64
    unfolding spread
    spread_fits s zero h = h
    spread_fits s (suc n) h =
        let r = spread_fits s n h in
        cond_elim (λ w. w < 2 ^ 64) (bit s n) _ _ (λ _. or_lt 64 (row t n) (spread t s n) (fits n) r) (λ _. r)

    module _ (s : ℕ) (h : s < 2 ^ 64) where
      grow_fits : grow t s < 2 ^ 64
      unfolding grow
      grow_fits = spread_fits s 64 h

      grow_is : (y : ℕ) → (y is_in grow t s) ↔ (((x : ℕ) × ((x is_in s) × (y is_in row t x))) ⊎ (y is_in s))
      unfolding grow
      grow_is y =
          let i = or_is (any_is 64 (λ x. and_is Iff.rfl (λ _. Iff.rfl)) (λ x m. bit_lt 64 h m.0)) Iff.rfl in
          (λ e. i.0 (sym (bit_spread s 64 y) ∙ e), λ w. bit_spread s 64 y ∙ i.1 w)

      grow_part : s are_in grow t s
      grow_part y m = (grow_is y).1 (inr m)

      grow_whole : ones (grow t s) ≤ ones s → grow t s ≡ s
      grow_whole l = sym (part_whole s (grow t s) h grow_fits grow_part l)

      -- ---- all rounds

      led_grow : (y : ℕ) → Led t (grow t s) y ↔ Led t s y
      led_grow y = (
        λ l. ⊎_elim
            (λ w. record { start = w.0; member = w.1.0; chain = step w.1.1 l.chain })
            (λ m. record { start = l.start; member = m; chain = l.chain })
            ((grow_is l.start).0 l.member),
        λ l. record { start = l.start; member = grow_part l.start l.member; chain = l.chain },
      )

      still : grow t s ≡ s → (y : ℕ) → (y is_in s) ↔ Led t s y
      still e y = (λ m. record { start = y; member = m; chain = stop }, λ l. along l.chain l.member)
        where
          along : {x : ℕ} → Chain t x y → x is_in s → y is_in s
          along stop m = m
          along (step {x = x} {y = z} g c) m = along c (ap (λ n. bit n z) (sym e) ∙ (grow_is z).1 (inl (x, (m, g))))

    -- the rounds suffice, counted by the roles that are not yet in
    closes : (n s : ℕ) → s < 2 ^ 64 → 64 ≤ n + ones s → (close t n s < 2 ^ 64) × ((y : ℕ) → (y is_in close t n s) ↔ Led t s y)
    unfolding close
    closes zero s h l = (h, still s h (grow_whole s h (omega (arith, ones-le 64 (grow t s) (grow_fits s h)))))
    closes (suc n) s h l =
        cond_elim (λ c. (c < 2 ^ 64) × ((y : ℕ) → (y is_in c) ↔ Led t s y)) (eqb (grow t s) s) s (close t n (grow t s))
        (λ e. (h, still s h (eqb-true (grow t s) s e)))
        (λ e. let r = closes n (grow t s) (grow_fits s h) (more e) in (r.0, λ y. Iff.trans (r.1 y) (led_grow s h y)))
      where
        more : eqb (grow t s) s ≡ false → 64 ≤ n + ones (grow t s)
        more e = ⊎_elim
            (λ (m : ones s < ones (grow t s)). omega arith)
            (λ m. absurd (eqb-false (grow t s) s e (grow_whole s h m)))
            (lt_or_ge (ones s) (ones (grow t s)))

    pub close_fits : (s : ℕ) → s < 2 ^ 64 → close t 64 s < 2 ^ 64
    close_fits s h = (closes 64 s h (omega arith)).0

    -- Grown from s, it holds just what the members of s lead to.
    pub close_is : (s : ℕ) → s < 2 ^ 64 → (y : ℕ) → (y is_in close t 64 s) ↔ Led t s y
    close_is s h = (closes 64 s h (omega arith)).1

    -- Grown from one role, it holds just what that role leads to.
    pub close_one : (x : ℕ) → x < 64 → (y : ℕ) → (y is_in close t 64 (2 ^ x)) ↔ Chain t x y
    close_one x l y = Iff.trans (close_is (2 ^ x) (pow-lt l) y) (
      λ w. subst (λ z. Chain t z y) (eqb-true w.start x (sym (bit_pow x w.start) ∙ w.member)) w.chain,
      λ c. record { start = x; member = bit_pow x x ∙ eq-eqb x x refl; chain = c },
    )
