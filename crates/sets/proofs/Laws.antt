-- The laws of sets of roles: what callers cite. Assumes nothing.
use mathlib.Core.Path.{◌≡◌, refl, sym, ap, ◌∙◌, subst}
use mathlib.Core.Bool.{Bool, true, false, not, ◌&&◌, and-true, and-false}
use mathlib.Core.Logic.{⊎_elim, ◌↔◌, dite}
use Prim.Native.Nat.{ℕ, zero, suc, ◌+◌, ◌-◌, ◌*◌, ◌/◌, ◌%◌, ◌^◌, ◌≤◌, ◌<◌, zero-le, suc-le-suc}
use native.Mathlib.Nat.{mod-lt, mod-eq_of_lt, one-mul, le_refl, le_trans, le_antisymm, le_of_suc-le-suc, pow-suc, mul_comm, div-lt_iff_lt-mul, le-div_iff_mul-le}
use native.Mathlib.Decide.{ℕ_discrete}
use native.Mathlib.Omega.{arith}
use lib.Dec.{eqb, eqb-suc-zero, eqb-suc-suc, ltb, lit<}
use lib.Arith.{bin_ind}
use lib.Pow.{pow-lt, pow_pos, pow_mono}
use lib.Bits.{and_mask, bit_and}
use lib.Count.{ones, ones_step, count_trailing_zeros, under, count_leading_zeros, leading_top}
use borrow.Author.Tests.{lt-ltb, le-ltb, eqb-true, eqb-false, eq-eqb}
use Rattle.sets.specs.Sets.{bit, ◌is_in◌, ◌are_in◌, same?, num, set_of, LowestRole, NoRole, Lowest, ButLowest, HighestRole, Highest}
use Rattle.std.specs.Prelude.{Option, Some, None}
use Rattle.sets.proofs.Bools.{true_or_false, and_left, lt_or_ge, false_no, not_so, iff_same}
use Rattle.sets.proofs.Digits.{two_pos, bit_low, bit_high, bit_zero, bit_out, bit_of_and, bit_not, bit_pow, low_num, half_lt, digits_fit, bit_digits}

-- ---- members are roles; sets with the same members are equal

pub bit_lt : (k : ℕ) {s x : ℕ} → s < 2 ^ k → x is_in s → x < k
bit_lt k {s} {x} h e = ⊎_elim (λ l. l) (λ g. absurd (false_no (bit_out k s x h g) e)) (lt_or_ge x k)

pub ext : (k s t : ℕ) → s < 2 ^ k → t < 2 ^ k → ((x : ℕ) → x < k → bit s x ≡ bit t x) → s ≡ t
ext zero s t hs ht f = omega arith
ext (suc k) s t hs ht f =
    let up : s / 2 ≡ t / 2 = ext k (s / 2) (t / 2) (half_lt k s hs) (half_lt k t ht) (λ x l. sym (bit_high s x) ∙ f (suc x) (suc-le-suc l) ∙ bit_high t x) in
    let low : s % 2 ≡ t % 2 = low_num s ∙ ap num (f 0 (suc-le-suc zero-le)) ∙ sym (low_num t) in
    omega arith

-- and whatever the numbers: each lies below a power of two
below_pow : (n : ℕ) → n < 2 ^ n
below_pow zero = lit< tt
below_pow (suc n) = omega (arith, below_pow n, pow-suc 2 n)

pub same_members : (s t : ℕ) → ((x : ℕ) → (x is_in s) ↔ (x is_in t)) → s ≡ t
same_members s t f = ext (s + t) s t
    (le_trans (below_pow s) (pow_mono (omega arith)))
    (le_trans (below_pow t) (pow_mono (omega arith)))
    (λ x _. iff_same (bit s x) (bit t x) (f x).0 (f x).1)

pub same_bits : (s t : ℕ) → ((x : ℕ) → bit s x ≡ bit t x) → s ≡ t
same_bits s t f = same_members s t (λ x. (λ e. sym (f x) ∙ e, λ e. f x ∙ e))

-- no member: the empty set
pub no_members_lem : (s : ℕ) → s < 2 ^ 64 → ((x : ℕ) → bit s x ≡ false) → s ≡ 0
no_members_lem s h e = ext 64 s 0 h (lit< tt) (λ x l. e x ∙ sym (bit_zero x))

-- ---- x is the role r

pub same_is : (r x : ℕ) → r < 64 → same? r x ≡ eqb x r
unfolding same?
same_is r x l = ap (λ (p : Bool). eqb x r && p) (lt-ltb r 64 l) ∙ and-true (eqb x r)

pub same_out : (r x : ℕ) → 64 ≤ r → same? r x ≡ false
unfolding same?
same_out r x g = ap (λ (p : Bool). eqb x r && p) (le-ltb r 64 g) ∙ and-false (eqb x r)

pub same_eq : (r x : ℕ) → same? r x ≡ true → x ≡ r
unfolding same?
same_eq r x e = eqb-true x r (and_left (eqb x r) (ltb r 64) e)

pub same_self : (r : ℕ) → r < 64 → same? r r ≡ true
same_self r l = same_is r r l ∙ eq-eqb r r refl

-- ---- difference, one role: what the code computes

pub bit_minus : (s t x : ℕ) → s < 2 ^ 64 → t < 2 ^ 64 → bit (bit_and s ((2 ^ 64 - 1) - t)) x ≡ (bit s x && not (bit t x))
bit_minus s t x hs ht =
    bit_of_and s ((2 ^ 64 - 1) - t) x
    ∙ ⊎_elim
    (λ (l : x < 64). ap (λ (p : Bool). bit s x && p) (bit_not 64 t x ht l))
    (λ (g : 64 ≤ x). cc (bit_out 64 s x hs g))
    (lt_or_ge x 64)

pub bit_test : (s r : ℕ) → eqb (bit_and (s / 2 ^ r) 1) 1 ≡ bit s r
unfolding bit
bit_test s r = ap (λ (x : ℕ). eqb x 1) (and_mask (s / 2 ^ r) 1)

pub bit_shift : (r x : ℕ) → r < 64 → bit ((1 * 2 ^ r) % 2 ^ 64) x ≡ same? r x
bit_shift r x l =
    ap (λ (n : ℕ). bit (n % 2 ^ 64) x) (one-mul (2 ^ r))
    ∙ ap (λ (n : ℕ). bit n x) (mod-eq_of_lt (pow-lt l))
    ∙ bit_pow r x
    ∙ sym (same_is r x l)

-- ---- parts

-- a set whose difference from t is empty is a part of t, and the other way round
pub minus_part : (s t d : ℕ) → d < 2 ^ 64 → ((x : ℕ) → bit d x ≡ (bit s x && not (bit t x))) → (eqb d 0 ≡ true) ↔ (s are_in t)
minus_part s t d h e = (
  λ z x m. grind (arith, m, e x, bit_zero x, eqb-true d 0 z),
  λ f. eq-eqb d 0 (no_members_lem d h (λ x. grind (arith, e x, f x))),
)

-- 0 has no role
pub no_role : {s : ℕ} → s ≡ 0 → NoRole s
no_role z = record { none = λ x. ap (λ (n : ℕ). bit n x) z ∙ bit_zero x }

-- ---- the lowest role

pub bit_lowest : (k s : ℕ) → 0 < s → s < 2 ^ k → count_trailing_zeros k s is_in s
unfolding count_trailing_zeros
bit_lowest zero s p h = absurd (omega arith)
bit_lowest (suc k) s p h = go (s % 2) refl (λ q. bit_lowest k (s / 2) q (half_lt k s h))
  where
    go : (d : ℕ) → s % 2 ≡ d → (0 < s / 2 → bit (s / 2) (count_trailing_zeros k (s / 2)) ≡ true) → bit s (under d (count_trailing_zeros k (s / 2))) ≡ true
    go zero e ih = bit_high s (count_trailing_zeros k (s / 2)) ∙ ih (omega arith)
    go (suc d) e ih =
        let one : s % 2 ≡ 1 = omega (arith, mod-lt s two_pos) in
        bit_low s ∙ ap (λ (x : ℕ). eqb x 1) one

pub lowest_least : (k s x : ℕ) → x is_in s → count_trailing_zeros k s ≤ x
unfolding count_trailing_zeros
lowest_least zero s x e = zero-le
lowest_least (suc k) s x e = go (s % 2) refl x e (λ y. lowest_least k (s / 2) y)
  where
    go : (d : ℕ) → s % 2 ≡ d → (x : ℕ) → bit s x ≡ true → ((y : ℕ) → bit (s / 2) y ≡ true → count_trailing_zeros k (s / 2) ≤ y) → under d (count_trailing_zeros k (s / 2)) ≤ x
    go (suc d) q x e ih = zero-le
    go zero q zero e ih = absurd (false_no (bit_low s ∙ ap (λ (n : ℕ). eqb n 1) q) e)
    go zero q (suc x) e ih = suc-le-suc (ih x (sym (bit_high s x) ∙ e))

pub lowest_lt : (s : ℕ) → 0 < s → s < 2 ^ 64 → count_trailing_zeros 64 s < 64
lowest_lt s p h = bit_lt 64 h (bit_lowest 64 s p h)

pub lowest_is : (s : ℕ) → 0 < s → s < 2 ^ 64 → LowestRole s (count_trailing_zeros 64 s)
lowest_is s p h = record { role = lowest_lt s p h; member = bit_lowest 64 s p h; least = λ x e. lowest_least 64 s x e }

pub lowest_unique : (s : ℕ) (p q : Option ℕ) → Lowest s p → Lowest s q → p ≡ q
lowest_unique s (Some m) (Some n) h g = ap Some (le_antisymm (h.least n g.member) (g.least m h.member))
lowest_unique s (Some m) None h g = absurd (false_no (g.none m) h.member)
lowest_unique s None (Some n) h g = absurd (false_no (h.none n) g.member)
lowest_unique s None None h g = refl

-- ---- the highest role

pub highest_unique : (s : ℕ) (p q : Option ℕ) → Highest s p → Highest s q → p ≡ q
highest_unique s (Some m) (Some n) h g = ap Some (le_antisymm (g.most m h.member) (h.most n g.member))
highest_unique s (Some m) None h g = absurd (false_no (g.none m) h.member)
highest_unique s None (Some n) h g = absurd (false_no (h.none n) g.member)
highest_unique s None None h g = refl

-- a number between 2 ^ r and 2 ^ (r + 1) has digit r, and none above
bit_top : (s r : ℕ) → 2 ^ r ≤ s → s < 2 ^ suc r → r is_in s
unfolding bit
bit_top s r l h = ap (λ (n : ℕ). eqb (n % 2) 1) (le_antisymm (lt_succ ((div-lt_iff_lt-mul (pow_pos r)).1 (subst (λ (n : ℕ). s < n) (pow-suc 2 r ∙ mul_comm (2 ^ r) 2) h))) ((le-div_iff_mul-le (pow_pos r)).1 (subst (λ (n : ℕ). n ≤ s) (sym (one-mul (2 ^ r))) l)))
  where
    lt_succ : {m : ℕ} → m < 2 → m ≤ 1
    lt_succ g = le_of_suc-le-suc g

pub highest_is : (s : ℕ) → 0 < s → s < 2 ^ 64 → HighestRole s (63 - count_leading_zeros 64 s)
highest_is s p h =
    let t = leading_top 64 s p h in
    let e : 63 - count_leading_zeros 64 s ≡ t.0 = omega (arith, t.1) in
    subst (HighestRole s) (sym e) (record {
      role = omega (arith, t.1);
      member = bit_top s t.0 t.2 t.3;
      most = λ x m. le_of_suc-le-suc (bit_lt (suc t.0) t.3 m);
    })

-- ---- the set of what a test says

pub set_of_fits : (f : ℕ → Bool) → set_of f < 2 ^ 64
unfolding set_of
set_of_fits f = digits_fit 64 f

pub bit_set_of : (f : ℕ → Bool) (x : ℕ) → x < 64 → bit (set_of f) x ≡ f x
unfolding set_of
bit_set_of f x l = bit_digits 64 f x l

-- at every number, where the test is false of numbers that are no role
pub in_set_of : (f : ℕ → Bool) (x : ℕ) → (f x ≡ true → x < 64) → bit (set_of f) x ≡ f x
in_set_of f x h = ⊎_elim
    (λ (l : x < 64). bit_set_of f x l)
    (λ (g : 64 ≤ x). bit_out 64 (set_of f) x (set_of_fits f) g ∙ sym (not_so (f x) (λ e. absurd (omega (arith, h e)))))
    (lt_or_ge x 64)

pub is_set_of : (s : ℕ) (f : ℕ → Bool) → s < 2 ^ 64 → ((x : ℕ) → x < 64 → bit s x ≡ f x) → s ≡ set_of f
is_set_of s f h e = ext 64 s (set_of f) h (set_of_fits f) (λ x l. e x l ∙ sym (bit_set_of f x l))

-- ---- sizes

num_mono : (p q : Bool) → (p ≡ true → q ≡ true) → num p ≤ num q
num_mono true q h = rw (h refl) (le_refl 1)
num_mono false q h = zero-le

-- a part has at most as many
pub ones_mono : (s t : ℕ) → s are_in t → ones s ≤ ones t
ones_mono s =
    bin_ind (λ (n : ℕ). (t : ℕ) → ((x : ℕ) → bit n x ≡ true → bit t x ≡ true) → ones n ≤ ones t)
    (λ t h. unfold ones in zero-le)
    (λ n ih t h.
    let up : ones (n / 2) ≤ ones (t / 2) = ih (t / 2) (λ x e. sym (bit_high t x) ∙ h (suc x) (bit_high n x ∙ e)) in
    let low : num (bit n 0) ≤ num (bit t 0) = num_mono (bit n 0) (bit t 0) (h 0) in
    omega (arith, ones_step n, ones_step t, low_num n, low_num t)) s

-- a part that lacks a member has fewer
pub ones_more : (s t r : ℕ) → bit s r ≡ false → r is_in t → s are_in t → ones s < ones t
ones_more s t zero p q h =
    let up : ones (s / 2) ≤ ones (t / 2) = ones_mono (s / 2) (t / 2) (λ x e. sym (bit_high t x) ∙ h (suc x) (bit_high s x ∙ e)) in
    let ls : num (bit s 0) ≡ 0 = ap num p in
    let lt : num (bit t 0) ≡ 1 = ap num q in
    omega (arith, ones_step s, ones_step t, low_num s, low_num t)
ones_more s t (suc r) p q h =
    let up : ones (s / 2) < ones (t / 2) =
    ones_more (s / 2) (t / 2) r (sym (bit_high s r) ∙ p) (sym (bit_high t r) ∙ q) (λ x e. sym (bit_high t x) ∙ h (suc x) (bit_high s x ∙ e)) in
    let low : num (bit s 0) ≤ num (bit t 0) = num_mono (bit s 0) (bit t 0) (h 0) in
    omega (arith, ones_step s, ones_step t, low_num s, low_num t)

-- a part with as many is the whole
pub part_whole : (s t : ℕ) → s < 2 ^ 64 → t < 2 ^ 64 → s are_in t → ones t ≤ ones s → s ≡ t
part_whole s t hs ht p c = ext 64 s t hs ht (λ x _. iff_same (bit s x) (bit t x) (p x) (back x))
  where
    back : (x : ℕ) → x is_in t → x is_in s
    back x m = ⊎_elim (λ e. e) (λ e. absurd (omega (arith, ones_more s t x e m p))) (true_or_false (bit s x))

-- ---- one member goes

pub ones_less : (s t r : ℕ) → r < 64 → r is_in s → ((x : ℕ) → bit t x ≡ (bit s x && not (same? r x))) → ones t < ones s
ones_less s t r l m e =
    ones_more t s r
    (e r ∙ ap (λ (p : Bool). bit s r && not p) (same_self r l) ∙ and-false (bit s r))
    m
    (λ x d. grind (arith, d, e x))

-- the members of s but r
abbrev pub but : ℕ → ℕ → ℕ
but s r = set_of (λ x. bit s x && not (same? r x))

pub bit_but : (s r : ℕ) → s < 2 ^ 64 → (x : ℕ) → bit (but s r) x ≡ (bit s x && not (same? r x))
bit_but s r h x = in_set_of (λ x. bit s x && not (same? r x)) x (λ e. bit_lt 64 h (and_left (bit s x) (not (same? r x)) e))

-- ---- all but the lowest

-- with its lowest digit 1 at r, s less 1 has the same digits above r, and 0 there
less_one : (r s x : ℕ) → bit s r ≡ true → ((y : ℕ) → y < r → bit s y ≡ false) → bit s x ≡ true → bit (s - 1) x ≡ not (eqb x r)
less_one zero s zero m low e = bit_low (s - 1) ∙ ap (λ (n : ℕ). eqb n 1) even
  where
    even : (s - 1) % 2 ≡ 0
    even = let h = eqb-true (s % 2) 1 (sym (bit_low s) ∙ m) in omega arith
less_one zero s (suc x) m low e =
    let h = eqb-true (s % 2) 1 (sym (bit_low s) ∙ m) in
    let half : (s - 1) / 2 ≡ s / 2 = omega arith in
    bit_high (s - 1) x ∙ ap (λ (n : ℕ). bit n x) half ∙ sym (bit_high s x) ∙ e ∙ sym (ap not (eqb-suc-zero x))
less_one (suc r) s zero m low e = absurd (false_no (low 0 (suc-le-suc zero-le)) e)
less_one (suc r) s (suc x) m low e =
    let z = eqb-false (s % 2) 1 (sym (bit_low s) ∙ low 0 (suc-le-suc zero-le)) in
    let half : (s - 1) / 2 ≡ s / 2 - 1 = omega arith in
    bit_high (s - 1) x ∙ ap (λ (n : ℕ). bit n x) half
    ∙ less_one r (s / 2) x (sym (bit_high s r) ∙ m) (λ y l. sym (bit_high s y) ∙ low (suc y) (suc-le-suc l)) (sym (bit_high s x) ∙ e)
    ∙ sym (ap not (eqb-suc-suc x r))

pub but_lowest_none : (s : ℕ) → s ≡ 0 → ButLowest s 0
but_lowest_none s z = record {
  rest = λ r l x. absurd (false_no (ap (λ (n : ℕ). bit n r) z ∙ bit_zero r) l.member);
  none = λ _. no_role refl;
}

pub but_lowest_is : (s : ℕ) → ButLowest s (bit_and s (s - 1))
but_lowest_is s = record {
  rest = λ r l x. bit_of_and s (s - 1) x ∙ go r l x (bit s x) refl;
  none = λ n. record { none = λ x. bit_of_and s (s - 1) x ∙ ap (λ (p : Bool). p && bit (s - 1) x) (n.none x) };
}
  where
    go : (r : ℕ) → LowestRole s r → (x : ℕ) (p : Bool) → bit s x ≡ p → (bit s x && bit (s - 1) x) ≡ (bit s x && not (same? r x))
    go r l x true e = ap (λ (q : Bool). bit s x && q) (less_one r s x l.member (λ y k. not_so (bit s y) (λ m. absurd (omega (arith, l.least y m)))) e ∙ ap not (sym (same_is r x l.role)))
    go r l x false e = ap (λ (q : Bool). q && bit (s - 1) x) e ∙ sym (ap (λ (q : Bool). q && not (same? r x)) e)

pub but_lowest_unique : (s t u : ℕ) → s < 2 ^ 64 → ButLowest s t → ButLowest s u → t ≡ u
but_lowest_unique s t u fs b c = dite (ℕ_discrete s 0)
    (λ z. let n = no_role z in same_bits t u (λ x. (b.none n).none x ∙ sym ((c.none n).none x)))
    (λ z.
    let p : 0 < s = omega arith in
    let l : LowestRole s (count_trailing_zeros 64 s) = record { role = lowest_lt s p fs; member = bit_lowest 64 s p fs; least = λ x e. lowest_least 64 s x e } in
    same_bits t u (λ x. b.rest (count_trailing_zeros 64 s) l x ∙ sym (c.rest (count_trailing_zeros 64 s) l x)))
