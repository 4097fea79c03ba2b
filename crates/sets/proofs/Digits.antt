-- A set of roles digit by digit: the lowest digit, and the rest. Assumes nothing.
use mathlib.Core.Path.{◌≡◌, refl, sym, ap, ◌∙◌, subst}
use mathlib.Core.Bool.{Bool, true, false, not, ◌&&◌, ◌||◌}
use Prim.Native.Nat.{ℕ, zero, suc, ◌+◌, ◌-◌, ◌*◌, ◌/◌, ◌%◌, ◌^◌, ◌≤◌, ◌<◌, zero-le, suc-le-suc, min, max}
use native.Mathlib.Nat.{mod-lt, pow-suc, zero-div, div-one, div-div-eq-div-mul, mul_comm, div-eq_of_lt, div-lt_iff_lt-mul, mul-mod_left, mul-div_cancel, lt_of_lt_of_le, le_refl, not-suc-le-zero, le_of_suc-le-suc}
use native.Mathlib.Omega.{arith}
use lib.Dec.{eqb, eqb-zero-suc, eqb-suc-zero, eqb-suc-suc}
use lib.Arith.{digits_mod, digits_div, digits_lt}
use lib.Pow.{pow_mono}
use lib.Bits.{bit_and, bit_or, and_step, or_step, and_shr, or_shr}
use Rattle.sets.specs.Sets.{bit, num, digits}

pub two_pos : 0 < 2
two_pos = suc-le-suc zero-le

pub bit_low : (s : ℕ) → bit s 0 ≡ eqb (s % 2) 1
unfolding bit
bit_low s = ap (λ (x : ℕ). eqb (x % 2) 1) (div-one s)

pub bit_high : (s r : ℕ) → bit s (suc r) ≡ bit (s / 2) r
unfolding bit
bit_high s r =
    ap (λ (x : ℕ). eqb (s / x % 2) 1) (pow-suc 2 r ∙ mul_comm (2 ^ r) 2)
    ∙ ap (λ (x : ℕ). eqb (x % 2) 1) (sym (div-div-eq-div-mul s 2 (2 ^ r)))

pub bit_zero : (r : ℕ) → bit 0 r ≡ false
unfolding bit
bit_zero r = ap (λ (x : ℕ). eqb (x % 2) 1) (zero-div (2 ^ r))

pub bit_out : (k s r : ℕ) → s < 2 ^ k → k ≤ r → bit s r ≡ false
unfolding bit
bit_out k s r h l = ap (λ (x : ℕ). eqb (x % 2) 1) (div-eq_of_lt (lt_of_lt_of_le h (pow_mono l)))

-- ---- a digit as a number

num_eqb : (x : ℕ) → x < 2 → num (eqb x 1) ≡ x
num_eqb zero h = refl
num_eqb (suc zero) h = refl
num_eqb (suc (suc x)) h = absurd (omega arith)

pub low_num : (s : ℕ) → s % 2 ≡ num (bit s 0)
low_num s = sym (ap num (bit_low s) ∙ num_eqb (s % 2) (mod-lt s two_pos))

pub half_lt : (k a : ℕ) → a < 2 ^ suc k → a / 2 < 2 ^ k
half_lt k a h = (div-lt_iff_lt-mul two_pos).1 (subst (λ (x : ℕ). a < x) (pow-suc 2 k) h)

-- ---- or, and, complement

eqb_max : (x y : ℕ) → x < 2 → y < 2 → eqb (max x y) 1 ≡ (eqb x 1 || eqb y 1)
eqb_max zero zero h k = refl
eqb_max zero (suc zero) h k = refl
eqb_max (suc zero) zero h k = refl
eqb_max (suc zero) (suc zero) h k = refl
eqb_max zero (suc (suc y)) h k = absurd (omega arith)
eqb_max (suc zero) (suc (suc y)) h k = absurd (omega arith)
eqb_max (suc (suc x)) y h k = absurd (omega arith)

eqb_min : (x y : ℕ) → x < 2 → y < 2 → eqb (min x y) 1 ≡ (eqb x 1 && eqb y 1)
eqb_min zero zero h k = refl
eqb_min zero (suc zero) h k = refl
eqb_min (suc zero) zero h k = refl
eqb_min (suc zero) (suc zero) h k = refl
eqb_min zero (suc (suc y)) h k = absurd (omega arith)
eqb_min (suc zero) (suc (suc y)) h k = absurd (omega arith)
eqb_min (suc (suc x)) y h k = absurd (omega arith)

max_lt_two : (x y : ℕ) → x < 2 → y < 2 → max x y < 2
max_lt_two x y h k = omega arith

min_lt_two : (x y : ℕ) → x < 2 → y < 2 → min x y < 2
min_lt_two x y h k = omega arith

or_low : (a b : ℕ) → bit_or a b % 2 ≡ max (a % 2) (b % 2)
or_low a b =
    ap (λ (x : ℕ). x % 2) (or_step a b)
    ∙ digits_mod (bit_or (a / 2) (b / 2)) (max_lt_two (a % 2) (b % 2) (mod-lt a two_pos) (mod-lt b two_pos))

and_low : (a b : ℕ) → bit_and a b % 2 ≡ min (a % 2) (b % 2)
and_low a b =
    ap (λ (x : ℕ). x % 2) (and_step a b)
    ∙ digits_mod (bit_and (a / 2) (b / 2)) (min_lt_two (a % 2) (b % 2) (mod-lt a two_pos) (mod-lt b two_pos))

pub bit_of_or : (a b r : ℕ) → bit (bit_or a b) r ≡ (bit a r || bit b r)
unfolding bit
bit_of_or a b r =
    ap (λ (x : ℕ). eqb (x % 2) 1) (or_shr a b r)
    ∙ ap (λ (x : ℕ). eqb x 1) (or_low (a / 2 ^ r) (b / 2 ^ r))
    ∙ eqb_max (a / 2 ^ r % 2) (b / 2 ^ r % 2) (mod-lt (a / 2 ^ r) two_pos) (mod-lt (b / 2 ^ r) two_pos)

pub bit_of_and : (a b r : ℕ) → bit (bit_and a b) r ≡ (bit a r && bit b r)
unfolding bit
bit_of_and a b r =
    ap (λ (x : ℕ). eqb (x % 2) 1) (and_shr a b r)
    ∙ ap (λ (x : ℕ). eqb x 1) (and_low (a / 2 ^ r) (b / 2 ^ r))
    ∙ eqb_min (a / 2 ^ r % 2) (b / 2 ^ r % 2) (mod-lt (a / 2 ^ r) two_pos) (mod-lt (b / 2 ^ r) two_pos)

not_odd : (p a : ℕ) → a < p * 2 → ((p * 2 - 1) - a) % 2 ≡ 1 - a % 2
not_odd p a h = omega arith

not_half : (p a : ℕ) → a < p * 2 → ((p * 2 - 1) - a) / 2 ≡ (p - 1) - a / 2
not_half p a h = omega arith

eqb_not : (x : ℕ) → x < 2 → eqb (1 - x) 1 ≡ not (eqb x 1)
eqb_not zero h = refl
eqb_not (suc zero) h = refl
eqb_not (suc (suc x)) h = absurd (omega arith)

-- the complement at k digits
pub bit_not : (k a r : ℕ) → a < 2 ^ k → r < k → bit ((2 ^ k - 1) - a) r ≡ not (bit a r)
bit_not zero a r h l = absurd (not-suc-le-zero l)
bit_not (suc k) a zero h l =
    let h' : a < 2 ^ k * 2 = subst (λ (x : ℕ). a < x) (pow-suc 2 k) h in
    bit_low ((2 ^ suc k - 1) - a)
    ∙ ap (λ (x : ℕ). eqb (((x - 1) - a) % 2) 1) (pow-suc 2 k)
    ∙ ap (λ (x : ℕ). eqb x 1) (not_odd (2 ^ k) a h')
    ∙ eqb_not (a % 2) (mod-lt a two_pos)
    ∙ ap not (sym (bit_low a))
bit_not (suc k) a (suc r) h l =
    let h' : a < 2 ^ k * 2 = subst (λ (x : ℕ). a < x) (pow-suc 2 k) h in
    bit_high ((2 ^ suc k - 1) - a) r
    ∙ ap (λ (x : ℕ). bit (((x - 1) - a) / 2) r) (pow-suc 2 k)
    ∙ ap (λ (x : ℕ). bit x r) (not_half (2 ^ k) a h')
    ∙ bit_not k (a / 2) r (half_lt k a h) (le_of_suc-le-suc l)
    ∙ ap not (sym (bit_high a r))

-- ---- one role

even_pow : (k : ℕ) → 2 ^ suc k % 2 ≡ 0
even_pow k = ap (λ (x : ℕ). x % 2) (pow-suc 2 k) ∙ mul-mod_left (2 ^ k) 2

half_pow : (k : ℕ) → 2 ^ suc k / 2 ≡ 2 ^ k
half_pow k = ap (λ (x : ℕ). x / 2) (pow-suc 2 k) ∙ mul-div_cancel (2 ^ k) two_pos

pub bit_pow : (k r : ℕ) → bit (2 ^ k) r ≡ eqb r k
bit_pow zero zero = bit_low 1
bit_pow zero (suc r) = bit_high 1 r ∙ bit_zero r ∙ sym (eqb-suc-zero r)
bit_pow (suc k) zero = bit_low (2 ^ suc k) ∙ ap (λ (x : ℕ). eqb x 1) (even_pow k) ∙ sym (eqb-zero-suc k)
bit_pow (suc k) (suc r) = bit_high (2 ^ suc k) r ∙ ap (λ (x : ℕ). bit x r) (half_pow k) ∙ bit_pow k r ∙ sym (eqb-suc-suc r k)

-- ---- the number of given digits

num_lt : (p : Bool) → num p < 2
num_lt true = le_refl 2
num_lt false = two_pos

eqb_num : (p : Bool) → eqb (num p) 1 ≡ p
eqb_num true = refl
eqb_num false = refl

pub digits_fit : (k : ℕ) (f : ℕ → Bool) → digits k f < 2 ^ k
unfolding digits
digits_fit zero f = suc-le-suc zero-le
digits_fit (suc k) f =
    subst (λ (x : ℕ). digits k (λ i. f (suc i)) * 2 + num (f 0) < x) (sym (pow-suc 2 k))
    (digits_lt (digits_fit k (λ i. f (suc i))) (num_lt (f 0)))

pub bit_digits : (k : ℕ) (f : ℕ → Bool) (r : ℕ) → r < k → bit (digits k f) r ≡ f r
unfolding digits
bit_digits zero f r l = absurd (not-suc-le-zero l)
bit_digits (suc k) f zero l =
    bit_low (digits k (λ i. f (suc i)) * 2 + num (f 0))
    ∙ ap (λ (x : ℕ). eqb x 1) (digits_mod (digits k (λ i. f (suc i))) (num_lt (f 0)))
    ∙ eqb_num (f 0)
bit_digits (suc k) f (suc r) l =
    bit_high (digits k (λ i. f (suc i)) * 2 + num (f 0)) r
    ∙ ap (λ (x : ℕ). bit x r) (digits_div (digits k (λ i. f (suc i))) (num_lt (f 0)))
    ∙ bit_digits k (λ i. f (suc i)) r (le_of_suc-le-suc l)
