-- Bytes put at the front of a buffer, and the members of a set put there one by one. Assumes nothing.
use mathlib.Core.Path.{◌≡◌, refl, sym, ap, ap₂, ◌∙◌, subst}
use mathlib.Core.Bool.{Bool, true, false, not, ◌&&◌, and-true, and-false}
use mathlib.Core.Logic.{⊎_elim}
use mathlib.Core.List.{List, [], ◌∷◌, ◌++◌, append_assoc, append-nil}
use Prim.Native.Nat.{ℕ, suc, ◌+◌, ◌-◌, ◌/◌, ◌%◌, ◌≤◌, ◌<◌, zero-le}
use native.Mathlib.Numerals.{add-one}
use native.Mathlib.Omega.{arith}
use lib.ListN.{length, get_or, take, drop, set, length-append, length-drop, take-append-drop}
use lib.Seq.{drop-cons, set-append_seam, append_snoc, take-append_seam, drop-append_seam, drop-append-le, drop-drop, length-take-le}
use borrow.Rule.Slice.PartMut.{mid_of, post_of, put_mid}
use Rattle.std.proofs.lemmas.List.{drop_all}
use Rattle.std.specs.Int.{w16, to_le_bytes}
use Rattle.sets.specs.Sets.{bit, same?, LowestRole, NoRole}
use Rattle.sets.proofs.Bools.{lt_or_ge, not_so, false_no}
use Rattle.sets.proofs.Laws.{same_eq, same_self}
use Rattle.writer.specs.Files.{from}
use Rattle.writer.specs.Parts.{Put}
use Rattle.writer.proofs.Ascending.{from_next, from_end}

-- ---- at the front

pub put_length : (bs d out : List ℕ) → Put bs d out → length bs ≤ length d → length out ≡ length d
put_length bs d out p l = ap length p ∙ length-append bs (drop (length bs) d) ∙ omega (arith, length-drop (length bs) d)

-- one byte more
pub put_more : (bs d out : List ℕ) (k b : ℕ) → Put bs d out → k ≡ length bs → length bs < length d → Put (bs ++ (b ∷ [])) d (set out k b)
put_more bs d out k b p e l =
    ap₂ (λ (o : List ℕ) (j : ℕ). set o j b) (p ∙ ap (λ (r : List ℕ). bs ++ r) (drop-cons d (length bs) 0 l)) e
    ∙ set-append_seam bs (get_or d (length bs) 0) (drop (suc (length bs)) d) b
    ∙ sym (append_snoc bs b (drop (suc (length bs)) d))
    ∙ ap (λ (n : ℕ). bs ++ (b ∷ []) ++ drop n d) (sym (length-append bs (b ∷ []) ∙ add-one (length bs)))

-- a second part behind the first
pub put_behind : (bs cs d out part : List ℕ) → Put bs d out → Put cs (drop (length bs) out) part → Put (bs ++ cs) d (take (length bs) out ++ part)
put_behind bs cs d out part p q =
    ap₂ ◌++◌ (ap (take (length bs)) p ∙ take-append_seam bs (drop (length bs) d)) (q ∙ ap (λ (r : List ℕ). cs ++ drop (length cs) r) rest ∙ ap (λ (r : List ℕ). cs ++ r) (drop-drop (length cs) (length bs) d))
    ∙ sym (append_assoc bs cs (drop (length bs + length cs) d))
    ∙ ap (λ (n : ℕ). bs ++ cs ++ drop n d) (sym (length-append bs cs))
  where
    rest : drop (length bs) out ≡ drop (length bs) d
    rest = ap (drop (length bs)) p ∙ drop-append_seam bs (drop (length bs) d)

-- the same where the second part is lent, k bytes from a on
pub put_part : (bs cs d out part : List ℕ) (a k : ℕ) → Put bs d out → a ≡ length bs → length cs ≤ k → a + k ≤ length out
    → Put cs (mid_of a k out) part → Put (bs ++ cs) d (put_mid a k out part)
put_part bs cs d out part a k p e l m q =
    ap (λ (n : ℕ). take n out ++ (part ++ post_of a k out)) e
    ∙ put_behind bs cs d out (part ++ post_of a k out) p (subst (λ (n : ℕ). Put cs (drop n out) (part ++ post_of a k out)) e whole)
  where
    enough : length cs ≤ length (mid_of a k out)
    enough = omega (arith, length-take-le k (drop a out) (omega (arith, length-drop a out)))

    whole : Put cs (drop a out) (part ++ post_of a k out)
    whole =
        ap (λ (l : List ℕ). l ++ post_of a k out) q
        ∙ append_assoc cs (drop (length cs) (mid_of a k out)) (post_of a k out)
        ∙ ap (λ (l : List ℕ). cs ++ l) (sym (drop-append-le (length cs) (mid_of a k out) (post_of a k out) enough) ∙ ap (drop (length cs)) (take-append-drop k (drop a out)))

-- the same where the second part fills what is lent for it
pub put_copied : (bs cs d out part : List ℕ) (a k : ℕ) → Put bs d out → a ≡ length bs → length cs ≡ k → a + k ≤ length out → part ≡ cs
    → Put (bs ++ cs) d (put_mid a k out part)
put_copied bs cs d out part a k p e l m q =
    put_part bs cs d out part a k p e (omega arith) m
    (q ∙ sym (append-nil cs) ∙ ap (λ (r : List ℕ). cs ++ r) (sym (drop_all (length cs) (mid_of a k out) (omega (arith, length-take-le k (drop a out) (omega (arith, length-drop a out)))))))

-- a first part in the n bytes that are lent for it, and a last one in all that lie behind
pub put_first : (bs d part : List ℕ) (n : ℕ) → n ≡ length bs → n ≤ length d → Put bs (take n d) part → Put bs d (part ++ drop n d)
put_first bs d part n e l q = put_part [] bs d d part 0 n refl refl (omega arith) (omega arith) q

pub put_last : (bs cs d out part : List ℕ) (a : ℕ) → Put bs d out → a ≡ length bs → a + length cs ≤ length d
    → Put cs (mid_of a (length out - a) out) part → Put (bs ++ cs) d (put_mid a (length out - a) out part)
put_last bs cs d out part a p e l q =
    let long = put_length bs d out p (omega arith) in
    put_part bs cs d out part a (length out - a) p e (omega arith) (omega arith) q

pub rest_long : (a : ℕ) (out : List ℕ) → length (mid_of a (length out - a) out) ≡ length out - a
rest_long a out = length-take-le (length out - a) (drop a out) (omega (arith, length-drop a out))

-- ---- two bytes of a number

pub low_high : (n : ℕ) → n < 65536 → to_le_bytes w16 n ≡ n % 256 ∷ n / 256 ∷ []
low_high n l = ap (λ (b : ℕ). n % 256 ∷ b ∷ []) (omega arith)

-- ---- the members of a set, from the lowest on: rest has those from next on

pub record Taking (g : ℕ → Bool) (base rest next : ℕ) : Type 0 where
  pub gone : (y : ℕ) → y < next → bit rest y ≡ false
  pub left : (y : ℕ) → next ≤ y → y < 64 → bit rest y ≡ g (base + y)
  pub small : next ≤ 64

pub taking_start : (g : ℕ → Bool) (base rest : ℕ) → ((y : ℕ) → y < 64 → bit rest y ≡ g (base + y)) → Taking g base rest 0
taking_start g base rest h = record { gone = λ y l. absurd (omega arith); left = λ y a b. h y b; small = zero-le }

module _ {g : ℕ → Bool} {base rest next r : ℕ} (t : Taking g base rest next) (lowest : LowestRole rest r) where
  first : next ≤ r
  first = ⊎_elim (λ (l : r < next). absurd (false_no (t.gone r l) lowest.member)) (λ h. h) (lt_or_ge r next)

  pub taking_there : g (base + r) ≡ true
  taking_there = sym (t.left r first lowest.role) ∙ lowest.member

  none_between : (y : ℕ) → next ≤ y → y < r → g (base + y) ≡ false
  none_between y a b = sym (t.left y a (omega (arith, lowest.role))) ∙ not_so (bit rest y) (λ e. absurd (omega (arith, lowest.least y e)))

  pub taking_next : from (suc r) base g ≡ from next base g ++ ((base + r) ∷ [])
  taking_next =
      from_next base next r (base + r) g g refl first (λ x a b. refl)
      (λ x a b. subst (λ (z : ℕ). g z ≡ false) (omega arith) (none_between (x - base) (omega arith) (omega arith)))
      taking_there

  pub taking_turn : (rest' : ℕ) → ((y : ℕ) → bit rest' y ≡ (bit rest y && not (same? r y))) → Taking g base rest' (suc r)
  taking_turn rest' less = record {
    gone = λ y l. less y ∙ ⊎_elim
        (λ (h : y < r). ap (λ (p : Bool). p && not (same? r y)) (not_so (bit rest y) (λ e. absurd (omega (arith, lowest.least y e)))))
        (λ (h : r ≤ y). ap (λ (p : Bool). bit rest y && not p) (subst (λ (z : ℕ). same? r z ≡ true) (omega arith) (same_self r lowest.role)) ∙ and-false (bit rest y))
        (lt_or_ge y r);
    left = λ y a b. less y
        ∙ ap (λ (p : Bool). bit rest y && not p) (not_so (same? r y) (λ e. absurd (omega (arith, same_eq r y e))))
        ∙ and-true (bit rest y)
        ∙ t.left y (omega (arith, first)) b;
    small = omega (arith, lowest.role);
  }

pub taking_end : {g : ℕ → Bool} {base rest next : ℕ} → Taking g base rest next → NoRole rest → from 64 base g ≡ from next base g
taking_end {g} {base} {rest} {next} t n =
    from_end 64 next base g t.small
    (λ x a b. subst (λ (z : ℕ). g z ≡ false) (omega arith) (sym (t.left (x - base) (omega arith) (omega arith)) ∙ n.none (x - base)))
