-- The words as functions that can be run: the example table is computed by them, and `Rattle.hierarchy.proofs.Decide` says that each
-- decides its word, both ways.
use Rattle.std.specs.Prelude.{Bool, true, false, cond, not, ◌&&◌, ◌||◌, List, [], ◌∷◌, ℕ, zero, suc, ◌^◌, eqb, leb, ltb, length}
use Rattle.std.specs.Int.Bits.{bit_or}
use Rattle.sets.specs.Sets.{bit}
use Rattle.hierarchy.specs.Tables.{Tables, row, kind}

-- f holds of all numbers below n; of some
unfoldable pub all : ℕ → (ℕ → Bool) → Bool
all zero f = true
all (suc n) f = f n && all n f

unfoldable pub any : ℕ → (ℕ → Bool) → Bool
any zero f = false
any (suc n) f = f n || any n f

-- s and the rows of its members below n
unfoldable pub spread : List ℕ → ℕ → ℕ → ℕ
spread t s zero = s
spread t s (suc n) = let r = spread t s n in let w = bit_or (row t n) r in cond (bit s n) w r

unfoldable pub grow : List ℕ → ℕ → ℕ
grow t s = spread t s 64

-- grown until it does not change, at most n times
unfoldable pub close : List ℕ → ℕ → ℕ → ℕ
close t zero s = s
close t (suc n) s = let g = grow t s in let r = close t n g in cond (eqb g s) s r

-- the roles that x leads to through A and then through I
unfoldable pub derived : Tables → ℕ → ℕ
derived t x = close t.i 64 (close t.a 64 (2 ^ x))

unfoldable pub derives? : Tables → ℕ → ℕ → Bool
derives? t x y = bit t.live x && (bit t.live y && bit (derived t x) y)

abbrev pub related? : Tables → ℕ → ℕ → Bool
related? t a x = derives? t x a || derives? t a x

unfoldable pub scope? : Tables → ℕ → ℕ → Bool
scope? t a r = derives? t a r && all 64 (λ x. not (derives? t x r) || related? t a x)

-- x derives r and is unrelated to a
abbrev pub unrelated? : Tables → ℕ → ℕ → ℕ → Bool
unrelated? t a r x = derives? t x r && not (related? t a x)

unfoldable pub in_the_way? : Tables → ℕ → ℕ → ℕ → Bool
in_the_way? t a r x = unrelated? t a r x && all 64 (λ y. not (unrelated? t a r y) || leb x y)

unfoldable pub out_of_scope? : Tables → ℕ → ℕ → ℕ → ℕ → Bool
out_of_scope? t a r cause way = (eqb cause 1 && (eqb way 0 && not (derives? t a r))) || (eqb cause 2 && (derives? t a r && in_the_way? t a r way))

unfoldable pub admin? : Tables → ℕ → ℕ → Bool
admin? t a r = scope? t a r && not (eqb a r)

unfoldable pub manager? : Tables → ℕ → ℕ → Bool
manager? t m r = admin? t m r && all 64 (λ a. not (admin? t a r) || (eqb a m || derives? t a m))

-- both tables in one
unfoldable pub unite : List ℕ → List ℕ → List ℕ
unite [] ys = ys
unite (x ∷ xs) [] = x ∷ xs
unite (x ∷ xs) (y ∷ ys) = bit_or x y ∷ unite xs ys

unfoldable pub reaches? : Tables → ℕ → ℕ → Bool
reaches? t x y = let u = unite t.i t.a in bit (close u 64 (row u x)) y

unfoldable pub loops? : Tables → Bool
loops? t = any 64 (λ x. reaches? t x x)

unfoldable pub joined? : Tables → Bool
joined? t = all 64 (λ x. all 64 (λ y. eqb (kind t x y) 0 || (bit t.live x && bit t.live y)))

unfoldable pub managed? : Tables → Bool
managed? t = all 64 (λ r. not (bit t.live r) || (eqb r 0 || any 64 (λ a. admin? t a r)))

unfoldable pub shaped? : Tables → Bool
shaped? t = ltb t.live (2 ^ 64) && (rows? t.i && rows? t.a)
  where
    rows? : List ℕ → Bool
    rows? rows = eqb (length rows) 64 && all 64 (λ x. ltb (row rows x) (2 ^ 64))

unfoldable pub sound? : Tables → Bool
sound? t = shaped? t && (joined? t && (not (loops? t) && (bit t.live 0 && managed? t)))
