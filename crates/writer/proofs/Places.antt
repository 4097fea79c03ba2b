-- Where the edge records of one senior stand in the file of a board. Assumes nothing.
use mathlib.Core.Path.{◌≡◌, refl, sym, ap, ap₂, ◌∙◌}
use mathlib.Core.Bool.{true, false}
use mathlib.Core.Logic.{◌≢◌, inl, dite}
use mathlib.Core.List.{List, [], ◌∷◌}
use Prim.Native.Nat.{ℕ, ◌+◌, ◌*◌, ◌-◌, ◌^◌, ◌≤◌, ◌<◌}
use native.Mathlib.Decide.{ℕ_discrete}
use native.Mathlib.Omega.{arith}
use lib.Count.{ones}
use lib.Dec.{eqb}
use lib.ListN.{length, take, drop}
use borrow.Author.Tests.{eq-eqb, ne_eqb}
use Rattle.sets.specs.Sets.{bit}
use Rattle.sets.proofs.Bools.{cond_elim}
use Rattle.hierarchy.specs.Tables.{Tables}
use Rattle.hierarchy.specs.First.{First}
use Rattle.board.specs.Asked.{misnamed}
use Rattle.board.proofs.Asking.{asked_0, asked_2, asked_3, answer_refused, answer_done}
use Rattle.writer.specs.Files.{from, edge?, edge_bytes, kind_at, file_of, stretch_of, start_of}
use Rattle.writer.specs.Parts.{PlaceAnswer}
use Rattle.writer.specs.Writing.{start_or_none, Stands}
use Rattle.writer.proofs.Ascending.{from_short}
use Rattle.writer.proofs.EdgeBytes.{records_length, edge_few}
use Rattle.writer.proofs.Counts.{ones_from}
use Rattle.writer.proofs.InThree.{up_to_it, stretch_is, stretch_inside}

-- a count of the edges below a senior says where its records start
pub count_at : (t : Tables) (n s size : ℕ) → n ≡ length (from (s * 64) 0 (edge? (kind_at t))) → t.live < 2 ^ 64 → size ≡ ones t.live → size + 3 * n ≡ start_of t s
unfolding start_of edge_bytes
count_at t n s size count fits is =
    ap₂ ◌+◌ (is ∙ sym (ones_from 64 t.live fits)) (ap (λ (k : ℕ). 3 * k) count ∙ sym (records_length (kind_at t) (from (s * 64) 0 (edge? (kind_at t)))))

module _ (t : Tables) (role : ℕ) where
  pub starts_low : role ≤ 64 → start_of t role ≤ 12352
  unfolding start_of
  starts_low l = omega (arith, from_short 64 0 (bit t.live), edge_few (role * 64) 0 (kind_at t))

  -- ---- the answers

  pub too_high : 63 < role → PlaceAnswer t role 2 0 0
  too_high h = answer_refused (asked_2 t.live role role (inl h)) (λ z. omega (arith, z))

  pub not_live : role ≤ 63 → bit t.live role ≡ false → PlaceAnswer t role 3 0 0
  not_live l h = answer_refused (asked_3 t.live role role (omega arith) (omega arith) (inl h)) (λ z. omega (arith, z))

  module _ (l : role ≤ 63) (h : bit t.live role ≡ true) (start end : ℕ) (s : start ≡ start_of t role) (e : end ≡ start_of t (role + 1)) where
    numbered : First (misnamed t.live role role) 0
    numbered = asked_0 t.live role role (omega arith) (omega arith) h h

    pub no_records : end - start ≡ 0 → PlaceAnswer t role 0 0 0
    unfolding start_or_none
    no_records z =
        let n : length (stretch_of t role) ≡ 0 = omega (arith, up_to_it t role) in
        answer_done numbered refl (rw (eq-eqb (length (stretch_of t role)) 0 n), sym n)

    pub some_records : end - start ≢ 0 → PlaceAnswer t role 0 start (end - start)
    unfolding start_or_none
    some_records z = answer_done numbered refl
        (s ∙ rw (ne_eqb (length (stretch_of t role)) 0 (λ n. z (omega (arith, up_to_it t role)))), omega (arith, up_to_it t role))

  -- ---- both numbers take less than 16 bits

  start_small : role < 64 → start_or_none t role < 2 ^ 16
  unfolding start_or_none
  start_small l = cond_elim (λ (n : ℕ). n < 2 ^ 16) (eqb (length (stretch_of t role)) 0) 0 (start_of t role) (λ _. omega arith) (λ _. omega (arith, starts_low (omega arith)))

  stretch_small : length (stretch_of t role) ≤ 192
  unfolding stretch_of
  stretch_small = edge_few 64 (role * 64) (kind_at t)

  pub stands_small : (start len : ℕ) → role < 64 → Stands role t (start, len) → (start < 2 ^ 16) × (len < 2 ^ 16)
  stands_small start len l p = (omega (arith, p.0, start_small l), omega (arith, p.1, stretch_small))

  -- what the place names lies in the file, and is the stretch
  module _ (rights : List ℕ) (l : role < 64) where
    pub place_inside : start_or_none t role + length (stretch_of t role) ≤ length (file_of t rights)
    unfolding start_or_none
    place_inside = cond_elim (λ (n : ℕ). n + length (stretch_of t role) ≤ length (file_of t rights)) (eqb (length (stretch_of t role)) 0) 0 (start_of t role)
        (λ _. omega (arith, up_to_it t role, stretch_inside t rights role l)) (λ _. omega (arith, up_to_it t role, stretch_inside t rights role l))

    pub place_is : take (length (stretch_of t role)) (drop (start_or_none t role) (file_of t rights)) ≡ stretch_of t role
    unfolding start_or_none
    place_is = dite (ℕ_discrete (length (stretch_of t role)) 0)
        (nothing (stretch_of t role))
        (λ n.
        let whole : length (stretch_of t role) ≡ start_of t (role + 1) - start_of t role = omega (arith, up_to_it t role) in
        rw (ne_eqb (length (stretch_of t role)) 0 n, whole) (stretch_is t rights role l))
      where
        nothing : (p : List ℕ) → length p ≡ 0 → take (length p) (drop (start_or_none t role) (file_of t rights)) ≡ p
        nothing [] e = refl
        nothing (x ∷ p) e = absurd (omega arith)
