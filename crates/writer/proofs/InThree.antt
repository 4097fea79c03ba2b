-- The edge records of one senior: where they stand in the file. Assumes nothing.
use mathlib.Core.Path.{◌≡◌, sym, ap, ◌∙◌}
use mathlib.Core.Bool.{cond}
use mathlib.Core.List.{List, [], ◌++◌, append_assoc}
use Prim.Native.Nat.{ℕ, ◌+◌, ◌-◌, ◌*◌, ◌≤◌, ◌<◌}
use native.Mathlib.Nat.{zero-add}
use native.Mathlib.Omega.{arith}
use lib.ListN.{length, take, drop, length-append}
use Rattle.hierarchy.specs.Tables.{Tables}
use Rattle.frames.specs.Framing.{trailer_of}
use Rattle.frames.proofs.Bytes.{middle}
use Rattle.writer.specs.Files.{edge_bytes, kind_at, founding?, file_of, stretch_of, start_of}
use Rattle.writer.proofs.EdgeBytes.{edge_split, roles_of, edges_of, held_of, file_whole}

-- ---- the start of these and of the next senior's

pub up_to_it : (t : Tables) (s : ℕ) → start_of t s + length (stretch_of t s) ≡ start_of t (s + 1)
unfolding start_of stretch_of
up_to_it t s =
    let e : s * 64 + 64 ≡ (s + 1) * 64 = omega arith in
    let two = ap length (ap (λ (n : ℕ). edge_bytes (kind_at t) n 0) (sym e) ∙ edge_split (s * 64) 64 0 (kind_at t)) in
    omega (arith, two, length-append (edge_bytes (kind_at t) (s * 64) 0) (edge_bytes (kind_at t) 64 (0 + s * 64)), ap (λ (k : ℕ). length (edge_bytes (kind_at t) 64 k)) (zero-add (s * 64)))

-- ---- the file in three: what stands before the senior's records, these, and what stands behind

module _ (t : Tables) (rights : List ℕ) (s : ℕ) (l : s < 64) where
  kinds : ℕ → ℕ
  kinds = kind_at t

  rest : ℕ
  rest = 4096 - (s + 1) * 64

  abbrev front : List ℕ
  front = roles_of t rights ++ edge_bytes (kind_at t) (s * 64) 0

  -- behind all edge records
  abbrev tail : List ℕ
  tail = cond (founding? rights) [] (held_of t rights) ++ trailer_of (founding? rights) (length (roles_of t rights)) (length (edges_of t rights))

  abbrev back : List ℕ
  back = edge_bytes (kind_at t) (4096 - (s + 1) * 64) (s * 64 + 64) ++ tail

  in_three : file_of t rights ≡ front ++ (stretch_of t s ++ back)
  unfolding stretch_of kinds rest
  in_three =
      file_whole t rights
      ∙ append_assoc (roles_of t rights ++ edges_of t rights) (cond (founding? rights) [] (held_of t rights)) (trailer_of (founding? rights) (length (roles_of t rights)) (length (edges_of t rights)))
      ∙ ap (λ (r : List ℕ). roles_of t rights ++ r ++ tail) parts
      ∙ simp append_assoc
    where
      parts : edge_bytes kinds 4096 0 ≡ edge_bytes kinds (s * 64) 0 ++ (edge_bytes kinds 64 (s * 64) ++ edge_bytes kinds rest (s * 64 + 64))
      parts =
          let e : 4096 ≡ s * 64 + (64 + rest) = omega arith in
          ap (λ (n : ℕ). edge_bytes kinds n 0) e
          ∙ edge_split (s * 64) (64 + rest) 0 kinds
          ∙ ap (λ (r : List ℕ). edge_bytes kinds (s * 64) 0 ++ r) (ap (edge_bytes kinds (64 + rest)) (zero-add (s * 64)) ∙ edge_split 64 rest (s * 64) kinds)

  before_it : length front ≡ start_of t s
  unfolding start_of
  before_it = length-append (roles_of t rights) (edge_bytes (kind_at t) (s * 64) 0)

  pub stretch_is : take (start_of t (s + 1) - start_of t s) (drop (start_of t s) (file_of t rights)) ≡ stretch_of t s
  stretch_is =
      ap (λ (f : List ℕ). take (start_of t (s + 1) - start_of t s) (drop (start_of t s) f)) in_three
      ∙ middle front (stretch_of t s) back (start_of t s) (start_of t (s + 1) - start_of t s) before_it (omega (arith, up_to_it t s))

  pub stretch_inside : start_of t (s + 1) ≤ length (file_of t rights)
  stretch_inside =
      omega (arith, ap length in_three, length-append front (stretch_of t s ++ back), length-append (stretch_of t s) back, before_it, up_to_it t s)
