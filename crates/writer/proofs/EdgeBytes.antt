-- The edge records of a file, and its parts. Assumes nothing.
use mathlib.Core.Path.{◌≡◌, refl, sym, ap, ap₂, ◌∙◌}
use mathlib.Core.Bool.{Bool, true, false, cond, not}
use mathlib.Core.Logic.{◌≢◌}
use mathlib.Core.List.{List, [], ◌∷◌, ◌++◌, map, append-nil}
use Prim.Native.Nat.{ℕ, zero, suc, ◌+◌, ◌*◌, ◌/◌, ◌%◌, ◌≤◌, ◌<◌, suc-le-suc, zero-le}
use native.Mathlib.Nat.{add-zero}
use native.Mathlib.Omega.{arith}
use lib.Dec.{eqb}
use lib.ListN.{length, get_or, drop, length-map}
use lib.Seq.{drop-nil, drop-cons, get_or-drop}
use borrow.Author.Tests.{not-true, ne_eqb, eq-eqb, eqb-false}
use Rattle.sets.specs.Sets.{bit}
use Rattle.hierarchy.specs.Tables.{Tables}
use Rattle.board.specs.Rights.{rights_of}
use Rattle.frames.specs.Framing.{trailer_of}
use Rattle.frames.proofs.Bytes.{whole}
use Rattle.writer.specs.Files.{from, records, edge?, edge_bytes, kind_at, bytes_of, bytes_with, founding?, file_of}
use Rattle.writer.proofs.Ascending.{from_split, from_same, from_at, from_next, from_end, from_mono, from_short}

-- ---- records

pub records_append : (kinds : ℕ → ℕ) (xs ys : List ℕ) → records kinds (xs ++ ys) ≡ records kinds xs ++ records kinds ys
unfolding records
records_append kinds [] ys = refl
records_append kinds (x ∷ xs) ys = ap (λ (l : List ℕ). x / 64 ∷ x % 64 ∷ kinds x ∷ l) (records_append kinds xs ys)

pub records_length : (kinds : ℕ → ℕ) (es : List ℕ) → length (records kinds es) ≡ 3 * length es
unfolding records
records_length kinds [] = refl
records_length kinds (e ∷ es) = let h : length (records kinds es) ≡ 3 * length es = records_length kinds es in omega arith

records_drop : (kinds : ℕ → ℕ) (i : ℕ) (es : List ℕ) → drop (3 * i) (records kinds es) ≡ records kinds (drop i es)
unfolding records
records_drop kinds zero es = refl
records_drop kinds (suc i) [] = rw drop-nil
records_drop kinds (suc i) (e ∷ es) =
    let three : 3 * suc i ≡ suc (suc (suc (3 * i))) = omega arith in
    rw three (records_drop kinds i es)

records_same : (kinds others : ℕ → ℕ) (es : List ℕ) → ((i : ℕ) → i < length es → kinds (get_or es i 0) ≡ others (get_or es i 0)) → records kinds es ≡ records others es
unfolding records
records_same kinds others [] h = refl
records_same kinds others (e ∷ es) h =
    ap₂ (λ (k : ℕ) (l : List ℕ). e / 64 ∷ e % 64 ∷ k ∷ l) (h 0 (suc-le-suc zero-le)) (records_same kinds others es (λ i l. h (suc i) (suc-le-suc l)))

-- record i of a list of places
pub record Entry (kinds : ℕ → ℕ) (e : ℕ) (l : List ℕ) (i : ℕ) : Type 0 where
  pub senior_is : get_or l (3 * i) 0 ≡ e / 64
  pub junior_is : get_or l (3 * i + 1) 0 ≡ e % 64
  pub kind_is : get_or l (3 * i + 2) 0 ≡ kinds e

pub records_at : (kinds : ℕ → ℕ) (es : List ℕ) (i : ℕ) → i < length es → Entry kinds (get_or es i 0) (records kinds es) i
unfolding records
records_at kinds es i h = record { senior_is = ap (λ (n : ℕ). get_or (records kinds es) n 0) (sym (add-zero (3 * i))) ∙ at 0; junior_is = at 1; kind_is = at 2 }
  where
    three : drop (3 * i) (records kinds es) ≡ get_or es i 0 / 64 ∷ get_or es i 0 % 64 ∷ kinds (get_or es i 0) ∷ records kinds (drop (suc i) es)
    three = records_drop kinds i es ∙ ap (records kinds) (drop-cons es i 0 h)

    at : (j : ℕ) → get_or (records kinds es) (3 * i + j) 0 ≡ get_or (get_or es i 0 / 64 ∷ get_or es i 0 % 64 ∷ kinds (get_or es i 0) ∷ records kinds (drop (suc i) es)) j 0
    at j = sym (get_or-drop (3 * i) (records kinds es) j 0) ∙ ap (λ (l : List ℕ). get_or l j 0) three

-- ---- the edges among some places

pub edge_true : (kinds : ℕ → ℕ) (e : ℕ) → kinds e ≢ 0 → edge? kinds e ≡ true
edge_true kinds e h = ap not (ne_eqb (kinds e) 0 h)

pub edge_false : (kinds : ℕ → ℕ) (e : ℕ) → kinds e ≡ 0 → edge? kinds e ≡ false
edge_false kinds e h = ap not (eq-eqb (kinds e) 0 h)

pub edge_there : (kinds : ℕ → ℕ) (e : ℕ) → edge? kinds e ≡ true → kinds e ≢ 0
edge_there kinds e h = eqb-false (kinds e) 0 (not-true (eqb (kinds e) 0) h)

pub edge_split : (m n k : ℕ) (kinds : ℕ → ℕ) → edge_bytes kinds (m + n) k ≡ edge_bytes kinds m k ++ edge_bytes kinds n (k + m)
unfolding edge_bytes
edge_split m n k kinds =
    ap (records kinds) (from_split m n k (edge? kinds)) ∙ records_append kinds (from m k (edge? kinds)) (from n (k + m) (edge? kinds))

pub edge_same : (n k : ℕ) (kinds others : ℕ → ℕ) → ((e : ℕ) → k ≤ e → e < k + n → kinds e ≡ others e) → edge_bytes kinds n k ≡ edge_bytes others n k
unfolding edge_bytes
edge_same n k kinds others h =
    records_same kinds others (from n k (edge? kinds))
    (λ i l. let s = from_at n k (edge? kinds) i l in h (get_or (from n k (edge? kinds)) i 0) s.low s.high)
    ∙ ap (records others) (from_same n k (edge? kinds) (edge? others) (λ e a b. ap (λ (x : ℕ). not (eqb x 0)) (h e a b)))

pub edge_few : (n k : ℕ) (kinds : ℕ → ℕ) → length (edge_bytes kinds n k) ≤ 3 * n
unfolding edge_bytes
edge_few n k kinds = omega (arith, records_length kinds (from n k (edge? kinds)), from_short n k (edge? kinds))

pub edge_mono : (m n k : ℕ) (kinds : ℕ → ℕ) → m ≤ n → length (edge_bytes kinds m k) ≤ length (edge_bytes kinds n k)
unfolding edge_bytes
edge_mono m n k kinds l =
    omega (arith, records_length kinds (from m k (edge? kinds)), records_length kinds (from n k (edge? kinds)), from_mono m n k (edge? kinds) l)

-- one edge more, at q
pub edge_next : (k p d q : ℕ) (kinds others : ℕ → ℕ) → k + d ≡ q → p ≤ d
    → ((e : ℕ) → k ≤ e → e < k + p → others e ≡ kinds e) → ((e : ℕ) → k + p ≤ e → e < q → others e ≡ 0) → others q ≢ 0
    → edge_bytes others (suc d) k ≡ edge_bytes kinds p k ++ (q / 64 ∷ q % 64 ∷ others q ∷ [])
unfolding edge_bytes records
edge_next k p d q kinds others e l same none here =
    ap (records others)
    (from_next k p d q (edge? others) (edge? others) e l (λ e a b. refl) (λ e a b. edge_false others e (none e a b)) (edge_true others q here))
    ∙ records_append others (from p k (edge? others)) (q ∷ [])
    ∙ ap (λ (l : List ℕ). l ++ (q / 64 ∷ q % 64 ∷ others q ∷ [])) (edge_same p k others kinds same)

-- no edge past p
pub edge_end : (m n k : ℕ) (kinds : ℕ → ℕ) → n ≤ m → ((e : ℕ) → k + n ≤ e → kinds e ≡ 0) → edge_bytes kinds m k ≡ edge_bytes kinds n k
unfolding edge_bytes
edge_end m n k kinds l none = ap (records kinds) (from_end m n k (edge? kinds) l (λ e a b. edge_false kinds e (none e a)))

-- the file of a board is such a one
module _ (t : Tables) (rights : List ℕ) where
  abbrev pub roles_of : List ℕ
  roles_of = from 64 0 (bit t.live)

  abbrev pub edges_of : List ℕ
  edges_of = edge_bytes (kind_at t) 4096 0

  abbrev pub held_of : List ℕ
  held_of = map (rights_of rights) roles_of

  either : (plain : Bool) → cond plain (bytes_of (bit t.live) (kind_at t)) (bytes_with (bit t.live) (kind_at t) rights) ≡ whole plain roles_of edges_of held_of
  unfolding bytes_of bytes_with trailer_of
  either true = rw (append-nil (roles_of ++ edges_of))
  either false = rw (length-map roles_of (rights_of rights))

  pub file_whole : file_of t rights ≡ whole (founding? rights) roles_of edges_of held_of
  unfolding file_of
  file_whole = either (founding? rights)
