-- The loop over edge records: k of them are read, and i and a are the tables that they name. Assumes nothing.
use mathlib.Core.Path.{◌≡◌, refl, sym, ap, ap₂, ◌∙◌, subst}
use mathlib.Core.Bool.{Bool, false, ◌&&◌, ◌||◌, and-true, and-false, or-false}
use mathlib.Core.Logic.{◌⊎◌, inl, inr, ⊎_elim, ◌≢◌, dite}
use mathlib.Core.List.{List, [], ◌∷◌, ◌++◌}
use Prim.Native.Nat.{ℕ, zero, suc, ◌+◌, ◌-◌, ◌*◌, ◌/◌, ◌%◌, ◌^◌, ◌≤◌, ◌<◌, zero-le}
use native.Mathlib.Decide.{ℕ_discrete}
use native.Mathlib.Nat.{zero-add, add-zero, add_assoc, le_antisymm}
use native.Mathlib.Numerals.{add-one, towards_suc}
use native.Mathlib.Omega.{arith}
use lib.Dec.{lit<}
use lib.ListN.{length, take, drop, set, replicate, length-set, length-replicate, length-append, length-drop, get_or-append}
use lib.Seq.{take-add, drop-drop, drop_at, get_or-take, get_or-drop, length-take-le, get_or-set_same, get_or-set_other}
use Rattle.sets.specs.Sets.{bit, ◌is_in◌, same?}
use Rattle.sets.proofs.Bools.{not_so, false_no}
use Rattle.sets.proofs.Digits.{bit_zero}
use Rattle.sets.proofs.Laws.{same_eq, same_self, bit_lt}
use Rattle.hierarchy.specs.Tables.{tables, row, kind_of, kind, IsTable, has_i, has_a}
use Rattle.hierarchy.proofs.Derive.{bit_i, bit_a}
use Rattle.frames.specs.Frames.{byte}
use Rattle.frames.specs.Framing.{Announced}
use Rattle.frames.proofs.Bytes.{bytes, take_bytes}
use Rattle.writer.specs.Files.{from, edge_bytes, records, kind_at}
use Rattle.writer.proofs.EdgeBytes.{edge_next, edge_end}
use Rattle.writer.proofs.FoundingRights.{blank_at}
use Rattle.boardfile.specs.Faults.{senior, junior, kind_byte, place, Listed, BadRecord}
use Rattle.boardfile.specs.Faults.{BadRecord.no_senior, BadRecord.no_junior, BadRecord.itself, BadRecord.no_kind, BadRecord.edge_order}
use Rattle.boardfile.specs.Parts.{GoodRoles, Spelt, Right, Wrong, Grown, Fine, GoodEdges}
use Rattle.boardfile.specs.Parts.{Wrong.dead_senior, Wrong.dead_junior, Wrong.same, Wrong.unknown}
use Rattle.boardfile.proofs.RoleBytes.{past, late, listed_lives as lives}

-- ---- one entry more in a table: u is the new row of s, which has j besides where part is true

module _ (t : List ℕ) (s j u : ℕ) (part : Bool) (l : s < length t) (grown : (y : ℕ) → bit u y ≡ (bit (row t s) y || (part && same? j y))) where
  entry_kept : (x y : ℕ) → (x ≢ s) ⊎ (y ≢ j) → bit (row (set t s u) x) y ≡ bit (row t x) y
  entry_kept x y (inl n) = ap (λ (r : ℕ). bit r y) (get_or-set_other t s x u 0 n)
  entry_kept x y (inr n) = dite (ℕ_discrete x s)
      (λ (e : x ≡ s). rw (e, get_or-set_same t s u 0 l, grown y, not_so (same? j y) (λ d. n (same_eq j y d)), and-false part) (or-false (bit (row t s) y)))
      (λ n. ap (λ (r : ℕ). bit r y) (get_or-set_other t s x u 0 n))

  entry_made : j < 64 → bit (row t s) j ≡ false → bit (row (set t s u) s) j ≡ part
  entry_made m e = rw (get_or-set_same t s u 0 l, grown j, e, same_self j m) (and-true part)

  table_set : IsTable t → u < 2 ^ 64 → IsTable (set t s u)
  table_set h fits = record {
    rows = length-set t s u ∙ h.rows;
    fits = λ x. dite (ℕ_discrete x s)
        (λ (e : x ≡ s). rw (e, get_or-set_same t s u 0 l) fits)
        (λ n. rw (get_or-set_other t s x u 0 n) (h.fits x));
  }

-- the kinds 1, 2 and 3 are settled by their parts
parts : (k : ℕ) → 1 ≤ k → k ≤ 3 → kind_of (has_i k) (has_a k) ≡ k
parts zero a b = absurd (omega arith)
parts (suc zero) a b = refl
parts (suc (suc zero)) a b = refl
parts (suc (suc (suc zero))) a b = refl
parts (suc (suc (suc (suc k)))) a b = absurd (omega arith)

-- the places where an entry goes into both tables
elsewhere : (e s j : ℕ) → e ≢ s * 64 + j → (e / 64 ≢ s) ⊎ (e % 64 ≢ j)
elsewhere e s j n = dite (ℕ_discrete (e / 64) s) (λ (q : e / 64 ≡ s). inr (λ (r : e % 64 ≡ j). n (omega arith))) inl

module _ (live : ℕ) (i a : List ℕ) (s j k u v : ℕ) (li : s < length i) (la : s < length a)
    (ui : (y : ℕ) → bit u y ≡ (bit (row i s) y || (has_i k && same? j y)))
    (va : (y : ℕ) → bit v y ≡ (bit (row a s) y || (has_a k && same? j y)))
  where
    kinds_kept : (e : ℕ) → e ≢ s * 64 + j → kind_at (tables live (set i s u) (set a s v)) e ≡ kind_at (tables live i a) e
    unfolding kind_at kind
    kinds_kept e n =
        let w = elsewhere e s j n in
        ap₂ kind_of (entry_kept i s j u (has_i k) li ui (e / 64) (e % 64) w) (entry_kept a s j v (has_a k) la va (e / 64) (e % 64) w)

    kind_made : j < 64 → 1 ≤ k → k ≤ 3 → kind_at (tables live i a) (s * 64 + j) ≡ 0 → kind_at (tables live (set i s u) (set a s v)) (s * 64 + j) ≡ k
    unfolding kind_at kind
    kind_made m low high none =
        let sq : (s * 64 + j) / 64 ≡ s = omega arith in
        let jq : (s * 64 + j) % 64 ≡ j = omega arith in
        let old : kind (tables live i a) s j ≡ 0 = ap₂ (kind (tables live i a)) (sym sq) (sym jq) ∙ none in
        rw (sq, jq)
        (ap₂ kind_of
        (entry_made i s j u (has_i k) li ui m (bit_i (tables live i a) s j ∙ ap has_i old))
        (entry_made a s j v (has_a k) la va m (bit_a (tables live i a) s j ∙ ap has_a old))
        ∙ parts k low high)

-- ---- three bytes more

-- the m records behind n role bytes, from record k on
abbrev pub records_from : List ℕ → ℕ → ℕ → ℕ → List ℕ
records_from f n m k = drop (3 * k) (take (3 * m) (drop n f))

records_long : (f : List ℕ) (n m : ℕ) → n + 3 * m ≤ length f → (k : ℕ) → length (records_from f n m k) ≡ 3 * m - 3 * k
records_long f n m room k =
    length-drop (3 * k) (take (3 * m) (drop n f))
    ∙ ap (λ (l : ℕ). l - 3 * k) (length-take-le (3 * m) (drop n f) (omega (arith, length-drop n f)))

-- record k of the file, behind n role bytes
record_bytes : (f : List ℕ) (n k : ℕ) → n + 3 * k + 3 ≤ length f
    → take (3 * (k + 1)) (drop n f) ≡ take (3 * k) (drop n f) ++ (byte f (n + 3 * k) ∷ byte f (n + 3 * k + 1) ∷ byte f (n + 3 * k + 2) ∷ [])
unfolding bytes
record_bytes f n k h =
    let three : 3 * (k + 1) ≡ 3 * k + 3 = omega arith in
    rw three
    (take-add (3 * k) 3 (drop n f)
    ∙ ap (λ (l : List ℕ). take (3 * k) (drop n f) ++ take 3 l) (drop-drop (3 * k) n f)
    ∙ ap (λ (l : List ℕ). take (3 * k) (drop n f) ++ l) (take_bytes 3 f (n + 3 * k) h ∙ simp towards_suc))

-- a chunk of three, x, is taken of the records from k on, and `left` is left
pub record Chunk (f : List ℕ) (n m k : ℕ) (x left : List ℕ) : Type 0 where
  pub cut : records_from f n m k ≡ x ++ left
  pub three : length x ≡ 3

module _ {f : List ℕ} {n m k : ℕ} {x left : List ℕ} (room : n + 3 * m ≤ length f) (c : Chunk f n m k x left) where
  pub chunk_inside : k < m
  chunk_inside = let long = records_long f n m room k in omega (arith, c, ap length c.cut, length-append x left)

  chunk_byte : (j : ℕ) → j < 3 → byte x j ≡ byte f (n + 3 * k + j)
  chunk_byte j l =
      sym (get_or-append x left 0 j (omega (arith, c.three)))
      ∙ ap (λ (l : List ℕ). byte l j) (sym c.cut)
      ∙ get_or-drop (3 * k) (take (3 * m) (drop n f)) j 0
      ∙ get_or-take (3 * m) (drop n f) (3 * k + j) 0 (omega (arith, chunk_inside))
      ∙ get_or-drop n f (3 * k + j) 0
      ∙ ap (byte f) (sym (add_assoc n (3 * k) j))

  pub chunk_spelt : {s j d : ℕ} → Spelt x 0 s j d → Spelt f (n + 3 * k) s j d
  chunk_spelt spelt = record {
    senior_is = spelt.senior_is ∙ chunk_byte 0 (lit< tt) ∙ ap (byte f) (add-zero (n + 3 * k));
    junior_is = spelt.junior_is ∙ chunk_byte 1 (lit< tt);
    kind_is = spelt.kind_is ∙ chunk_byte 2 (lit< tt);
  }

  pub chunk_left : left ≡ records_from f n m (k + 1)
  chunk_left =
      sym (drop_at x left 3 c.three)
      ∙ ap (drop 3) (sym c.cut)
      ∙ drop-drop 3 (3 * k) (take (3 * m) (drop n f))
      ∙ ap (λ (j : ℕ). drop j (take (3 * m) (drop n f))) (omega arith)

-- ---- the loop

pub record SoFar (f : List ℕ) (n m live k next : ℕ) (i a : List ℕ) : Type 0 where
  pub bytes : take (3 * k) (drop n f) ≡ edge_bytes (kind_at (tables live i a)) next 0
  pub below : (e : ℕ) → kind_at (tables live i a) e ≢ 0 → e < next
  pub fine : (e : ℕ) → kind_at (tables live i a) e ≢ 0 → Fine (bit live) e
  pub next_is : next ≡ past (place f) k
  pub small : next ≤ 4096
  pub within : k ≤ m
  pub i_table : IsTable i
  pub a_table : IsTable a

blank_table : IsTable (replicate 64 0)
blank_table = record { rows = length-replicate {A = ℕ} 64 0; fits = λ x. rw (blank_at 64 x) (lit< tt) }

blank_kind : (live e : ℕ) → kind_at (tables live (replicate 64 0) (replicate 64 0)) e ≡ 0
unfolding kind_at kind
blank_kind live e = rw (blank_at 64 (e / 64), bit_zero (e % 64))

no_record : (f : List ℕ) (n m live : ℕ) → SoFar f n m live 0 0 (replicate 64 0) (replicate 64 0)
unfolding edge_bytes from records
no_record f n m live = record {
  bytes = refl;
  below = λ e h. absurd (h (blank_kind live e));
  fine = λ e h. absurd (h (blank_kind live e));
  next_is = refl;
  small = zero-le;
  within = zero-le;
  i_table = blank_table;
  a_table = blank_table;
}

-- record k, as it is read
module _ {f : List ℕ} {n m s j d : ℕ} (k : ℕ) (good : Announced f n m) (spelt : Spelt f (n + 3 * k) s j d) where
  pub senior_is : s ≡ senior f k
  unfolding senior
  senior_is = spelt.senior_is ∙ ap (λ (r : ℕ). byte f (r + 3 * k)) (sym good.roles)

  junior_is : j ≡ junior f k
  unfolding junior
  junior_is = spelt.junior_is ∙ ap (λ (r : ℕ). byte f (r + 3 * k + 1)) (sym good.roles)

  kind_is : d ≡ kind_byte f k
  unfolding kind_byte
  kind_is = spelt.kind_is ∙ ap (λ (r : ℕ). byte f (r + 3 * k + 2)) (sym good.roles)

  place_is : s * 64 + j ≡ place f k
  place_is = ap₂ (λ (x y : ℕ). x * 64 + y) senior_is junior_is

module _ {f : List ℕ} {n m live k next s j d : ℕ} {i a : List ℕ} (good : Announced f n m) (inv : SoFar f n m live k next i a) (inside : k < m) (spelt : Spelt f (n + 3 * k) s j d) where
  -- it does not ascend
  late_record : s * 64 + j < next → BadRecord f
  late_record h =
      let w = late (place f) k (subst (λ (x : ℕ). x < past (place f) k) (place_is k good spelt) (subst (λ (x : ℕ). s * 64 + j < x) inv.next_is h)) in
      edge_order w.0 (omega (arith, w.1, good.edges)) w.2

  -- it is wrong by itself
  listed_lives : GoodRoles f n live → (r : ℕ) → Listed f r → r is_in live
  listed_lives roles r w = subst (λ (x : ℕ). x is_in live) w.is (lives f n live roles.bytes (omega (arith, good.room)) w.at (omega (arith, good.roles)))

  wrong_record : GoodRoles f n live → Wrong live s j d → BadRecord f
  wrong_record roles (dead_senior h) =
      no_senior k (omega (arith, good.edges)) (λ w. false_no h (subst (λ (x : ℕ). x is_in live) (sym (senior_is k good spelt)) (listed_lives roles (senior f k) w)))
  wrong_record roles (dead_junior h) =
      no_junior k (omega (arith, good.edges)) (λ w. false_no h (subst (λ (x : ℕ). x is_in live) (sym (junior_is k good spelt)) (listed_lives roles (junior f k) w)))
  wrong_record roles (same h) = itself k (omega (arith, good.edges)) (sym (senior_is k good spelt) ∙ h ∙ (junior_is k good spelt))
  wrong_record roles (unknown h) = no_kind k (omega (arith, good.edges)) (subst (λ (x : ℕ). (x < 1) ⊎ (3 < x)) (kind_is k good spelt) h)

  -- it goes into the tables
  module _ (fits : live < 2 ^ 64) (right : Right live s j d) where
    senior_small : s < 64
    senior_small = bit_lt 64 fits right.senior_lives

    junior_fits : j < 64
    junior_fits = bit_lt 64 fits right.junior_lives

    record_more : next ≤ s * 64 + j → (u v : ℕ) → u < 2 ^ 64 → v < 2 ^ 64
        → ((y : ℕ) → bit u y ≡ (bit (row i s) y || (has_i d && same? j y)))
        → ((y : ℕ) → bit v y ≡ (bit (row a s) y || (has_a d && same? j y)))
        → SoFar f n m live (k + 1) (s * 64 + j + 1) (set i s u) (set a s v)
    record_more le u v uf vf ui va = record {
      bytes = record_bytes f n k (omega (arith, good.room)) ∙ ap₂ ◌++◌ inv.bytes last ∙ sym more;
      below = λ e h. ⊎_elim (λ (q : e ≡ s * 64 + j). omega arith) (λ (o : kind_at (tables live i a) e ≢ 0). omega (arith, inv.below e o)) (new_or_old e h);
      fine = λ e h. ⊎_elim (λ (q : e ≡ s * 64 + j). at_place e q) (inv.fine e) (new_or_old e h);
      next_is = add-one (s * 64 + j) ∙ ap suc (place_is k good spelt) ∙ ap (past (place f)) (sym (add-one k));
      small = omega (arith, senior_small, junior_fits);
      within = omega arith;
      i_table = table_set i s j u (has_i d) (li) ui inv.i_table uf;
      a_table = table_set a s j v (has_a d) (la) va inv.a_table vf;
    }
      where
        li : s < length i
        li = omega (arith, senior_small, inv.i_table.rows)

        la : s < length a
        la = omega (arith, senior_small, inv.a_table.rows)

        kept : (e : ℕ) → e ≢ s * 64 + j → kind_at (tables live (set i s u) (set a s v)) e ≡ kind_at (tables live i a) e
        kept = kinds_kept live i a s j d u v li la ui va

        none : (e : ℕ) → next ≤ e → kind_at (tables live i a) e ≡ 0
        none e h = dite (ℕ_discrete (kind_at (tables live i a) e) 0) (λ q. q) (λ q. absurd (omega (arith, inv.below e q)))

        made : kind_at (tables live (set i s u) (set a s v)) (s * 64 + j) ≡ d
        made = kind_made live i a s j d u v li la ui va junior_fits right.known.0 right.known.1 (none (s * 64 + j) le)

        new_or_old : (e : ℕ) → kind_at (tables live (set i s u) (set a s v)) e ≢ 0 → (e ≡ s * 64 + j) ⊎ (kind_at (tables live i a) e ≢ 0)
        new_or_old e h = dite (ℕ_discrete e (s * 64 + j)) inl (λ q. inr (λ z. h (kept e q ∙ z)))

        at_place : (e : ℕ) → e ≡ s * 64 + j → Fine (bit live) e
        at_place e q =
            let sq : e / 64 ≡ s = omega (arith, junior_fits) in
            let jq : e % 64 ≡ j = omega (arith, junior_fits) in
            record {
              senior_lives = rw sq right.senior_lives;
              junior_lives = rw jq right.junior_lives;
              apart = rw (sq, jq) right.apart;
            }

        last : (byte f (n + 3 * k) ∷ byte f (n + 3 * k + 1) ∷ byte f (n + 3 * k + 2) ∷ [])
            ≡ ((s * 64 + j) / 64 ∷ (s * 64 + j) % 64 ∷ kind_at (tables live (set i s u) (set a s v)) (s * 64 + j) ∷ [])
        last =
            let sq : (s * 64 + j) / 64 ≡ s = omega (arith, junior_fits) in
            let jq : (s * 64 + j) % 64 ≡ j = omega (arith, junior_fits) in
            rw (sq, jq, made, ← spelt.senior_is, ← spelt.junior_is, ← spelt.kind_is)

        more : edge_bytes (kind_at (tables live (set i s u) (set a s v))) (s * 64 + j + 1) 0
            ≡ edge_bytes (kind_at (tables live i a)) next 0 ++ ((s * 64 + j) / 64 ∷ (s * 64 + j) % 64 ∷ kind_at (tables live (set i s u) (set a s v)) (s * 64 + j) ∷ [])
        more =
            ap (λ (p : ℕ). edge_bytes (kind_at (tables live (set i s u) (set a s v))) p 0) (add-one (s * 64 + j))
            ∙ edge_next 0 next (s * 64 + j) (s * 64 + j) (kind_at (tables live i a)) (kind_at (tables live (set i s u) (set a s v))) (zero-add (s * 64 + j)) le
            (λ e h o. kept e (omega arith))
            (λ e h o. kept e (omega arith) ∙ none e (omega arith))
            (λ z. omega (arith, made, right.known))

last_record : {f : List ℕ} {n m live k next : ℕ} {i a : List ℕ} → SoFar f n m live k next i a → m ≤ k → GoodEdges f n m (tables live i a)
last_record {f} {n} {m} {live} {k} {next} {i} {a} inv h = record {
  bytes =
      ap (λ (x : ℕ). take (3 * x) (drop n f)) (le_antisymm h inv.within)
      ∙ inv.bytes
      ∙ sym (edge_end 4096 next 0 (kind_at (tables live i a)) inv.small none);
  fine = inv.fine;
  i_table = inv.i_table;
  a_table = inv.a_table;
}
  where
    none : (e : ℕ) → 0 + next ≤ e → kind_at (tables live i a) e ≡ 0
    none e h = dite (ℕ_discrete (kind_at (tables live i a) e) 0) (λ q. q) (λ q. absurd (omega (arith, inv.below e q)))

-- ---- the same over what is left of the records, in chunks of so many bytes

pub record Going (f : List ℕ) (n m live next : ℕ) (i a : List ℕ) (size : ℕ) (left : List ℕ) : Type 0 where
  pub k : ℕ
  pub so_far : SoFar f n m live k next i a
  pub three : size ≡ 3
  pub left_is : left ≡ records_from f n m k

pub edges_start : (f : List ℕ) (n m live : ℕ) {i a left : List ℕ} {size : ℕ} → i ≡ replicate 64 0 → a ≡ replicate 64 0 → size ≡ 3 → left ≡ take (3 * m) (drop n f)
    → Going f n m live 0 i a size left
edges_start f n m live p q three r = record { k = 0; so_far = rw (p, q) (no_record f n m live); three = three; left_is = r }

-- the bytes of a chunk, whatever they spell
pub spelt_itself : {x : List ℕ} → Spelt x 0 (byte x 0) (byte x 1) (byte x 2)
spelt_itself = record { senior_is = refl; junior_is = refl; kind_is = refl }

module _ {f : List ℕ} {n m live next size s j d : ℕ} {i a left x : List ℕ} (left' : List ℕ) (good : Announced f n m) (g : Going f n m live next i a size left)
    (taken : (left ≡ x ++ left') × (length x ≡ size)) (spelt : Spelt x 0 s j d) where
  chunk : Chunk f n m g.k x left'
  chunk = record { cut = sym g.left_is ∙ taken.0; three = taken.1 ∙ g.three }

  inside : g.k < m
  inside = chunk_inside good.room chunk

  there : Spelt f (n + 3 * g.k) s j d
  there = chunk_spelt good.room chunk spelt

  pub edges_late : s * 64 + j < next → BadRecord f
  edges_late = late_record good g.so_far inside there

  pub edges_wrong : GoodRoles f n live → Wrong live s j d → BadRecord f
  edges_wrong = wrong_record good g.so_far inside there

  pub edges_turn : {size' : ℕ} {i' a' : List ℕ} → live < 2 ^ 64 → Right live s j d → next ≤ s * 64 + j → Grown i s j (has_i d) i' → Grown a s j (has_a d) a' → size' ≡ size
      → Going f n m live (s * 64 + j + 1) i' a' size' left'
  edges_turn fits right le ui va e = record {
    k = g.k + 1;
    so_far = rw (ui.is, va.is) (record_more good g.so_far inside there fits right le ui.row' va.row' ui.fits va.fits ui.grown va.grown);
    three = e ∙ g.three;
    left_is = chunk_left good.room chunk;
  }

pub edges_end : {f : List ℕ} {n m live next size : ℕ} {i a left : List ℕ} → Announced f n m → Going f n m live next i a size left → length left < size → GoodEdges f n m (tables live i a)
edges_end {f} {n} {m} good g few = last_record g.so_far (omega (arith, g.three, ap length g.left_is, records_long f n m good.room g.k))
