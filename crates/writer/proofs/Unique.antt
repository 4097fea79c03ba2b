-- Two outcomes that a contract of the writer allows coincide. Assumes nothing.
use mathlib.Core.Path.{◌≡◌, sym, ◌∙◌, ap₂}
use mathlib.Core.Logic.{◌≢◌}
use mathlib.Core.List.{List, [], ◌∷◌}
use Prim.Native.Nat.{ℕ}
use Rattle.hierarchy.specs.Tables.{Tables}
use Rattle.hierarchy.specs.First.{First}
use Rattle.hierarchy.proofs.FirstLaws.{first_unique}
use Rattle.board.specs.Boards.{tables_of}
use Rattle.board.specs.declared.Board.{Board}
use Rattle.board.proofs.Unique.{by_number, answered_unique}
use Rattle.writer.specs.Files.{file_of}
use Rattle.writer.specs.Parts.{PutAnswer, PlaceAnswer}
use Rattle.writer.specs.Writing.{NoRoom, Placed, Unplaced, write_refusals, WriteAnswer}

-- by whatever table: the number, the length and the whole buffer
placed_unique : (rules : List (ℕ × Type 0)) (file : List ℕ) {entry : List ℕ} (at : ℕ) {m n j k : ℕ} {x y : List ℕ} → First rules m → First rules n
    → (m ≡ 0 → Placed file entry at x j) → (n ≡ 0 → Placed file entry at y k) → (m ≢ 0 → Unplaced entry x j) → (n ≢ 0 → Unplaced entry y k)
    → (m ≡ n) × (j ≡ k) × (x ≡ y)
placed_unique rules file at {m} {n} f g done done' refused refused' =
    let e = first_unique rules m n f g in
    by_number m
    (λ z. let p = done z in let q = done' (sym e ∙ z) in (e, p.0 ∙ sym q.0, p.1 ∙ sym q.1))
    (λ z. let p = refused z in let q = refused' (λ w. z (e ∙ w)) in (e, p.0 ∙ sym q.0, p.1 ∙ sym q.1))

pub write_unique : {b : Board} {entry : List ℕ} {at m n j k : ℕ} {x y : List ℕ} → WriteAnswer b entry at x m j → WriteAnswer b entry at y n k
    → (m ≡ n) × (j ≡ k) × (x ≡ y)
write_unique {b} {entry} {at} r s = placed_unique (write_refusals b entry at) (file_of (tables_of b) b.rights) at r.numbered s.numbered r.done s.done r.refused s.refused

pub put_unique : {file entry : List ℕ} {at m n j k : ℕ} {x y : List ℕ} → PutAnswer file entry at x m j → PutAnswer file entry at y n k → (m ≡ n) × (j ≡ k) × (x ≡ y)
put_unique {file} {entry} {at} r s = placed_unique ((12, NoRoom file entry at) ∷ []) file at r.numbered s.numbered r.done s.done r.refused s.refused

-- the place of a senior's records
pub place_unique : (t : Tables) (role : ℕ) {m n j k u v : ℕ} → PlaceAnswer t role m j u → PlaceAnswer t role n k v → (m ≡ n) × ◌≡◌ {A = ℕ × ℕ} (j, u) (k, v)
place_unique t role = answered_unique (λ _ v w f g. ap₂ (λ (x y : ℕ). (x, y)) (f.0 ∙ sym g.0) (f.1 ∙ sym g.1))
