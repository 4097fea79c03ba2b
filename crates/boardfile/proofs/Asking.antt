-- The answers of the questions on a file, and of the stretch, from those on its board. Assumes nothing.
use mathlib.Core.Path.{◌≡◌, refl, ap, ap₂, ◌∙◌}
use mathlib.Core.Logic.Iff
use mathlib.Core.Logic.{◌⊎◌, inl, inr, ◌≢◌}
use mathlib.Core.List.{List, [], ◌∷◌}
use Prim.Native.Nat.{ℕ, ◌+◌, ◌≤◌, ◌<◌}
use native.Mathlib.Omega.{arith}
use lib.ListN.{length, take, drop}
use Rattle.std.specs.Prelude.{Result, Err}
use Rattle.std.specs.Result.{IsErrAnd}
use Rattle.std.proofs.lemmas.Result.{err_from_is_err_and}
use Rattle.sets.specs.Sets.{◌is_in◌}
use Rattle.hierarchy.specs.Tables.{Tables}
use Rattle.hierarchy.specs.First.{First}
use Rattle.board.specs.Boards.{tables_of}
use Rattle.board.specs.Answers.{number, number_of}
use Rattle.board.specs.Asked.{misnamed, Answered}
use Rattle.board.specs.declared.Board.{Board}
use Rattle.board.specs.declared.answers.Refusal.{Refusal}
use Rattle.board.proofs.Answering.{number_of_some}
use Rattle.board.proofs.Rules.{first_alike, first_done, first_refused, first_next}
use Rattle.board.proofs.Asking.{answer_as, answer_refused}
use Rattle.questions.specs.Questions.{refusals as questionRefusals}
use Rattle.writer.specs.Files.{stretch_of}
use Rattle.writer.specs.Writing.{start_or_none, Stands}
use Rattle.writer.proofs.Places.{stands_small, place_inside, place_is}
use Rattle.boardfile.specs.Answers.{IsFile, TablesIn, refusals, ReadAnswer, asked_refusals, OfFile, BoundsAnswer, StretchAnswer}
use Rattle.boardfile.specs.Parts.{Opening}
use Rattle.boardfile.specs.Stretches.{StretchOf}
use Rattle.boardfile.proofs.OneBoard.{named_by}

-- ---- the numbers

-- the two refusals of its own
abbrev own : List ℕ → ℕ → ℕ → List (ℕ × Type 0)
own f x y = (2, (63 < x) ⊎ (63 < y)) ∷ (3, TablesIn f (λ t. (x is_in t.live → ⊥) ⊎ (y is_in t.live → ⊥))) ∷ []

pub asked_refused : (f : List ℕ) (x y n : ℕ) → First (refusals f) n → n ≢ 0 → First (asked_refusals f x y) n
asked_refused f x y n h z = first_refused (refusals f) (own f x y) n z h

-- of a file that is refused nothing is asked
pub unopened : {f : List ℕ} {b : Board} {A : Type 0} {Right : A → Type 0} {none : A} (x y : ℕ) (r : Refusal) → Opening f (number_of r) b → Answered (asked_refusals f x y) Right none (number_of r) none
unopened {f} x y r o = answer_refused (asked_refused f x y (number_of r) o.numbered (number_of_some r)) (number_of_some r)

-- the same where `?` hands the refusal on; `value` is what the question says, by its answer
pub handed_on : {f : List ℕ} {b : Board} {A V : Type 0} {Right : V → Type 0} {r : Result A Refusal} {e : Refusal} (x y : ℕ) (value : Result A Refusal → V)
    → IsErrAnd r (λ d. d ≡ e) → Opening f (number_of e) b → Answered (asked_refusals f x y) Right (value (Err e)) (number r) (value r)
handed_on {r} {e} x y value h o =
    let p = err_from_is_err_and r h in
    rw (p.1, p.2) (unopened x y e o)

module _ {f : List ℕ} {b : Board} (r : ReadAnswer f 0 b) where
  asked_own : (x y n : ℕ) → First (misnamed b.tables.live x y) n → First (asked_refusals f x y) n
  asked_own x y n h =
      first_next (refusals f) (own f x y) n (first_done (refusals f) refl r.numbered)
      (first_alike (misnamed b.tables.live x y) (own f x y) [] [] n (refl, Iff.rfl, (refl, named_by (r.done refl).0 Dead, tt)) (λ _ g. g) h)
    where
      Dead : Tables → Type 0
      Dead t = (x is_in t.live → ⊥) ⊎ (y is_in t.live → ⊥)

  module _ {A : Type 0} {Right : Board → A → Type 0} {none v : A} {n : ℕ} (x y : ℕ) where
    -- what holds of the board holds of the file
    pub of_file : Answered (misnamed b.tables.live x y) (Right b) none n v → Answered (asked_refusals f x y) (OfFile f Right) none n v
    of_file a = answer_as (asked_own x y n) (λ _ h. (b, r, h)) a

    pub on_file : Answered (questionRefusals b x y) (Right b) none n v → Answered (asked_refusals f x y) (OfFile f Right) none n v
    unfolding First
    on_file a = of_file (answer_as past (λ _ h. h) a)
      where
        past : First (questionRefusals b x y) n → First (misnamed b.tables.live x y) n
        past (inl p) = absurd (p.0 (r.done refl).1)
        past (inr p) = p.1

-- ---- the stretch

in_range : (f : List ℕ) (role : ℕ) → First (asked_refusals f role role) 0 → role < 64
in_range f role h =
    let passed = first_done (asked_refusals f role role) refl h in
    let low : 63 < role → ⊥ = λ g. passed.1.1.1.1.0 (inl g) in
    omega (arith, low)

module _ {f : List ℕ} {role start len : ℕ} (a : BoundsAnswer f role 0 start len) where
  found : (t : Tables) × ((rights : List ℕ) × IsFile f t rights) × Stands role t (start, len)
  found = let w = a.done refl in (tables_of w.0, (w.0.rights, (w.1.done refl).0), w.2)

  small : role < 64
  small = in_range f role a.numbered

  -- both numbers take less than 16 bits, and lie in the file
  pub bounds_small : (start < 65536) × (len < 65536)
  bounds_small = let w = found in stands_small w.0 role start len small w.2

  pub bounds_inside : start + len ≤ length f
  bounds_inside = let w = found in omega (arith, w.2.0, w.2.1, ap length w.1.1.bytes, place_inside w.0 role w.1.0 small)

  pub stretched : (k : ℕ) → k ≡ len → StretchAnswer f role 0 (take k (drop start f)) start
  stretched k q = record {
    numbered = a.numbered;
    done = λ _. let w = found in (
      w.0,
      w.1,
      (ap₂ (λ (n m : ℕ). take n (drop m f)) (q ∙ w.2.1) w.2.0 ∙ ap (λ (g : List ℕ). take (length (stretch_of w.0 role)) (drop (start_or_none w.0 role) g)) w.1.1.bytes ∙ place_is w.0 role w.1.0 small, w.2.0),
    );
    refused = λ n. absurd (n refl);
  }

-- no part beside a refusal
pub unstretched : {f : List ℕ} {role start len : ℕ} (e : Refusal) (file_at : ℕ × ℕ) → BoundsAnswer f role (number_of e) start len → StretchOf f file_at role (number_of e) [] file_at
unstretched e file_at a =
    (0, record { numbered = a.numbered; done = λ z. absurd (number_of_some e z); refused = λ _. (refl, refl) }, refl, omega arith)
