-- Two outcomes that a contract of this crate allows coincide. (`board_found`'s contract is two equations.) Assumes nothing.
use mathlib.Core.Path.{◌≡◌, refl, sym, ap, ap₂, ◌∙◌}
use mathlib.Core.Bool.{Bool}
use mathlib.Core.Logic.{dite}
use mathlib.Core.List.{List}
use Prim.Native.Nat.{ℕ, ◌+◌, ◌*◌}
use native.Mathlib.Decide.{ℕ_discrete}
use Rattle.sets.specs.Sets.{num}
use Rattle.board.specs.declared.Board.{Board}
use Rattle.board.specs.declared.Command.{Command}
use Rattle.board.specs.Answers.{Answer}
use Rattle.commands.proofs.Unique.{decided_unique}
use Rattle.answers.specs.Packing.{answer, reason, answer_of}
use Rattle.jobs.specs.Lists.{Jobs}
use Rattle.jobs.specs.Histories.{Event.claim, Event.release}
use Rattle.std.specs.Prelude.{Option}
use Rattle.boardfile.specs.Answers.{Place}
use Rattle.host.specs.Jobs.{StartPacked, ClaimPacked, ReleasePacked, one_if_held, member_or0, JobPacked}
use Rattle.host.specs.Answers.{place_number, place_of, place_of_writing, Checked, DerivesPacked, ScopePacked, manager_or64, ManagerPacked, StepsPacked, StretchPacked, Commanded, Applied, RunPacked, ReadPacked, WritePacked}
use Rattle.writer.proofs.Unique as W
use Rattle.boardfile.proofs.Unique as F
use Rattle.runs.proofs.Running as R
use Rattle.jobs.proofs.Theorems as J

-- the same number and the same value make the same answer to a question
asked : {m n v w r s : ℕ} → m ≡ n → v ≡ w → r ≡ answer m (place_of m) v → s ≡ answer n (place_of n) w → r ≡ s
asked e g p q = p ∙ ap₂ (λ (k u : ℕ). answer k (place_of k) u) e g ∙ sym q

module _ (f : List ℕ) {r s : ℕ} where
  pub check_unique : Checked f r → Checked f s → r ≡ s
  check_unique p q = asked {v = 0} (F.check_unique f p.0 q.0 p.1 q.1) refl p.2 q.2

  pub derives_unique : (x y : ℕ) → DerivesPacked f x y r → DerivesPacked f x y s → r ≡ s
  derives_unique x y p q = let k = F.derives_file_unique f x y p.1.1 q.1.1 in asked k.0 (ap num k.1) p.1.2 q.1.2

  pub scope_unique : (a x : ℕ) → ScopePacked f a x r → ScopePacked f a x s → r ≡ s
  scope_unique a x p q =
      let k = F.scope_file_unique f a x p.1.1.1.1.1 q.1.1.1.1.1 in
      p.1.1.1.1.2 ∙ ap₂ (λ (n : ℕ) (v : Bool × ℕ × ℕ × ℕ). answer n (place_of n) (num v.0 + 2 * v.1) + reason 0 v.2 v.3) k.0 k.1 ∙ sym q.1.1.1.1.2

  pub manager_unique : (x : ℕ) → ManagerPacked f x r → ManagerPacked f x s → r ≡ s
  manager_unique x p q = let k = F.manager_file_unique f x p.1.1 q.1.1 in asked k.0 (ap manager_or64 k.1) p.1.2 q.1.2

  pub steps_unique : (x : ℕ) → StepsPacked f x r → StepsPacked f x s → r ≡ s
  steps_unique x p q = let k = F.steps_file_unique f x p.1.1 q.1.1 in asked k.0 k.1 p.1.2 q.1.2

  pub stretch_unique : (role : ℕ) → StretchPacked f role r → StretchPacked f role s → r ≡ s
  stretch_unique role p q =
      let k = F.bounds_unique f role p.1.1.1 q.1.1.1 in
      asked k.0 (ap (λ (v : ℕ × ℕ). v.0 + 65536 * v.1) k.1) p.1.1.2 q.1.1.2

-- the answer, and every byte of the buffer
pub commanded_unique : {f : List ℕ} {c : Command} {entry exit other : List ℕ} {r s : ℕ} → Commanded f c entry exit r → Commanded f c entry other s → (exit ≡ other) × (r ≡ s)
commanded_unique p q =
    let k = F.command_unique p.1.1.1 q.1.1.1 in
    (k.3, p.1.1.2 ∙ ap₂ (λ (a : Answer) (l : ℕ). answer_of a (place_number p.0) l) k.1 k.2 ∙ ap (λ (z : Place). answer_of q.1.0 (place_number z) q.1.1.0) k.0 ∙ sym q.1.1.2)

-- the answer, and the caller's board
pub apply_unique : {entry exit other : Board} {c : Command} {r s : ℕ} → Applied entry c exit r → Applied entry c other s → (exit ≡ other) × (r ≡ s)
apply_unique p q = let k = decided_unique p.1 q.1 in (k.1, p.2 ∙ ap (λ (a : Answer). answer_of a 0 0) k.0 ∙ sym q.2)

-- the answer, the caller's row and the board
pub run_unique : {entry exit other : Board} {commands : List Command} {row x y : List ℕ} {r s : ℕ} → RunPacked entry commands row x exit r → RunPacked entry commands row y other s
    → (x ≡ y) × (exit ≡ other) × (r ≡ s)
run_unique p q = let k = R.run_unique p.1 q.1 in (k.1, k.2, p.2 ∙ ap (λ (n : ℕ). answer n (place_of_writing n) 0) k.0 ∙ sym q.2)

pub read_unique : {f : List ℕ} {entry exit other : Board} {r s : ℕ} → ReadPacked f entry exit r → ReadPacked f entry other s → (exit ≡ other) × (r ≡ s)
read_unique {f} p q =
    let e = F.check_unique f p.0 q.0 p.1.numbered q.1.numbered in (
      dite (ℕ_discrete p.0 0)
          (λ z. (F.read_unique (p.1.done z) (q.1.done (sym e ∙ z))).1)
          (λ z. p.1.refused z ∙ sym (q.1.refused (λ w. z (e ∙ w)))),
      asked {v = 0} e refl p.2 q.2,
    )

-- the answer, and every byte of the buffer
pub write_unique : {b : Board} {entry exit other : List ℕ} {at r s : ℕ} → WritePacked b entry at exit r → WritePacked b entry at other s → (exit ≡ other) × (r ≡ s)
write_unique p q =
    let k = W.write_unique p.1.1 q.1.1 in
    (k.2, p.1.2 ∙ ap₂ (λ (n l : ℕ). answer n (place_of_writing n) l) k.0 k.1 ∙ sym q.1.2)

-- ---- the job list: the answer, and the list

pub start_unique : {listed : List ℕ} {x y : Jobs} {r s : ℕ} → StartPacked listed x r → StartPacked listed y s → (x ≡ y) × (r ≡ s)
start_unique p q = let k = J.start_unique p.1 q.1 in (k.1, p.2 ∙ ap (λ (n : ℕ). answer n 0 0) k.0 ∙ sym q.2)

module _ (b : Board) (jobs : Jobs) (j m role : ℕ) {x y : Jobs} {r s : ℕ} where
  pub claim_unique : ClaimPacked b jobs j m role x r → ClaimPacked b jobs j m role y s → (x ≡ y) × (r ≡ s)
  claim_unique p q = let k = J.answer_unique (claim b j m role) jobs p.1 q.1 in (k.1, p.2 ∙ ap (λ (n : ℕ). answer n 0 0) k.0 ∙ sym q.2)

  pub release_unique : ReleasePacked b jobs j m role x r → ReleasePacked b jobs j m role y s → (x ≡ y) × (r ≡ s)
  release_unique p q = let k = J.answer_unique (release b j m role) jobs p.1 q.1 in (k.1, p.2 ∙ ap (λ (n : ℕ). answer n 0 0) k.0 ∙ sym q.2)

pub job_unique : (jobs : Jobs) (j : ℕ) {r s : ℕ} → JobPacked jobs j r → JobPacked jobs j s → r ≡ s
job_unique jobs j p q =
    let k = J.look_unique jobs j p.1.1 q.1.1 in
    p.1.2 ∙ ap₂ (λ (n : ℕ) (z : Option ℕ). answer n 0 (one_if_held z) + 4294967296 * member_or0 z) k.0 k.1 ∙ sym q.1.2
