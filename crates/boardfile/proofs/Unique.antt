-- Two answers that a contract on a file allows coincide. Assumes nothing.
use mathlib.Core.Path.{◌≡◌, refl, sym, ap, ap₂, ◌∙◌, subst}
use mathlib.Core.Bool.{Bool}
use mathlib.Core.List.{List}
use Prim.Native.Nat.{ℕ, ◌+◌}
use native.Mathlib.Omega.{arith}
use Rattle.std.specs.Prelude.{Option}
use Rattle.hierarchy.specs.Tables.{Tables}
use Rattle.hierarchy.specs.First.{First}
use Rattle.hierarchy.specs.Words.{OutOfScope, Sound}
use Rattle.hierarchy.proofs.Bars.{out_unique}
use Rattle.hierarchy.proofs.ClimbLaws.{climb_unique}
use Rattle.hierarchy.proofs.FirstLaws.{first_unique}
use Rattle.board.specs.Boards.{tables_of}
use Rattle.board.specs.Answers.{Answer, plain}
use Rattle.board.specs.declared.Board.{Board}
use Rattle.board.specs.declared.Command.{Command}
use Rattle.board.proofs.Unique.{answered_unique, by_number}
use Rattle.questions.proofs.Unique.{says_unique, tells_unique, manages_unique}
use Rattle.commands.specs.Commands.{Decided}
use Rattle.commands.proofs.Unique.{decided_unique}
use Rattle.writer.specs.Files.{stretch_of}
use Rattle.writer.specs.Writing.{start_or_none, WriteAnswer}
use Rattle.writer.proofs.Unique.{write_unique}
use Rattle.boardfile.specs.Answers.{refusals, ReadAnswer, ReadInto, asked_refusals, OfFile, DerivesOnFile, ScopeOnFile, ManagerOnFile, StepsOnFile, BoundsAnswer, StretchAnswer, Place, CommandAnswer}
use Rattle.boardfile.specs.Answers.{CommandAnswer.unread, CommandAnswer.refused, CommandAnswer.no_room, CommandAnswer.done}
use Rattle.boardfile.specs.Stretches.{StretchOf}
use Rattle.boardfile.proofs.OneBoard.{one_tables, one_board}

-- read
pub read_unique : {f : List ℕ} {m n : ℕ} {x y : Board} → ReadAnswer f m x → ReadAnswer f n y → (m ≡ n) × (x ≡ y)
read_unique {f} {m} {n} r s =
    let e = first_unique (refusals f) m n r.numbered s.numbered in (
      e,
      by_number m
          (λ z. one_board (r.done z) (s.done (sym e ∙ z)))
          (λ z. r.refused z ∙ sym (s.refused (λ w. z (e ∙ w)))),
    )

-- read into a board that is lent
pub read_into_unique : {f : List ℕ} {entry x y : Board} {m n : ℕ} → ReadInto f entry x m → ReadInto f entry y n → (m ≡ n) × (x ≡ y)
read_into_unique {f} {m = m} {n = n} r s =
    let e = first_unique (refusals f) m n r.numbered s.numbered in (
      e,
      by_number m
          (λ z. (read_unique (r.done z) (s.done (sym e ∙ z))).1)
          (λ z. r.refused z ∙ sym (s.refused (λ w. z (e ∙ w)))),
    )

-- ---- what is asked of a file

-- a file is read as one board, which is sound, so what is one for a sound board is one for a file
of_file_unique : {A : Type 0} {f : List ℕ} {Right : Board → A → Type 0} → ((b : Board) → Sound (tables_of b) → (v w : A) → Right b v → Right b w → v ≡ w)
    → (v w : A) → OfFile f Right v → OfFile f Right w → v ≡ w
of_file_unique {Right = Right} one v w p q =
    one q.0 (q.1.done refl).1.sound v w (subst (λ (b : Board). Right b v) (read_unique p.1 q.1).1 p.2) q.2

module _ (f : List ℕ) where
  pub check_unique : (m n : ℕ) → First (refusals f) m → First (refusals f) n → m ≡ n
  check_unique = first_unique (refusals f)

  pub derives_file_unique : (x y : ℕ) {m n : ℕ} {p q : Bool} → DerivesOnFile f x y m p → DerivesOnFile f x y n q → (m ≡ n) × (p ≡ q)
  derives_file_unique x y = answered_unique (λ _. of_file_unique (λ _ _. says_unique))

  pub scope_file_unique : (a r : ℕ) {m n j k c d v w : ℕ} {p q : Bool} → ScopeOnFile f a r m p j c v → ScopeOnFile f a r n q k d w
      → (m ≡ n) × ◌≡◌ {A = Bool × ℕ × ℕ × ℕ} (p, j, c, v) (q, k, d, w)
  scope_file_unique a r = answered_unique (λ _. of_file_unique (λ b _. tells_unique (OutOfScope (tables_of b) a) (λ c d v w. out_unique)))

  pub manager_file_unique : (r : ℕ) {m n : ℕ} {x y : Option ℕ} → ManagerOnFile f r m x → ManagerOnFile f r n y → (m ≡ n) × (x ≡ y)
  manager_file_unique r = answered_unique (λ _. of_file_unique (λ b. manages_unique b r))

  pub steps_file_unique : (r : ℕ) {m n j k : ℕ} → StepsOnFile f r m j → StepsOnFile f r n k → (m ≡ n) × (j ≡ k)
  steps_file_unique r = answered_unique (λ _. of_file_unique (λ b sound j k. climb_unique sound))

  -- ---- the stretch

  pub stretch_number_unique : (role m n : ℕ) → First (asked_refusals f role role) m → First (asked_refusals f role role) n → m ≡ n
  stretch_number_unique role = first_unique (asked_refusals f role role)

  pub bounds_unique : (role : ℕ) {m n i j k l : ℕ} → BoundsAnswer f role m i k → BoundsAnswer f role n j l → (m ≡ n) × ◌≡◌ {A = ℕ × ℕ} (i, k) (j, l)
  bounds_unique role = answered_unique (λ _. of_file_unique (λ b _ v w p q. ap₂ (λ (i k : ℕ). (i, k)) (p.0 ∙ sym q.0) (p.1 ∙ sym q.1)))

  answer_one : (role : ℕ) {m n i j : ℕ} {x y : List ℕ} → StretchAnswer f role m x i → StretchAnswer f role n y j → (m ≡ n) × (x ≡ y) × (i ≡ j)
  answer_one role {m} {n} {i} {j} {x} {y} r s =
      let e = first_unique (asked_refusals f role role) m n r.numbered s.numbered in
      let same = by_number {P = (x ≡ y) × (i ≡ j)} m
      (λ z. let p = r.done z in let q = s.done (sym e ∙ z) in let same = one_tables p.1.1 q.1.1 in
      (p.2.0 ∙ ap (λ (t : Tables). stretch_of t role) same ∙ sym q.2.0, p.2.1 ∙ ap (λ (t : Tables). start_or_none t role) same ∙ sym q.2.1))
      (λ z. let p = r.refused z in let q = s.refused (λ w. z (e ∙ w)) in (p.0 ∙ sym q.0, p.1 ∙ sym q.1)) in
      (e, same.0, same.1)

  -- its number, the bytes, and where they lie
  pub stretch_unique : (file_at : ℕ × ℕ) (role : ℕ) {m n : ℕ} {x y : List ℕ} {p q : ℕ × ℕ} → StretchOf f file_at role m x p → StretchOf f file_at role n y q → (m ≡ n) × (x ≡ y) × (p ≡ q)
  stretch_unique file_at role r s =
      let e = answer_one role r.1 s.1 in
      (e.0, e.1, ap₂ (λ (k l : ℕ). (k, l)) (r.2 ∙ sym s.2) (r.3 ∙ ap (λ (n : ℕ). file_at.1 + n) e.2 ∙ sym s.3))

-- ---- a command on a file: the place, the number, the length and the whole buffer

module _ {f : List ℕ} {b d : Board} (p : ReadAnswer f 0 b) (q : ReadAnswer f 0 d) {c : Command} {x y : Board} where
  step_unique : {m n : Answer} → Decided b c m x → Decided d c n y → (m ≡ n) × (x ≡ y)
  step_unique {m} h k = decided_unique (subst (λ (z : Board). Decided z c m x) (read_unique p q).1 h) k

  last_unique : {entry exit other : List ℕ} {m n k l : ℕ} → Decided b c (plain 0) x → Decided d c (plain 0) y → WriteAnswer x entry 0 exit m k → WriteAnswer y entry 0 other n l
      → (m ≡ n) × (k ≡ l) × (exit ≡ other)
  last_unique {entry} {exit} {m = m} {k = k} h j v w = write_unique (subst (λ (z : Board). WriteAnswer z entry 0 exit m k) (step_unique h j).1 v) w

number_of : {m n : Answer} → m ≡ n → m.number ≡ n.number
number_of = ap (λ (m : Answer). m.number)

pub command_unique : {f : List ℕ} {c : Command} {entry exit other : List ℕ} {p q : Place} {m n : Answer} {k l : ℕ}
    → CommandAnswer f c entry exit p m k → CommandAnswer f c entry other q n l → (p ≡ q) × (m ≡ n) × (k ≡ l) × (exit ≡ other)
command_unique (unread p z x) (unread q w y) = (refl, ap plain (read_unique p q).0, refl, x ∙ sym y)
command_unique (unread p z x) (refused q k w y) = absurd (z (read_unique p q).0)
command_unique (unread p z x) (no_room q k v) = absurd (z (read_unique p q).0)
command_unique (unread p z x) (done q k v) = absurd (z (read_unique p q).0)
command_unique (refused p h z x) (unread q w y) = absurd (w (read_unique q p).0)
command_unique (refused p h z x) (refused q k w y) = (refl, (step_unique p q h k).0, refl, x ∙ sym y)
command_unique (refused p h z x) (no_room q k v) = absurd (z (number_of (step_unique p q h k).0))
command_unique (refused p h z x) (done q k v) = absurd (z (number_of (step_unique p q h k).0))
command_unique (no_room p h u) (unread q w y) = absurd (w (read_unique q p).0)
command_unique (no_room p h u) (refused q k w y) = absurd (w (number_of (step_unique q p k h).0))
command_unique (no_room p h u) (no_room q k v) = (refl, refl, refl, (last_unique p q h k u v).2)
command_unique (no_room p h u) (done q k v) = let l = (last_unique p q h k u v).0 in absurd (omega arith)
command_unique (done p h u) (unread q w y) = absurd (w (read_unique q p).0)
command_unique (done p h u) (refused q k w y) = absurd (w (number_of (step_unique q p k h).0))
command_unique (done p h u) (no_room q k v) = let l = (last_unique p q h k u v).0 in absurd (omega arith)
command_unique (done p h u) (done q k v) = let l = last_unique p q h k u v in (refl, refl, l.1, l.2)
