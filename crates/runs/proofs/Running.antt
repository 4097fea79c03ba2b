-- A run has one outcome; it is the runs of its parts, and the run of one command is the command. Assumes nothing.
use mathlib.Core.Path.{◌≡◌, refl, sym, ap, ap₂, ◌∙◌, subst}
use mathlib.Core.Logic.{◌≢◌, ◌↔◌, dite}
use mathlib.Core.List.{List, [], ◌∷◌, ◌++◌, map, append_assoc, map-append}
use Prim.Native.Nat.{ℕ, suc, ◌+◌, ◌≤◌, ◌<◌}
use native.Mathlib.Decide.{ℕ_discrete}
use native.Mathlib.Omega.{arith}
use lib.ListN.{length, get_or, set, take, drop, replicate, length-map, length-append}
use lib.Seq.{length-take-le, take-suc, take_all, drop-cons, drop-append_seam, get_or-append_seam, set-append_seam}
use Rattle.hierarchy.proofs.FirstLaws.{first_unique, hit, pass, none}
use Rattle.board.specs.Boards.{SoundBoard}
use Rattle.board.specs.Answers.{plain}
use Rattle.board.specs.declared.Board.{Board}
use Rattle.board.specs.declared.Command.{Command}
use Rattle.board.specs.Answers.{Answer}
use Rattle.commands.specs.Commands.{refusals, Decided}
use Rattle.commands.proofs.Unique.{decided_unique}
use Rattle.answers.specs.Packing.{answer_of}
use Rattle.runs.specs.Runs.{Ran, row_after, run_refusals, Went, RanBy, RunAnswer, InParts, InItsPlace}
use Rattle.runs.specs.Runs.{Ran.over, Ran.given}

-- ---- one outcome

-- an answer for each command
pub ran_length : {b last : Board} {commands : List Command} {answers : List Answer} → Ran b commands answers last → length answers ≡ length commands
ran_length over = refl
ran_length (given d r) = ap suc (ran_length r)

same_run : {b d x y : Board} {commands : List Command} {answers others : List Answer} → b ≡ d → Ran b commands answers x → Ran d commands others y
    → (answers ≡ others) × (x ≡ y)
same_run e over over = (refl, e)
same_run e (given {next = n} {c = c} {a = a} p r) (given q s) =
    let one = decided_unique (subst (λ (z : Board). Decided z c a n) e p) q in
    let rest = same_run one.1 r s in
    (ap₂ (λ (a : Answer) (l : List Answer). a ∷ l) one.0 rest.0, rest.1)

pub ran_unique : {b x y : Board} {commands : List Command} {answers others : List Answer} → Ran b commands answers x → Ran b commands others y
    → (answers ≡ others) × (x ≡ y)
ran_unique = same_run refl

-- the run's number, the row and the board
pub run_unique : {rules : List (ℕ × Type 0)} {b x y : Board} {commands : List Command} {entry exit other : List ℕ} {m n : ℕ}
    → RanBy rules b commands entry exit m x → RanBy rules b commands entry other n y → (m ≡ n) × (exit ≡ other) × (x ≡ y)
run_unique {rules} {entry = entry} {m = m} {n = n} p q =
    let e = first_unique rules m n p.numbered q.numbered in
    dite (ℕ_discrete m 0)
    (λ z.
    let f = p.done z in
    let g = q.done (sym e ∙ z) in
    let one = ran_unique f.ran g.ran in
    (e, f.row ∙ ap (λ (l : List Answer). row_after l entry) one.0 ∙ sym g.row, one.1))
    (λ z.
    let f = p.refused z in
    let g = q.refused (λ w. z (e ∙ w)) in
    (e, f.1 ∙ sym g.1, f.0 ∙ sym g.0))

-- ---- parts

-- the run of one command is the command
pub ran_one : {b last : Board} {c : Command} {a : Answer} → Ran b (c ∷ []) (a ∷ []) last ↔ Decided b c a last
ran_one = (alone, λ d. given d over)
  where
    alone : {b last : Board} {c : Command} {a : Answer} → Ran b (c ∷ []) (a ∷ []) last → Decided b c a last
    alone (given d over) = d

-- two runs in a row are one,
pub ran_join : {b between last : Board} {first rest : List Command} {early late : List Answer} → Ran b first early between → Ran between rest late last
    → Ran b (first ++ rest) (early ++ late) last
ran_join over s = s
ran_join (given d r) s = given d (ran_join r s)

-- and one run, cut anywhere, is two in a row
pub ran_parts : {b last : Board} (first : List Command) {rest : List Command} {answers : List Answer} → Ran b (first ++ rest) answers last
    → InParts b first rest answers last
ran_parts [] r = record { early = []; late = _; between = _; in_a_row = refl; begun = over; ended = r }
ran_parts (c ∷ first) (given {a = a} d r) =
    let p = ran_parts first r in
    record { early = a ∷ p.early; late = p.late; between = p.between; in_a_row = ap (λ (l : List Answer). a ∷ l) p.in_a_row; begun = given d p.begun; ended = p.ended }

-- ---- the row

abbrev packed : List Answer → List ℕ
packed = map (λ (a : Answer). answer_of a 0 0)

-- places beyond the run stay
pub beyond_stays : {b last : Board} {commands : List Command} {entry exit : List ℕ} → Went b commands entry exit last
    → drop (length commands) exit ≡ drop (length commands) entry
beyond_stays {commands = commands} {entry} {exit} w = subst (λ (k : ℕ). drop k exit ≡ drop k entry) (ran_length w.ran)
    (ap₂ (λ (k : ℕ) (l : List ℕ). drop k l) (sym (length-map w.answers (λ a. answer_of a 0 0))) w.row ∙ drop-append_seam (packed w.answers) (drop (length w.answers) entry))

-- the answer after some others is in the place that they leave free,
packed_at : (early : List Answer) (a : Answer) (late : List Answer) (beyond : List ℕ) → packed (early ++ a ∷ late) ++ beyond ≡ packed early ++ answer_of a 0 0 ∷ (packed late ++ beyond)
packed_at early a late beyond = ap (λ (l : List ℕ). l ++ beyond) (map-append (λ (a : Answer). answer_of a 0 0) early (a ∷ late)) ∙ append_assoc (packed early) (answer_of a 0 0 ∷ packed late) beyond

-- and so each command's answer is in its own
placed : {b between last : Board} {first : List Command} {c : Command} {rest : List Command} {early late : List Answer} {exit : List ℕ} (entry : List ℕ)
    → Ran b first early between → Ran between (c ∷ rest) late last → exit ≡ row_after (early ++ late) entry → InItsPlace b first c rest entry exit last
placed {early = early} entry r (given {a = a} {answers = answers} d s) e = record {
  before = _;
  after = _;
  answer = a;
  early = early;
  late = answers;
  begun = r;
  decided = d;
  ended = s;
  row = e;
  place = ap₂ (λ (l : List ℕ) (k : ℕ). get_or l k 0) (e ∙ packed_at early a answers beyond) (sym (ran_length r) ∙ sym (length-map early (λ a. answer_of a 0 0)))
      ∙ get_or-append_seam (packed early) (answer_of a 0 0) (packed answers ++ beyond) 0;
}
  where
    beyond : List ℕ
    beyond = drop (length (early ++ a ∷ answers)) entry

pub in_its_place : {b last : Board} (first : List Command) {c : Command} {rest : List Command} {entry exit : List ℕ} → Went b (first ++ c ∷ rest) entry exit last
    → InItsPlace b first c rest entry exit last
in_its_place first {entry = entry} w =
    let p = ran_parts first w.ran in placed entry p.begun p.ended (w.row ∙ ap (λ (l : List Answer). row_after l entry) p.in_a_row)

-- a command that is refused writes to nothing but its place: left out, the others' answers and the last board are the same
pub without_refused : {b last : Board} {first : List Command} {c : Command} {rest : List Command} {entry exit : List ℕ} (p : InItsPlace b first c rest entry exit last)
    → p.answer.number ≢ 0 → Ran b (first ++ rest) (p.early ++ p.late) last
without_refused {last = last} {rest = rest} p z = ran_join p.begun (subst (λ (h : Board). Ran h rest p.late last) (p.decided.refused z) p.ended)

-- ---- a board that isn't sound: every answer is 1, and the board stays

-- where it gives 1, a command names nobody and leaves the board
unsound_one : {b next : Board} {c : Command} {a : Answer} → (SoundBoard b → ⊥) → Decided b c a next → (a ≡ plain 1) × (next ≡ b)
unsound_one {b} {c = c} {a} wrong d =
    let one = first_unique (refusals b c) a.number 1 d.numbered (hit _ _ _ wrong) in
    (d.named.other (λ e. absurd (omega (arith, one, e))) ∙ ap plain one, d.refused (λ e. absurd (omega (arith, one, e))))

pub unsound_run : {b last : Board} {commands : List Command} {answers : List Answer} → (SoundBoard b → ⊥) → Ran b commands answers last
    → (answers ≡ replicate (length commands) (plain 1)) × (last ≡ b)
unsound_run wrong over = (refl, refl)
unsound_run wrong (given d r) =
    let one = unsound_one wrong d in
    let rest = unsound_run (λ s. wrong (subst SoundBoard one.1 s)) r in
    (ap₂ (λ (a : Answer) (l : List Answer). a ∷ l) one.0 rest.0, rest.1 ∙ one.1)

-- ---- the loop: the commands before the k-th have been given

pub begins : (b : Board) (commands : List Command) (entry : List ℕ) → Went b (take 0 commands) entry entry b
begins b commands entry = record { answers = []; ran = over; row = refl }

-- a turn: the k-th, decided, put its answer into place k
pub goes_on : {b h next : Board} (commands : List Command) (entry : List ℕ) {row : List ℕ} {k : ℕ} {a : Answer} (d : Command) → k < length commands → k < length entry
    → Went b (take k commands) entry row h → Decided h (get_or commands k d) a next → {n : ℕ} → n ≡ answer_of a 0 0 → Went b (take (k + 1) commands) entry (set row k n) next
goes_on {b} {next = next} commands entry {row} {k} {a} d less room w e {n} p =
    let done = w.answers in
    let many : length done ≡ k = ran_length w.ran ∙ length-take-le k commands (omega (arith, less)) in
    let more : suc k ≡ length (done ++ a ∷ []) = omega (arith, many, length-append done (a ∷ [])) in
    let places : length (packed done) ≡ k = length-map done (λ a. answer_of a 0 0) ∙ many in
    let given_all : take (k + 1) commands ≡ take k commands ++ get_or commands k d ∷ [] = ap (λ (j : ℕ). take j commands) {x = k + 1} {y = suc k} (omega arith) ∙ take-suc commands k d less in
    record {
      answers = done ++ a ∷ [];
      ran = subst (λ (l : List Command). Ran b l (done ++ a ∷ []) next) (sym given_all) (ran_join w.ran (given e over));
      row = ap₂ (λ (l : List ℕ) (m : ℕ). set l k m) (w.row ∙ ap (λ (j : ℕ). packed done ++ drop j entry) many ∙ ap (λ (l : List ℕ). packed done ++ l) (drop-cons entry k 0 room)) p
          ∙ subst (λ (j : ℕ). set (packed done ++ get_or entry k 0 ∷ drop (suc k) entry) j (answer_of a 0 0) ≡ packed done ++ answer_of a 0 0 ∷ drop (suc k) entry) places
          (set-append_seam (packed done) (get_or entry k 0) (drop (suc k) entry) (answer_of a 0 0))
          ∙ ap (λ (j : ℕ). packed done ++ answer_of a 0 0 ∷ drop j entry) more
          ∙ sym (packed_at done a [] (drop (length (done ++ a ∷ [])) entry));
    }

-- ---- the end of the loop, and a run that isn't begun

pub too_short : (b : Board) (commands : List Command) (entry : List ℕ) {n places : ℕ} → places < n → RanBy (run_refusals n places) b commands entry entry 12 b
too_short b commands entry lt = record { numbered = hit _ _ _ lt; done = λ z. absurd (omega (arith, z)); refused = λ _. (refl, refl) }

pub all_given : {b h : Board} {commands : List Command} {entry row : List ℕ} {k : ℕ} → length commands ≤ length entry → length commands ≤ k → Went b (take k commands) entry row h
    → RunAnswer b commands entry row 0 h
all_given {b} {h} {commands} {entry} {row} {k} room all w = record {
  numbered = pass _ _ _ _ (λ lt. absurd (omega (arith, room, lt))) none;
  done = λ _. subst (λ (l : List Command). Went b l entry row h) (take_all k commands all) w;
  refused = λ z. absurd (z refl);
}
