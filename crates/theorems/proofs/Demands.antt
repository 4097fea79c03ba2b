-- Start here: the three demands of document 01 as theorems, each with the names of what it rests on. That a call always ends, and that
-- its answer is as its promise says, is proved of each function by itself; these are about the promises. Assumes nothing.
use mathlib.Core.Path.{◌≡◌, refl, sym, ap, ◌∙◌, subst, subst₂}
use mathlib.Core.Bool.{Bool}
use mathlib.Core.Logic.{◌⊎◌, inl, inr, ⊎_elim, ⊎_map, ◌≢◌, ◌↔◌, dite}
use mathlib.Core.List.{List, [], ◌∷◌, ◌++◌}
use Prim.Native.Nat.{ℕ, ◌+◌, ◌≤◌, ◌<◌}
use native.Mathlib.Decide.{ℕ_discrete}
use native.Mathlib.Omega.{arith}
use lib.Count.{ones}
use lib.ListN.{length, take, drop, replicate}
use Rattle.std.specs.Prelude.{Option}
use Rattle.sets.specs.Sets.{◌is_in◌}
use Rattle.hierarchy.specs.Tables.{Tables, row, Live}
use Rattle.hierarchy.specs.Words.{Derives, Scope, OutOfScope, LineManager, Sound, Climb, met, Distinct}
use Rattle.hierarchy.specs.Views.{ScopeBy, OutOfScopeBy, ManagerIs, manager_at, steps_up}
use Rattle.hierarchy.specs.First.{First, Among, Passed}
use Rattle.hierarchy.proofs.Bars.{out_by, out_unique, out_not, out_some}
use Rattle.hierarchy.proofs.FirstLaws.{first_unique, hit, pass}
use Rattle.hierarchy.proofs.Theorems.{no_manager, one_manager, one_climb, one_way, climb_distinct, climb_short}
use Rattle.board.specs.Boards.{tables_of, board_of, founding_board, KeepsRight, SoundBoard}
use Rattle.board.specs.Rights.{founding_rights, RightsFit}
use Rattle.board.specs.Answers.{Answer, plain}
use Rattle.board.specs.declared.Board.{Board}
use Rattle.board.specs.declared.Command.{Command}
use Rattle.board.proofs.Founding.{founding_sound}
use Rattle.board.proofs.Rules.{stable, first_done, first_without, first_next}
use Rattle.board.proofs.Unique.{board_stable, one_board}
use Rattle.board.proofs.Keeping.{derives_kept, derivers_kept, manager_kept, scope_kept, steps_kept}
use Rattle.questions.specs.Questions.{DerivesAnswer, ScopeAnswer, ManagerAnswer, StepsAnswer, refusals as questionRefusals}
use Rattle.questions.proofs.Unique.{derives_unique, scope_unique, manager_answer_unique, steps_unique}
use Rattle.effects.specs.Effects.{after}
use Rattle.effects.proofs.Edits.{tables_stay}
use Rattle.refusals.specs.Entitled.{Entitled}
use Rattle.refusals.specs.Refusals.{Malformed, Fits, edge_kind, InScope, Blames, before}
use Rattle.refusals.proofs.Blaming.{blames_one}
use Rattle.refusals.proofs.Offenders.{blamed_where}
use Rattle.refusals.proofs.Trying.{role_lt, junior_lt}
use Rattle.commands.specs.RightsAfter.{rights_after}
use Rattle.commands.specs.Commands.{afterwards, on_tables, Made, Decided, refusals as command_refusals}
use Rattle.commands.specs.EdgeParts.{both, less, NoneStands, TakesBack}
use Rattle.commands.proofs.RightsLeft.{rights_stay, idle_rights}
use Rattle.commands.proofs.SoundAfter.{idle_change}
use Rattle.commands.proofs.EdgeParts.{kind_added, kind_removed, taken_back}
use Rattle.commands.proofs.TakingBack.{sound_passes, back_granted}
use Rattle.commands.proofs.Unique.{decided_unique}
use Rattle.runs.specs.Runs.{Ran, run_refusals, Went, RanBy, InParts, InItsPlace}
use Rattle.runs.specs.Runs.{Ran.over, Ran.given}
use Rattle.runs.proofs.Running.{run_unique, ran_one, ran_join, ran_parts, beyond_stays, in_its_place, without_refused, unsound_run}
use Rattle.frames.specs.Frames.{EndsHH, EndsHR}
use Rattle.writer.specs.Files.{file_of}
use Rattle.writer.specs.Writing.{Placed, Unplaced, write_refusals, WriteAnswer}
use Rattle.writer.proofs.Unique.{write_unique}
use Rattle.boardfile.specs.Answers.{refusals, ReadAnswer, ReadInto, DerivesOnFile, ScopeOnFile, ManagerOnFile, StepsOnFile, Place, CommandAnswer}
use Rattle.boardfile.specs.Answers.{CommandAnswer.unread, CommandAnswer.refused, CommandAnswer.no_room, CommandAnswer.done}
use Rattle.boardfile.specs.Stretches.{StretchOf}
use Rattle.boardfile.proofs.Unique.{read_unique, derives_file_unique, scope_file_unique, manager_file_unique, steps_file_unique, stretch_unique, command_unique}
use Rattle.boardfile.proofs.Theorems.{accepted, reads_back, sound_reads, written_file, plain_where, rights_where}
use Rattle.theorems.specs.OnFiles.{Refused, Chain}
use Rattle.theorems.specs.OnFiles.{Chain.begun, Chain.followed}
use Rattle.theorems.specs.Reached.{Reached}
use Rattle.theorems.specs.Reached.{Reached.founding, Reached.file, Reached.command}

first_among : (t : List (ℕ × Type 0)) (n : ℕ) → First t n → (n ≡ 0) ⊎ Among n t
unfolding First
first_among [] n h = inl h
first_among (rule ∷ rest) n h = ⊎_elim (λ p. inr (inl p.1)) (λ p. ⊎_map (λ e. e) (λ a. inr a) (first_among rest n p.1)) h

-- a refusal is a number of the table
refused_among : (t : List (ℕ × Type 0)) (n : ℕ) → First t n → n ≢ 0 → Among n t
refused_among t n f z = ⊎_elim (λ e. absurd (z e)) (λ a. a) (first_among t n f)

-- ---- demand 1: each call ends with the change made, or with one refusal number of its table, and then all that was lent is as it was

-- a command on a board: 1 to 9, or 13
pub command_ends : {b board : Board} {c : Command} {answer : Answer} → Decided b c answer board
    → ((answer.number ≡ 0) × Made SoundBoard b c board) ⊎ (Among answer.number (command_refusals b c) × (board ≡ b))
command_ends {b} {board} {c} {answer} d = dite (ℕ_discrete answer.number 0)
    (λ e. inl (e, d.done e))
    (λ n. inr (refused_among (command_refusals b c) answer.number d.numbered n, d.refused n))

-- the only row of a table, or done
first_only : {k : ℕ} {P : Type 0} {n : ℕ} → First ((k, P) ∷ []) n → ((n ≡ k) × P) ⊎ (n ≡ 0)
unfolding First
first_only f = ⊎_map (λ p. (p.1, p.0)) (λ p. p.1) f

-- a run (request 6), on what is lent or by value: with 12, where there are fewer places than commands, and board and row are as they were; or each of its commands was given,
pub run_ends : {b board : Board} {commands : List Command} {entry exit : List ℕ} (n places : ℕ) {number : ℕ} → RanBy (run_refusals n places) b commands entry exit number board
    → ((number ≡ 0) × Went b commands entry exit board) ⊎ ((number ≡ 12) × (places < n) × (board ≡ b) × (exit ≡ entry))
run_ends n places r = ⊎_elim
    (λ p. let k = r.refused (λ z. absurd (omega (arith, p.0, z))) in inr (p.0, p.1, k.0, k.1))
    (λ e. inl (e, r.done e))
    (first_only r.numbered)

-- and ended as by itself. A refused command leaves the board; of all that is lent it writes to the row alone, and there to its own place: without that
-- command the other answers and the last board are the same. The places beyond the run stay.
module _ {b board : Board} (first : List Command) {c : Command} {rest : List Command} {entry exit : List ℕ} (w : Went b (first ++ c ∷ rest) entry exit board) where
  pub run_command_ends : (p : InItsPlace b first c rest entry exit board)
      × (((p.answer.number ≡ 0) × Made SoundBoard p.before c p.after)
      ⊎ (Among p.answer.number (command_refusals p.before c) × (p.after ≡ p.before) × Ran b (first ++ rest) (p.early ++ p.late) board))
  run_command_ends =
      let p = in_its_place first w in
      let number = p.answer.number in (
        p,
        dite (ℕ_discrete number 0)
            (λ e. inl (e, p.decided.done e))
            (λ n. inr (refused_among (command_refusals p.before c) number p.decided.numbered n, p.decided.refused n, without_refused p n)),
      )

pub run_beyond : {b board : Board} {commands : List Command} {entry exit : List ℕ} → Went b commands entry exit board → drop (length commands) exit ≡ drop (length commands) entry
run_beyond = beyond_stays

-- a file: with the board it is the file of, or with one of 10, 11, 7, 9 and the founding board
pub file_ends : {f : List ℕ} {board : Board} {number : ℕ} → ReadAnswer f number board
    → ((number ≡ 0) × (f ≡ file_of (tables_of board) board.rights)) ⊎ (Among number (refusals f) × (board ≡ founding_board))
file_ends {f} {board} {number} r = dite (ℕ_discrete number 0)
    (λ e. inl (e, (r.done e).0.bytes))
    (λ n. inr (refused_among (refusals f) number r.numbered n, r.refused n))

-- the same into a board that is lent: a refusal leaves it
pub reading_ends : {f : List ℕ} {entry exit : Board} {number : ℕ} → ReadInto f entry exit number
    → ((number ≡ 0) × (f ≡ file_of (tables_of exit) exit.rights)) ⊎ (Among number (refusals f) × (exit ≡ entry))
reading_ends {f} {number = number} r = dite (ℕ_discrete number 0)
    (λ e. inl (e, ((r.done e).done refl).0.bytes))
    (λ n. inr (refused_among (refusals f) number r.numbered n, r.refused n))

-- writing: with the file at its place, or with 1 or 12 and the buffer as it was
pub writing_ends : {b : Board} {entry exit : List ℕ} {at number len : ℕ} → WriteAnswer b entry at exit number len
    → ((number ≡ 0) × Placed (file_of (tables_of b) b.rights) entry at exit len) ⊎ (Among number (write_refusals b entry at) × Unplaced entry exit len)
writing_ends {b} {entry} {at = at} {number = number} w = dite (ℕ_discrete number 0)
    (λ e. inl (e, w.done e))
    (λ n. inr (refused_among (write_refusals b entry at) number w.numbered n, w.refused n))

-- a command on the board in a file: with the file of the board afterwards in the buffer, or with a refusal of the file, of the command on
-- its board, or for want of room, and the buffer as it was
pub file_command_ends : {f : List ℕ} {c : Command} {entry exit : List ℕ} {place : Place} {answer : Answer} {len : ℕ} → CommandAnswer f c entry exit place answer len
    → ((answer.number ≡ 0) × ((b : Board) × ReadAnswer f 0 b × Placed (file_of (after (tables_of b) c) (rights_after c b.rights)) entry 0 exit len))
    ⊎ (Refused f c answer.number × Unplaced entry exit len)
file_command_ends {f} (unread {number = n} r z e) = inr (inl (refused_among (refusals f) n r.numbered z), (refl, e))
file_command_ends {c = c} (refused {answer = m} {b = b} r d z e) = inr (inr (b, r, inl (refused_among (command_refusals b c) m.number d.numbered z)), (refl, e))
file_command_ends (no_room {b = b} r d w) = inr (inr (b, r, inr refl), w.refused (λ e. absurd (omega (arith, e))))
file_command_ends {entry = entry} {exit = exit} {len = len} (done {b = b} r d w) =
    let made = d.done refl in
    inl (refl, (b, r, subst₂ (λ (t : Tables) (h : List ℕ). Placed (file_of t h) entry 0 exit len) made.tables_are made.rights_are (w.done refl)))

-- ---- demand 2: the answer is the one that document 01 states, and no other. What it states is `Decided`, `DerivesAnswer`, `ScopeAnswer`,
-- `ManagerAnswer` and `StepsAnswer` on a board, and `ReadAnswer`, `WriteAnswer`, `StretchOf`, the four `..OnFile` and `CommandAnswer` on files; of a run (request 6)
-- it is `RanBy`.

pub one_outcome : {b x y : Board} {c : Command} {m n : Answer} → Decided b c m x → Decided b c n y → (m ≡ n) × (x ≡ y)
one_outcome = decided_unique

-- a run has one outcome: its number, every place of the row, and the board. It is what its commands give one by one:
pub one_run : {rules : List (ℕ × Type 0)} {b x y : Board} {commands : List Command} {entry exit other : List ℕ} {m n : ℕ}
    → RanBy rules b commands entry exit m x → RanBy rules b commands entry other n y → (m ≡ n) × (exit ≡ other) × (x ≡ y)
one_run = run_unique

-- the run of one command is the command, and a run, cut anywhere, is the run of its first part and from there the run of the other
pub run_of_one : {b last : Board} {c : Command} {a : Answer} → Ran b (c ∷ []) (a ∷ []) last ↔ Decided b c a last
run_of_one = ran_one

pub run_in_parts : {b last : Board} (first : List Command) {rest : List Command} {answers : List Answer} → Ran b (first ++ rest) answers last ↔ InParts b first rest answers last
run_in_parts {b} {last} first {rest} = (ran_parts first, λ p. subst (λ (l : List Answer). Ran b (first ++ rest) l last) (sym p.in_a_row) (ran_join p.begun p.ended))

-- on a board that isn't sound every answer is 1, and the board stays
pub run_on_unsound : {b last : Board} {commands : List Command} {answers : List Answer} → (SoundBoard b → ⊥) → Ran b commands answers last
    → (answers ≡ replicate (length commands) (plain 1)) × (last ≡ b)
run_on_unsound = unsound_run

-- a board that keeps a wrong value, or rights that it may not have, gives 1: from a command, from a question, and from the writer
module _ {b : Board} (wrong : KeepsRight b × RightsFit b.tables.live b.rights → ⊥) where
  unsound : SoundBoard b → ⊥
  unsound s = wrong (s.right, s.rightful)

  pub wrong_value_command : {next : Board} {c : Command} {answer : Answer} → Decided b c answer next → answer.number ≡ 1
  wrong_value_command {c = c} {answer = answer} d = first_unique (command_refusals b c) answer.number 1 d.numbered (hit _ _ _ unsound)

  pub wrong_value_question : (x y number : ℕ) → First (questionRefusals b x y) number → number ≡ 1
  wrong_value_question x y number f = first_unique (questionRefusals b x y) number 1 f (hit _ _ _ unsound)

  pub wrong_value_writer : {entry exit : List ℕ} {at number len : ℕ} → WriteAnswer b entry at exit number len → number ≡ 1
  wrong_value_writer {entry} {at = at} {number = number} w = first_unique (write_refusals b entry at) number 1 w.numbered (hit _ _ _ unsound)

-- an edge is its parts (request 2): what is added joins what stands, what is removed leaves the rest, and the edge goes with its last part
module _ {b next : Board} {c : Command} (d : Decided b c (plain 0) next) where
  formed : Malformed c → ⊥
  formed = (first_done (command_refusals b c) refl d.numbered).1.0

  pub edge_added : c.code ≡ 3 → edge_kind (tables_of next) c ≡ both (edge_kind (tables_of b) c) c.kind
  edge_added e = ap (λ t. edge_kind t c) (d.done refl).tables_are ∙ kind_added c (role_lt c formed) (junior_lt c formed (omega (arith, e), omega (arith, e))) (tables_of b) e

  pub edge_removed : c.code ≡ 4 → edge_kind (tables_of next) c ≡ less (edge_kind (tables_of b) c) c.kind
  edge_removed e = ap (λ t. edge_kind t c) (d.done refl).tables_are ∙ kind_removed c (role_lt c formed) (junior_lt c formed (omega (arith, e), omega (arith, e))) (tables_of b) e

  -- what was added where no part of it stood the same actor can take back at once, if it may use the right to; that leaves the very board of before
  pub added_taken_back : {last : Board} {r : Command} {answer : Answer} → Decided next r answer last → TakesBack c r → NoneStands (tables_of b) c
      → Entitled (Derives (tables_of b)) b.rights r → (answer.number ≡ 0) × (last ≡ b)
  added_taken_back {last} {r} {answer} again w free right =
      let number = answer.number in
      let passed = first_done (command_refusals b c) refl d.numbered in
      let now = d.done refl in
      let kept : SoundBoard b → next.rights ≡ b.rights = λ s. now.rights_are ∙ rights_stay c formed s.rightful (omega (arith, w.adds)) (omega (arith, w.adds)) in
      let zero : number ≡ 0 = stable (ℕ_discrete number 0) (λ k. passed.0 (λ s. k (first_unique (command_refusals next r) number 0 again.numbered
      (pass _ _ _ _ (λ n. n now.fit) (subst₂ (λ t h. First (on_tables t h r) 0) (sym now.tables_are) (sym (kept s))
      (back_granted (tables_of b) b.rights w s.sound (first_without _ _ _ _ passed.0 d.numbered) free right)))))) in
      let made = again.done zero in
      let shape = (first_done (command_refusals next r) refl (subst (First (command_refusals next r)) zero again.numbered)).1.0 in (
        zero,
        board_stable last b (λ k. passed.0 (λ s. k (one_board made.fit s
            (made.tables_are ∙ ap (λ t. after t r) now.tables_are ∙ taken_back w (tables_of b) s.sound.shaped free)
            (made.rights_are ∙ ap (rights_after r) (kept s) ∙ rights_stay r shape s.rightful (omega (arith, w.removes)) (omega (arith, w.removes)))))),
      )

-- a command whose tables and rights afterwards are those of before leaves the very board, whatever the number
idle : {b next : Board} {c : Command} {answer : Answer} → Decided b c answer next
    → (SoundBoard b → (Malformed c → ⊥) → (after (tables_of b) c ≡ tables_of b) × (rights_after c b.rights ≡ b.rights)) → next ≡ b
idle {b} {next} {c} {answer} d same = dite (ℕ_discrete answer.number 0)
    (λ z.
    let passed = first_done (command_refusals b c) refl (subst (First (command_refusals b c)) z d.numbered) in
    let made = d.done z in
    board_stable next b (λ k. passed.0 (λ s. let e = same s passed.1.0 in k (one_board made.fit s (made.tables_are ∙ e.0) (made.rights_are ∙ e.1)))))
    (λ n. d.refused n)

-- changing an edge to the kind it has leaves the very board, whatever the number
pub same_kind_again : {b next : Board} {c : Command} {answer : Answer} → Decided b c answer next → c.code ≡ 5 → edge_kind (tables_of b) c ≡ c.kind → next ≡ b
same_kind_again {b} {c = c} d e same = idle d (λ s formed. (
  idle_change (tables_of b) c s.sound.shaped e same,
  rights_stay c formed s.rightful (omega (arith, e)) (omega (arith, e)),
))

-- and where none of 1 to 6 and 13 holds, it is done
pub same_kind_done : {b next : Board} {c : Command} {answer : Answer} → Decided b c answer next → SoundBoard b
    → Passed (before (Derives (tables_of b)) (Scope (tables_of b)) (tables_of b) b.rights c) → c.code ≡ 5 → edge_kind (tables_of b) c ≡ c.kind → answer.number ≡ 0
same_kind_done {b} {c = c} {answer = answer} d s passed e same =
    let first = before (Derives (tables_of b)) (Scope (tables_of b)) (tables_of b) b.rights c in
    first_unique (command_refusals b c) answer.number 0 d.numbered
    (pass _ _ _ _ (λ k. k s) (first_next first (afterwards (after (tables_of b) c) c) 0 passed
    (subst (λ (t : Tables). First (afterwards t c) 0) (sym (idle_change (tables_of b) c s.sound.shaped e same))
    (sound_passes (tables_of b) c s.sound (λ k. absurd (omega arith))))))

-- ---- request 3: who is in the way

module _ {b : Board} (s : SoundBoard b) where
  -- a no on scope has exactly one cause and one role in the way, and a yes has none
  pub no_has_one_cause : (a r : ℕ) → (Scope (tables_of b) a r → ⊥)
      → (cause : ℕ) × ((way : ℕ) × OutOfScope (tables_of b) a r cause way × ((k w : ℕ) → OutOfScope (tables_of b) a r k w → (k ≡ cause) × (w ≡ way)))
  no_has_one_cause a r n = let w = out_some s.sound.shaped a r n in (w.0, (w.1.0, w.1.1, λ k v o. out_unique o w.1.1))

  pub yes_has_no_cause : (a r : ℕ) {cause way : ℕ} → OutOfScope (tables_of b) a r cause way → Scope (tables_of b) a r → ⊥
  yes_has_no_cause a r = out_not

  -- the scope condition fails exactly where there is a role to name with its cause
  pub offends_where : (c : Command) → (Malformed c → ⊥) → Fits c
      → (InScope (Scope (tables_of b)) c → ⊥) ↔ ((m : Answer) × (m.number ≡ 6) × Blames (Scope (tables_of b)) (OutOfScope (tables_of b)) c m)
  offends_where = blamed_where s.sound.shaped

-- a 6 names the one role that offends first, with its one cause
pub six_names_one : {b next : Board} {c : Command} {answer : Answer} → Decided b c answer next → answer.number ≡ 6
    → Blames (Scope (tables_of b)) (OutOfScope (tables_of b)) c answer × ((m : Answer) → m.number ≡ 6 → Blames (Scope (tables_of b)) (OutOfScope (tables_of b)) c m → m ≡ answer)
six_names_one d six = (d.named.six six, λ m e h. blames_one (λ a x c d v w. out_unique) (e ∙ sym six) h (d.named.six six))

-- and every other answer, done or refused, names nobody
pub others_name_nobody : {b next : Board} {c : Command} {answer : Answer} → Decided b c answer next → answer.number ≢ 6 → answer ≡ plain answer.number
others_name_nobody d = d.named.other

-- ---- request 4: the rights that roles hold

-- a done command leaves those that `rights_after` says
pub rights_are_left : {b next : Board} {c : Command} → Decided b c (plain 0) next → next.rights ≡ rights_after c b.rights
rights_are_left d = (d.done refl).rights_are

-- commands 6 and 7 leave all but the rights, the very tables among it
pub only_rights : {b next : Board} {c : Command} {answer : Answer} → Decided b c answer next → 5 < c.code
    → next ≡ board_of b.tables.live b.tables.i b.tables.a b.kept.derives b.kept.derivers b.kept.manager next.rights
only_rights {b} {next} {c} {answer} d h = dite (ℕ_discrete answer.number 0)
    (λ z.
    let passed = first_done (command_refusals b c) refl (subst (First (command_refusals b c)) z d.numbered) in
    let made = d.done z in
    board_stable next _ (λ k. passed.0 (λ s.
    let same : tables_of next ≡ tables_of b = made.tables_are ∙ tables_stay (tables_of b) c s.sound.shaped h in
    k (one_board made.fit record { sound = s.sound; right = s.right; rightful = subst (λ (t : Tables). RightsFit t.live next.rights) same made.fit.rightful } same refl))))
    (λ n. d.refused n ∙ ap (λ (h : List ℕ). board_of b.tables.live b.tables.i b.tables.a b.kept.derives b.kept.derivers b.kept.manager h) (ap (λ (x : Board). x.rights) (sym (d.refused n))))

pub tables_left : {b next : Board} {c : Command} {answer : Answer} → Decided b c answer next → 5 < c.code → tables_of next ≡ tables_of b
tables_left d h = ap tables_of (only_rights d h)

-- and where they name no right, the very board
pub no_right_named : {b next : Board} {c : Command} {answer : Answer} → Decided b c answer next → 5 < c.code → c.rights ≡ 0 → next ≡ b
no_right_named {b} {c = c} d h z = idle d (λ s formed. (tables_stay (tables_of b) c s.sound.shaped h, idle_rights c formed s.rightful h z))

-- a file that is read ends in HH exactly where its board has the founding rights, and every other one in HR
pub plain_file : {f : List ℕ} {b : Board} → ReadAnswer f 0 b → EndsHH f ↔ (b.rights ≡ founding_rights)
plain_file {b = b} r =
    let w = r.done refl in
    subst (λ (f : List ℕ). EndsHH f ↔ (b.rights ≡ founding_rights)) (sym w.0.bytes) (plain_where (tables_of b) b.rights w.0.rightful.rows)

pub rights_file : {f : List ℕ} {b : Board} → ReadAnswer f 0 b → EndsHR f ↔ (b.rights ≢ founding_rights)
rights_file {b = b} r =
    let w = r.done refl in
    subst (λ (f : List ℕ). EndsHR f ↔ (b.rights ≢ founding_rights)) (sym w.0.bytes) (rights_where (tables_of b) b.rights w.0.rightful.rows)

-- ---- a question has one answer too

module _ (b : Board) where
  pub one_derives : (x y : ℕ) {m n : ℕ} {p q : Bool} → DerivesAnswer b x y m p → DerivesAnswer b x y n q → (m ≡ n) × (p ≡ q)
  one_derives = derives_unique b

  pub one_scope : (a r : ℕ) {m n j k c d v w : ℕ} {p q : Bool} → ScopeAnswer b a r m p j c v → ScopeAnswer b a r n q k d w → (m ≡ n) × ◌≡◌ {A = Bool × ℕ × ℕ × ℕ} (p, j, c, v) (q, k, d, w)
  one_scope = scope_unique b

  pub one_line_manager : (r : ℕ) {m n : ℕ} {x y : Option ℕ} → ManagerAnswer b r m x → ManagerAnswer b r n y → (m ≡ n) × (x ≡ y)
  one_line_manager = manager_answer_unique b

  pub one_count_of_steps : (r : ℕ) {m n j k : ℕ} → StepsAnswer b r m j → StepsAnswer b r n k → (m ≡ n) × (j ≡ k)
  one_count_of_steps = steps_unique b

-- the same on a file, with the stretch, which is one part of the caller's own file, and a command, which leaves one buffer
module _ (f : List ℕ) where
  pub one_derives_on_file : (x y : ℕ) {m n : ℕ} {p q : Bool} → DerivesOnFile f x y m p → DerivesOnFile f x y n q → (m ≡ n) × (p ≡ q)
  one_derives_on_file = derives_file_unique f

  pub one_scope_on_file : (a r : ℕ) {m n j k c d v w : ℕ} {p q : Bool} → ScopeOnFile f a r m p j c v → ScopeOnFile f a r n q k d w → (m ≡ n) × ◌≡◌ {A = Bool × ℕ × ℕ × ℕ} (p, j, c, v) (q, k, d, w)
  one_scope_on_file = scope_file_unique f

  pub one_line_manager_on_file : (r : ℕ) {m n : ℕ} {x y : Option ℕ} → ManagerOnFile f r m x → ManagerOnFile f r n y → (m ≡ n) × (x ≡ y)
  one_line_manager_on_file = manager_file_unique f

  pub one_count_of_steps_on_file : (r : ℕ) {m n j k : ℕ} → StepsOnFile f r m j → StepsOnFile f r n k → (m ≡ n) × (j ≡ k)
  one_count_of_steps_on_file = steps_file_unique f

  pub one_stretch : (file_at : ℕ × ℕ) (role : ℕ) {m n : ℕ} {x y : List ℕ} {p q : ℕ × ℕ} → StretchOf f file_at role m x p → StretchOf f file_at role n y q → (m ≡ n) × (x ≡ y) × (p ≡ q)
  one_stretch = stretch_unique f

pub one_file_command : {f : List ℕ} {c : Command} {entry exit other : List ℕ} {p q : Place} {m n : Answer} {k l : ℕ}
    → CommandAnswer f c entry exit p m k → CommandAnswer f c entry other q n l → (p ≡ q) × (m ≡ n) × (k ≡ l) × (exit ≡ other)
one_file_command = command_unique

pub one_reading : {f : List ℕ} {x y : Board} {m n : ℕ} → ReadAnswer f m x → ReadAnswer f n y → (m ≡ n) × (x ≡ y)
one_reading = read_unique

pub one_writing : {b : Board} {entry : List ℕ} {at m n j k : ℕ} {x y : List ℕ} → WriteAnswer b entry at x m j → WriteAnswer b entry at y n k
    → (m ≡ n) × (j ≡ k) × (x ≡ y)
one_writing = write_unique

-- a sound board has one file, and what is written is that file; reading it gives that board; every other file is refused
pub file_written : {b : Board} {entry exit : List ℕ} {at len : ℕ} → WriteAnswer b entry at exit 0 len → take len (drop at exit) ≡ file_of (tables_of b) b.rights
file_written = written_file

pub file_read : (b : Board) → SoundBoard b → {number : ℕ} {board : Board} → ReadAnswer (file_of (tables_of b) b.rights) number board → (number ≡ 0) × (board ≡ b)
file_read = reads_back

pub file_accepted : {f : List ℕ} {number : ℕ} {board : Board} → ReadAnswer f number board
    → (number ≡ 0) ↔ ((t : Tables) × ((rights : List ℕ) × (f ≡ file_of t rights) × Sound t × RightsFit t.live rights))
file_accepted = accepted

-- the file that a done command on a file leaves is accepted, and reading it gives the board that the command made of the one in that file;
pub left_file_read : {f : List ℕ} {c : Command} {entry exit : List ℕ} {place : Place} {answer : Answer} {len : ℕ} → CommandAnswer f c entry exit place answer len → answer.number ≡ 0
    → (b : Board) × ((next : Board) × ReadAnswer f 0 b × Decided b c (plain 0) next × ReadAnswer (take len exit) 0 next)
left_file_read (unread r z e) n = absurd (z n)
left_file_read (refused r d z e) n = absurd (z n)
left_file_read (no_room r d w) n = absurd (omega (arith, n))
left_file_read (done {b = b} {next = next} r d w) n =
    (b, (next, r, d, subst (λ (f : List ℕ). ReadAnswer f 0 next) (sym (written_file w)) (sound_reads next (d.done refl).fit)))

-- so a chain of files is a chain of boards: its last file is read as the board that its commands, in one run, leave of the board in the first
pub chain_ran : {f g : List ℕ} {commands : List Command} {b : Board} → ReadAnswer f 0 b → Chain f commands g
    → (last : Board) × ReadAnswer g 0 last × Ran b commands (replicate (length commands) (plain 0)) last
chain_ran {b = b} r begun = (b, r, over)
chain_ran r (followed {c = c} a n rest) =
    let left = left_file_read a n in
    let next = left.1 in
    let later = chain_ran next.3 rest in
    (later.0, later.1, given (subst (λ (b : Board). Decided b c (plain 0) next.0) (read_unique next.1 r).1 next.2) later.2)

-- ---- demand 3: on every board reached, each live role but 0 has one line manager, and the way up by them ends at role 0

-- a command leaves a sound board sound: done it promises so, which rests on `sound_after`, and refused it changes nothing
pub command_keeps : {b next : Board} {c : Command} {answer : Answer} → Decided b c answer next → SoundBoard b → SoundBoard next
command_keeps {answer = answer} d s = dite (ℕ_discrete answer.number 0) (λ e. (d.done e).fit) (λ n. subst SoundBoard (sym (d.refused n)) s)

pub reached_sound : {b : Board} → Reached b → SoundBoard b
reached_sound founding = founding_sound
reached_sound (file r) = (r.done refl).1
reached_sound (command r d) = command_keeps d (reached_sound r)

-- a run on a board reached leaves one reached, whatever its number and its commands' answers
ran_reached : {b last : Board} {commands : List Command} {answers : List Answer} → Reached b → Ran b commands answers last → Reached last
ran_reached r over = r
ran_reached r (given d rest) = ran_reached (command r d) rest

pub run_reached : {rules : List (ℕ × Type 0)} {b board : Board} {commands : List Command} {entry exit : List ℕ} {number : ℕ} → Reached b
    → RanBy rules b commands entry exit number board → Reached board
run_reached {number = number} r a = dite (ℕ_discrete number 0) (λ e. ran_reached r (a.done e).ran) (λ n. subst Reached (sym (a.refused n).0) r)

module _ {b : Board} (reached : Reached b) where
  pub exactly_one_manager : (r : ℕ) → Live (tables_of b) r → r ≢ 0 → (m : ℕ) × LineManager (tables_of b) m r × ((n : ℕ) → LineManager (tables_of b) n r → n ≡ m)
  exactly_one_manager = one_manager (reached_sound reached).sound

  -- role 0 has none,
  pub root_has_no_manager : (m : ℕ) → LineManager (tables_of b) m 0 → ⊥
  root_has_no_manager = no_manager (reached_sound reached).sound

  -- going up arrives at role 0, in one number of steps
  pub exactly_one_climb : (r : ℕ) → Live (tables_of b) r → (n : ℕ) × Climb (tables_of b) r n × ((m : ℕ) → Climb (tables_of b) r m → m ≡ n)
  exactly_one_climb = one_climb (reached_sound reached).sound

  -- and one way: whoever goes up meets the same roles,
  pub exactly_one_way : {r m n : ℕ} (c : Climb (tables_of b) r m) (d : Climb (tables_of b) r n) → met c ≡ met d
  exactly_one_way = one_way (reached_sound reached).sound

  -- within (live roles - 1) steps,
  pub within_live_roles : {r n : ℕ} → Climb (tables_of b) r n → n + 1 ≤ ones b.tables.live
  within_live_roles = climb_short (reached_sound reached).sound

  -- and meets no role twice
  pub no_role_twice : {r n : ℕ} (c : Climb (tables_of b) r n) → Distinct (met c)
  no_role_twice = climb_distinct (reached_sound reached).sound

  -- ---- request 1: and what it keeps is document 01's derived relation, both ways round, and its line managers

  pub kept_derives : (x y : ℕ) → (y is_in row b.kept.derives x) ↔ Derives (tables_of b) x y
  kept_derives = derives_kept (reached_sound reached)

  pub kept_derivers : (x y : ℕ) → (x is_in row b.kept.derivers y) ↔ Derives (tables_of b) x y
  kept_derivers = derivers_kept (reached_sound reached)

  pub kept_manager : (r : ℕ) → ManagerIs (tables_of b) r (manager_at b.kept.manager r)
  kept_manager = manager_kept (reached_sound reached)

  -- so scope, why not, and steps can be read off it
  pub kept_scope : (a r : ℕ) → ScopeBy b.kept.derives b.kept.derivers a r ↔ Scope (tables_of b) a r
  kept_scope = scope_kept (reached_sound reached)

  pub kept_reason : (a r cause way : ℕ) → OutOfScopeBy b.kept.derives b.kept.derivers a r cause way ↔ OutOfScope (tables_of b) a r cause way
  kept_reason a r cause way = out_by (reached_sound reached).right.views

  pub kept_steps : (r : ℕ) → Live (tables_of b) r → Climb (tables_of b) r (steps_up b.kept.manager 64 0 r)
  kept_steps = steps_kept (reached_sound reached)
