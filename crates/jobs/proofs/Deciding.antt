-- From the board's answer to the list's: what the proofs of the functions cite. Assumes nothing.
use mathlib.Core.Path.{◌≡◌, refl, sym, ap, ap₂, ◌∙◌, subst}
use mathlib.Core.Bool.{Bool, true, false, cond, not}
use mathlib.Core.Logic.{◌⊎◌, inr, ◌≢◌, ⊎_elim, ◌↔◌}
use mathlib.Core.List.{List, ◌++◌}
use Prim.Native.Nat.{ℕ, zero, suc, ◌-◌, ◌≤◌, ◌<◌}
use native.Mathlib.Omega.{arith}
use lib.Dec.{eqb, ltb}
use lib.ListN.{length, get_or, set, drop, replicate}
use borrow.Author.Tests.{eqb-true, eq-eqb, ne_eqb, lt-ltb, le-ltb}
use Rattle.sets.proofs.Bools.{and_both, and_right, false_no, lt_or_ge}
use Rattle.hierarchy.specs.Words.{Derives, Scope}
use Rattle.hierarchy.specs.First.{First}
use Rattle.hierarchy.proofs.FirstLaws.{hit, pass, none}
use Rattle.board.specs.Boards.{tables_of}
use Rattle.board.specs.declared.Board.{Board}
use Rattle.board.proofs.Rules.{first_done, first_refused, first_next}
use Rattle.questions.specs.Questions.{refusals, DerivesAnswer, ScopeAnswer}
use Rattle.jobs.specs.Lists.{Jobs, jobs_of, role_at, role_of, Open, Held}
use Rattle.jobs.specs.Answers.{Fits, StartAnswer, on_board, Settles, ClaimAnswer, ReleaseAnswer, HolderOf, StateIs}
use Rattle.std.specs.Prelude.{Option, Some, None, is_some, is_none}

-- ---- an answer, by its number

module _ {rules : List (ℕ × Type 0)} {otherwise after list : Jobs} where
  settles_refused : {n : ℕ} → First rules n → n ≢ 0 → list ≡ otherwise → Settles rules otherwise after n list
  settles_refused f z e = record { numbered = f; done = λ k. absurd (z k); refused = λ _. e }

  settles_done : First rules 0 → list ≡ after → Settles rules otherwise after 0 list
  settles_done f e = record { numbered = f; done = λ _. e; refused = λ k. absurd (k refl) }

-- ---- the start

drop_replicate : (k n a : ℕ) → k ≤ n → drop k (replicate n a) ≡ replicate (n - k) a
drop_replicate zero n a l = ap (λ (m : ℕ). replicate m a) {x = n} {y = n - 0} (omega arith)
drop_replicate (suc k) zero a l = absurd (omega (arith, l))
drop_replicate (suc k) (suc n) a l = drop_replicate k n a (omega arith) ∙ ap (λ (m : ℕ). replicate m a) {x = n - k} {y = suc n - suc k} (omega arith)

-- a start that is refused, and one that is done
pub starts_empty : {listed roles marks members : List ℕ} → (Fits listed → ⊥) → roles ≡ replicate 1024 64 → marks ≡ replicate 1024 0 → members ≡ replicate 1024 0
    → StartAnswer listed 2 (jobs_of roles marks members)
starts_empty n u v w = settles_refused (hit _ _ _ n) (λ k. omega (arith, k)) (rw (u, v, w) refl)

pub starts : {listed roles marks members : List ℕ} → Fits listed → roles ≡ listed ++ drop (length listed) (replicate 1024 64) → marks ≡ replicate 1024 0
    → members ≡ replicate 1024 0 → StartAnswer listed 0 (jobs_of roles marks members)
starts {listed} f u v w = settles_done (pass _ _ _ _ (λ n. n f) none) (rw (u, v, w, drop_replicate (length listed) 1024 64 f.few) refl)

-- ---- the role of a job

pub role_past : (roles : List ℕ) (j : ℕ) → 1024 ≤ j → 64 ≡ role_at roles j
unfolding role_at
role_past roles j g = sym (ap (λ (p : Bool). cond p (get_or roles j 0) 64) (le-ltb j 1024 g))

pub role_there : (roles : List ℕ) (j : ℕ) → j < 1024 → get_or roles j 0 ≡ role_at roles j
unfolding role_at
role_there roles j l = sym (ap (λ (p : Bool). cond p (get_or roles j 0) 64) (lt-ltb j 1024 l))

-- a job with a role has a place
pub placed : (roles : List ℕ) (j : ℕ) → role_at roles j < 64 → j < 1024
placed roles j l = ⊎_elim (λ k. k) (λ g. absurd (omega (arith, l, role_past roles j g))) (lt_or_ge j 1024)

pub unlisted : (roles : List ℕ) (j : ℕ) {said : Bool} → (said ≡ true) ↔ (role_at roles j < 64) → said ≡ false → 63 < role_at roles j
unlisted roles j f e = ⊎_elim (λ l. absurd (false_no e (f.1 l))) (λ g. omega (arith, g)) (lt_or_ge (role_at roles j) 64)

-- a role that a question was not refused over is one
unrefused : (b : Board) (x y : ℕ) → First (refusals b x y) 0 → y < 64
unrefused b x y f = ⊎_elim (λ l. l) (λ g. absurd ((first_done (refusals b x y) refl f).1.0 (inr g))) (lt_or_ge y 64)

-- so the job is in the list
pub found : (b : Board) (x : ℕ) (roles : List ℕ) (j : ℕ) {y : ℕ} → y ≡ role_at roles j → First (refusals b x y) 0 → j < 1024
found b x roles j {y} e f = placed roles j (subst (λ (r : ℕ). r < 64) e (unrefused b x y f))

-- ---- open and held, by the mark

module _ (jobs : Jobs) (j : ℕ) (l : role_of jobs j < 64) where
  marked_open : get_or jobs.marks j 0 ≡ 0 → Open jobs j
  marked_open e = and_both _ _ (lt-ltb _ 64 l) (eq-eqb _ 0 e)

  marked_held : get_or jobs.marks j 0 ≢ 0 → Held jobs j
  marked_held n = and_both _ _ (lt-ltb _ 64 l) (ap not (ne_eqb _ 0 n))

  -- and so its holder says what a look at it is to say
  pub state_by : (h : Option ℕ) → HolderOf jobs.marks jobs.members j h → StateIs jobs j h
  state_by None e = marked_open e
  state_by (Some m) e = (marked_held e.0, e.1)

pub open_mark : (jobs : Jobs) (j : ℕ) → Open jobs j → get_or jobs.marks j 0 ≡ 0
open_mark jobs j e = eqb-true _ 0 (and_right (ltb (role_of jobs j) 64) (eqb (get_or jobs.marks j 0) 0) e)

pub held_mark : (jobs : Jobs) (j : ℕ) → Held jobs j → get_or jobs.marks j 0 ≢ 0
held_mark jobs j e z = false_no (ap not (eq-eqb _ 0 z)) (and_right (ltb (role_of jobs j) 64) (not (eqb (get_or jobs.marks j 0) 0)) e)

-- a job has a holder, or none
some_held : (marks members : List ℕ) (j : ℕ) (h : Option ℕ) → HolderOf marks members j h → is_some h ≡ true → get_or marks j 0 ≢ 0
some_held marks members j None p e = absurd (false_no refl e)
some_held marks members j (Some m) p e = p.0

none_open : (marks members : List ℕ) (j : ℕ) (h : Option ℕ) → HolderOf marks members j h → is_some h ≡ false → get_or marks j 0 ≡ 0
none_open marks members j None p e = p
none_open marks members j (Some m) p e = absurd (false_no e refl)

-- a role that something bars from a scope is not in it
pub barred : {A : Type 0} (bar : Option A) → is_some bar ≡ true → is_none bar ≡ false
barred None e = absurd (false_no refl e)
barred (Some x) e = refl

pub unbarred : {A : Type 0} (bar : Option A) → is_some bar ≡ false → is_none bar ≡ true
unbarred None e = refl
unbarred (Some x) e = absurd (false_no e refl)

-- ---- the board's numbers first, then the list's

-- asked of the number that was read as the job's role
module _ (b : Board) (jobs : Jobs) (j r : ℕ) {y : ℕ} (e : y ≡ role_of jobs j) where
  module _ (n : ℕ) (f : First (refusals b r y) n) where
    asked : First (on_board b jobs j r) n
    asked = subst (λ (x : ℕ). First (refusals b r x) n) e f

    -- a refusal of the board's is the list's, whatever comes after it
    pub refused_first : (rest : List (ℕ × Type 0)) {after : Jobs} → n ≢ 0 → Settles (on_board b jobs j r ++ rest) jobs after n jobs
    refused_first rest z = settles_refused (first_refused (on_board b jobs j r) rest n z asked) z refl

  module _ (f : First (refusals b r y) 0) where
    listed : role_of jobs j < 64
    listed = unrefused b r (role_of jobs j) (asked 0 f)

    next : (k : ℕ) (rest : List (ℕ × Type 0)) → First rest k → First (on_board b jobs j r ++ rest) k
    next k rest h = first_next (on_board b jobs j r) rest k (first_done (on_board b jobs j r) refl (asked 0 f)) h

  module _ {said : Bool} (m : ℕ) (d : DerivesAnswer b r y 0 said) (h : Option ℕ) (w : HolderOf jobs.marks jobs.members j h) where
    pub claim_14 : is_some h ≡ true → ClaimAnswer b jobs j m r 14 jobs
    claim_14 k = settles_refused (next d.numbered 14 _ (hit _ _ _ (λ o. some_held jobs.marks jobs.members j h w k (open_mark jobs j o)))) (λ q. omega (arith, q)) refl

    module _ (k : is_some h ≡ false) where
      is_open_lem : (Open jobs j → ⊥) → ⊥
      is_open_lem n = n (marked_open jobs j (listed d.numbered) (none_open jobs.marks jobs.members j h w k))

      derived : (said ≡ true) ↔ Derives (tables_of b) r (role_of jobs j)
      derived = subst (λ (x : ℕ). (said ≡ true) ↔ Derives (tables_of b) r x) e (d.done refl)

      pub claim_15 : said ≡ false → ClaimAnswer b jobs j m r 15 jobs
      claim_15 q = settles_refused (next d.numbered 15 _ (pass _ _ _ _ is_open_lem (hit _ _ _ (λ h. false_no q (derived.1 h))))) (λ q. omega (arith, q)) refl

      pub claim_done : said ≡ true → {marks members : List ℕ} → marks ≡ set jobs.marks j 1 → members ≡ set jobs.members j m
          → ClaimAnswer b jobs j m r 0 (jobs_of jobs.roles marks members)
      claim_done q u v = settles_done (next d.numbered 0 _ (pass _ _ _ _ is_open_lem (pass _ _ _ _ (λ h. h (derived.0 q)) none))) (ap₂ (jobs_of jobs.roles) u v)

  module _ {count cause way : ℕ} {said : Bool} (m : ℕ) (d : ScopeAnswer b r y 0 said count cause way) where
    pub release_14 : HolderOf jobs.marks jobs.members j None → ReleaseAnswer b jobs j m r 14 jobs
    release_14 k = settles_refused (next d.numbered 14 _ (hit _ _ _ (λ h. held_mark jobs j h k))) (λ q. omega (arith, q)) refl

    module _ (by : ℕ) (w : HolderOf jobs.marks jobs.members j (Some by)) where
      held : Held jobs j
      held = marked_held jobs j (listed d.numbered) w.0

      scoped : (said ≡ true) ↔ Scope (tables_of b) r (role_of jobs j)
      scoped = subst (λ (x : ℕ). (said ≡ true) ↔ Scope (tables_of b) r x) e (d.done refl).0.0

      pub release_15 : by ≢ m → said ≡ false → ReleaseAnswer b jobs j m r 15 jobs
      release_15 h q = settles_refused (next d.numbered 15 _ (pass _ _ _ _ (λ u. u held) (hit _ _ _ (λ k. h (sym w.1 ∙ k.1), λ k. false_no q (scoped.1 k))))) (λ q. omega (arith, q)) refl

      -- by the holder, or through a scope that has it
      pub release_done : (by ≡ m) ⊎ (said ≡ true) → {marks members : List ℕ} → marks ≡ set jobs.marks j 0 → members ≡ set jobs.members j 0
          → ReleaseAnswer b jobs j m r 0 (jobs_of jobs.roles marks members)
      release_done h u v = settles_done
          (next d.numbered 0 _ (pass _ _ _ _ (λ k. k held) (pass _ _ _ _ (λ k. ⊎_elim (λ q. k.0 (held, w.1 ∙ q)) (λ q. k.1 (scoped.0 q)) h) none)))
          (ap₂ (jobs_of jobs.roles) u v)
