-- What one event does to each job: a claim that is done takes it, a release that is done frees it, anything else leaves it as it was.
-- Assumes nothing.
use mathlib.Core.Path.{◌≡◌, refl, sym, ap, ap₂, ◌∙◌, subst}
use mathlib.Core.Bool.{Bool, true, false, not, ◌&&◌}
use mathlib.Core.Logic.Iff
use mathlib.Core.Logic.{⊎_elim, ◌≢◌, dite}
use mathlib.Core.List.{List}
use Prim.Native.Nat.{ℕ}
use native.Mathlib.Decide.{ℕ_discrete}
use lib.Dec.{eqb}
use lib.ListN.{length, get_or, set, length-set}
use lib.Seq.{get_or-set_same, get_or-set_other}
use borrow.Author.Tests.{eqb-true, eqb-false, ltb-true, eq-eqb, ne_eqb}
use Rattle.sets.proofs.Bools.{true_or_false, and_left, decided}
use Rattle.hierarchy.specs.First.{First}
use Rattle.board.proofs.Rules.{stable, first_done}
use Rattle.board.specs.declared.Board.{Board}
use Rattle.jobs.specs.Lists.{Jobs, jobs_of, role_of, is_listed, is_held, Held, Open, HeldBy, taken, freed}
use Rattle.jobs.specs.Answers.{claim_refusals, release_refusals, Settles}
use Rattle.jobs.specs.Histories.{Event, Event.claim, Event.release, Entry, entry_of, EventAnswer, claims, releases, claim_of, release_of, member_of}
use Rattle.jobs.proofs.Deciding.{placed}

-- what no event changes: the roles, and that the other rows have 1,024 places
pub record Whole (roles : List ℕ) (jobs : Jobs) : Type 0 where
  pub listed_as : jobs.roles ≡ roles
  pub marks_long : length jobs.marks ≡ 1024
  pub members_long : length jobs.members ≡ 1024

-- what an entry may have been to job j, and what it then did to it
pub data Did (jobs next : Jobs) (e : Entry) (j : ℕ) : Type 0 where
  takes : claim_of j e ≡ true → release_of j e ≡ false → is_held jobs j ≡ false → HeldBy next j (member_of e.event) → Did jobs next e j
  frees : claim_of j e ≡ false → release_of j e ≡ true → Held jobs j → is_held next j ≡ false → Did jobs next e j
  leaves : claim_of j e ≡ false → release_of j e ≡ false → is_held next j ≡ is_held jobs j → get_or next.members j 0 ≡ get_or jobs.members j 0 → Did jobs next e j

-- ---- tests

-- a row of a table that says "not" failed: so it is
so : (p : Bool) → ((p ≡ true → ⊥) → ⊥) → p ≡ true
so p = stable (decided p Iff.rfl)

pub open_not_held : (p q : Bool) → (p && q) ≡ true → (p && not q) ≡ false
open_not_held true true e = refl
open_not_held true false e = sym e
open_not_held false q e = refl

-- ---- place k of both rows is written to

abbrev written : Jobs → ℕ → ℕ → ℕ → Jobs
written jobs k u v = jobs_of jobs.roles (set jobs.marks k u) (set jobs.members k v)

whole_written : {roles : List ℕ} {jobs : Jobs} (k u v : ℕ) → Whole roles jobs → Whole roles (written jobs k u v)
whole_written {jobs = jobs} k u v w = record { listed_as = w.listed_as; marks_long = length-set jobs.marks k u ∙ w.marks_long; members_long = length-set jobs.members k v ∙ w.members_long }

-- the job itself is held where the mark isn't 0,
module _ {roles : List ℕ} {jobs : Jobs} (w : Whole roles jobs) (k u v : ℕ) (l : is_listed jobs k ≡ true) where
  place : (row : List ℕ) (x : ℕ) → length row ≡ 1024 → get_or (set row k x) k 0 ≡ x
  place row x e = get_or-set_same row k x 0 (rw e (placed jobs.roles k (ltb-true (role_of jobs k) 64 l)))

  itself : is_held (written jobs k u v) k ≡ not (eqb u 0)
  itself = ap₂ (λ (p : Bool) (x : ℕ). p && not (eqb x 0)) l (place jobs.marks u w.marks_long)

-- and another stays
other : (jobs : Jobs) (k u v j : ℕ) → j ≢ k → (is_held (written jobs k u v) j ≡ is_held jobs j) × (get_or (set jobs.members k v) j 0 ≡ get_or jobs.members j 0)
other jobs k u v j d =
    (ap (λ (x : ℕ). is_listed jobs j && not (eqb x 0)) (get_or-set_other jobs.marks k j u 0 d), get_or-set_other jobs.members k j v 0 d)

-- ---- one event

module _ {roles : List ℕ} {jobs : Jobs} (w : Whole roles jobs) (b : Board) (k m r : ℕ) (j : ℕ) where
  claim_done : Open jobs k → Did jobs (taken jobs k m) (entry_of (claim b k m r) 0) j
  claim_done o = ⊎_elim
      (λ p. subst (λ (i : ℕ). Did jobs (taken jobs k m) (entry_of (claim b k m r) 0) i) (eqb-true k j p)
      (takes (eq-eqb k k refl) refl (open_not_held (is_listed jobs k) (eqb (get_or jobs.marks k 0) 0) o) (itself w k 1 m (and_left _ _ o), place w k 1 m (and_left _ _ o) jobs.members m w.members_long)))
      (λ p. let q = other jobs k 1 m j (λ e. eqb-false k j p (sym e)) in leaves p refl q.0 q.1) (true_or_false (eqb k j))

  release_done : Held jobs k → Did jobs (freed jobs k) (entry_of (release b k m r) 0) j
  release_done h = ⊎_elim
      (λ p. subst (λ (i : ℕ). Did jobs (freed jobs k) (entry_of (release b k m r) 0) i) (eqb-true k j p) (frees refl (eq-eqb k k refl) h (itself w k 0 0 (and_left _ _ h))))
      (λ p. let q = other jobs k 0 0 j (λ e. eqb-false k j p (sym e)) in leaves refl p q.0 q.1) (true_or_false (eqb k j))

-- by the number: a refusal leaves every job
settled : (v : Event) {rules : List (ℕ × Type 0)} {jobs after next : Jobs} {n : ℕ} (j : ℕ) → Settles rules jobs after n next
    → (First rules 0 → Did jobs after (entry_of v 0) j) → Did jobs next (entry_of v n) j
settled v {rules} {jobs} {next = next} {n} j a f = dite (ℕ_discrete n 0)
    (λ z. subst (λ (i : ℕ). Did jobs next (entry_of v i) j) (sym z) (subst (λ (l : Jobs). Did jobs l (entry_of v 0) j) (sym (a.done z)) (f (subst (First rules) z a.numbered))))
    (λ z. let e = a.refused z in let no = ne_eqb n 0 z in
    leaves (ap (λ (p : Bool). p && claims j v) no) (ap (λ (p : Bool). p && releases j v) no) (ap (λ (l : Jobs). is_held l j) e) (ap (λ (l : Jobs). get_or l.members j 0) e))

-- What an event does to job j: its table says that the job was open, or held.
pub step : {roles : List ℕ} (v : Event) {jobs next : Jobs} {n : ℕ} → Whole roles jobs → EventAnswer v jobs n next → (j : ℕ) → Did jobs next (entry_of v n) j
step (claim b k m r) {jobs} w a j = settled (claim b k m r) j a (λ f. claim_done w b k m r j (so _ (first_done (claim_refusals b jobs k r) refl f).1.1.1.0))
step (release b k m r) {jobs} w a j = settled (release b k m r) j a (λ f. release_done w b k m r j (so _ (first_done (release_refusals b jobs k m r) refl f).1.1.1.0))

-- and the list stays whole
kept : {rules : List (ℕ × Type 0)} {jobs after next : Jobs} {n : ℕ} (P : Jobs → Type 0) → Settles rules jobs after n next → P jobs → P after → P next
kept {n = n} P a p q = dite (ℕ_discrete n 0) (λ z. subst P (sym (a.done z)) q) (λ z. subst P (sym (a.refused z)) p)

pub stays_whole : {roles : List ℕ} (v : Event) (n : ℕ) {jobs next : Jobs} → Whole roles jobs → EventAnswer v jobs n next → Whole roles next
stays_whole {roles} (claim b k m r) n w a = kept (Whole roles) a w (whole_written k 1 m w)
stays_whole {roles} (release b k m r) n w a = kept (Whole roles) a w (whole_written k 0 0 w)
