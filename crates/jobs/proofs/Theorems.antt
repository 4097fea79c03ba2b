-- What became of the list after a history, whatever boards its events were on. Assumes nothing.
use mathlib.Core.Path.{◌≡◌, refl, sym, ap, ◌∙◌, subst}
use mathlib.Core.Bool.{Bool, true, false, not, ◌&&◌}
use mathlib.Core.Logic.{◌⊎◌, inl, inr, ⊎_elim, ◌≢◌, ◌↔◌, dite}
use mathlib.Core.List.{List, [], ◌∷◌, ◌++◌}
use Prim.Native.Nat.{ℕ, zero, suc, ◌+◌, ◌-◌, ◌≤◌, ◌<◌, zero-le}
use native.Mathlib.Nat.{not-suc-le-zero, not-le_of_lt}
use native.Mathlib.Decide.{ℕ_discrete}
use native.Mathlib.Omega.{arith}
use lib.Dec.{eqb, ltb}
use lib.ListN.{length, get_or, replicate, length-replicate, get_or-replicate, get_or-append}
use lib.Seq.{get_or-append-add}
use borrow.Author.Tests.{ne_eqb, ltb-true, lt-ltb, le-ltb}
use Rattle.sets.specs.Sets.{num}
use Rattle.sets.proofs.Bools.{true_or_false, not_so, false_no, and_right, lt_or_ge, cond_elim}
use Rattle.hierarchy.specs.First.{First}
use Rattle.hierarchy.proofs.FirstLaws.{first_unique}
use Rattle.hierarchy.proofs.Rows.{one_entry}
use Rattle.board.specs.declared.Board.{Board}
use Rattle.board.proofs.Rules.{first_done}
use Rattle.board.proofs.Unique.{answered_unique}
use Rattle.jobs.specs.Lists.{Jobs, role_at, is_listed, is_held, is_open, Held, Open, HeldBy}
use Rattle.jobs.specs.Answers.{Fits, new_list, start_refusals, StartAnswer, Settles, StateIs, LookAnswer}
use Rattle.jobs.specs.Histories.{Event, Entry, entry_of, EventAnswer, Went, History, claim_of, release_of, member_of, claims_of, releases_of, unreleased_of, LatestClaim, how_many}
use Rattle.jobs.specs.Histories.{Event.claim, Event.release, Went.over, Went.then}
use Rattle.std.specs.Prelude.{Option, Some, None}
use Rattle.jobs.proofs.Steps.{Whole, Did, open_not_held, step, stays_whole}
use Rattle.jobs.proofs.Steps.{Did.takes, Did.frees, Did.leaves}

-- ---- the list at the start

new_whole : (listed : List ℕ) → Whole (new_list listed).roles (new_list listed)
new_whole listed = record { listed_as = refl; marks_long = length-replicate {A = ℕ} 1024 0; members_long = length-replicate {A = ℕ} 1024 0 }

-- nothing is held in it
new_open : (listed : List ℕ) (j : ℕ) → is_held (new_list listed) j ≡ false
new_open listed j = not_so (is_held (new_list listed) j) (λ e. false_no (ap (λ (x : ℕ). not (eqb x 0)) (one_entry 1024 j 0)) (and_right (is_listed (new_list listed) j) _ e))

-- ---- along a history, from any whole list on

went_whole : {roles : List ℕ} {jobs last : Jobs} {log : List Entry} → Whole roles jobs → Went jobs log last → Whole roles last
went_whole w over = w
went_whole w (then {e = e} a rest) = went_whole (stays_whole e.event e.number w a) rest

-- claims and releases of a job take turns
turn : {jobs next : Jobs} {e : Entry} {j : ℕ} (c r x : ℕ) → Did jobs next e j → c + num (is_held next j) ≡ r + x
    → num (claim_of j e) + c + num (is_held jobs j) ≡ num (release_of j e) + r + x
turn c r x (takes p q h t) f = omega (arith, f, ap num p, ap num q, ap num h, ap num t.0)
turn c r x (frees p q h t) f = omega (arith, f, ap num p, ap num q, ap num h, ap num t)
turn c r x (leaves p q h t) f = omega (arith, f, ap num p, ap num q, ap num h)

went_counts : {roles : List ℕ} {jobs last : Jobs} {log : List Entry} → Whole roles jobs → Went jobs log last → (j : ℕ)
    → claims_of j log + num (is_held jobs j) ≡ releases_of j log + num (is_held last j)
went_counts w over j = refl
went_counts {last = last} w (then {e = e} {rest = log} a rest) j =
    turn (claims_of j log) (releases_of j log) (num (is_held last j)) (step e.event w a j) (went_counts (stays_whole e.event e.number w a) rest j)

-- where it was neither claimed nor released it stays
quiet : {jobs next : Jobs} {e : Entry} {j : ℕ} (c r : ℕ) → Did jobs next e j → num (claim_of j e) + c ≡ 0 → num (release_of j e) + r ≡ 0
    → (c ≡ 0) × (r ≡ 0) × (is_held next j ≡ is_held jobs j) × (get_or next.members j 0 ≡ get_or jobs.members j 0)
quiet c r (takes p q h t) f g = absurd (omega (arith, f, ap num p))
quiet c r (frees p q h t) f g = absurd (omega (arith, g, ap num q))
quiet c r (leaves p q h t) f g = (omega (arith, f), omega (arith, g), h, t)

went_quiet : {roles : List ℕ} {jobs last : Jobs} {log : List Entry} → Whole roles jobs → Went jobs log last → (j : ℕ)
    → claims_of j log ≡ 0 → releases_of j log ≡ 0 → {m : ℕ} → HeldBy jobs j m → HeldBy last j m
went_quiet w over j c r h = h
went_quiet w (then {e = e} {rest = log} a rest) j c r h =
    let q = quiet (claims_of j log) (releases_of j log) (step e.event w a j) c r in
    went_quiet (stays_whole e.event e.number w a) rest j q.0 q.1 (q.2 ∙ h.0, q.3 ∙ h.1)

-- a history cut anywhere is two in a row
went_parts : (front : List Entry) {rest : List Entry} {jobs last : Jobs} → Went jobs (front ++ rest) last → (between : Jobs) × Went jobs front between × Went between rest last
went_parts [] w = (_, over, w)
went_parts (e ∷ front) (then a w) = let p = went_parts front w in (p.0, then a p.1, p.2)

-- a claim that is done finds the job not held, and leaves it held by its member
took : {jobs next : Jobs} {e : Entry} {j : ℕ} → claim_of j e ≡ true → Did jobs next e j → (is_held jobs j ≡ false) × HeldBy next j (member_of e.event)
took c (takes p q h t) = (h, t)
took c (frees p q h t) = absurd (false_no p c)
took c (leaves p q h t) = absurd (false_no p c)

at_claim : {roles : List ℕ} {e : Entry} {rest : List Entry} {jobs last : Jobs} (j : ℕ) → Whole roles jobs → Went jobs (e ∷ rest) last → claim_of j e ≡ true
    → (is_held jobs j ≡ false) × ((next : Jobs) × Whole roles next × HeldBy next j (member_of e.event) × Went next rest last)
at_claim {e = e} j w (then a rest) c = let t = took c (step e.event w a j) in (t.0, (_, stays_whole e.event e.number w a, t.1, rest))

-- ---- from a start on

counts : {listed : List ℕ} {log : List Entry} {last : Jobs} → History listed log last → (j : ℕ) → claims_of j log ≡ releases_of j log + num (is_held last j)
counts {listed} h j = omega (arith, went_counts (new_whole listed) h.went j, ap num (new_open listed j))

-- For each job, its successful claims are as many as its successful releases, or one more.
pub one_more_at_most : {listed : List ℕ} {log : List Entry} {last : Jobs} → History listed log last → (j : ℕ)
    → (claims_of j log ≡ releases_of j log) ⊎ (claims_of j log ≡ suc (releases_of j log))
one_more_at_most {last = last} h j = ⊎_elim (λ e. inr (omega (arith, counts h j, ap num e))) (λ e. inl (omega (arith, counts h j, ap num e))) (true_or_false (is_held last j))

-- The held jobs are exactly those with more successful claims than successful releases.
pub held_by_count : {listed : List ℕ} {log : List Entry} {last : Jobs} → History listed log last → (j : ℕ) → Held last j ↔ (releases_of j log < claims_of j log)
held_by_count {last = last} h j = (
  λ e. omega (arith, counts h j, ap num e),
  λ l. ⊎_elim (λ e. e) (λ e. absurd (omega (arith, l, counts h j, ap num e))) (true_or_false (is_held last j)),
)

-- Between two successful claims of one job there is a successful release of it.
pub release_between : {listed : List ℕ} {last : Jobs} (before : List Entry) (e : Entry) (between : List Entry) (e' : Entry) (after : List Entry)
    → History listed (before ++ e ∷ between ++ e' ∷ after) last → (j : ℕ) → claim_of j e ≡ true → claim_of j e' ≡ true → 0 < releases_of j between
release_between {listed} before e between e' after h j c d =
    let late = went_parts (before ++ e ∷ between) h.went in
    let early = went_parts before late.1 in
    let one = at_claim j (went_whole (new_whole listed) early.1) early.2 c in
    let two = at_claim j (went_whole (new_whole listed) late.1) late.2 d in
    omega (arith, went_counts one.1.1 one.1.3 j, ap num one.1.2.0, ap num two.0)

-- ---- who holds a job

earlier : {jobs next : Jobs} {e : Entry} {j m : ℕ} (rest : List Entry) → Did jobs next e j → HeldBy next j m × (claims_of j rest ≡ 0) × (releases_of j rest ≡ 0)
    → LatestClaim (e ∷ rest) j m ⊎ (HeldBy jobs j m × (claims_of j (e ∷ rest) ≡ 0) × (releases_of j (e ∷ rest) ≡ 0))
earlier {e = e} rest (takes p q h t) k =
    inl (record { before = []; entry = e; after = rest; in_order = refl; claimed = p; member = sym t.1 ∙ k.0.1; latest = k.1; unreleased = k.2 })
earlier rest (frees p q h t) k = absurd (false_no t k.0.0)
earlier rest (leaves p q h t) k = inr ((sym h ∙ k.0.0, sym t ∙ k.0.1), omega (arith, k.1, ap num p), omega (arith, k.2, ap num q))

later : {e : Entry} {rest : List Entry} {j m : ℕ} → LatestClaim rest j m → LatestClaim (e ∷ rest) j m
later {e} l = record { before = e ∷ l.before; entry = l.entry; after = l.after; in_order = ap (λ (r : List Entry). e ∷ r) l.in_order; claimed = l.claimed; member = l.member; latest = l.latest; unreleased = l.unreleased }

-- whoever holds it in the end claimed it last, or held it from the first on
went_held : {roles : List ℕ} {jobs last : Jobs} {log : List Entry} {j m : ℕ} → Whole roles jobs → Went jobs log last → HeldBy last j m
    → LatestClaim log j m ⊎ (HeldBy jobs j m × (claims_of j log ≡ 0) × (releases_of j log ≡ 0))
went_held w over h = inr (h, refl, refl)
went_held {j = j} w (then {e = e} {rest = log} a rest) h =
    ⊎_elim (λ l. inl (later l)) (λ k. earlier log (step e.event w a j) k) (went_held (stays_whole e.event e.number w a) rest h)

-- A job is held by m exactly when its latest successful claim is by m and no successful release of it came after.
pub held_by_latest : {listed : List ℕ} {log : List Entry} {last : Jobs} → History listed log last → (j m : ℕ) → HeldBy last j m ↔ LatestClaim log j m
held_by_latest {listed} {last = last} h j m = (
  λ k. ⊎_elim (λ l. l) (λ f. absurd (false_no (new_open listed j) f.0.0)) (went_held (new_whole listed) h.went k),
  λ l. let parts = went_parts l.before (subst (λ (x : List Entry). Went (new_list listed) x last) l.in_order h.went) in
      let one = at_claim j (went_whole (new_whole listed) parts.1) parts.2 l.claimed in
      let k = went_quiet one.1.1 one.1.3 j l.latest l.unreleased one.1.2 in (k.0, k.1 ∙ l.member),
)

-- ---- never two

gone : (r : ℕ) → num (true && eqb (1 + r) 0) ≡ 0
gone r = ap num (ne_eqb (1 + r) 0 (λ e. omega (arith, e)))

-- an entry takes as many unreleased claims away as it adds, the one included that holds the job when it comes
turn_unreleased : {jobs next : Jobs} {e : Entry} {j : ℕ} (r u x : ℕ) → Did jobs next e j → u + num (is_held next j && eqb r 0) ≡ x
    → num (claim_of j e && eqb r 0) + u + num (is_held jobs j && eqb (num (release_of j e) + r) 0) ≡ x
turn_unreleased r u x (takes p q h t) f = rw (p, h) (omega (arith, rw t.0 at f))
turn_unreleased r u x (frees p q h t) f = rw (p, q, h) (omega (arith, rw t at f, gone r))
turn_unreleased r u x (leaves p q h t) f = let e : num false + r ≡ r = omega arith in rw (p, q, e) (omega (arith, rw h at f))

none_yet : (p : Bool) → 0 + num (p && true) ≡ num p
none_yet true = refl
none_yet false = refl

went_unreleased : {roles : List ℕ} {jobs last : Jobs} {log : List Entry} → Whole roles jobs → Went jobs log last → (j : ℕ)
    → unreleased_of j log + num (is_held jobs j && eqb (releases_of j log) 0) ≡ num (is_held last j)
went_unreleased {last = last} w over j = none_yet (is_held last j)
went_unreleased {last = last} w (then {e = e} {rest = log} a rest) j =
    turn_unreleased (releases_of j log) (unreleased_of j log) (num (is_held last j)) (step e.event w a j) (went_unreleased (stays_whole e.event e.number w a) rest j)

-- A held job has just one successful claim without a successful release of it after, and a job that isn't held has none.
pub held_where_unreleased : {listed : List ℕ} {log : List Entry} {last : Jobs} → History listed log last → (j : ℕ) → unreleased_of j log ≡ num (is_held last j)
held_where_unreleased {listed} {log} h j = omega (arith, went_unreleased (new_whole listed) h.went j, ap (λ (p : Bool). num (p && eqb (releases_of j log) 0)) (new_open listed j))

at_most_one : (p : Bool) → num p ≤ 1
at_most_one true = omega arith
at_most_one false = omega arith

-- So no job ever has two holders: of no history are there two successful claims of one job, each with no successful release of it after.
pub one_holder : {listed : List ℕ} {log : List Entry} {last : Jobs} → History listed log last → (j : ℕ) → unreleased_of j log ≤ 1
one_holder {last = last} h j = omega (arith, held_where_unreleased h j, at_most_one (is_held last j))

-- What that shuts out: two claims of one job in a row, both answered 0, whoever made them, are two.
two_in_a_row : (b : Board) (m n r : ℕ) → unreleased_of 0 (entry_of (claim b 0 m r) 0 ∷ entry_of (claim b 0 n r) 0 ∷ []) ≡ 2
two_in_a_row b m n r = refl

-- ---- how many are open and how many held

past_end : (xs : List ℕ) (n j d : ℕ) → length xs ≤ j → j < length xs + n → get_or (xs ++ replicate n 64) j d ≡ 64
past_end xs n j d g l =
    let e : length xs + (j - length xs) ≡ j = omega (arith, g) in
    ap (λ (k : ℕ). get_or (xs ++ replicate n 64) k d) (sym e) ∙ get_or-append-add xs (replicate n 64) (j - length xs) d ∙ get_or-replicate n (j - length xs) 64 d (omega (arith, g, l))

-- the jobs that are listed are the first ones
new_listed : {listed : List ℕ} → Fits listed → (j : ℕ) → ltb (role_at (new_list listed).roles j) 64 ≡ ltb j (length listed)
unfolding role_at
new_listed {listed} f j = ⊎_elim
    (λ l. rw (lt-ltb j 1024 (omega (arith, l, f.few)), get_or-append listed (replicate (1024 - length listed) 64) _ j l) (lt-ltb _ 64 (f.roles j l) ∙ sym (lt-ltb j (length listed) l)))
    (λ g. let no = sym (le-ltb j (length listed) g) in cond_elim (λ (x : ℕ). ltb x 64 ≡ ltb j (length listed)) (ltb j 1024) _ 64
    (λ p. ap (λ (x : ℕ). ltb x 64) (past_end listed (1024 - length listed) j _ g (omega (arith, ltb-true j 1024 p, f.few))) ∙ no) (λ _. no))
    (lt_or_ge j (length listed))

in_two : (p q : Bool) → num (p && q) + num (p && not q) ≡ num p
in_two true true = refl
in_two true false = refl
in_two false q = refl

-- two tests, of which one says yes of each of the first k
both : (p q : ℕ → Bool) (k : ℕ) → ((j : ℕ) → num (p j) + num (q j) ≡ num (ltb j k)) → (n : ℕ)
    → (n ≤ k → how_many p n + how_many q n ≡ n) × (k ≤ n → how_many p n + how_many q n ≡ k)
unfolding how_many
both p q k one zero = (λ _. refl, λ l. omega (arith, l))
both p q k one (suc n) = let f = both p q k one n in (
  λ l. omega (arith, f.0 (omega (arith, l)), one n, ap num (lt-ltb n k l)),
  λ g. ⊎_elim (λ l. omega (arith, g, l, f.0 (omega (arith, l)), one n, ap num (lt-ltb n k l))) (λ le. omega (arith, f.1 le, one n, ap num (le-ltb n k le))) (lt_or_ge n k),
)

-- The jobs listed, and their roles, are those of the start.
pub roles_stay : {listed : List ℕ} {log : List Entry} {last : Jobs} → History listed log last → last.roles ≡ (new_list listed).roles
roles_stay {listed} h = (went_whole (new_whole listed) h.went).listed_as

pub listed_are : {listed : List ℕ} {log : List Entry} {last : Jobs} → History listed log last → (j : ℕ) → is_listed last j ≡ ltb j (length listed)
listed_are h j = ap (λ (r : List ℕ). ltb (role_at r j) 64) (roles_stay h) ∙ new_listed h.fits j

-- Open plus held jobs equal the jobs listed.
pub open_and_held : {listed : List ℕ} {log : List Entry} {last : Jobs} → History listed log last → how_many (is_open last) 1024 + how_many (is_held last) 1024 ≡ length listed
open_and_held {listed} {last = last} h = (both (is_open last) (is_held last) (length listed)
    (λ j. in_two (is_listed last j) (eqb (get_or last.marks j 0) 0) ∙ ap num (listed_are h j)) 1024).1 h.fits.few

-- ---- a start

fits_stable : {listed : List ℕ} → ((Fits listed → ⊥) → ⊥) → Fits listed
fits_stable {listed} h = record {
  few = ⊎_elim (λ g. absurd (h (λ f. omega (arith, g, f.few)))) (λ l. l) (lt_or_ge 1024 (length listed));
  roles = λ j l. ⊎_elim (λ r. r) (λ g. absurd (h (λ f. not-le_of_lt (f.roles j l) g))) (lt_or_ge _ 64);
}

begun : {some : List ℕ} {list : Jobs} → Fits some → list ≡ new_list some → History some [] list
begun {some} f e = record { fits = f; went = subst (λ (l : Jobs). Went (new_list some) [] l) (sym e) over }

-- A start that is done begins a history of the jobs handed in,
pub done_begins : {listed : List ℕ} {number : ℕ} {list : Jobs} → StartAnswer listed number list → number ≡ 0 → History listed [] list
done_begins {listed} s z = begun (fits_stable (first_done (start_refusals listed) refl (subst (First (start_refusals listed)) z s.numbered)).0) (s.done z)

-- one that is refused begins a history of none,
pub refused_begins : {listed : List ℕ} {number : ℕ} {list : Jobs} → StartAnswer listed number list → number ≢ 0 → History [] [] list
refused_begins s z = begun (record { few = zero-le; roles = λ j l. absurd (not-suc-le-zero l) }) (s.refused z)

-- and so any start begins one.
pub start_begins : {listed : List ℕ} {number : ℕ} {list : Jobs} → StartAnswer listed number list → (some : List ℕ) × History some [] list
start_begins {listed} {number} s = dite (ℕ_discrete number 0) (λ z. (listed, done_begins s z)) (λ z. ([], refused_begins s z))

went_on : {jobs now next : Jobs} {log : List Entry} (e : Entry) → Went jobs log now → EventAnswer e.event now e.number next → Went jobs (log ++ e ∷ []) next
went_on e over a = then a over
went_on e (then b rest) a = then b (went_on e rest a)

-- And what a claim or a release promises is the next step of the history that led to its list.
pub goes_on : {listed : List ℕ} {log : List Entry} {now next : Jobs} (v : Event) (n : ℕ) → History listed log now → EventAnswer v now n next
    → History listed (log ++ entry_of v n ∷ []) next
goes_on v n h a = record { fits = h.fits; went = went_on (entry_of v n) h.went a }

-- ---- what comes back is one thing

settles_unique : {rules : List (ℕ × Type 0)} {otherwise after x y : Jobs} {m n : ℕ} → Settles rules otherwise after m x → Settles rules otherwise after n y → (m ≡ n) × (x ≡ y)
settles_unique {rules} {m = m} {n} p q =
    let e = first_unique rules m n p.numbered q.numbered in
    (e, dite (ℕ_discrete m 0) (λ z. p.done z ∙ sym (q.done (sym e ∙ z))) (λ z. p.refused z ∙ sym (q.refused (λ d. z (e ∙ d)))))

-- Two answers to the same claim or release on the same list coincide: the number and the list they leave.
pub answer_unique : (e : Event) (jobs : Jobs) {m n : ℕ} {x y : Jobs} → EventAnswer e jobs m x → EventAnswer e jobs n y → (m ≡ n) × (x ≡ y)
answer_unique (claim b j m r) jobs p q = settles_unique p q
answer_unique (release b j m r) jobs p q = settles_unique p q

-- So do two answers to the same start,
pub start_unique : {listed : List ℕ} {m n : ℕ} {x y : Jobs} → StartAnswer listed m x → StartAnswer listed n y → (m ≡ n) × (x ≡ y)
start_unique p q = settles_unique p q

same_holder : (jobs : Jobs) (j : ℕ) {m n : ℕ} → HeldBy jobs j m → HeldBy jobs j n → m ≡ n
same_holder jobs j h k = sym h.1 ∙ k.1

-- and to the same look at a job.
pub look_unique : (jobs : Jobs) (j : ℕ) {m n : ℕ} {v w : Option ℕ} → LookAnswer jobs j m v → LookAnswer jobs j n w → (m ≡ n) × (v ≡ w)
look_unique jobs j = answered_unique (λ _. one)
  where
    apart : Open jobs j → Held jobs j → ⊥
    apart o = false_no (open_not_held (is_listed jobs j) (eqb (get_or jobs.marks j 0) 0) o)

    one : (v w : Option ℕ) → StateIs jobs j v → StateIs jobs j w → v ≡ w
    one None None p q = refl
    one None (Some n) p q = absurd (apart p q.0)
    one (Some m) None p q = absurd (apart q p.0)
    one (Some m) (Some n) p q = ap Some (same_holder jobs j p q)

same_went : {jobs other x y : Jobs} {log : List Entry} → jobs ≡ other → Went jobs log x → Went other log y → x ≡ y
same_went e over over = e
same_went e (then {next = n} {e = d} p r) (then q s) =
    same_went (answer_unique d.event _ (subst (λ (l : Jobs). EventAnswer d.event l d.number n) e p) q).1 r s

-- The same log from the same list on leads to one list.
pub went_unique : {jobs x y : Jobs} {log : List Entry} → Went jobs log x → Went jobs log y → x ≡ y
went_unique = same_went refl
