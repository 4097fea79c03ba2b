-- A history: claims and releases, one after the other from a start on, each on a board of its own, whatever board that is.
use Rattle.std.specs.Prelude.{◌≡◌, Bool, true, false, ◌&&◌, List, [], ◌∷◌, ◌++◌, ℕ, zero, suc, ◌+◌, eqb}
use Rattle.sets.specs.Sets.{num}
use Rattle.board.specs.declared.Board.{Board}
use Rattle.jobs.specs.Lists.{Jobs}
use Rattle.jobs.specs.Answers.{Fits, new_list, ClaimAnswer, ReleaseAnswer}

-- of a job, by a member, in a role acted in
pub data Event : Type 0 where
  claim : (b : Board) (job member role : ℕ) → Event
  release : (b : Board) (job member role : ℕ) → Event

-- in the log: what was asked, and the number that came back
pub record Entry : Type 0 where
  pub event : Event
  pub number : ℕ

abbrev pub entry_of : Event → ℕ → Entry
entry_of v n = record { event = v; number = n }

abbrev pub EventAnswer : Event → Jobs → ℕ → Jobs → Type 0
EventAnswer (claim b j m r) jobs = ClaimAnswer b jobs j m r
EventAnswer (release b j m r) jobs = ReleaseAnswer b jobs j m r

-- `Went jobs log last`: from the list `jobs` on these were asked and answered, each on the list that the one before it left
pub data Went : Jobs → List Entry → Jobs → Type 0 where
  over : {jobs : Jobs} → Went jobs [] jobs
  then : {jobs next last : Jobs} {e : Entry} {rest : List Entry} → EventAnswer e.event jobs e.number next → Went next rest last → Went jobs (e ∷ rest) last

-- from a start on
pub record History (listed : List ℕ) (log : List Entry) (last : Jobs) : Type 0 where
  pub fits : Fits listed
  pub went : Went (new_list listed) log last

-- ---- what can be seen in a log

-- a successful claim of job j
abbrev pub claims : ℕ → Event → Bool
claims j (claim b k m r) = eqb k j
claims j (release b k m r) = false

abbrev pub claim_of : ℕ → Entry → Bool
claim_of j e = eqb e.number 0 && claims j e.event

-- a successful release of it
abbrev pub releases : ℕ → Event → Bool
releases j (claim b k m r) = false
releases j (release b k m r) = eqb k j

abbrev pub release_of : ℕ → Entry → Bool
release_of j e = eqb e.number 0 && releases j e.event

abbrev pub member_of : Event → ℕ
member_of (claim b j m r) = m
member_of (release b j m r) = m

-- how many entries p says yes of
abbrev pub tally : (Entry → Bool) → List Entry → ℕ
tally p [] = 0
tally p (e ∷ rest) = num (p e) + tally p rest

abbrev pub claims_of : ℕ → List Entry → ℕ
claims_of j = tally (claim_of j)

abbrev pub releases_of : ℕ → List Entry → ℕ
releases_of j = tally (release_of j)

-- how many successful claims of job j have no successful release of it after them
abbrev pub unreleased_of : ℕ → List Entry → ℕ
unreleased_of j [] = 0
unreleased_of j (e ∷ rest) = num (claim_of j e && eqb (releases_of j rest) 0) + unreleased_of j rest

-- The latest successful claim of job j is by m, and no successful release of it came after.
pub record LatestClaim (log : List Entry) (j m : ℕ) : Type 0 where
  pub before : List Entry
  pub entry : Entry
  pub after : List Entry
  pub in_order : log ≡ before ++ entry ∷ after
  pub claimed : claim_of j entry ≡ true
  pub member : member_of entry.event ≡ m
  pub latest : claims_of j after ≡ 0
  pub unreleased : releases_of j after ≡ 0

-- ---- how many of the first n jobs p says yes of
unfoldable pub how_many : (ℕ → Bool) → ℕ → ℕ
how_many p zero = 0
how_many p (suc n) = num (p n) + how_many p n
