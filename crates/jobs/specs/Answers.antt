-- What a start, a claim, a release and a look at a job answer, and what they leave of the list.
use Rattle.std.specs.Prelude.{◌≡◌, ◌≢◌, List, [], ◌∷◌, ◌++◌, ℕ, ◌-◌, ◌≤◌, ◌<◌, length, get_or, replicate, Option, Some, None}
use Rattle.hierarchy.specs.Words.{Derives, Scope}
use Rattle.hierarchy.specs.First.{First}
use Rattle.board.specs.Boards.{tables_of}
use Rattle.board.specs.Asked.{Answered}
use Rattle.board.specs.declared.Board.{Board}
use Rattle.questions.specs.Questions.{refusals}
use Rattle.jobs.specs.Lists.{Jobs, jobs_of, role_of, Open, Held, HeldBy, taken, freed}

-- what an answer settles: the number by its table, and the list left, one where it is refused and another where it is done
pub record Settles (rules : List (ℕ × Type 0)) (otherwise after : Jobs) (number : ℕ) (list : Jobs) : Type 0 where
  pub numbered : First rules number
  pub done : number ≡ 0 → list ≡ after
  pub refused : number ≢ 0 → list ≡ otherwise

-- ---- the start: a role for each job

abbrev pub AllRoles : List ℕ → Type 0
AllRoles listed = (j : ℕ) → j < length listed → get_or listed j 0 < 64

-- at most 1,024 jobs, each under a role
pub record Fits (listed : List ℕ) : Type 0 where
  pub few : length listed ≤ 1024
  pub roles : AllRoles listed

-- these jobs, all open; 64 in the places past them
abbrev pub new_list : List ℕ → Jobs
new_list listed = jobs_of (listed ++ replicate (1024 - length listed) 64) (replicate 1024 0) (replicate 1024 0)

abbrev pub start_refusals : List ℕ → List (ℕ × Type 0)
start_refusals listed = (2, (Fits listed → ⊥)) ∷ []

-- done leaves the list of these jobs, refused the empty one, whatever was there
abbrev pub StartAnswer : List ℕ → ℕ → Jobs → Type 0
StartAnswer listed = Settles (start_refusals listed) (new_list []) (new_list listed)

-- ---- a claim and a release of job j by the member m who acts in the role r, on the board b

-- The board's own 1, 2 and 3 come first, of a question that names the role acted in and the job's role: so a job past the list, which
-- has no role, gives 2, and one whose role isn't live 3.
abbrev pub on_board : Board → Jobs → ℕ → ℕ → List (ℕ × Type 0)
on_board b jobs j r = refusals b r (role_of jobs j)

-- 14: the job isn't open; 15: the role acted in doesn't derive the job's role
abbrev pub claim_refusals : Board → Jobs → ℕ → ℕ → List (ℕ × Type 0)
claim_refusals b jobs j r =
    on_board b jobs j r ++ (14, (Open jobs j → ⊥)) ∷ (15, (Derives (tables_of b) r (role_of jobs j) → ⊥)) ∷ []

-- 14: the job isn't held; 15: not by this member, and the job's role is not in the scope of the role acted in
abbrev pub release_refusals : Board → Jobs → ℕ → ℕ → ℕ → List (ℕ × Type 0)
release_refusals b jobs j m r =
    on_board b jobs j r ++ (14, (Held jobs j → ⊥)) ∷ (15, (HeldBy jobs j m → ⊥) × (Scope (tables_of b) r (role_of jobs j) → ⊥)) ∷ []

-- done leaves the job taken, or open again; a refusal leaves the list there was
abbrev pub ClaimAnswer : Board → Jobs → ℕ → ℕ → ℕ → ℕ → Jobs → Type 0
ClaimAnswer b jobs j m r = Settles (claim_refusals b jobs j r) jobs (taken jobs j m)

abbrev pub ReleaseAnswer : Board → Jobs → ℕ → ℕ → ℕ → ℕ → Jobs → Type 0
ReleaseAnswer b jobs j m r = Settles (release_refusals b jobs j m r) jobs (freed jobs j)

-- ---- who holds job j: None, where its mark is 0

abbrev pub HolderOf : List ℕ → List ℕ → ℕ → Option ℕ → Type 0
HolderOf marks members j None = get_or marks j 0 ≡ 0
HolderOf marks members j (Some m) = (get_or marks j 0 ≢ 0) × (get_or members j 0 ≡ m)

-- ---- a look at job j: 2 past the list, and then nobody is said to hold it; else who does, if it is held

abbrev pub StateIs : Jobs → ℕ → Option ℕ → Type 0
StateIs jobs j None = Open jobs j
StateIs jobs j (Some m) = HeldBy jobs j m

abbrev pub LookAnswer : Jobs → ℕ → ℕ → Option ℕ → Type 0
LookAnswer jobs j = Answered ((2, 63 < role_of jobs j) ∷ []) (StateIs jobs j) None
