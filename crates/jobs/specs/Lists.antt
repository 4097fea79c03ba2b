-- A job list: three rows of 1,024 numbers, whatever they hold.
use Rattle.std.specs.Prelude.{◌≡◌, Bool, true, cond, not, ◌&&◌, List, ℕ, eqb, ltb, get_or, set}

-- place j of `roles`: the role that job j is listed under; of `marks`: whether it is held; of `members`: by whom
pub record Jobs : Type 0 where
  pub roles : List ℕ
  pub marks : List ℕ
  pub members : List ℕ

abbrev pub jobs_of : List ℕ → List ℕ → List ℕ → Jobs
jobs_of roles marks members = record { roles = roles; marks = marks; members = members }

-- the number at place j of a row, which has 1,024 places; 64, which is no role, for a number past these
unfoldable pub role_at : List ℕ → ℕ → ℕ
role_at roles j = cond (ltb j 1024) (get_or roles j 0) 64

abbrev pub role_of : Jobs → ℕ → ℕ
role_of jobs j = role_at jobs.roles j

-- job j is listed where it has a role; every other number is past the list
abbrev pub is_listed : Jobs → ℕ → Bool
is_listed jobs j = ltb (role_of jobs j) 64

-- it is open where its mark is 0, and else held; past the list it is neither
abbrev pub is_held : Jobs → ℕ → Bool
is_held jobs j = is_listed jobs j && not (eqb (get_or jobs.marks j 0) 0)

abbrev pub is_open : Jobs → ℕ → Bool
is_open jobs j = is_listed jobs j && eqb (get_or jobs.marks j 0) 0

abbrev pub Held : Jobs → ℕ → Type 0
Held jobs j = is_held jobs j ≡ true

abbrev pub Open : Jobs → ℕ → Type 0
Open jobs j = is_open jobs j ≡ true

-- held, and by the member m
abbrev pub HeldBy : Jobs → ℕ → ℕ → Type 0
HeldBy jobs j m = Held jobs j × (get_or jobs.members j 0 ≡ m)

-- the list afterwards: m holds job j
abbrev pub taken : Jobs → ℕ → ℕ → Jobs
taken jobs j m = jobs_of jobs.roles (set jobs.marks j 1) (set jobs.members j m)

-- job j is open again, and nothing is left of who held it
abbrev pub freed : Jobs → ℕ → Jobs
freed jobs j = jobs_of jobs.roles (set jobs.marks j 0) (set jobs.members j 0)
