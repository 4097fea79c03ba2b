-- The folder of a file, by the file's name.
use Rattle.std.specs.Prelude.{◌≡◌, ◌≢◌, ◌⊎◌, List, [], ◌∷◌, ℕ, ◌+◌, ◌≤◌, ◌<◌, length, get_or, take}

-- the name has no '/' (47) from a place on
abbrev pub NoSlash : List ℕ → ℕ → Type 0
NoSlash name from = (k : ℕ) → from ≤ k → k < length name → get_or name k 0 ≢ 47

-- the front of the name, up to and with its last '/'; '.' (46) where it has none
abbrev pub FolderOf : List ℕ → List ℕ → Type 0
FolderOf name folder = (NoSlash name 0 × (folder ≡ 46 ∷ []))
    ⊎ ((at : ℕ) × (at < length name) × (get_or name at 0 ≡ 47) × NoSlash name (at + 1) × (folder ≡ take (at + 1) name))
