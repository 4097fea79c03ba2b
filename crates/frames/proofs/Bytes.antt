-- Bytes of a file, one by one, and a whole file by its parts. Assumes nothing.
use mathlib.Core.Path.{◌≡◌, refl, sym, ap, ◌∙◌}
use mathlib.Core.Bool.{Bool, true, false, cond}
use mathlib.Core.List.{List, [], ◌∷◌, ◌++◌, map, append_assoc}
use Prim.Native.Nat.{ℕ, zero, suc, ◌+◌, ◌≤◌, ◌<◌}
use native.Mathlib.Nat.{zero-add, add-zero}
use native.Mathlib.Omega.{arith}
use lib.ListN.{length, take, drop, length-append}
use lib.Seq.{drop-cons, get_or-take, get_or-drop, take_at, drop_at}
use Rattle.frames.specs.Frames.{byte}
use Rattle.frames.specs.Framing.{body_length, trailer_of, Trailed}

-- ---- some bytes of a list, one by one

unfoldable pub bytes : ℕ → List ℕ → ℕ → List ℕ
bytes zero f p = []
bytes (suc k) f p = byte f p ∷ bytes k f (suc p)

pub take_bytes : (k : ℕ) (f : List ℕ) (p : ℕ) → p + k ≤ length f → take k (drop p f) ≡ bytes k f p
unfolding bytes
take_bytes zero f p h = refl
take_bytes (suc k) f p h = ap (take (suc k)) (drop-cons f p 0 (omega arith)) ∙ ap (λ (l : List ℕ). byte f p ∷ l) (take_bytes k f (suc p) (omega arith))

-- ---- a part of a list

pub middle : (p q r : List ℕ) (a k : ℕ) → length p ≡ a → length q ≡ k → take k (drop a (p ++ (q ++ r))) ≡ q
middle p q r a k e h = ap (take k) (drop_at p (q ++ r) a e) ∙ take_at q r k h

pub byte_part : (f part : List ℕ) (p k : ℕ) → take (length part) (drop p f) ≡ part → k < length part → byte f (p + k) ≡ byte part k
byte_part f part p k e h = sym (get_or-drop p f k 0) ∙ sym (get_or-take (length part) (drop p f) k 0 h) ∙ ap (λ (l : List ℕ). byte l k) e

pub map_at : (g : ℕ → ℕ) (l : List ℕ) (k : ℕ) → k < length l → byte (map g l) k ≡ g (byte l k)
map_at g [] k h = absurd (omega arith)
map_at g (x ∷ l) zero h = refl
map_at g (x ∷ l) (suc k) h = map_at g l k (omega arith)

-- ---- a file of these role bytes, edge records and rights bytes: HH's where plain, and then without the last

abbrev pub whole : Bool → List ℕ → List ℕ → List ℕ → List ℕ
whole plain rs es hs = rs ++ es ++ cond plain [] hs ++ trailer_of plain (length rs) (length es)

module _ (plain : Bool) (rs es hs : List ℕ) where
  abbrev held : List ℕ
  held = cond plain [] hs

  abbrev last : List ℕ
  last = trailer_of plain (length rs) (length es)

  pub whole_roles : take (length rs) (whole plain rs es hs) ≡ rs
  whole_roles = simp append_assoc (middle [] rs (es ++ (held ++ last)) 0 (length rs) refl refl)

  pub whole_edges : take (length es) (drop (length rs) (whole plain rs es hs)) ≡ es
  whole_edges = simp append_assoc (middle rs es (held ++ last) (length rs) (length es) refl refl)

  pub whole_rights : take (length held) (drop (length rs + length es) (whole plain rs es hs)) ≡ held
  whole_rights =
      ap (λ (l : List ℕ). take (length held) (drop (length rs + length es) l)) (append_assoc (rs ++ es) held last)
      ∙ middle (rs ++ es) held last (length rs + length es) (length held) (length-append rs es) refl

  pub byte_role : (k : ℕ) → k < length rs → byte (whole plain rs es hs) k ≡ byte rs k
  byte_role k h = ap (byte (whole plain rs es hs)) (sym (zero-add k)) ∙ byte_part (whole plain rs es hs) rs 0 k whole_roles h

  pub byte_edge : (k : ℕ) → k < length es → byte (whole plain rs es hs) (length rs + k) ≡ byte es k
  byte_edge k h = byte_part (whole plain rs es hs) es (length rs) k whole_edges h

  pub byte_right : (k : ℕ) → k < length held → byte (whole plain rs es hs) (length rs + length es + k) ≡ byte held k
  byte_right k h = byte_part (whole plain rs es hs) held (length rs + length es) k whole_rights h

-- where there is a rights byte for each role, the trailer is right
module _ (rs es hs : List ℕ) (each : length hs ≡ length rs) where
  body : (plain : Bool) → length (rs ++ es ++ cond plain [] hs) ≡ body_length plain (length rs) (length es)
  unfolding body_length
  body true = simp length-append (add-zero (length rs + length es))
  body false = simp length-append (ap (λ (n : ℕ). length rs + length es + n) each)

  pub whole_trailed : (plain : Bool) → Trailed plain (whole plain rs es hs) (length rs) (length es)
  whole_trailed plain =
      let front : List ℕ = rs ++ es ++ cond plain [] hs in
      let last : List ℕ = trailer_of plain (length rs) (length es) in
      record { long = length-append front last ∙ ap (λ (n : ℕ). n + length last) (body plain); tail = drop_at front last (body_length plain (length rs) (length es)) (body plain) }
