-- What the trailer of a file says, and what the tests of a frame come to; for both kinds of file. Assumes nothing.
use mathlib.Core.Path.{◌≡◌, refl, sym, ap, ap₂, ◌∙◌, subst}
use mathlib.Core.Bool.{Bool, true, false, cond, not, true≢false}
use mathlib.Core.List.{List, [], ◌∷◌}
use Prim.Native.Nat.{ℕ, suc, ◌+◌, ◌-◌, ◌*◌, ◌/◌, ◌%◌, ◌≤◌, ◌<◌}
use native.Mathlib.Numerals.{towards_suc}
use native.Mathlib.Omega.{arith}
use lib.Dec.{eqb}
use lib.ListN.{length, drop, length-drop}
use lib.Seq.{take_all, drop-cons, get_or-drop}
use Rattle.frames.specs.Frames.{trailer, rights_trailer, edges_back, byte, word, EndsHH, EndsHR, with_rights, role_count, edge_count, between, rights_distance, edge_distance, role_distance, BadHH, BadHR, BadFrame}
use Rattle.frames.specs.Frames.{BadHH.long, BadHH.not_all, BadHH.too_far, BadHH.no_triples, BadHH.no_roles, BadHH.many_roles, BadHR.short, BadHR.long, BadHR.not_all, BadHR.no_roles, BadHR.many_roles, BadHR.too_far, BadHR.no_triples, BadHR.wrong_edges, BadFrame.short, BadFrame.unmarked, BadFrame.hh, BadFrame.hr}
use Rattle.frames.specs.Framing.{body_length, trailer_of, Trailed, GoodFrame, Announced}
use Rattle.frames.proofs.Bytes.{bytes, take_bytes}

-- the high byte of a distance, which is read from the end
pub high_byte : (f : List ℕ) (k : ℕ) → suc k ≤ length f → byte f (length f - suc k + 1) ≡ byte f (length f - k)
high_byte f k l = ap (byte f) (omega arith)

-- ---- what a trailer says

pub record Said (plain : Bool) (f : List ℕ) (n e : ℕ) : Type 0 where
  pub ends : cond plain (EndsHH f) (EndsHR f)
  pub which : with_rights f ≡ not plain
  pub long : length f ≡ body_length plain n e + cond plain 6 8
  pub rights_far : plain ≡ false → rights_distance f ≡ n
  pub edges_far : edge_distance f ≡ cond plain e (edges_back n e)
  pub roles_far : role_distance f ≡ body_length plain n e

module _ {f : List ℕ} {n e : ℕ} where
  module _ {plain : Bool} (t : Trailed plain f n e) where
    byte_tail : (p k : ℕ) → p ≡ body_length plain n e + k → byte f p ≡ byte (trailer_of plain n e) k
    byte_tail p k q = ap (byte f) q ∙ sym (get_or-drop (body_length plain n e) f k 0) ∙ ap (λ (l : List ℕ). byte l k) t.tail

    word_tail : (p k : ℕ) → p ≡ body_length plain n e + k → word f p ≡ word (trailer_of plain n e) k
    word_tail p k q = ap₂ (λ (x y : ℕ). x + 256 * y) (byte_tail p k q) (byte_tail (p + 1) (k + 1) (omega arith))

  pub said : (plain : Bool) → Trailed plain f n e → Said plain f n e
  unfolding body_length trailer_of trailer rights_trailer
  said true t = record {
    ends = (byte_tail t (length f - 2) 4 (omega (arith, t.long)), byte_tail t (length f - 1) 5 (omega (arith, t.long)));
    which = ap (λ (b : ℕ). eqb b 82) (byte_tail t (length f - 1) 5 (omega (arith, t.long)));
    long = t.long;
    rights_far = λ q. absurd (true≢false q);
    edges_far = word_tail t (length f - 6) 0 (omega (arith, t.long)) ∙ omega arith;
    roles_far = word_tail t (length f - 4) 2 (omega (arith, t.long)) ∙ omega arith;
  }
  said false t = record {
    ends = (byte_tail t (length f - 2) 6 (omega (arith, t.long)), byte_tail t (length f - 1) 7 (omega (arith, t.long)));
    which = ap (λ (b : ℕ). eqb b 82) (byte_tail t (length f - 1) 7 (omega (arith, t.long)));
    long = t.long;
    rights_far = λ _. word_tail t (length f - 8) 0 (omega (arith, t.long)) ∙ omega arith;
    edges_far = word_tail t (length f - 6) 2 (omega (arith, t.long)) ∙ omega arith;
    roles_far = word_tail t (length f - 4) 4 (omega (arith, t.long)) ∙ omega arith;
  }

  -- so many roles and edges
  role_count_lem : (plain : Bool) → Said plain f n e → role_count f ≡ n
  unfolding role_count body_length
  role_count_lem true s = rw s.which (omega arith)
  role_count_lem false s = rw s.which (s.rights_far refl)

  edge_count_lem : (plain : Bool) → Said plain f n e → edge_count f ≡ e / 3
  unfolding edge_count body_length
  edge_count_lem true s = rw s.which (ap (λ (x : ℕ). x / 3) s.edges_far)
  edge_count_lem false s = rw s.which (let h = s.rights_far refl in ap (λ (x : ℕ). x / 3) (omega arith))

  pub trailed_roles : {plain : Bool} → Trailed plain f n e → role_count f ≡ n
  trailed_roles {plain} t = role_count_lem plain (said plain t)

  pub trailed_edges : {plain : Bool} → Trailed plain f n e → edge_count f ≡ e / 3
  trailed_edges {plain} t = edge_count_lem plain (said plain t)

  -- ---- such a file has no fault of the frame where the numbers are in their bounds

  module _ (some : 1 ≤ n) (few : n ≤ 64) (triples : e % 3 ≡ 0) where
    no_bad_hh : Said true f n e → length f ≤ 6118 → BadHH f → ⊥
    unfolding body_length
    no_bad_hh s l (long h) = omega arith
    no_bad_hh s l (not_all h) = h (omega arith)
    no_bad_hh s l (too_far h) = omega arith
    no_bad_hh s l (no_triples h) = h (ap (λ (x : ℕ). x % 3) s.edges_far ∙ triples)
    no_bad_hh s l (no_roles h) = omega arith
    no_bad_hh s l (many_roles h) = omega arith

    no_bad_hr : Said false f n e → length f ≤ 6184 → BadHR f → ⊥
    unfolding body_length
    no_bad_hr s l b = go (s.rights_far refl) (omega (arith, s.rights_far refl)) b
      where
        go : rights_distance f ≡ n → between f ≡ e → BadHR f → ⊥
        go h i (short g) = omega arith
        go h i (long g) = omega arith
        go h i (not_all g) = g (omega arith)
        go h i (no_roles g) = omega arith
        go h i (many_roles g) = omega arith
        go h i (too_far g) = omega arith
        go h i (no_triples g) = g (ap (λ (x : ℕ). x % 3) i ∙ triples)
        go h i (wrong_edges g) = g (s.edges_far ∙ ap₂ edges_back (sym h) (sym i))

    frame_of : (plain : Bool) → Said plain f n e → length f ≤ cond plain 6118 6184 → BadFrame f → ⊥
    frame_of true s l (short h) = omega arith
    frame_of true s l (unmarked h g) = h s.ends
    frame_of true s l (hh q b) = no_bad_hh s l b
    frame_of true s l (hr q b) = let m = s.ends in omega arith
    frame_of false s l (short h) = omega arith
    frame_of false s l (unmarked h g) = g s.ends
    frame_of false s l (hh q b) = let m = s.ends in omega arith
    frame_of false s l (hr q b) = no_bad_hr s l b

    pub no_bad_frame : (plain : Bool) → Trailed plain f n e → length f ≤ cond plain 6118 6184 → BadFrame f → ⊥
    no_bad_frame plain t = frame_of plain (said plain t)

-- ---- what is announced of a frame without fault

module _ {f : List ℕ} {n m : ℕ} {rights : Bool} (g : GoodFrame f n m rights) where
  pub announced : Announced f n m
  unfolding body_length
  announced = record { roles = trailed_roles g.trailed; edges = trailed_edges g.trailed ∙ omega arith; room = room (not rights) (said (not rights) g.trailed) }
    where
      room : (plain : Bool) → Said plain f n (3 * m) → n + 3 * m ≤ length f
      room true s = omega arith
      room false s = omega arith

-- ---- the trailer that the tests leave

module _ (f : List ℕ) (fit : (k : ℕ) → byte f k < 256) where
  low : (p d : ℕ) → word f p ≡ d → byte f p ≡ d % 256
  low p d e = omega (arith, fit p)

  high : (p d : ℕ) → word f p ≡ d → byte f (p + 1) ≡ d / 256
  high p d e = omega (arith, fit p)

  -- the last six bytes, by two distances and a mark
  six : (p d r x y : ℕ) → length f ≡ p + 6 → word f p ≡ d → word f (p + 2) ≡ r → byte f (p + 4) ≡ x → byte f (p + 5) ≡ y
      → drop p f ≡ d % 256 ∷ d / 256 ∷ r % 256 ∷ r / 256 ∷ x ∷ y ∷ []
  unfolding bytes
  six p d r x y l e₀ e₁ e₂ e₃ =
      sym (take_all 6 (drop p f) (omega (arith, length-drop p f)))
      ∙ take_bytes 6 f p (omega arith)
      ∙ rw (low p d e₀, simp towards_suc at (high p d e₀), simp towards_suc at (low (p + 2) r e₁), simp towards_suc at (high (p + 2) r e₁), simp towards_suc at e₂, simp towards_suc at e₃)

  -- two bytes more, for a distance before them
  eight : (p h : ℕ) → p + 2 ≤ length f → word f p ≡ h → drop p f ≡ h % 256 ∷ h / 256 ∷ drop (p + 2) f
  eight p h l e =
      rw (drop-cons f p 0 (omega arith), drop-cons f (suc p) 0 (omega arith), low p h e, simp towards_suc at (high p h e)) (simp towards_suc)

pub record Tested (plain : Bool) (f : List ℕ) (n e : ℕ) : Type 0 where
  pub fit : (k : ℕ) → byte f k < 256
  pub high : length f ≤ cond plain 6118 6184
  pub long : length f ≡ cond plain (n + e + 6) (n + e + n + 8)
  pub mark : cond plain (EndsHH f) (EndsHR f)
  pub roles_far : role_distance f ≡ cond plain (n + e) (n + e + n)
  pub edges_far : edge_distance f ≡ cond plain e (edges_back n e)
  pub rights_far : plain ≡ false → rights_distance f ≡ n
  pub triples : e % 3 ≡ 0
  pub some : 1 ≤ n
  pub few : n ≤ 64

module _ {f : List ℕ} {n e : ℕ} where
  tested_trailed : (plain : Bool) → Tested plain f n e → Trailed plain f n e
  unfolding body_length trailer_of trailer rights_trailer
  tested_trailed true t = record {
    long = t.long;
    tail = six f t.fit (n + e) e (n + e) 72 72 t.long (ap (word f) (omega (arith, t.long)) ∙ t.edges_far) (ap (word f) (omega (arith, t.long)) ∙ t.roles_far)
        (ap (byte f) (omega (arith, t.long)) ∙ t.mark.0) (ap (byte f) (omega (arith, t.long)) ∙ t.mark.1);
  }
  tested_trailed false t =
      let p : ℕ = n + e + n in
      record {
        long = t.long;
        tail = eight f t.fit p n (omega (arith, t.long)) (ap (word f) (omega (arith, t.long)) ∙ t.rights_far refl)
            ∙ ap (λ (l : List ℕ). n % 256 ∷ n / 256 ∷ l)
            (six f t.fit (p + 2) (edges_back n e) p 72 82 (omega (arith, t.long)) (ap (word f) (omega (arith, t.long)) ∙ t.edges_far) (ap (word f) (omega (arith, t.long)) ∙ t.roles_far)
            (ap (byte f) (omega (arith, t.long)) ∙ t.mark.0) (ap (byte f) (omega (arith, t.long)) ∙ t.mark.1));
      }

  pub framed : {rights : Bool} → Tested (not rights) f n e → GoodFrame f n (e / 3) rights
  framed {rights} t =
      let w = tested_trailed (not rights) t in
      record {
        faultless = no_bad_frame t.some t.few t.triples (not rights) w t.high;
        some = t.some;
        few = t.few;
        trailed = subst (Trailed (not rights) f n) (omega (arith, t.triples)) w;
      }
