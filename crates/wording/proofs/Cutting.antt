-- The pieces of a text from a place on: where the first of them ends, and what lies behind it. Every loop over pieces goes by `turn`.
-- Assumes nothing.
use mathlib.Core.Path.{◌≡◌, refl, sym, subst, ap, ◌∙◌}
use borrow.Author.Tests.{ltb-false, eqb-true, eqb-false}
use mathlib.Core.Bool.{Bool, true, false, cond}
use mathlib.Core.List.{List, [], ◌∷◌}
use Rattle.std.specs.Prelude.{Option, Some, None, unwrap_or, nat_lt, not, eqb}
use Rattle.std.specs.List.{position, position_or_len, slice_range, FoldsTo}
use Rattle.std.specs.Borrow.{Bor}
use Rattle.std.specs.Fn.{CalledAt, Mut}
use Rattle.std.specs.Iterator.{Yields, SkipsThenYields}
use Rattle.std.specs.Iterator.Adapters.{filter_steps, filter_source, filter_callee}
use Rattle.std.specs.declared.iter.Filter.{Filter}
use Rattle.wording.specs.declared.pieces.Pieces.{Pieces}
use Prim.Native.Nat.{ℕ, zero, suc, ◌+◌, ◌-◌, ◌≤◌, ◌<◌, zero-le, suc-le-suc}
use native.Mathlib.Nat.{le_of_suc-le-suc, not-suc-le-zero, suc-add, zero-add}
use native.Mathlib.Omega.{arith}
use lib.ListN.{length, get_or, take, drop, length-take, length-drop, drop_of_length-le}
use lib.Seq.{take-length}
use Rattle.wording.specs.Texts.{separates, piece, longer, pieces, filled, word_at, beginnings, word_start, rest_of, Given, Cut, WordOf}

-- ---- where a piece ends

abbrev pub end_of : ℕ → List ℕ → ℕ → ℕ
end_of sep text from = from + length (piece sep (drop from text))

-- the piece at the start of a text is what stands before its first separator
piece_len : (sep : ℕ) (l : List ℕ) → length (piece sep l) ≡ position_or_len (separates sep) l
unfolding piece
piece_len sep [] = refl
piece_len sep (b ∷ rest) = go (separates sep b) (piece_len sep rest)
  where
    go : (p : Bool) → length (piece sep rest) ≡ position_or_len (separates sep) rest
        → length (cond p [] (b ∷ piece sep rest)) ≡ cond (not p) (1 + position_or_len (separates sep) rest) 0
    go true ih = refl
    go false ih = omega arith

pub end_over : (sep : ℕ) (text : List ℕ) (at : ℕ) → length text ≤ at → end_of sep text at ≡ at
unfolding piece
end_over sep text at h = rw (drop_of_length-le text h) (omega arith)

piece_within : (sep : ℕ) (l : List ℕ) → length (piece sep l) ≤ length l
unfolding piece
piece_within sep [] = zero-le
piece_within sep (b ∷ rest) = go (separates sep b) (piece_within sep rest)
  where
    go : (p : Bool) → length (piece sep rest) ≤ length rest → length (cond p [] (b ∷ piece sep rest)) ≤ suc (length rest)
    go true h = zero-le
    go false h = suc-le-suc h

pub piece_to : (sep : ℕ) (l : List ℕ) → length (piece sep l) ≡ unwrap_or (position (separates sep) l) (length l)
piece_to sep l = piece_len sep l ∙ go (nat_lt (position_or_len (separates sep) l) (length l)) refl
  where
    go : (q : Bool) → nat_lt (position_or_len (separates sep) l) (length l) ≡ q
        → position_or_len (separates sep) l ≡ unwrap_or (cond q (Some (position_or_len (separates sep) l)) None) (length l)
    go true e = refl
    go false e = omega (arith, ltb-false _ _ e, piece_len sep l, piece_within sep l)

pub to_the_end : (from : ℕ) (l : List ℕ) → slice_range l from (length l) ≡ drop from l
to_the_end from l = ap (λ (n : ℕ). take n (drop from l)) (sym (length-drop from l)) ∙ take-length (drop from l)

-- ---- the pieces from a place on; past the end there are none

pub rest_over : (sep : ℕ) (text : List ℕ) (from : ℕ) → length text < from → rest_of sep text from ≡ []
unfolding rest_of
rest_over sep text zero h = absurd (not-suc-le-zero h)
rest_over sep [] (suc from) h = refl
rest_over sep (b ∷ rest) (suc from) h = rest_over sep rest from (le_of_suc-le-suc h)

first_piece : (sep : ℕ) (l : List ℕ) → pieces sep l ≡ take (length (piece sep l)) l ∷ rest_of sep l (suc (length (piece sep l)))
unfolding pieces piece longer rest_of
first_piece sep [] = refl
first_piece sep (b ∷ rest) = go (separates sep b) (first_piece sep rest)
  where
    go : (p : Bool) → pieces sep rest ≡ take (length (piece sep rest)) rest ∷ rest_of sep rest (suc (length (piece sep rest)))
        → cond p ([] ∷ pieces sep rest) (longer b (pieces sep rest))
        ≡ take (length (cond p [] (b ∷ piece sep rest))) (b ∷ rest) ∷ rest_of sep rest (length (cond p [] (b ∷ piece sep rest)))
    go true ih = refl
    go false ih = rw ih

next_piece : (sep : ℕ) (l : List ℕ) (from : ℕ) → from ≤ length l
    → rest_of sep l from ≡ take (length (piece sep (drop from l))) (drop from l) ∷ rest_of sep l (suc (end_of sep l from))
unfolding rest_of
next_piece sep l zero h = rw zero-add (first_piece sep l)
next_piece sep [] (suc from) h = absurd (not-suc-le-zero h)
next_piece sep (b ∷ rest) (suc from) h = rw suc-add (next_piece sep rest from (le_of_suc-le-suc h))

-- the piece from `from` to `end`, in the text
pub record Turn (sep : ℕ) (text : List ℕ) (from end : ℕ) : Type 0 where
  pub low : from ≤ end
  pub high : end ≤ length text
  pub cut : rest_of sep text from ≡ take (end - from) (drop from text) ∷ rest_of sep text (end + 1)

pub turn : (sep : ℕ) (text : List ℕ) (from end : ℕ) → from ≤ length text → end ≡ end_of sep text from → Turn sep text from end
turn sep text from end h e = record {
  low = omega arith;
  high = omega (arith, piece_within sep (drop from text), length-drop from text);
  cut = next_piece sep text from h ∙ rw (past, reach);
}
  where
    reach : length (piece sep (drop from text)) ≡ end - from
    reach = omega arith

    past : suc (end_of sep text from) ≡ end + 1
    past = omega arith

-- what a turn over pieces gives
pub given : {s : Pieces} {part : Bor (List ℕ)} {t : Pieces} (end : ℕ) → s.from ≤ length s.text.now → end ≡ end_of s.sep s.text.now s.from
    → t ≡ record s { from = end + 1 } → part.now ≡ take (end - s.from) (drop s.from s.text.now) → part.ref_ptr.0 ≡ s.text.ref_ptr.0 → part.ref_ptr.1 ≡ s.text.ref_ptr.1 + s.from
    → Given s part t
given {s} {part} {t} end low e n p block begins =
    let cut : Turn s.sep s.text.now s.from end = turn s.sep s.text.now s.from end low e in
    record {
      same_text = ap (λ (q : Pieces). q.text) n;
      same_sep = ap (λ (q : Pieces). q.sep) n;
      within = rw n (omega (arith, cut.high));
      first = rw (n, p) cut.cut;
      behind = rw (n, p, length-take (end - s.from) (drop s.from s.text.now), length-drop s.from s.text.now) (omega (arith, cut.low, cut.high));
      block = block;
      begins = begins;
    }

-- ---- the words of a line

filled_some : (p : List ℕ) (ps : List (List ℕ)) → (length p ≡ 0 → ⊥) → filled (p ∷ ps) ≡ p ∷ filled ps
unfolding filled
filled_some [] ps h = absurd (h refl)
filled_some (b ∷ p) ps h = refl

begins_some : (at : ℕ) (p : List ℕ) (ps : List (List ℕ)) → (length p ≡ 0 → ⊥) → beginnings at (p ∷ ps) ≡ at ∷ beginnings (at + length p + 1) ps
unfolding beginnings
begins_some at [] ps h = absurd (h refl)
begins_some at (b ∷ p) ps h = refl

filled_none : (p : List ℕ) (ps : List (List ℕ)) → length p ≡ 0 → filled (p ∷ ps) ≡ filled ps
unfolding filled
filled_none [] ps h = refl
filled_none (b ∷ p) ps h = absurd (omega arith)

begins_none : (at : ℕ) (p : List ℕ) (ps : List (List ℕ)) → length p ≡ 0 → beginnings at (p ∷ ps) ≡ beginnings (at + 1) ps
unfolding beginnings
begins_none at [] ps h = refl
begins_none at (b ∷ p) ps h = absurd (omega arith)

-- the word at k of the line is the one at `left` of what lies from s on
pub record Looking (line : Bor (List ℕ)) (k left : ℕ) (s : Pieces) : Type 0 where
  pub text : s.text ≡ line
  pub sep : s.sep ≡ 32
  pub same : get_or (filled (rest_of 32 line.now s.from)) left [] ≡ word_at line.now k
  pub begins : get_or (beginnings s.from (rest_of 32 line.now s.from)) left 0 ≡ word_start line.now k

pub look_start : (s : Pieces) (line : Bor (List ℕ)) (k : ℕ) → s.text ≡ line → s.from ≡ 0 → s.sep ≡ 32 → Looking line k k s
unfolding rest_of
look_start s line k t z e = record { text = t; sep = e; same = rw z; begins = rw z }

module _ {line : Bor (List ℕ)} {s : Pieces} {k left : ℕ} (l : Looking line k left s) where
  pub look_over : length s.text.now < s.from → WordOf line.now line.ref_ptr k [] line.ref_ptr
  unfolding filled beginnings
  look_over h =
      let over : length line.now < s.from = rw l.text at h in
      let start : 0 ≡ word_start line.now k = rw (rest_over 32 line.now s.from over) at l.begins in
      (rw (rest_over 32 line.now s.from over) at l.same, refl, omega arith)

  module _ {part : Bor (List ℕ)} {t : Pieces} (g : Given s part t) where
    cut : rest_of 32 line.now s.from ≡ part.now ∷ rest_of 32 line.now t.from
    cut = rw (l.text, l.sep) at g.first

    pub look_none : length part.now ≡ 0 → Looking line k left t
    look_none z = record {
      text = g.same_text ∙ l.text;
      sep = g.same_sep ∙ l.sep;
      same = rw (cut, filled_none part.now (rest_of 32 line.now t.from) z) at l.same;
      begins = rw (cut, begins_none s.from part.now (rest_of 32 line.now t.from) z, next) at l.begins;
    }
      where
        next : s.from + 1 ≡ t.from
        next = omega (arith, g.behind)

    pub look_here : (length part.now ≡ 0 → ⊥) → left ≡ 0 → WordOf line.now line.ref_ptr k part.now part.ref_ptr
    look_here h z =
        let start : s.from ≡ word_start line.now k = rw (cut, begins_some s.from part.now (rest_of 32 line.now t.from) h, z) at l.begins in
        (rw (cut, filled_some part.now (rest_of 32 line.now t.from) h, z) at l.same, rw l.text at g.block, rw (l.text, start) at g.begins)

    pub look_past : (length part.now ≡ 0 → ⊥) → (left ≡ 0 → ⊥) → Looking line k (left - 1) t
    look_past h z = record {
      text = g.same_text ∙ l.text;
      sep = g.same_sep ∙ l.sep;
      same = rw (cut, filled_some part.now (rest_of 32 line.now t.from) h, more) at l.same;
      begins = rw (cut, begins_some s.from part.now (rest_of 32 line.now t.from) h, more, sym g.behind) at l.begins;
    }
      where
        more : left ≡ suc (left - 1)
        more = omega arith

-- ---- the words that `filter` keeps of the pieces, where it asks of each whether it has a byte

-- of any turn that gives the first piece left, or gives none behind the text's end
module _ (C : Pieces → Option (Bor (List ℕ)) → Pieces → Type 0)
    (cuts : (s : Pieces) (part : Bor (List ℕ)) (t : Pieces) → C s (Some part) t → Given s part t)
    (ends : (s t : Pieces) → C s None t → length s.text.now < s.from)
    {F : Type 0} {g : Mut F (Bor (Bor (List ℕ)) × Unit {0}) Bool}
    (asks : (f : F) (p : Bor (List ℕ)) (r : Bool) (f' : F) → CalledAt g f p r f' → eqb (length p.now) 0 ≡ not r)
    {line : Bor (List ℕ)} {k : ℕ} where
  -- the pieces that it passes over
  skipped : {left : ℕ} (s t : Pieces) (ps : List (Bor (List ℕ))) (f f' : F)
      → Yields C s ps t → FoldsTo (λ f p f'. CalledAt g f p false f') f ps f' → Looking line k left s → Looking line k left t
  skipped {left} s t [] f f' e h l = subst (λ (u : Pieces). Looking line k left u) e l
  skipped s t (p ∷ ps) f f' (u, gives, more) (j, called, calls) l = skipped u t ps j f' more calls (look_none l (cuts _ _ _ gives) (eqb-true _ _ (asks f p false j called)))

  -- the words before the one that is looked for
  passed : (left : ℕ) (s t : Filter Pieces F) (ps : List (Bor (List ℕ)))
      → Yields (filter_steps C g) s ps t → length ps ≤ left → Looking line k left (filter_source s) → Looking line k (left - length ps) (filter_source t)
  passed left s t [] e h l = subst (λ (n : ℕ). Looking line k n (filter_source t)) (omega arith) (subst (λ u. Looking line k left (filter_source u)) e l)
  passed left s t (p ∷ ps) (u, (xs, f, (v, over, gives), calls, called), more) h l =
      let here : Looking line k left v = skipped (filter_source s) v xs (filter_callee s) f over calls l in
      let past : Looking line k (left - 1) (filter_source u) = look_past here (cuts _ _ _ gives) (eqb-false _ _ (asks f p true (filter_callee u) called)) (omega arith) in
      let fewer : left - 1 - length ps ≡ left - suc (length ps) = omega arith in
      rw fewer at (passed (left - 1) u t ps more (omega arith) past)

  -- the word there, or none
  pub word_kept : {n : ℕ} (s u : Filter Pieces F) (r : Option (Bor (List ℕ))) (none : Bor (List ℕ)) → SkipsThenYields (filter_steps C g) s n r u → n ≡ k → Looking line k k (filter_source s)
      → none.now ≡ [] → none.ref_ptr.0 ≡ line.ref_ptr.0 → none.ref_ptr.1 ≡ line.ref_ptr.1 → WordOf line.now line.ref_ptr k (unwrap_or r none).now (unwrap_or r none).ref_ptr
  word_kept s u (Some p) none (ps, (t, before, (xs, f, (v, over, gives), calls, called)), many) same l e b a =
      look_here (skipped (filter_source t) v xs (filter_callee t) f over calls (passed k s t ps before (omega (arith, many)) l)) (cuts _ _ _ gives)
      (eqb-false _ _ (asks f p true (filter_callee u) called)) (omega (arith, many))
  word_kept s u None none (ps, (t, before, (xs, f, (v, over, end), calls, called)), many) same l e b a =
      rw (e, b, a) (look_over (skipped (filter_source t) v xs (filter_callee t) f over calls (passed k s t ps before (omega (arith, many)) l)) (ends _ _ end))

-- and of the turn of a loop over pieces, which says more
module _ {F : Type 0} {g : Mut F (Bor (Bor (List ℕ)) × Unit {0}) Bool}
    (asks : (f : F) (p : Bor (List ℕ)) (r : Bool) (f' : F) → CalledAt g f p r f' → eqb (length p.now) 0 ≡ not r)
    {line : Bor (List ℕ)} {k : ℕ} where
  pub word_found : {n : ℕ} (s u : Filter Pieces F) (r : Option (Bor (List ℕ))) (none : Bor (List ℕ)) → SkipsThenYields (filter_steps Cut g) s n r u → n ≡ k → Looking line k k (filter_source s)
      → none.now ≡ [] → none.ref_ptr.0 ≡ line.ref_ptr.0 → none.ref_ptr.1 ≡ line.ref_ptr.1 → WordOf line.now line.ref_ptr k (unwrap_or r none).now (unwrap_or r none).ref_ptr
  word_found = word_kept Cut (λ s part t given. given) (λ s t over. over.0) asks
