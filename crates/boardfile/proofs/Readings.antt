-- From the parts that are read to the reader's answer. Assumes nothing.
use mathlib.Core.Path.{◌≡◌, refl, sym, ap, ap₂, ◌∙◌, subst}
use mathlib.Core.Bool.{Bool, true, false, cond, not}
use mathlib.Core.Logic.Iff
use mathlib.Core.Logic.{◌⊎◌, inl, inr, ⊎_elim, ◌≢◌}
use mathlib.Core.List.{List, [], ◌∷◌, ◌++◌, map, append_assoc}
use Prim.Native.Nat.{ℕ, ◌+◌, ◌*◌, ◌/◌, ◌%◌, ◌^◌, ◌≤◌, ◌<◌}
use native.Mathlib.Omega.{arith}
use lib.ListN.{length, drop, take-append-drop, length-drop}
use lib.Seq.{length-take-le, drop-drop}
use Rattle.sets.specs.Sets.{bit, ◌is_in◌}
use Rattle.sets.proofs.Bools.{lt_or_ge}
use Rattle.sets.proofs.Digits.{bit_out}
use Rattle.std.specs.Prelude.{Result, Ok, Err, IsErrAnd, MatchResult}
use Rattle.std.proofs.lemmas.Result.{err_from_is_err_and}
use Rattle.hierarchy.specs.declared.working.Kept.{Kept}
use Rattle.hierarchy.specs.declared.working.Fault.{Fault}
use Rattle.hierarchy.specs.declared.working.Fault.TheVariants as fault
use Rattle.board.specs.Answers.{number, number_of, faulted}
use Rattle.board.specs.declared.answers.Refusal.{Refusal}
use Rattle.board.specs.declared.answers.Refusal.TheVariants as refusal
use Rattle.hierarchy.specs.Tables.{Tables, row, Shaped, kind_of, kind}
use Rattle.hierarchy.specs.Words.{Joined, Loops, Managed}
use Rattle.hierarchy.specs.First.{First}
use Rattle.hierarchy.specs.Views.{InOrder, WorkedOut, fault_number}
use Rattle.hierarchy.proofs.FirstLaws.{pass}
use Rattle.board.specs.Rights.{rights_of, RightsFit}
use Rattle.board.specs.Boards.{founding_board, SoundBoard}
use Rattle.board.specs.declared.Board.{Board}
use Rattle.board.proofs.Answering.{number_of_some}
use Rattle.board.proofs.Rules.{first_alike}
use Rattle.board.proofs.Looking.{disordered_loops, worked_sound, worked_right}
use Rattle.frames.specs.Frames.{BadFrame}
use Rattle.frames.specs.Framing.{body_length, trailer_of, GoodFrame}
use Rattle.frames.proofs.Bytes.{whole}
use Rattle.frames.proofs.Frames.{announced}
use Rattle.writer.specs.Files.{from, edge_bytes, kind_at, founding?}
use Rattle.writer.proofs.EdgeBytes.{file_whole}
use Rattle.writer.proofs.FoundingRights.{founding_itself, founding_fit}
use Rattle.writer.proofs.OneFile.{at_place}
use Rattle.boardfile.specs.Faults.{BadRecord}
use Rattle.boardfile.specs.Parts.{GoodRoles, GoodEdges, Granted, Opening}
use Rattle.boardfile.specs.Answers.{IsFile, TablesIn, refusals, ReadAnswer, ReadInto}
use Rattle.boardfile.proofs.Faultless.{Tidy, good_records}
use Rattle.boardfile.proofs.OneBoard.{named_by}
use Rattle.boardfile.proofs.RoleBytes.{listed_many}

-- ---- kinds

pub kind_known : (t : Tables) (x y : ℕ) → kind t x y ≤ 3
unfolding kind
kind_known t x y = go (bit (row t.i x) y) (bit (row t.a x) y)
  where
    go : (p q : Bool) → kind_of p q ≤ 3
    go true true = omega arith
    go true false = omega arith
    go false true = omega arith
    go false false = omega arith

pub edge_junior : (t : Tables) → ((x : ℕ) → row t.i x < 2 ^ 64) → ((x : ℕ) → row t.a x < 2 ^ 64) → (x y : ℕ) → kind t x y ≢ 0 → y < 64
unfolding kind
edge_junior t fi fa x y h = ⊎_elim
    (λ l. l)
    (λ g. absurd (h (ap₂ kind_of (bit_out 64 (row t.i x) y (fi x) g) (bit_out 64 (row t.a x) y (fa x) g))))
    (lt_or_ge y 64)

-- ---- the parts together

module _ {f : List ℕ} {n m : ℕ} {t : Tables} (roles : GoodRoles f n t.live) (edges : GoodEdges f n m t) where
  shaped : Shaped t
  shaped = record {
    live_fits = roles.fits;
    i_rows = edges.i_table.rows;
    a_rows = edges.a_table.rows;
    i_fits = edges.i_table.fits;
    a_fits = edges.a_table.fits;
  }

  tidy : Tidy (bit t.live) (kind_at t)
  unfolding kind_at
  tidy = record { root = roles.root; known = λ e. kind_known t (e / 64) (e % 64); fine = edges.fine }

  joined : Joined t
  joined x y h =
      let l = edge_junior t edges.i_table.fits edges.a_table.fits x y h in
      let w = edges.fine (x * 64 + y) (λ e. h (sym (at_place t x y l) ∙ e)) in
      let xq : (x * 64 + y) / 64 ≡ x = omega arith in
      let yq : (x * 64 + y) % 64 ≡ y = omega arith in
      (rw xq at w.senior_lives, rw yq at w.junior_lives)

-- what is said of the rights, by whether the file has rights bytes
granted_fit : (f : List ℕ) (n m live : ℕ) (rights : List ℕ) (w : Bool) → 0 is_in live → Granted f n m w live rights → RightsFit live rights
granted_fit f n m live rights true root g = g.0.fit
granted_fit f n m live rights false root g = rw g (founding_fit live root)

granted_told : (f : List ℕ) (n m live : ℕ) (rights : List ℕ) (w : Bool) → Granted f n m w live rights → founding? rights ≡ not w
granted_told f n m live rights true g = g.1
granted_told f n m live rights false g = rw g founding_itself

module _ (f : List ℕ) (n m : ℕ) (t : Tables) (rights : List ℕ) (roles : GoodRoles f n t.live) (edges : GoodEdges f n m t) where
  abbrev rs : List ℕ
  rs = from 64 0 (bit t.live)

  abbrev es : List ℕ
  es = edge_bytes (kind_at t) 4096 0

  abbrev hs : List ℕ
  hs = map (rights_of rights) rs

  many_roles : n + 3 * m ≤ length f → length rs ≡ n
  many_roles l = listed_many f n t.live roles.bytes (omega arith)

  many_edges : n + 3 * m ≤ length f → length es ≡ 3 * m
  many_edges l = ap length (sym edges.bytes) ∙ length-take-le (3 * m) (drop n f) (omega (arith, length-drop n f))

  trailer_as : (plain : Bool) → n + 3 * m ≤ length f → trailer_of plain n (3 * m) ≡ trailer_of plain (length rs) (length es)
  trailer_as plain l = ap₂ (trailer_of plain) (sym (many_roles l)) (sym (many_edges l))

  -- what lies behind the edge records
  behind : (w : Bool) → GoodFrame f n m w → Granted f n m w t.live rights → drop (n + 3 * m) f ≡ cond (not w) [] hs ++ trailer_of (not w) (length rs) (length es)
  unfolding body_length
  behind false frame g = frame.trailed.tail ∙ trailer_as true (announced frame).room
  behind true frame g =
      sym (take-append-drop (length rs) (drop (n + 3 * m) f))
      ∙ ap₂ ◌++◌ g.0.bytes (drop-drop (length rs) (n + 3 * m) f ∙ ap (λ (k : ℕ). drop (n + 3 * m + k) f) (many_roles (announced frame).room) ∙ frame.trailed.tail ∙ trailer_as false (announced frame).room)

  is_file : (w : Bool) → GoodFrame f n m w → Granted f n m w t.live rights → IsFile f t rights
  is_file w frame g = record {
    shaped = shaped roles edges;
    rightful = granted_fit f n m t.live rights w roles.root g;
    bytes = parts ∙ ap (λ (p : Bool). whole p rs es hs) (sym (granted_told f n m t.live rights w g)) ∙ sym (file_whole t rights);
  }
    where
      parts : f ≡ whole (not w) rs es hs
      parts =
          sym (take-append-drop n f)
          ∙ ap₂ ◌++◌ roles.bytes (sym (take-append-drop (3 * m) (drop n f)) ∙ ap₂ ◌++◌ edges.bytes (drop-drop (3 * m) n f ∙ behind w frame g))
          ∙ simp append_assoc

-- ---- the answers

pub opened_as : {f g : List ℕ} {n : ℕ} {b : Board} → f ≡ g → Opening f n b → Opening g n b
opened_as {n = n} {b} e = subst (λ (f : List ℕ). Opening f n b) e

module _ {f : List ℕ} {e : Refusal} (b : Board) where
  pub refused_frame : BadFrame f × (e ≡ refusal.BadFrame) → Opening f (number_of e) b
  unfolding First
  refused_frame h = rw h.1 record { numbered = inl (h.0, refl); done = λ z. absurd (omega (arith, z)) }

  pub refused_record : (BadFrame f → ⊥) → BadRecord f × (e ≡ refusal.BadRecord) → Opening f (number_of e) b
  unfolding First
  refused_record g h = rw h.1 record { numbered = inr (g, inl (h.0, refl)); done = λ z. absurd (omega (arith, z)) }

faulted_number : (A : Type 0) (e : Fault) → fault_number {A = A} (Err e) ≡ number_of (faulted e)
faulted_number A fault.Loops = refl
faulted_number A fault.Unmanaged = refl

faulted_some : (e : Fault) → number_of (faulted e) ≢ 0
faulted_some fault.Loops z = omega (arith, z)
faulted_some fault.Unmanaged z = omega (arith, z)

-- a fault is handed on as its refusal, where that is what is made of it
as_refusal : {A : Type 0} {Made : Fault → Refusal → Type 0} (found : Result A Fault) (r : Result A Refusal) → MatchResult found (λ v. r ≡ Ok v) (λ e. IsErrAnd r (Made e))
    → ((e : Fault) (d : Refusal) → Made e d → d ≡ faulted e) → ((e : Fault) × (found ≡ Err e) × (r ≡ Err (faulted e))) ⊎ ((v : A) × (found ≡ Ok v) × (r ≡ Ok v))
as_refusal (Ok v) r h made = inr (v, refl, h)
as_refusal (Err e) r h made = let p = err_from_is_err_and r h in inl (e, refl, p.1 ∙ ap Err (made e p.0 p.2))

-- what a board's own trouble says of the file
module _ {f : List ℕ} {t : Tables} {rights : List ℕ} (number : ℕ) (frame : BadFrame f → ⊥) (record' : BadRecord f → ⊥) (is : IsFile f t rights)
    (own : First ((7, Loops t) ∷ (9, (Managed t → ⊥)) ∷ []) number) where
  numbered : First (refusals f) number
  numbered = pass _ _ _ _ frame (pass _ _ _ _ record' (first_alike
      ((7, Loops t) ∷ (9, (Managed t → ⊥)) ∷ [])
      ((7, TablesIn f Loops) ∷ (9, TablesIn f (λ s. Managed s → ⊥)) ∷ [])
      [] [] number (refl, named_by is Loops, (refl, named_by is (λ s. Managed s → ⊥), tt)) (λ _ g. g) own))

-- where neither frame nor record has a fault, it is the board that may be in trouble
module _ {f : List ℕ} {n m live : ℕ} {w : Bool} {t : Tables} (rights : List ℕ) (k : Kept) {A : Type 0} (found : Result A Fault)
    (frame : GoodFrame f n m w) (listed : GoodRoles f n live) (edges : (t.live ≡ live) × GoodEdges f n m t) (granted : Granted f n m w live rights)
    (worked : WorkedOut t (fault_number found) k.derives k.derivers k.manager) where
  roles : GoodRoles f n t.live
  roles = subst (GoodRoles f n) (sym edges.0) listed

  is : IsFile f t rights
  is = is_file f n m t rights roles edges.1 w frame (subst (λ (l : ℕ). Granted f n m w l rights) (sym edges.0) granted)

  faultless : BadRecord f → ⊥
  faultless h = good_records t rights (tidy roles edges.1) is.rightful (subst BadRecord is.bytes h)

  trouble : First (refusals f) (fault_number found)
  trouble = numbered (fault_number found) frame.faultless faultless is
      (first_alike ((7, (InOrder t → ⊥)) ∷ (9, (Managed t → ⊥)) ∷ []) ((7, Loops t) ∷ (9, (Managed t → ⊥)) ∷ []) [] [] (fault_number found) (refl, disordered_loops is.shaped (joined roles edges.1), (refl, Iff.rfl, tt)) (λ _ g. g) worked.numbered)

  pub opened_not : {e : Fault} {r : Refusal} (b : Board) → found ≡ Err e → r ≡ faulted e → Opening f (number_of r) b
  opened_not {e} b h q = rw q record {
    numbered = subst (First (refusals f)) (ap fault_number h ∙ faulted_number A e) trouble;
    done = λ z. absurd (faulted_some e z);
  }

  pub opened : {v : A} → found ≡ Ok v → Opening f 0 (record { tables = t; kept = k; rights = rights })
  opened h = let z = ap fault_number h in record {
    numbered = subst (First (refusals f)) z trouble;
    done = λ _. (is, record { sound = worked_sound worked is.shaped roles.root (joined roles edges.1) z; right = worked_right worked z; rightful = is.rightful });
  }

  -- either, by the result that the reader gives
  pub opened_or_not : {Made : Fault → Refusal → Type 0} (r : Result A Refusal) → MatchResult found (λ v. r ≡ Ok v) (λ e. IsErrAnd r (Made e)) → ((e : Fault) (d : Refusal) → Made e d → d ≡ faulted e)
      → Opening f (number r) (record { tables = t; kept = k; rights = rights })
  opened_or_not r h made = ⊎_elim (λ p. rw p.2 (opened_not _ p.1 refl)) (λ p. rw p.2 (opened p.1)) (as_refusal found r h made)

-- ---- what a file that was opened says to the rest

module _ {f : List ℕ} {number : ℕ} {b : Board} (o : Opening f number b) where
  pub read_refused : number ≢ 0 → ReadAnswer f number founding_board
  read_refused z = record { numbered = o.numbered; done = λ e. absurd (z e); refused = λ _. refl }

  pub into_refused : (entry : Board) → number ≢ 0 → ReadInto f entry entry number
  into_refused entry z = record { numbered = o.numbered; done = λ e. absurd (z e); refused = λ _. refl }

pub read_not : {f : List ℕ} {b : Board} (r : Refusal) → Opening f (number_of r) b → ReadAnswer f (number_of r) founding_board
read_not r o = read_refused o (number_of_some r)

module _ {f : List ℕ} {b : Board} (o : Opening f 0 b) where
  pub sound : SoundBoard b
  sound = (o.done refl).1

  pub read_done : ReadAnswer f 0 b
  read_done = record { numbered = o.numbered; done = o.done; refused = λ n. absurd (n refl) }

  pub into_done : (entry : Board) → ReadInto f entry b 0
  into_done entry = record { numbered = o.numbered; done = λ _. read_done; refused = λ n. absurd (n refl) }
