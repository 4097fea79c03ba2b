-- What the test of an entry says of its board. Assumes nothing.
use mathlib.Core.Path.{◌≡◌, refl, sym, ◌∙◌, ap, ap₂, subst, subst₂}
use mathlib.Core.Logic.Iff
use mathlib.Core.Logic.{⊎_elim}
use mathlib.Core.Bool.{Bool, true, false, ◌&&◌, false≢true}
use mathlib.Core.List.Memᴰ
use mathlib.Core.List.{List, [], ◌∷◌, Memᴰ}
use Prim.Native.Nat.{ℕ, zero, suc, ◌<◌}
use lib.Dec.{eqb, lit<}
use borrow.Author.Tests.{eqb-true}
use Rattle.sets.proofs.Bools.{and_left, and_right, false_no}
use Rattle.sets.proofs.Laws.{bit_lt}
use Rattle.hierarchy.specs.Tables.{Tables, Shaped, row, kind, AreBytes}
use Rattle.hierarchy.specs.Words.{Climb, Sound}
use Rattle.hierarchy.specs.Words.{Climb.top, Climb.up}
use Rattle.hierarchy.specs.First.{First}
use Rattle.hierarchy.proofs.FirstLaws.{pass}
use Rattle.hierarchy.proofs.Checks.{any_is, and_is, not_is, beq_same}
use Rattle.hierarchy.proofs.Decide.{derives_is, scope_set, out_of_scope_is, admin_is, manager_is, loops_is, shaped_is}
use Rattle.hierarchy.proofs.Admin.{admin_live}
use Rattle.hierarchy.proofs.Rows.{one_entry}
use Rattle.board.specs.Boards.{KeepsRight}
use Rattle.board.specs.Rights.{rights_of, RightsFit}
use Rattle.board.specs.declared.Board.{Board}
use Rattle.board.specs.declared.Command.{Command}
use Rattle.refusals.specs.Refusals.{Fits}
use Rattle.commands.specs.Commands.{on_tables, refusals}
use Rattle.commands.proofs.SoundAfter.{shaped_after}
use Rattle.exampleboards.specs.Boards.{start_rights, Of}
use Rattle.exampleboards.specs.Answer.{left, rights_left, in_order?, answer?, fits?}
use Rattle.exampleboards.specs.Table.{Stage, tables_at, rights_at, Fact, Holds, Hold, reached, rights_reached, formed?, climbs?, rows?, holds?, hold?, right?, every?}
use Rattle.exampleboards.specs.Table.{Stage.on, Stage.◌then◌, Fact.sound, Fact.derives, Fact.scope, Fact.manager, Fact.steps, Fact.alone, Fact.loops, Fact.edge, Fact.rights, Fact.gives, Fact.blames, Fact.bars, Fact.same}
use Rattle.exampleboards.proofs.Answering.{fits_is, malformed_is, answer_is, blames_holds}
use Rattle.exampleboards.proofs.Leaving.{left_is, rights_left_is, bytes_after}
use Rattle.exampleboards.proofs.Ordering.{in_order}

-- ---- facts

climbs_holds : {t : Tables} → Shaped t → (n r : ℕ) → climbs? t n r ≡ true → Climb t r n
unfolding climbs?
climbs_holds {t} s zero r e = subst (λ x. Climb t x 0) (sym (eqb-true r 0 e)) top
climbs_holds {t} s (suc n) r e =
    let w = (any_is 64 (λ m. and_is (manager_is s m r) (λ _. Iff.rfl)) (λ m h. bit_lt 64 s.live_fits (admin_live h.0.admin))).0 e in
    up w.1.0 (climbs_holds s n w.0 w.1.1)

rows_same : (xs ys : List ℕ) → rows? xs ys ≡ true → xs ≡ ys
unfolding rows?
rows_same [] [] e = refl
rows_same [] (y ∷ ys) e = absurd (false≢true e)
rows_same (x ∷ xs) [] e = absurd (false≢true e)
rows_same (x ∷ xs) (y ∷ ys) e = ap₂ ◌∷◌ (eqb-true x y (and_left (eqb x y) (rows? xs ys) e)) (rows_same xs ys (and_right (eqb x y) (rows? xs ys) e))

tables_same : (b d : Tables) (r s : List ℕ) → (eqb b.live d.live && (rows? b.i d.i && (rows? b.a d.a && rows? r s))) ≡ true → (b ≡ d) × (r ≡ s)
tables_same b d r s e =
    let live = eqb-true b.live d.live (and_left (eqb b.live d.live) _ e) in
    let past-live = and_right (eqb b.live d.live) _ e in
    let i = rows_same b.i d.i (and_left (rows? b.i d.i) _ past-live) in
    let past_i = and_right (rows? b.i d.i) _ past-live in
    let a = rows_same b.a d.a (and_left (rows? b.a d.a) _ past_i) in
    (λ k. record { live = live k; i = i k; a = a k }, rows_same r s (and_right (rows? b.a d.a) _ past_i))

-- the number of a command on sound tables is its number on every board of these tables and rights
on_boards : {t : Tables} {held : List ℕ} (c : Command) (n : ℕ) → Holds t held sound → First (on_tables t held c) n → (b : Board) → Of t held b → KeepsRight b → First (refusals b c) n
on_boards c n fine f b is right =
    let h = subst₂ (λ (t : Tables) (r : List ℕ). (Sound t × RightsFit t.live r) × First (on_tables t r c) n) (sym is.tables_are) (sym is.rights_are) (fine, f) in
    pass 1 _ _ n (λ k. k (record { sound = h.0.0; right = right; rightful = h.0.1 })) h.1

module _ (t : Tables) (held : List ℕ) (s : Shaped t) (ok : Bool) (order : ok ≡ true → Holds t held sound) where
  numbered : (c : Command) (n : ℕ) → ok ≡ true → Fits c → eqb (answer? t held c) n ≡ true → First (on_tables t held c) n
  numbered c n o fits e = subst (First (on_tables t held c)) (eqb-true (answer? t held c) n e) (answer_is t held c (order o).0 fits)

  fact_holds : (f : Fact) → holds? t held ok f ≡ true → Holds t held f
  unfolding holds?
  fact_holds sound e = order e
  fact_holds (derives x y true) e = (derives_is s x y).0 (beq_same _ _ e)
  fact_holds (derives x y false) e = λ d. false_no (beq_same _ _ e) ((derives_is s x y).1 d)
  fact_holds (scope a set) e = scope_set s a set (eqb-true _ _ e)
  fact_holds (manager r m) e = (manager_is s m r).0 e
  fact_holds (steps r n) e = climbs_holds s n r e
  fact_holds (alone r) e = λ a d. (not_is (any_is 64 (λ x. admin_is s x r) (λ x d. bit_lt 64 s.live_fits (admin_live d)))).0 e (a, d)
  fact_holds loops e = (loops_is s).0 e
  fact_holds (edge x y k) e = eqb-true (kind t x y) k e
  fact_holds (rights r set) e = eqb-true (rights_of held r) set e
  fact_holds (gives c n) e =
      let o = and_left ok _ e in
      let rest = and_right ok _ e in
      on_boards c n (order o) (numbered c n o ((fits_is c).0 (and_left (fits? c) _ rest)) (and_right (fits? c) _ rest))
  fact_holds (blames c who cause way) e =
      let o = and_left ok _ e in
      let rest = and_right ok _ e in
      let fits = (fits_is c).0 (and_left (fits? c) _ rest) in
      let last = and_right (fits? c) _ rest in
      let six = numbered c 6 o fits (and_left (eqb (answer? t held c) 6) _ last) in
      let names = blames_holds t held c who cause way s fits six (and_right (eqb (answer? t held c) 6) _ last) in
      λ b is right. (on_boards c 6 (order o) six b is right, names)
  fact_holds (bars a r cause way) e = (out_of_scope_is s a r cause way).0 e
  fact_holds (same d) e = tables_same t d held start_rights e

  facts_hold : (fs : List Fact) → hold? t held ok fs ≡ true → Hold t held fs
  unfolding hold?
  facts_hold [] e = tt
  facts_hold (f ∷ fs) e =
      let p = holds? t held ok f in
      (fact_holds f (and_left p _ e), facts_hold fs (and_right p _ e))

-- ---- stages and entries

start_bytes : AreBytes start_rights
start_bytes = record { rows = refl; fits = fits }
  where
    fits : (x : ℕ) → row start_rights x < 256
    fits zero = lit< tt
    fits (suc zero) = lit< tt
    fits (suc (suc x)) = subst (λ (n : ℕ). n < 256) (sym (one_entry 62 x 0)) (lit< tt)

-- what is known of a stage that has its shape: what was computed is what it stands for
pub record Reached (s : Stage) : Type 0 where
  pub shaped : Shaped (tables_at s)
  pub bytes : AreBytes (rights_at s)
  pub tables_are : reached s ≡ tables_at s
  pub rights_are : rights_reached s ≡ rights_at s

stage_reached : (s : Stage) → formed? s ≡ true → Reached s
unfolding formed? reached rights_reached
stage_reached (on t) e = record { shaped = (shaped_is t).0 e; bytes = start_bytes; tables_are = refl; rights_are = refl }
stage_reached (s then c) e =
    let r = stage_reached s (and_left (formed? s) _ e) in
    let well = (not_is (malformed_is c)).0 (and_right (formed? s) _ e) in record {
      shaped = shaped_after (tables_at s) c;
      bytes = bytes_after c well r.bytes;
      tables_are = ap (λ t. left t c) r.tables_are ∙ left_is (tables_at s) c r.shaped;
      rights_are = ap (rights_left c) r.rights_are ∙ rights_left_is c well r.bytes;
    }

-- What a test that comes out true says.
pub right_holds : (s : Stage) (fs : List Fact) → right? s fs ≡ true → Hold (tables_at s) (rights_at s) fs
unfolding right?
right_holds s fs e =
    let r = stage_reached s (and_left (formed? s) _ e) in
    let t = tables_at s in
    let held = rights_at s in
    facts_hold t held r.shaped (in_order? t held) (in_order t held r.shaped) fs
    (ap₂ (λ d h. hold? d h (in_order? d h) fs) (sym r.tables_are) (sym r.rights_are) ∙ and_right (formed? s) _ e)

-- Where all tests of a list do, each of its entries holds.
pub every_holds : (l : List (Stage × List Fact)) → every? l ≡ true → (e : Stage × List Fact) → Memᴰ e l → Hold (tables_at e.0) (rights_at e.0) e.1
unfolding every?
every_holds [] t e m = absurd (Memᴰ.not-nil m)
every_holds (d ∷ l) t e m =
    let p = right? d.0 d.1 in
    ⊎_elim
    (λ q. subst (λ n. Hold (tables_at n.0) (rights_at n.0) n.1) (sym q) (right_holds d.0 d.1 (and_left p (every? l) t)))
    (every_holds l (and_right p (every? l) t) e)
    (Memᴰ.cases_cons m)
