-- Who added a part of an edge may take it back at once. Assumes nothing.
use mathlib.Core.Path.{◌≡◌, refl, sym, ap, ◌∙◌, subst}
use mathlib.Core.Bool.{Bool, true, false, ◌&&◌, ◌||◌}
use mathlib.Core.Logic.{◌⊎◌, inl, inr, ⊎_elim, ⊎_map, ◌≢◌}
use mathlib.Core.List.{List}
use Prim.Native.Nat.{ℕ, ◌<◌}
use native.Mathlib.Omega.{arith}
use lib.Dec.{eqb}
use borrow.Author.Tests.{eqb-true, eq-eqb, leb-true}
use Rattle.sets.specs.Sets.{bit, ◌is_in◌}
use Rattle.sets.proofs.Bools.{or_cases, or_left, or_right, and_left, false_no}
use Rattle.hierarchy.specs.Tables.{Tables, Live, row, kind, has_i, has_a}
use Rattle.hierarchy.specs.Words.{Derives, Chain, Scope, Sound}
use Rattle.hierarchy.specs.Words.{Chain.stop, Chain.step}
use Rattle.hierarchy.specs.First.{First, Passed}
use Rattle.hierarchy.proofs.Decide.{edge_lt}
use Rattle.hierarchy.proofs.Derive.{derives↔descends, i_entry, a_entry}
use Rattle.hierarchy.proofs.FirstLaws.{pass, none}
use Rattle.board.specs.declared.Command.{Command}
use Rattle.board.proofs.Rules.{first_done}
use Rattle.effects.specs.Effects.{pair, entry, table_after, after}
use Rattle.effects.proofs.Edits.{table_entry, in_table, entry_3, live_stays}
use Rattle.refusals.specs.Entitled.{Entitled}
use Rattle.refusals.specs.Refusals.{needed, scoped, strictly, Malformed, Missing, Standing, Lacking, InScope}
use Rattle.refusals.specs.Refusals.{Malformed.no_code, Malformed.no_actor, Malformed.no_role, Malformed.no_junior, Malformed.no_kind, Malformed.no_rights, Standing.role, Standing.edge, Lacking.no_part, Lacking.no_edge}
use Rattle.refusals.proofs.Blaming.{OnEdge, edge_is}
use Rattle.refusals.proofs.Trying.{role_lt, junior_lt}
use Rattle.refusals.proofs.Entitling.{may_use_more}
use Rattle.commands.specs.Commands.{afterwards, on_tables}
use Rattle.commands.specs.EdgeParts.{NoneStands, TakesBack}
use Rattle.commands.proofs.EdgeParts.{added, taken_back}

-- a table that grew in the row of s alone
record Grows (s : ℕ) (old new : List ℕ) : Type 0 where
  kept : (x y : ℕ) → y is_in row old x → y is_in row new x
  more : (x y : ℕ) → y is_in row new x → (y is_in row old x) ⊎ (x ≡ s)

module _ {s : ℕ} {old new : List ℕ} (grows : Grows s old new) where
  kept_chain : {x y : ℕ} → Chain old x y → Chain new x y
  kept_chain stop = stop
  kept_chain (step h c) = step (grows.kept _ _ h) (kept_chain c)

  -- a way is an old one up to the first entry that is new, which is s's
  cut_chain : {x y : ℕ} → Chain new x y → Chain old x y ⊎ Chain old x s
  cut_chain stop = inl stop
  cut_chain (step {x = x} {y = y} h c) =
      ⊎_elim (λ e. ⊎_map (step e) (step e) (cut_chain c)) (λ e. inr (subst (Chain old x) e stop)) (grows.more x y h)

module _ {s : ℕ} {t u : Tables} (live : (x : ℕ) → bit t.live x ≡ bit u.live x) (in-i : Grows s t.i u.i) (in-a : Grows s t.a u.a) where
  kept_derives : {x y : ℕ} → Derives t x y → Derives u x y
  kept_derives {x} {y} d = let w = derives↔descends.0 d in
      derives↔descends.1 record { from = sym (live x) ∙ w.from; to = sym (live y) ∙ w.to; mid = w.mid; down_a = kept_chain in-a w.down_a; down_i = kept_chain in-i w.down_i }

  -- who derives y now derived it before, or derived s: a way by A and then by I that is cut short is one still
  cut_derives : {x y : ℕ} → Live t s → Derives u x y → Derives t x y ⊎ Derives t x s
  cut_derives {x} {y} l d =
      let w = derives↔descends.0 d in
      let down : (m z : ℕ) → Live t z → Chain t.a x m → Chain t.i m z → Derives t x z =
      λ m z k a i. derives↔descends.1 record { from = live x ∙ w.from; to = k; mid = m; down_a = a; down_i = i } in
      ⊎_elim (λ a. ⊎_map (down _ y (live y ∙ w.to) a) (down _ s l a) (cut_chain in-i w.down_i)) (λ a. inr (down s s l a stop)) (cut_chain in-a w.down_a)

  -- so who has s in its scope keeps all its scope: each rival was one before, there or at s
  kept_scope : {a r : ℕ} → Scope t a s → Scope t a r → Scope u a r
  kept_scope above here = record {
    derives = kept_derives here.derives;
    rivals = λ x d. ⊎_map kept_derives kept_derives (⊎_elim (here.rivals x) (above.rivals x) (cut_derives above.derives.to d));
  }

-- sound tables pass rows 7 and 9, and row 8 is for a new role
pub sound_passes : (t : Tables) (c : Command) → Sound t → c.code ≢ 1 → First (afterwards t c) 0
sound_passes t c sound n = pass _ _ _ _ sound.loopless (pass _ _ _ _ (λ o. n o.adds) (pass _ _ _ _ (λ k. k sound.managed) none))

module _ {c d : Command} (t : Tables) (rights : List ℕ) (w : TakesBack c d) (sound : Sound t) (f : First (on_tables t rights c) 0) where
  rows : Passed (on_tables t rights c)
  rows = first_done (on_tables t rights c) refl f

  -- the command c leaves the live roles,
  same_live : (x : ℕ) → bit t.live x ≡ bit (after t c).live x
  same_live x = ap (λ (k : ℕ). bit k x) (live_stays t c sound.shaped.live_fits (omega (arith, w.adds)))

  -- a table grows in the row of the senior alone,
  grows : (s j : ℕ) (p : Bool) (old : List ℕ) → ((x y : ℕ) → y is_in row old x → kind t x y ≢ 0) → Grows c.role old (table_after c s j p old)
  grows s j p old edges =
      let new : (x y : ℕ) → entry c s j p (bit (row old x) y) x y ≡ (bit (row old x) y || (pair c x y && p)) = λ x y. entry_3 c s j p _ x y w.adds in
      record {
        kept = λ x y h. let l = edge_lt sound.shaped x y (edges x y h) in table_entry c s j p old x y l.0 l.1 ∙ new x y ∙ or_left _ (pair c x y && p) h;
        more = λ x y h. ⊎_map (λ o. o)
            (λ q. eqb-true x c.role (and_left (eqb x c.role) (eqb y c.junior) (and_left (pair c x y) p q)))
            (or_cases (bit (row old x) y) (pair c x y && p) (sym (new x y) ∙ (in_table c s j p old x y h).2));
      }

  on_edge : OnEdge c
  on_edge = (omega (arith, w.adds), omega (arith, w.adds))

  -- and every part that c names stands.
  stands : (s j : ℕ) (p : Bool) (old : List ℕ) → p ≡ true → c.junior is_in row (table_after c s j p old) c.role
  stands s j p old h =
      added c (role_lt c rows.0) (junior_lt c rows.0 on_edge) s j p old w.adds ∙ or_right (bit (row old c.role) c.junior) p h

  -- Rows 2 and 3 say of d what they say of c,
  malformed : Malformed d → Malformed c
  malformed (no_code l) = absurd (⊎_elim (λ (k : d.code < 1). omega (arith, w.removes)) (λ (k : 7 < d.code). omega (arith, w.removes)) l)
  malformed (no_actor l) = no_actor (omega (arith, w.actor))
  malformed (no_role l) = no_role (omega (arith, w.role))
  malformed (no_junior n l) = no_junior ((edge_is c).1 on_edge) (omega (arith, w.junior))
  malformed (no_kind n l) = no_kind ((edge_is c).1 on_edge) (subst (λ k. (k < 1) ⊎ (3 < k)) w.kind l)
  malformed (no_rights n l) = absurd (omega (arith, w.removes, leb-true 6 d.code n))

  missing : Missing (after t c) d → Missing t c
  unfolding needed
  missing m =
      let same : needed c m.who ≡ needed d m.who = rw (w.adds, w.removes, w.actor, w.role, w.junior) in
      record { who = m.who; is_needed = same ∙ m.is_needed; absent = same_live m.who ∙ m.absent }

  -- row 4 is of other codes, and row 5 of parts that stand now,
  standing : Standing (after t c) d → ⊥
  standing (role e _) = absurd (omega (arith, w.removes))
  standing (edge e _) = absurd (omega (arith, w.removes))

  lacking : Lacking (after t c) d → ⊥
  unfolding after
  lacking (no_part _ n) = n record {
    i = λ h. rw (w.role, w.junior) (stands _ _ _ t.i (ap has_i (sym w.kind) ∙ h));
    a = λ h. rw (w.role, w.junior) (stands _ _ _ t.a (ap has_a (sym w.kind) ∙ h));
  }
  lacking (no_edge e _) = absurd (omega (arith, w.removes))

  -- the actor derives all that it derived, so a right that it might use it still may,
  kept_derived : {x y : ℕ} → Derives t x y → Derives (after t c) x y
  unfolding after
  kept_derived d = kept_derives same_live (grows _ _ _ t.i (i_entry t)) (grows _ _ _ t.a (a_entry t)) d

  entitled : Entitled (Derives t) rights d → Entitled (Derives (after t c)) rights d
  entitled h k e = may_use_more (λ x. kept_derived) (h k e)

  -- and the ends are in scope still, as the senior was
  in_scope : InScope (Scope t) c → InScope (Scope (after t c)) d
  unfolding after scoped strictly
  in_scope s = record {
    scope = λ x h.
        let same : scoped c x ≡ scoped d x = rw (w.adds, w.removes, w.role, w.junior) in
        rw w.actor (kept_scope same_live (grows _ _ _ t.i (i_entry t)) (grows _ _ _ t.a (a_entry t))
        (s.scope c.role (rw (w.adds, eq-eqb c.role c.role refl))) (s.scope x (same ∙ h)));
    strict = λ x h. let never : strictly d x ≡ false = rw w.removes in absurd (false_no never h);
  }

  -- What was added where no part of it stood the same actor can take back at once, if it may use the right to.
  pub back_granted : NoneStands t c → Entitled (Derives t) rights d → First (on_tables (after t c) rights d) 0
  back_granted free right =
      pass _ _ _ _ (λ m. rows.0 (malformed m)) (pass _ _ _ _ (λ m. rows.1.0 (missing m))
      (pass _ _ _ _ standing (pass _ _ _ _ lacking (pass _ _ _ _ (λ k. k (entitled right)) (pass _ _ _ _ (λ k. rows.1.1.1.1.1.0 (λ s. k (in_scope s)))
      (subst (λ u. First (afterwards u d) 0) (sym (taken_back w t sound.shaped free)) (sound_passes t d sound (λ k. absurd (omega (arith, w.removes))))))))))
