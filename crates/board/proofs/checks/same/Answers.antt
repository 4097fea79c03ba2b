use mathlib.Core.Path.{◌≡◌, refl, sym, ◌∙◌, ap}
use mathlib.Core.Bool.{false≢true}
use mathlib.Core.List.{List}
use native.Mathlib.Omega.{arith}
use Prim.Native.Nat.{ℕ, ◌≤◌}
use lib.ListN.{get_or, length}
use lib.Seq.{ext_get_or}
use borrow.Author.Count.{below_more}
use borrow.Author.Rules.{rules}
use Rattle.board.proofs.checks.same.Invariants.{Alike}
use Rattle.board.proofs.checks.same.Goals as goal

alike_all : (s t : List ℕ) (x : ℕ) → length s ≡ 64 → length t ≡ 64 → 64 ≤ x → Alike s t x → s ≡ t
alike_all s t x m n g h = ext_get_or 0 s t (m ∙ sym n) (λ k l. h k (omega arith))

pub returns-then-derives-x : goal.returns-then-derives-x
returns-then-derives-x c = (λ e. absurd (false≢true e), λ e. absurd (c.if-derives-x.true (ap (λ l. get_or l c.loop-x.x 0) e.0)))

pub returns-then-derivers-x : goal.returns-then-derivers-x
returns-then-derivers-x c = (λ e. absurd (false≢true e), λ e. absurd (c.if-derivers-x.true (ap (λ l. get_or l c.loop-x.x 0) e.1.0)))

pub returns-then-manager-x : goal.returns-then-manager-x
returns-then-manager-x c = (λ e. absurd (false≢true e), λ e. absurd (c.if-manager-x.true (ap (λ l. get_or l c.loop-x.x 0) e.1.1)))

pub loop-x-preserved : goal.loop-x-preserved
loop-x-preserved c =
    let h = c.loop-x.invariant.1 in
    (search rules, (below_more _ _ h.0 c.if-derives-x.false, (below_more _ _ h.1.0 c.if-derivers-x.false, below_more _ _ h.1.1 c.if-manager-x.false)))

pub returns : goal.returns
returns c =
    let h = c.loop-x.invariant.1 in
    let rows : length c.args.derives.now ≡ 64 = search rules in
    let kept_rows : length c.args.kept.now.derives ≡ 64 = search rules in
    let up_rows : length c.args.derivers.now ≡ 64 = search rules in
    let kept_up_rows : length c.args.kept.now.derivers ≡ 64 = search rules in
    let bytes : length c.args.manager.now ≡ 64 = search rules in
    let kept_bytes : length c.args.kept.now.manager ≡ 64 = search rules in
    (λ _. (alike_all _ _ c.loop-x.x rows kept_rows (omega arith) h.0, (alike_all _ _ c.loop-x.x up_rows kept_up_rows (omega arith) h.1.0, alike_all _ _ c.loop-x.x bytes kept_bytes (omega arith) h.1.1)), λ _. refl)
