-- That each part of an answer fits its place. Assumes nothing.
use mathlib.Core.Path.{◌≡◌, refl, ap, subst}
use mathlib.Core.Bool.{Bool}
use mathlib.Core.Logic.{dite}
use mathlib.Core.List.{List}
use Prim.Native.Nat.{ℕ, ◌≤◌, ◌<◌}
use native.Mathlib.Decide.{ℕ_discrete}
use native.Mathlib.Omega.{arith}
use lib.Count.{ones-le}
use Rattle.sets.proofs.Laws.{ones_mono}
use Rattle.hierarchy.specs.First.{First}
use Rattle.hierarchy.proofs.Theorems.{climb_short}
use Rattle.board.specs.Boards.{tables_of}
use Rattle.board.specs.declared.Board.{Board}
use Rattle.board.proofs.Rules.{first_done}
use Rattle.writer.specs.Writing.{write_refusals, WriteAnswer}
use Rattle.boardfile.specs.Answers.{ScopeOnFile, StepsOnFile}
use Rattle.boardfile.proofs.Theorems.{sound_length}

-- a scope has at most 64 roles: they are live
pub count_small : {f : List ℕ} (a r : ℕ) {n count cause way : ℕ} {said : Bool} → ScopeOnFile f a r n said count cause way → count ≤ 64
count_small a r {n} {count} s = dite (ℕ_discrete n 0)
    (λ z.
    let w = s.done z in
    let k = w.2.0.1 in
    let sound = (w.1.done refl).1.sound in
    omega (arith, k.2, ones_mono k.0 w.0.tables.live (λ x m. ((k.1 x).0 m).derives.to), ones-le 64 w.0.tables.live sound.shaped.live_fits))
    (λ z. let e : count ≡ 0 = ap (λ (v : Bool × ℕ × ℕ × ℕ). v.1) (s.refused z) in omega arith)

-- and so a climb has less than 64 steps
pub steps_small : {f : List ℕ} (r : ℕ) {n steps : ℕ} → StepsOnFile f r n steps → steps < 64
steps_small r {n} s = dite (ℕ_discrete n 0)
    (λ z. let w = s.done z in let sound = (w.1.done refl).1.sound in omega (arith, climb_short sound w.2, ones-le 64 w.0.tables.live sound.shaped.live_fits))
    (λ z. omega (arith, s.refused z))

-- what is written is the file of a sound board, and no longer than any other
pub write_small : {b : Board} {entry exit : List ℕ} {at n len : ℕ} → WriteAnswer b entry at exit n len → len ≤ 6184
write_small {b} {entry} {at = at} {n = n} {len} w = dite (ℕ_discrete n 0)
    (λ z.
    let passed = first_done (write_refusals b entry at) refl (subst (First (write_refusals b entry at)) z w.numbered) in
    let long : 6184 < len → ⊥ = λ l. passed.0 (λ sound. omega (arith, l, (w.done z).0, sound_length (tables_of b) sound.sound b.rights)) in
    omega (arith, long))
    (λ z. omega (arith, (w.refused z).0))
