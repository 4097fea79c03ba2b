-- A file has one frame. Assumes nothing.
use mathlib.Core.Path.{◌≡◌, sym, ◌∙◌}
use mathlib.Core.Bool.{Bool, true, false, not}
use mathlib.Core.List.{List}
use Prim.Native.Nat.{ℕ}
use Rattle.std.specs.Prelude.{Result, Ok, Err}
use Rattle.board.specs.declared.answers.Refusal.{Refusal}
use Rattle.frames.specs.Frames.{with_rights}
use Rattle.frames.specs.Framing.{Trailed, Framing}
use Rattle.frames.specs.declared.Layout.{Layout}
use Rattle.frames.proofs.Frames.{said, announced}

-- the mark tells whether there are rights bytes
which : {f : List ℕ} {n e : ℕ} (rights : Bool) → Trailed (not rights) f n e → with_rights f ≡ rights
which true t = (said false t).which
which false t = (said true t).which

pub frame_unique : (f : List ℕ) (x y : Result Layout Refusal) → Framing f x → Framing f y → x ≡ y
frame_unique f (Ok x) (Ok y) g h =
    let a = announced g in
    let b = announced h in
    λ k. Ok (record { roles = (sym a.roles ∙ b.roles) k; edges = (sym a.edges ∙ b.edges) k; rights = (sym (which x.rights g.trailed) ∙ which y.rights h.trailed) k })
frame_unique f (Ok x) (Err e) g h = absurd (g.faultless h.0)
frame_unique f (Err e) (Ok y) g h = absurd (h.faultless g.0)
frame_unique f (Err d) (Err e) g h = λ k. Err ((g.1 ∙ sym h.1) k)
