use borrow.Author.Rules.{rules}
use Rattle.writer.proofs.Writings.{each_itself, tail_room, file_put}
use Rattle.writer.proofs.parts.put_file.Goals as goal

pub put_tail-requires : goal.put_tail-requires
put_tail-requires c = tail_room c.requires _ _ (each_itself _ (λ x y h. search rules) c.put_each.ensures) c.put_edges.ensures

pub returns : goal.returns
returns c = file_put c.requires _ _ (each_itself _ (λ x y h. search rules) c.put_each.ensures) c.put_edges.ensures _ c.put_tail.ensures
