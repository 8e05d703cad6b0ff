use Rattle.std.proofs.Common.{sym, ◌∙◌}
use Rattle.smith_shape.proofs.ShapeLemmas.{several_supertypes, shape_binary}
use Rattle.smith_shape.proofs.shapes.read_shape.Goals as goal

pub returns-in-Ok-shape_of-clause-ok : goal.returns-in-Ok-shape_of-clause-ok
returns-in-Ok-shape_of-clause-ok c =
    shape_binary c.args.bytes.now c.in-Ok.module c.in-Ok-shape_of.shape c.in-Ok.ensures.sound
    (rw c.as_slice.ensures at (sym c.are_single.ensures ∙ c.if-not-are_single.false)) c.in-Ok-shape_of.ensures.ok

pub returns-then-not-are_single-clause-refused : goal.returns-then-not-are_single-clause-refused
returns-then-not-are_single-clause-refused c =
    several_supertypes c.args.bytes.now c.in-Ok.module c.in-Ok.ensures.sound
    (rw c.as_slice.ensures at (sym c.are_single.ensures ∙ c.if-not-are_single.true))
