use Rattle.smith_types.proofs.Common.{arith}
use Rattle.smith_types.proofs.FuncGroundLemmas.{type_noted}
use Rattle.smith_types.proofs.func_grounds.note_type.Goals as goal

pub returns : goal.returns
returns c =
    type_noted c.args.types.now c.args.index c.args.exact c.args.marks.now.items c.mark_above.new.grounds.items c.index.result.now _
    (omega (arith, c.requires.entry, c.args.marks.now.ok.0)) c.index.ensures
    (rw c.with_exact.ensures at c.mark_above.ensures.marked)
