use Rattle.smith_draw_contents.proofs.Common.{spaces_in}
use Rattle.smith_draw_contents.proofs.ExportsLoop.{IsExporting}
use Rattle.smith_draw_contents.proofs.exports.push_exports.Given as goal

abbrev pub invariant-loop-made : goal.invariant-loop-made
invariant-loop-made l = IsExporting l.config l.types.types (spaces_in l.spaces) l.imports_size l.made l.exports l.type_size l.names l.fn.u
    l.u
