use Rattle.smith_draw_contents.proofs.Common.{every_item, spaces_in}
use Rattle.smith_draw_contents.proofs.AllExportsLoop.{AreExporting}
use Rattle.smith_draw_contents.proofs.all_exports.push_exports.Given as goal

abbrev pub invariant-loop-place : goal.invariant-loop-place
invariant-loop-place l = AreExporting l.config l.types.types (spaces_in l.spaces) l.imports_size (every_item (spaces_in l.spaces)) l.place
    l.exports l.type_size l.names l.fn.u l.u
