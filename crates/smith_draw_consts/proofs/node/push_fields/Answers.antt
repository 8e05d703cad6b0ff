use Rattle.smith_draw_consts.proofs.Common.{append-nil, sym}
use Rattle.std.proofs.lemmas.Option.{slice_get_past}
use Rattle.smith_draw_consts.proofs.node.push_fields.Goals as goal

pub returns-in-None-clause-ok : goal.returns-in-None-clause-ok
returns-in-None-clause-ok c =
    let gone = slice_get_past c.args.types.now c.args.index c.in-None.ensures.lookup.3 in
    rw gone (sym (append-nil c.args.operands.now))
