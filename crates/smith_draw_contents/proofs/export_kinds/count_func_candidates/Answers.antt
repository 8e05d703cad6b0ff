use Rattle.smith_draw_contents.proofs.Common.{arith, sym}
use Rattle.smith_draw_contents.specs.Exporting.{is_func_below}
use Rattle.smith_draw_contents.proofs.CandidateLemmas.{length_all, all_below}
use Rattle.smith_draw_contents.proofs.export_kinds.count_func_candidates.Goals as goal

pub returns-then-left-most : goal.returns-then-left-most
returns-then-left-most c =
    let types = c.args.types.now.types in
    let funcs = c.args.funcs.now in
    sym (length_all (is_func_below types c.args.left) 0 funcs (all_below types c.args.most c.args.left funcs c.requires.most
    (omega (arith, c.if-left-most.true))))
