use Rattle.smith_draw_contents.proofs.Common.{arith, length, sym, ◌<◌, ◌∙◌}
use Rattle.smith_draw_contents.specs.Exporting.{is_func_below}
use Rattle.smith_draw_contents.proofs.CandidateLemmas.{length_all, at_all, all_below}
use Rattle.smith_draw_contents.proofs.export_kinds.func_candidate_at.Goals as goal

pub overflow_cast-result : goal.overflow_cast-result
overflow_cast-result c =
    let types = c.args.types.now.types in
    let funcs = c.args.funcs.now in
    let test = is_func_below types c.args.left in
    let all = all_below types c.args.most c.args.left funcs c.requires.most (omega (arith, c.if-left-most.true)) in
    let below : c.args.place < length funcs = rw (length_all test 0 funcs all) at c.requires.within in
    omega (arith, below, c.requires.few)

pub returns-then-left-most : goal.returns-then-left-most
returns-then-left-most c =
    let types = c.args.types.now.types in
    let funcs = c.args.funcs.now in
    let test = is_func_below types c.args.left in
    let all = all_below types c.args.most c.args.left funcs c.requires.most (omega (arith, c.if-left-most.true)) in
    let below : c.args.place < length funcs = rw (length_all test 0 funcs all) at c.requires.within in
    sym (at_all test 0 funcs c.args.place all below ∙ omega arith)
