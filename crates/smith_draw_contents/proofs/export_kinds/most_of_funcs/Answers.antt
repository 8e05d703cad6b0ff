use Rattle.smith_draw_contents.proofs.Common.{All-weaker, arith, take, ◌≤◌}
use Rattle.std.proofs.lemmas.List.{take_all}
use Rattle.std.proofs.lemmas.List.Elements.{All-more}
use Rattle.smith_draw_contents.specs.Exported.{IsFuncWithin}
use Rattle.smith_draw_contents.proofs.export_kinds.most_of_funcs.Goals.{then-size-most, else-size-most}
use Rattle.smith_draw_contents.proofs.export_kinds.most_of_funcs.Goals as goal

pub loop-func-preserved : goal.loop-func-preserved
loop-func-preserved c =
    let types = c.args.types.now.types in
    let funcs = c.args.funcs.now in
    let more = c.if-size-most.most in
    let grown : (c.loop-func.most ≤ more) × (c.func_size-size.result ≤ more) = elim c.if-size-most.branch [
      | then-size-most w ↦ (omega (arith, w.most-is, w.if-size-most), omega (arith, w.most-is))
      | else-size-most w ↦ (omega (arith, w.most-is), omega (arith, w.most-is, w.if-size-most))
    ] in
    let so_far = All-weaker (IsFuncWithin types c.loop-func.most) (IsFuncWithin types more) (λ func within. omega (arith, within, grown.0))
    (take c.loop-func.func-index funcs) c.loop-func.invariant in
    All-more (IsFuncWithin types more) funcs c.loop-func.func-index 0 c.loop-func-test.true so_far
    (omega (arith, c.func_size-size.ensures, grown.1))

pub returns : goal.returns
returns c = rw (take_all c.loop-func.func-index c.args.funcs.now (omega (arith, c.loop-func-test.false))) at c.loop-func.invariant
