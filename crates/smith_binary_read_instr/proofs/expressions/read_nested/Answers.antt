use Rattle.smith_binary_read_instr.proofs.Common.{[], reverse, sym, ◌∙◌}
use Rattle.std.proofs.lemmas.Result.{err_from_is_err_and}
use Rattle.smith_binary_read_instr.specs.ExpressionReadings.{nested_at}
use Rattle.smith_binary_read_instr.proofs.NestingLoopLemmas.{over_listed, nested_go_on, nested_stop, nested_end, nested_past}
use Rattle.smith_binary_read_instr.proofs.expressions.read_nested.Goals as goal

pub returns-in_err-instruction : goal.returns-in_err-instruction
returns-in_err-instruction c =
    let p = err_from_is_err_and c.from_residual-in_err-instruction.result c.from_residual-in_err-instruction.ensures.1 in
    let over = over_listed c.loop.blocks.items c.as_slice.result.now c.loop.reader c.as_slice.ensures.value in
    rw (p.1, p.2) (nested_end c.in_err-instruction.field-0.0 c.loop.instructions.items c.args.most c.loop.counter
    (reverse c.loop.blocks.items) c.loop.reader (nested_at c.args.most [] c.args.reader.now) c.loop-test.true
    (over ∙ sym c.if-is_over.ensures) c.in_err-instruction.ensures c.loop.invariant)

pub loop-preserved : goal.loop-preserved
loop-preserved c =
    let over = over_listed c.loop.blocks.items c.as_slice.result.now c.loop.reader c.as_slice.ensures.value in
    rw c.in_ok-push.ensures.items
    (nested_go_on c.loop.instructions.items c.args.most c.loop.counter (reverse c.loop.blocks.items) c.loop.reader
    c.in_ok-instruction.instruction (reverse c.read_nested_instr.new.blocks.items) c.read_nested_instr.new.reader
    (nested_at c.args.most [] c.args.reader.now) c.loop-test.true (over ∙ sym c.if-is_over.ensures) c.in_ok-instruction.ensures
    c.loop.invariant)

pub returns-then-is_over : goal.returns-then-is_over
returns-then-is_over c =
    let over = over_listed c.loop.blocks.items c.as_slice.result.now c.loop.reader c.as_slice.ensures.value in
    rw (c.skip.ensures, c.from_vec.ensures)
    (nested_stop c.loop.instructions.items c.args.most c.loop.counter (reverse c.loop.blocks.items) c.loop.reader
    (nested_at c.args.most [] c.args.reader.now) c.loop-test.true (over ∙ sym c.if-is_over.ensures) c.loop.invariant)

pub returns : goal.returns
returns c =
    rw c.fault.ensures
    (nested_past c.loop.instructions.items c.args.most c.loop.counter (reverse c.loop.blocks.items) c.loop.reader
    (nested_at c.args.most [] c.args.reader.now) c.loop-test.false c.loop.invariant)
