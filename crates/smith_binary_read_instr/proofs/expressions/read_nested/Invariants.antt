use Rattle.smith_binary_read_instr.proofs.Common.{[], reverse, with_front, ◌-◌, ◌≡◌}
use Rattle.smith_binary_read_instr.specs.ExpressionReadings.{nested_at}
use Rattle.smith_binary_read_instr.proofs.expressions.read_nested.Given as goal

abbrev pub invariant-loop : goal.invariant-loop
invariant-loop l =
    with_front l.instructions.items (nested_at (l.most - l.counter) (reverse l.blocks.items) l.reader) ≡ nested_at l.most [] l.fn.reader
