use Rattle.smith_decode.proofs.Common.{each_at, expr_at, ◌-◌, ◌≡◌}
use Rattle.smith_binary_read.proofs.LoopLemmas.{with_front}
use Rattle.smith_decode.proofs.elements.read_each_expr.Given as goal

abbrev pub invariant-loop : goal.invariant-loop
invariant-loop l = with_front l.items.items (each_at expr_at (l.count - l.counter) l.reader) ≡ each_at expr_at l.count l.fn.reader
