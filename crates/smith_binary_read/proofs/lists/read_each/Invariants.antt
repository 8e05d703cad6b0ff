use Rattle.std.proofs.Common.{◌≡◌, ◌-◌}
use Rattle.smith_binary_read.specs.Readings.{each_at}
use Rattle.smith_binary_read.proofs.LoopLemmas.{with_front}
use Rattle.smith_binary_read.proofs.lists.read_each.Given as goal

abbrev pub invariant-loop : goal.invariant-loop
invariant-loop g l =
    with_front l.items.items (each_at g.T.Decode.reading (l.count - l.counter) l.reader) ≡ each_at g.T.Decode.reading l.count l.fn.reader
