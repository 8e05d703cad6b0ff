use Rattle.smith_binary_sections.proofs.Common.{Each, Leads, Spelling, zip}
use Rattle.std.specs.Iterator.Adapters.{zip_first, zip_second}
use Rattle.std.specs.Slice.Iter.{iter_rest}
use Rattle.smith_binary_sections.proofs.lists.write_each_pair.Given as goal

abbrev pub invariant-loop-first : goal.invariant-loop-first
invariant-loop-first g l =
    let Item = λ (s : Spelling). g.W.EncodePair.spells s l.writer in
    Leads (λ s. Each (Item s) (zip (iter_rest (zip_first l.first-iterator)) (iter_rest (zip_second l.first-iterator))))
    (λ s. Each (Item s) (zip l.firsts l.seconds)) l.fn.sink l.sink
