use Rattle.std.proofs.Common.{drop}
use Rattle.smith_binary_sections.proofs.Common.{Each, Leads, Spelling}
use Rattle.smith_binary_sections.proofs.lists.write_each.Given as goal

abbrev pub invariant-loop-item : goal.invariant-loop-item
invariant-loop-item g l =
    let Item = λ (s : Spelling). g.W.EncodeItem.spells s l.writer in
    Leads (λ s. Each (Item s) (drop l.item-index l.items)) (λ s. Each (Item s) l.items) l.fn.sink l.sink
