use Rattle.smith_binary.proofs.WrittenLemmas.{leads_each, each_written}
use Rattle.smith_binary_sections.proofs.lists.write_each.Goals as goal

pub loop-item-preserved : goal.loop-item-preserved
loop-item-preserved g c =
    leads_each (λ s. g.W.EncodeItem.spells s c.args.writer.now) c.loop-item.item-index c.args.items.now _ _ c.loop-item-test.true
    c.item-item.is c.loop-item.invariant c.in_ok-encode_item.ensures.writes

pub returns-clause-writes : goal.returns-clause-writes
returns-clause-writes g c = each_written (λ s. g.W.EncodeItem.spells s c.args.writer.now) c.loop-item.item-index c.args.items.now
    c.loop-item-test.false c.loop-item.invariant
