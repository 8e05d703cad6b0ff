use Rattle.std.proofs.lemmas.Slice.Zip.{either_empty_from_Zip}
use Rattle.smith_binary_sections.proofs.ListLemmas.{pair_step, pair_end}
use Rattle.smith_binary_sections.proofs.lists.write_each_pair.Goals as goal

pub loop-first-preserved : goal.loop-first-preserved
loop-first-preserved g c = pair_step (λ s. g.W.EncodePair.spells s c.args.writer.now) _ _ _ _ c.in-Some.first.now c.in-Some.second.now
    c.in-Some.ensures.steps.0 c.in-Some.ensures.steps.1 c.loop-first.invariant c.in_ok-encode_pair.ensures.writes

pub returns-clause-writes : goal.returns-clause-writes
returns-clause-writes g c = pair_end (λ s. g.W.EncodePair.spells s c.args.writer.now) _ _
    (either_empty_from_Zip c.loop-first.first-iterator c.next.new.self c.next.result c.in-None.is c.next.ensures.steps)
    c.loop-first.invariant
