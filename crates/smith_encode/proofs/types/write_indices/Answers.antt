use Rattle.smith_binary.specs.Spelling.{IsUnsignedIn}
use Rattle.smith_binary.proofs.WrittenLemmas.{each_written, leads_each}
use Rattle.smith_encode.proofs.Common.{refl}
use Rattle.smith_encode.proofs.types.write_indices.Goals as goal

pub loop-index-preserved : goal.loop-index-preserved
loop-index-preserved c =
    leads_each (λ s. IsUnsignedIn s 32) c.loop-index.index-index c.args.indices.now _ 0 c.loop-index-test.true refl c.loop-index.invariant
    c.in_ok-write_u32.ensures.writes

pub returns-clause-writes : goal.returns-clause-writes
returns-clause-writes c =
    each_written (λ s. IsUnsignedIn s 32) c.loop-index.index-index c.args.indices.now c.loop-index-test.false c.loop-index.invariant
