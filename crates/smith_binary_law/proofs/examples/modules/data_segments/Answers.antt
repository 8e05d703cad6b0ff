use Rattle.smith_binary_law.proofs.Common.{context_with, I32, I32Const, None, pos, refl, usual_features}
use Rattle.smith_types.specs.ExampleEntities.{memory}
use Rattle.smith_binary_law.proofs.SegmentLemmas.{alone}
use Rattle.smith_binary_law.proofs.examples.modules.data_segments.Goals as goal

pub returns-clause-into_a_memory : goal.returns-clause-into_a_memory
returns-clause-into_a_memory c = (memory 1 None, refl, alone (context_with usual_features 3) (I32Const (pos 0)) I32 I32 (refl, refl) tt)
