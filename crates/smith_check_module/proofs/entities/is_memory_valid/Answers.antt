use Rattle.smith_check_module.proofs.Common.{features_in, IsMemoryValid}
use Rattle.smith_check_module.proofs.RightLemmas.{one_decided}
use Rattle.smith_check_module.proofs.entities.is_memory_valid.Goals as goal

pub returns : goal.returns
returns c =
    one_decided (IsMemoryValid (features_in c.args.features)) c.args.memory c.are_memories_valid.result c.are_memories_valid.ensures
