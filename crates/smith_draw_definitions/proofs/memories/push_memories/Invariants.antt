use Rattle.std.specs.List.{All}
use Rattle.smith_draw_definitions.proofs.Common.{features_of, IsMemoryValid, memtype_at}
use Rattle.smith_config.specs.EntityBounds.{IsMemoryWithin}
use Rattle.smith_draw_definitions.specs.Defined.{AreAdded}
use Rattle.smith_draw_definitions.proofs.DefinedLoop.{IsAfter}
use Rattle.smith_draw_definitions.proofs.memories.push_memories.Given as goal

abbrev pub invariant-loop-made : goal.invariant-loop-made
invariant-loop-made l = record {
  following : IsAfter (λ _. memtype_at l.config) l.config.min_memories l.config.max_memories l.fn.memories l.memories l.made l.fn.u l.u;
  valid : All (IsMemoryValid (features_of l.config)) l.fn.memories → All (IsMemoryValid (features_of l.config)) l.memories;
  within : AreAdded (IsMemoryWithin l.config) l.fn.memories l.memories;
}
