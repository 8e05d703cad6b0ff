use Rattle.smith_draw_definitions.proofs.Common.{chosen_at, types_for}
use Rattle.smith_draw_definitions.proofs.DefinedLoop.{IsAfter}
use Rattle.smith_draw_definitions.proofs.typed_entities.choose_types.Given as goal

abbrev pub invariant-loop-made : goal.invariant-loop-made
invariant-loop-made l = IsAfter (λ _. chosen_at 0 (types_for l.for_use l.types.types)) l.least l.most l.fn.items l.items l.made l.fn.u l.u
