use Rattle.smith_draw_types.proofs.Common.{AreFuncGrounds, Context, ◌≡◌}
use Rattle.smith_draw_types.specs.FunctionFamilies.{AreFunctionFamilies}
use Rattle.smith_draw_types.proofs.function_families.FunctionFamilies.of.Given as goal

abbrev pub invariant-loop-index : goal.invariant-loop-index
invariant-loop-index l = (context : Context) → context.types ≡ l.types → AreFuncGrounds context l.grounds
    → AreFunctionFamilies l.types l.grounds l.index l.families
