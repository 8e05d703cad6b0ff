use Rattle.smith_draw_types.proofs.Common.{drop, ◌≡◌}
use Rattle.smith_draw_types.specs.Grounding.{any_from, function_grounds}
use Rattle.smith_draw_types.proofs.reference_scope.ReferenceScope.is_above_a_function.Given as goal

abbrev pub invariant-loop-function : goal.invariant-loop-function
invariant-loop-function l = any_from (function_grounds l.self l.ty) l.function (drop l.function l.funcs)
    ≡ any_from (function_grounds l.self l.ty) 0 l.self.funcs
