use Rattle.smith_draw_types.proofs.Common.{ap, Context, slice_get-get_or, sym, ◌∙◌}
use Rattle.smith_draw_types.specs.Grounding.{any_from, function_grounds}
use Rattle.smith_draw_types.proofs.GroundingLemmas.{any_here, any_later, any_never}
use Rattle.smith_draw_types.proofs.reference_scope.ReferenceScope.is_above_a_function.Goals as goal

pub loop-function-init : goal.loop-function-init
loop-function-init c = ap (any_from (function_grounds c.args.self.now c.args.ty) 0)
    (ap (λ (context : Context). context.funcs) c.self.view_is)

pub returns-then-is_function_below : goal.returns-then-is_function_below
returns-then-is_function_below c =
    let at = slice_get-get_or c.self.inside.funcs.now c.loop-function.function 0 c.loop-function-test.true in
    any_here (function_grounds c.args.self.now c.args.ty) c.self.inside.funcs.now c.loop-function.function _ c.loop-function.invariant _ at
    (sym c.is_function_below.ensures ∙ c.if-is_function_below.true)

pub loop-function-preserved : goal.loop-function-preserved
loop-function-preserved c =
    let at = slice_get-get_or c.self.inside.funcs.now c.loop-function.function 0 c.loop-function-test.true in
    any_later (function_grounds c.args.self.now c.args.ty) c.self.inside.funcs.now c.loop-function.function _ c.loop-function.invariant _ at
    (sym c.is_function_below.ensures ∙ c.if-is_function_below.false)

pub returns : goal.returns
returns c = any_never (function_grounds c.args.self.now c.args.ty) c.self.inside.funcs.now c.loop-function.function _
    c.loop-function.invariant c.loop-function-test.false
