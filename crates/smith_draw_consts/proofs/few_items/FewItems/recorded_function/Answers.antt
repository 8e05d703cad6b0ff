use Rattle.smith_draw_consts.proofs.Common.{ap, function_reference, get_or_from_slice_get, Some, ValType, ◌∙◌}
use Rattle.smith_draw_consts.specs.ConstScopes.{context_of}
use Rattle.smith_draw_consts.proofs.few_items.FewItems.recorded_function.Goals as goal

pub returns : goal.returns
returns c = λ type at.
    let context = context_of c.args.scope.now in
    ap (λ (reference : ValType). Some reference) (c.function_reference-2.ensures ∙ ap (function_reference context c.args.index)
    (get_or_from_slice_get context.funcs c.args.index type 0 at))
