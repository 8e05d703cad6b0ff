use Rattle.smith_draw_types.proofs.Common.{ap, Context, sym, ◌∙◌}
use Rattle.smith_draw_types.proofs.GroundingLemmas.{ungrounded, by_structs, by_functions}
use Rattle.smith_draw_types.proofs.reference_scope.ReferenceScope.is_grounded.Goals as goal

pub returns-then-not-is_in_range : goal.returns-then-not-is_in_range
returns-then-not-is_in_range c =
    let same = ap (λ (context : Context). context.types) c.self.view_is in
    ungrounded c.args.self.now c.args.ty (rw same at c.types.ensures.sound.orderly)
    (λ inside. let on = c.is_in_range.ensures.1 (rw (c.types.ensures.value, same) inside) in cc (sym on ∙ c.if-not-is_in_range.true))

pub returns-then-is_grounded_by_structs : goal.returns-then-is_grounded_by_structs
returns-then-is_grounded_by_structs c =
    let same = ap (λ (context : Context). context.types) c.self.view_is in
    let flag = ap (λ (context : Context). context.features.custom_descriptors) c.self.view_is in
    by_structs c.args.self.now c.args.ty (rw same at c.types.ensures.sound.orderly)
    (rw (same, flag) at (c.is_grounded_by_structs.ensures.0 c.if-is_grounded_by_structs.true))

pub returns : goal.returns
returns c =
    let same = ap (λ (context : Context). context.types) c.self.view_is in
    let flag = ap (λ (context : Context). context.features.custom_descriptors) c.self.view_is in
    by_functions c.args.self.now c.args.ty c.is_grounded_by_functions.result (rw same at c.types.ensures.sound.orderly)
    (λ structs. let on = c.is_grounded_by_structs.ensures.1 (rw (same, flag) structs) in cc (sym on ∙ c.if-is_grounded_by_structs.false))
    c.is_grounded_by_functions.ensures
