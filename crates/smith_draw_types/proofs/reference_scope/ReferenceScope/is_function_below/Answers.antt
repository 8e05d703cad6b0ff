use Rattle.smith_draw_types.proofs.Common.{ap, Context, length, ◌<◌}
use Rattle.smith_draw_types.proofs.GroundingLemmas.{inside_grounds}
use Rattle.smith_draw_types.proofs.reference_scope.ReferenceScope.is_function_below.Goals as goal

pub returns : goal.returns
returns c =
    let same = ap (λ (context : Context). context.types) c.self.view_is in
    let inside : c.args.index < length c.args.self.now.types = rw (c.types.ensures.value, same) at c.if-index-types.false in
    inside_grounds c.args.self.now c.args.ty c.reference_to-reference.result c.args.function c.args.index c.heap_type_is_sub_type.result
    (rw same at c.types.ensures.sound.orderly) inside c.reference_to-reference.ensures.value
    (rw same at c.heap_type_is_sub_type.ensures)
