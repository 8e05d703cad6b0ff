use Rattle.smith_draw_types.proofs.Common.{ap, Concrete, Context, IfSome_then, length, ◌<◌}
use Rattle.smith_draw_types.proofs.GroundedFamilyLemmas.{family_listed}
use Rattle.smith_draw_types.proofs.GroundingLemmas.{no_functions}
use Rattle.smith_draw_types.proofs.reference_scope.ReferenceScope.grounded_direct.Goals as goal

pub direct_by_functions-requires : goal.direct_by_functions-requires
direct_by_functions-requires c =
    let same = ap (λ (context : Context). context.types) c.self.view_is in
    rw (c.types.ensures.value, same) at (c.is_in_range.ensures.0 c.if-not-is_in_range.false)

pub returns : goal.returns
returns c =
    let same = ap (λ (context : Context). context.types) c.self.view_is in
    let inside : c.args.index < length c.args.self.now.types =
    rw (c.types.ensures.value, same) at (c.is_in_range.ensures.0 c.if-not-is_in_range.false) in
    let none = no_functions c.args.self.now (Concrete c.args.index) c.is_grounded_by_functions.result c.orderly.ensures inside
    c.is_grounded_by_functions.ensures c.if-is_grounded_by_functions.false in
    IfSome_then c.grounded_direct_subtypes.result c.grounded_direct_subtypes.ensures
    (λ indices listed. record {
      stands = inside;
      direct = family_listed c.args.self.now c.args.index indices.now c.orderly.ensures none
          (λ test decides. (rw same at listed) c.args.self.now.features.custom_descriptors test decides);
    })
