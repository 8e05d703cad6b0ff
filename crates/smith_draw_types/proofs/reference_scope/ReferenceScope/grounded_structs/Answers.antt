use Rattle.smith_draw_types.proofs.Common.{Abstract, ap, Context, IfSome_then, sym, ◌∙◌}
use Rattle.smith_types.specs.Syntax.value_type.AbstractHeapType.TheVariants as heap
use Rattle.smith_draw_types.proofs.GroundedKindLemmas.{structs_listed}
use Rattle.smith_draw_types.proofs.GroundingLemmas.{no_functions}
use Rattle.smith_draw_types.proofs.reference_scope.ReferenceScope.grounded_structs.Goals as goal

pub returns : goal.returns
returns c =
    let same = ap (λ (context : Context). context.types) c.self.view_is in
    let none = no_functions c.args.self.now (Abstract c.args.shared heap.Struct) c.is_grounded_by_functions.result c.orderly.ensures tt
    c.is_grounded_by_functions.ensures c.if-is_grounded_by_functions.false in
    IfSome_then c.grounded_by_structs.result c.grounded_by_structs.ensures
    (λ indices listed. structs_listed c.args.self.now c.args.shared indices.now c.orderly.ensures none
    (λ test decides. (rw same at listed) c.args.self.now.features.custom_descriptors test decides))
