use Rattle.smith_draw_types.proofs.Common.{[], Concrete, IfSome_then, map, ◌∷◌}
use Rattle.smith_types.specs.Syntax.value_type.AbstractHeapType.TheVariants as heap
use Rattle.smith_draw_types.proofs.GroundedKindLemmas.{kinds_after_none}
use Rattle.smith_draw_types.proofs.reference_scope.ReferenceScope.grounded_aggregates.Goals as goal

pub returns-in-Some : goal.returns-in-Some
returns-in-Some c =
    let none = rw c.in-Some.is at c.none_grounded.ensures in
    IfSome_then c.grounded_structs.result c.grounded_structs.ensures
    (λ indices same. kinds_after_none c.args.self.now c.args.shared heap.Array (heap.Struct ∷ []) (map Concrete indices.now) none.1 same)
