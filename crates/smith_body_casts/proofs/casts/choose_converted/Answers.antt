use Rattle.std.proofs.Common.{ap, ◌∙◌}
use Rattle.smith_types.specs.Syntax.value_type.AbstractHeapType.{AbstractHeapType}
use Rattle.smith_types.specs.Syntax.value_type.HeapType.TheVariants.{Abstract}
use Rattle.smith_body_nodes.specs.Scopes.{where_stands}
use Rattle.smith_body_casts.proofs.CastLemmas.{inside_for, outside_for}
use Rattle.smith_body_nodes.proofs.ResultLemmas.{ok_like}
use Rattle.smith_body_casts.proofs.casts.choose_converted.Goals as goal

pub returns-in-Any-clause-offer : goal.returns-in-Any-clause-offer
returns-in-Any-clause-offer c =
    ok_like _ c.conversion_node.result
    (inside_for (where_stands c.args.scope.now c.args.draft.now) c.args.draft.now.set.items c.args.to c.in-Abstract.shared
    (c.in-Abstract.is ∙ ap (λ (ty : AbstractHeapType). Abstract c.in-Abstract.shared ty) c.in-Any.is) c.requires.to)
    (rw c.abstract_reference-from.ensures at c.conversion_node.ensures.exact)

pub returns-in-Extern-clause-offer : goal.returns-in-Extern-clause-offer
returns-in-Extern-clause-offer c =
    ok_like _ c.conversion_node-in-Extern.result
    (outside_for (where_stands c.args.scope.now c.args.draft.now) c.args.draft.now.set.items c.args.to c.in-Abstract.shared c.requires.named
    (c.in-Abstract.is ∙ ap (λ (ty : AbstractHeapType). Abstract c.in-Abstract.shared ty) c.in-Extern.is) c.requires.to)
    (rw c.abstract_reference-from-in-Extern.ensures at c.conversion_node-in-Extern.ensures.exact)
