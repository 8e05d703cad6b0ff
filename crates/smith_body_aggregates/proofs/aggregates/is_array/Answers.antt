use Rattle.smith_body_aggregates.proofs.Common.{array_element, array_is, bare, sym}
use Rattle.smith_body_aggregates.proofs.aggregates.is_array.Goals as goal

pub is_usable-requires-clause-field : goal.is_usable-requires-clause-field
is_usable-requires-clause-field c =
    let context = bare c.args.scope.now in
    array_element context c.args.index c.in-Some.element c.requires.scope (array_is context.types c.args.index c.in-Some.element
    (sym c.in-Some.ensures))
