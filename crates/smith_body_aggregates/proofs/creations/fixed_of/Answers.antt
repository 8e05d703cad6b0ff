use Rattle.smith_body_aggregates.proofs.Common.{arith, array_element, bare, where_stands}
use Rattle.smith_body_aggregates.proofs.CreationLemmas.{array_fixed_gives}
use Rattle.smith_body_aggregates.proofs.creations.fixed_of.Goals as goal

pub returns-clause-offer : goal.returns-clause-offer
returns-clause-offer c =
    rw (c.node_taking.ensures, c.in_ok-operands.ensures.exact, c.unpack.ensures)
    (array_fixed_gives (where_stands c.args.scope.now c.args.draft.now) c.args.draft.now.set.items c.args.wanted c.args.array.0
    c.int_in_range-size.result c.args.array.1 c.requires.scope.orderly c.requires.wanted
    (array_element (bare c.args.scope.now) c.args.array.0 c.args.array.1 c.requires.scope c.requires.there) c.requires.there
    c.requires.created
    (omega (arith, c.int_in_range-size.ensures.within, c.new.ensures.start, c.new.ensures.end)))
