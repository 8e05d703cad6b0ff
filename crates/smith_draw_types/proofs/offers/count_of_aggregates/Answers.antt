use Rattle.smith_draw_types.proofs.Common.{arith}
use Rattle.smith_types.specs.Syntax.value_type.AbstractHeapType.TheVariants.{Array, Struct}
use Rattle.smith_draw_types.proofs.OfferedPlaceLemmas.{two_kinds}
use Rattle.smith_draw_types.proofs.offers.count_of_aggregates.Goals as goal

pub returns-clause-count : goal.returns-clause-count
returns-clause-count c = let both = two_kinds c.args.space.now.types c.args.shared Array Struct in
    omega (arith, both, c.count_of_kind.ensures.count, c.count_of_kind-2.ensures.count)
