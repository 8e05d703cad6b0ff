use Rattle.smith_draw_consts.proofs.Common.{ap, arith, length}
use Rattle.smith_draw_consts.specs.ConstOffers.{ways_by}
use Rattle.smith_draw_consts.specs.ConstScopes.{context_of}
use Rattle.smith_draw_consts.specs.KeptOffers.{offered_before}
use Rattle.smith_draw_consts.proofs.KeptWayLemmas.{few_ways}
use Rattle.smith_draw_consts.proofs.kept_ways.read_types.Goals as goal

pub read_to-requires-clause-few : goal.read_to-requires-clause-few
read_to-requires-clause-few c =
    let few = few_ways (context_of c.args.scope.now) c.args.wanted c.args.fuel c.args.arrays c.min-end.result
    (omega (arith, ap length c.types-types.ensures.value)) in
    omega (
      arith,
      few,
      ap length c.types-types.ensures.value,
      c.loop-counts.invariant.counted.total,
      c.count_ways-ways.ensures,
      c.requires.scope.few_types,
    )

pub loop-counts-preserved : goal.loop-counts-preserved
loop-counts-preserved c =
    let context = context_of c.args.scope.now in
    record {
      seen = omega (arith, ap length c.types-types.ensures.value, c.in_ok-read_to.ensures.seen);
      counted = c.in_ok-read_to.ensures.counted (offered_before (ways_by context c.args.wanted c.args.fuel c.args.arrays) context.types)
          c.loop-counts.invariant.counted c.count_ways-ways.ensures;
    }
