use Rattle.smith_types.proofs.Common.{ap, ◌∙◌}
use Rattle.smith_types.specs.KindCounts.{count_in}
use Rattle.smith_types.specs.Places.{last_counts}
use Rattle.smith_types.proofs.PlaceLemmas.{count_of_all, count_fits}
use Rattle.smith_types.proofs.type_space.TypeSpace.count_in.Goals as goal

pub returns : goal.returns
returns c =
    count_of_all _ _ _ c.args.set _ (ap (λ s. s.types) c.self.view_is) c.self.invariant.1
    (c.count.ensures ∙ ap (λ p. count_in p c.args.set) (c.last_counts.ensures ∙ ap last_counts c.as_slice.ensures.value))

pub count-requires : goal.count-requires
count-requires c =
    record {
      few = rw (c.last_counts.ensures ∙ ap last_counts c.as_slice.ensures.value)
          (count_fits _ _ c.args.set c.self.invariant.1 c.self.invariant.0.few);
    }
