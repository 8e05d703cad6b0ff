use Rattle.std.proofs.Common.{rules}
use Rattle.smith_types.specs.Syntax.FeatureBits.{features_in}
use Rattle.smith_validity.proofs.ReferredTypeLemmas.{all_in_range, valid_in_range}
use Rattle.smith_validity.proofs.valid_types.are_types_valid.Goals as goal

pub are_groups_valid-requires-clause-in_range : goal.are_groups_valid-requires-clause-in_range
are_groups_valid-requires-clause-in_range c =
    rw (← c.types-types.ensures.value) (all_in_range _ (c.are_in_range.ensures.0 c.if-not-are_in_range.false))

pub returns-then-not-are_in_range : goal.returns-then-not-are_in_range
returns-then-not-are_in_range c = (
  λ no. cc,
  λ valid.
      let yes = c.are_in_range.ensures.1
      (rw c.types-types.ensures.value (valid_in_range (features_in c.args.features) c.args.space.now valid)) in
      let no = c.if-not-are_in_range.true in search rules,
)
