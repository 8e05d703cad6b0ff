use Rattle.std.proofs.Common.{refl, take_all, subst}
use Rattle.std.specs.Prelude.{All}
use Rattle.std.proofs.lemmas.List.Elements.{All-more}
use Rattle.smith_types.specs.Syntax.FeatureBits.{features_in}
use Rattle.smith_types.specs.ValidTypes.{IsGroupValid}
use Rattle.smith_validity.proofs.GroupTestLemmas.{all_within}
use Rattle.smith_validity.proofs.valid_types.are_groups_valid.Goals as goal

pub is_group_valid-requires-clause-ordered : goal.is_group_valid-requires-clause-ordered
is_group_valid-requires-clause-ordered c = (all_within c.args.space.now.types c.args.groups.now c.requires.consecutive c.requires.whole _ _
    c.loop-group-test.true).ordered

pub is_group_valid-requires-clause-inside : goal.is_group_valid-requires-clause-inside
is_group_valid-requires-clause-inside c = (all_within c.args.space.now.types c.args.groups.now c.requires.consecutive c.requires.whole _ _
    c.loop-group-test.true).inside

pub loop-group-preserved : goal.loop-group-preserved
loop-group-preserved c =
    All-more (IsGroupValid (features_in c.args.features) c.args.space.now.types) c.args.groups.now _ _ c.loop-group-test.true
    c.loop-group.invariant (c.is_group_valid.ensures.0 c.if-not-is_group_valid.false)

pub returns : goal.returns
returns c = (
  λ _. subst (All (IsGroupValid (features_in c.args.features) c.args.space.now.types))
      (take_all _ c.args.groups.now c.loop-group-test.false) c.loop-group.invariant,
  λ _. refl,
)
