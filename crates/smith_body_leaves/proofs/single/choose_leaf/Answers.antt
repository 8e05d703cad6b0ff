use Rattle.smith_body_leaves.proofs.Common.{refl, where_stands, ◌∙◌}
use Rattle.smith_body_leaves.specs.declared.families.LeafFamily.TheVariants as leaf
use Rattle.smith_body_leaves.proofs.LeafChoiceLemmas.{leaf_by}
use Rattle.smith_body_leaves.proofs.single.choose_leaf.Goals as goal

pub returns-clause-exact : goal.returns-clause-exact
returns-clause-exact c =
    leaf_by (where_stands c.args.scope.now c.args.draft.now) c.args.draft.now.set.items c.args.wanted c.args.u.now _
    c.leaf_families.result.now c.choose-family.result c.choose-family.result c.leaf_families.ensures
    (c.choose-family.ensures.exact leaf.Constant) refl
    ∙ c.leaf_of.ensures.exact
