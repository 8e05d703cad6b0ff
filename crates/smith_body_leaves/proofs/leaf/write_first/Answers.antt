use Rattle.smith_body_leaves.proofs.Common.{where_stands}
use Rattle.smith_body_leaves.proofs.LeafChoiceLemmas.{first_brief, first_created, first_stop, not_some}
use Rattle.smith_body_leaves.proofs.leaf.write_first.Goals as goal

pub returns-in-Some-clause-out : goal.returns-in-Some-clause-out
returns-in-Some-clause-out c =
    rw (first_brief c.args.scope.now.config.now (where_stands c.args.scope.now c.args.draft.now) c.args.draft.now.set.items c.args.wanted
    c.in-Some.leaf c.in-Some.ensures) c.write_instructions.ensures.out

pub returns-in-Some-created_type-clause-out : goal.returns-in-Some-created_type-clause-out
returns-in-Some-created_type-clause-out c =
    rw (first_created c.args.scope.now.config.now (where_stands c.args.scope.now c.args.draft.now) c.args.draft.now.set.items c.args.wanted
    c.in-Some-created_type.ty (not_some _ _ c.in_default.not-Some c.leaf_within.ensures) c.in-Some-created_type.ensures)
    c.write_created.ensures.out

pub returns-clause-out : goal.returns-clause-out
returns-clause-out c =
    let brief = not_some _ _ c.in_default.not-Some c.leaf_within.ensures in
    let created = not_some _ _ c.in_default-created_type.not-Some c.created_type.ensures in
    rw (first_stop c.args.scope.now.config.now (where_stands c.args.scope.now c.args.draft.now) c.args.draft.now.set.items c.args.wanted
    brief created) (rw c.only.ensures at c.write_instructions-2.ensures.out)
