use Rattle.smith_body_nodes.proofs.IndexedTypeLemmas.{struct_fields, struct_there}
use Rattle.smith_body_leaves.proofs.Common.{bare}
use Rattle.smith_body_leaves.proofs.creations.created_at.Goals as goal

pub have_singles-requires-clause-fields : goal.have_singles-requires-clause-fields
have_singles-requires-clause-fields c =
    rw c.as_slice-fields.ensures
    (struct_fields (bare c.args.scope.now) c.args.ty c.in_ok-structure.structure.now.fields c.requires.scope
    (struct_there (bare c.args.scope.now).types c.args.ty c.in_ok-structure.structure.now c.in_ok-structure.ensures))
