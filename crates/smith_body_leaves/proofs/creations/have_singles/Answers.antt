use Rattle.smith_body_leaves.proofs.Common.{bare, field_valid}
use Rattle.smith_body_leaves.proofs.creations.have_singles.Goals as goal

pub has_single-requires-clause-wanted : goal.has_single-requires-clause-wanted
has_single-requires-clause-wanted c =
    rw c.unpack.ensures (field_valid (bare c.args.scope.now) c.args.fields.now c.loop-index.index _ c.requires.fields
    c.loop-index-test.true)
