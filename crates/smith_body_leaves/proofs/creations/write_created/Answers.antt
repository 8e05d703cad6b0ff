use Rattle.std.proofs.lemmas.Result.{on_ok_weaker}
use Rattle.smith_body_leaves.proofs.Common.{bare}
use Rattle.smith_body_leaves.proofs.SingleLemmas.{creation_written, fields_valid}
use Rattle.smith_body_leaves.proofs.creations.write_created.Goals as goal

pub write_singles-requires-clause-fields : goal.write_singles-requires-clause-fields
write_singles-requires-clause-fields c = rw c.fields_at.ensures (fields_valid (bare c.args.scope.now) c.args.ty c.requires.scope)

pub returns-clause-out : goal.returns-clause-out
returns-clause-out c =
    let first = rw c.fields_at.ensures at c.in_ok-write_singles.ensures.out in
    on_ok_weaker c.write_some.result (λ last. creation_written _ _ _ _ _ first last) c.write_some.ensures.out
