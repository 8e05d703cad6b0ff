use Rattle.smith_body_leaves.proofs.Common.{arith, bare, field_valid, field_values}
use Rattle.smith_instr.specs.Contexts.{AreValid}
use Rattle.smith_body_leaves.proofs.SingleLemmas.{fields_valid}
use Rattle.smith_body_leaves.proofs.unary.creation_of.Goals as goal

pub returns-clause-valid : goal.returns-clause-valid
returns-clause-valid c =
    let all : AreValid (bare c.args.scope.now) (field_values c.fields_at.result.now) =
    rw c.fields_at.ensures (fields_valid (bare c.args.scope.now) c.args.ty c.requires.scope) in
    rw c.unpack.ensures (field_valid (bare c.args.scope.now) c.fields_at.result.now 0 _ all (omega arith))
