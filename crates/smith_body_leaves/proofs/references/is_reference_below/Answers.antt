use Rattle.smith_body_leaves.proofs.Common.{bare}
use Rattle.smith_body_leaves.proofs.ReferenceLemmas.{function_in_range, named_tested}
use Rattle.smith_body_leaves.proofs.references.is_reference_below.Goals as goal

pub is_sub_type-requires-clause-value : goal.is_sub_type-requires-clause-value
is_sub_type-requires-clause-value c = rw c.reference_to_function-reference.ensures
    (function_in_range (bare c.args.scope.now) c.args.function _ c.requires.scope.funcs c.requires.inside)

pub returns : goal.returns
returns c = named_tested (bare c.args.scope.now) c.args.wanted c.args.function _ c.reference_to_function-reference.result
    c.is_sub_type.result c.requires.inside c.reference_to_function-reference.ensures c.is_sub_type.ensures
