use Rattle.smith_types_examples.proofs.Common.{arith, [], ◌∷◌, All-head, All-tail, Concrete, Ref, I8, Val, IsFieldInRange, struct_and_below}
use Rattle.smith_types_examples.proofs.Common.{constant, nullable}
use Rattle.smith_types_examples.proofs.matching.ranges.Goals as goal

pub returns-clause-struct_past_the_end : goal.returns-clause-struct_past_the_end
returns-clause-struct_past_the_end c = λ all.
    let second = constant (Val (Ref (nullable (Concrete 2)))) in
    let stands = All-head (IsFieldInRange struct_and_below) second [] (All-tail (IsFieldInRange struct_and_below) (constant I8)
    (second ∷ []) all) in
    omega (arith, stands)
