use Rattle.smith_types_examples.proofs.Common.{rules, false, [], IsTrue, ◌≡◌, AbstractHeapType, is_abstract_below, IsBelow, plain}
use Rattle.smith_types_examples.proofs.TypeExamples.{abstract_apart}
use Rattle.smith_types_examples.proofs.subtyping.abstract_types_apart.Goals as goal

-- an abstract type is a subtype of another only if they are equal, by the table
same_or_apart : (a b : AbstractHeapType) → ¬ IsTrue (is_abstract_below a b) → IsBelow [] (plain a) (plain b) → a ≡ b
same_or_apart a b never below = absurd (abstract_apart false false a b (λ both. never both.1) below)

pub returns : goal.returns
returns c = search (rules, same_or_apart)
