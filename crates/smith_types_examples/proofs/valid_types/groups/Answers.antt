use Rattle.smith_types_examples.proofs.Common.{arith, [], ◌∷◌, refl, All-head, Concrete, Ref, IsValTypeValid, usual_features, final_type}
use Rattle.smith_types_examples.proofs.Common.{struct, nullable, refers_to}
use Rattle.smith_types_examples.proofs.TypeExamples.{referring_after}
use Rattle.smith_types_examples.proofs.valid_types.groups.Goals as goal

pub returns-clause-referring_after : goal.returns-clause-referring_after
returns-clause-referring_after c = referring_after usual_features

pub returns-clause-second_referring_after : goal.returns-clause-second_referring_after
returns-clause-second_referring_after c = λ valid.
    let second = valid.members 1 (final_type (struct (refers_to 2 ∷ []))) (omega arith) (omega arith) refl in
    let (on, held) = All-head (IsValTypeValid usual_features 2) (Ref (nullable (Concrete 2))) [] second.values in
    let (enabled, inside) = held.heap_type in
    omega (arith, inside)
