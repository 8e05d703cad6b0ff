use Rattle.std.proofs.Common.{Ok, refl}
use Rattle.smith_types.specs.Syntax.instruction_kind.InstructionKind.TheVariants.{Table, Control}
use Rattle.smith_types.specs.Syntax.Instructions as instructions
use Rattle.smith_config_json.specs.Fields.{fields}
use Rattle.smith_config_json.specs.Objects.{ends, sets}
use Rattle.smith_config_json.specs.Values.{ends as list_ends, names}
use Rattle.smith_config_json.proofs.examples.objects.objects.Goals as goal

pub returns-clause-empty : goal.returns-clause-empty
returns-clause-empty c = ends refl

pub returns-clause-field : goal.returns-clause-field
unfolding fields
returns-clause-field c = sets refl refl refl (ends refl)

pub returns-clause-unchanged : goal.returns-clause-unchanged
unfolding fields
returns-clause-unchanged c = sets refl refl refl (ends refl)

pub returns-clause-names : goal.returns-clause-names
unfolding fields instructions.with_kind
returns-clause-names c =
    let control = names Control (Ok Control, refl, refl) (list_ends refl) in
    let both = names Table (Ok Table, refl, refl) control in
    sets refl refl (_, _, (_, both, refl), refl) (ends refl)
