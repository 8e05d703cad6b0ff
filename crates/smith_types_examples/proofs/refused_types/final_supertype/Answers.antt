use Rattle.smith_types_examples.proofs.Common.{rules, Some, None, refl, All-nil, IsValTypeValid, usual_features, open_type, final_type}
use Rattle.smith_types_examples.proofs.Common.{empty_struct}
use Rattle.smith_types_examples.proofs.TypeExamples.{two_valid, below_first, first_above, struct_orderly}
use Rattle.smith_types_examples.proofs.refused_types.final_supertype.Goals as goal

pub returns-clause-refused : goal.returns-clause-refused
returns-clause-refused c = λ valid. let never =
    (first_above (final_type empty_struct) (open_type (Some 0) empty_struct) refl valid).not_final in cc never

pub returns-clause-not_final : goal.returns-clause-not_final
returns-clause-not_final c =
    let upper = open_type None empty_struct in
    let lower = open_type (Some 0) empty_struct in
    two_valid upper lower struct_orderly (search rules) (record {
      enabled = search rules;
      values = All-nil (IsValTypeValid usual_features 2);
      declared = below_first upper lower refl (search rules);
      shareable = λ never. cc never;
    })
