use Rattle.smith_types_examples.proofs.Common.{◌≡◌, rules, arith, Some, refl, subst, slice_get, All-nil, same_Some, IsValTypeValid}
use Rattle.smith_types_examples.proofs.Common.{IsTypeValid, usual_features, open_type, empty_struct, below_itself}
use Rattle.smith_types_examples.proofs.TypeExamples.{itself_not_before}
use Rattle.smith_types_examples.proofs.refused_types.supertype_not_before.Goals as goal

own_valid : IsTypeValid usual_features below_itself 1 (open_type (Some 0) empty_struct)
own_valid = record {
  enabled = search rules;
  values = All-nil (IsValTypeValid usual_features 1);
  declared = λ s up. (
    open_type (Some 0) empty_struct,
    subst (λ n. slice_get below_itself n ≡ Some (open_type (Some 0) empty_struct))
        (same_Some 0 s up) refl,
    search rules,
  );
  shareable = λ never. cc never;
}

pub returns-clause-refused : goal.returns-clause-refused
returns-clause-refused c = λ valid. itself_not_before valid.orderly

pub returns-clause-not_orderly : goal.returns-clause-not_orderly
returns-clause-not_orderly c = itself_not_before

pub returns-clause-but_group : goal.returns-clause-but_group
returns-clause-but_group c = record {
  members = λ i t low high at.
      let first : i ≡ 0 = omega (arith, high) in
      subst (IsTypeValid usual_features below_itself 1)
      (same_Some (open_type (Some 0) empty_struct) t (subst (λ n. slice_get below_itself n ≡ Some t) first at)) own_valid;
  single = λ never. cc;
}
