use Rattle.smith_types_examples.proofs.Common.{◌≡◌, rules, [], ◌∷◌, Some, None, refl, subst, same_Some, All-nil, All-cons, slice_get}
use Rattle.smith_types_examples.proofs.Common.{Concrete, Ref, IsValTypeValid, IsShareable, IsSupertypeValid, usual_features, open_type}
use Rattle.smith_types_examples.proofs.Common.{shared_type, struct, plain_func, nullable, refers_to, empty_struct, struct_and_below}
use Rattle.smith_types_examples.proofs.valid_types.types.Goals as goal

above : IsSupertypeValid struct_and_below (open_type (Some 0) empty_struct) (open_type None empty_struct)
above = search rules

pub returns-clause-one_below_another : goal.returns-clause-one_below_another
returns-clause-one_below_another c = record {
  enabled = search rules;
  values = All-nil (IsValTypeValid usual_features 2);
  declared = λ s up. (
    open_type None empty_struct,
    subst (λ n. slice_get struct_and_below n ≡ Some (open_type None empty_struct))
        (same_Some 0 s up) refl,
    above,
  );
  shareable = λ never. cc;
}

pub returns-clause-holding_a_shared_type_after : goal.returns-clause-holding_a_shared_type_after
returns-clause-holding_a_shared_type_after c =
    let types = shared_type (struct (refers_to 1 ∷ [])) ∷ shared_type plain_func ∷ [] in
    let value = Ref (nullable (Concrete 1)) in
    record {
      enabled = search rules;
      values = search rules;
      declared = search rules;
      shareable = λ _. All-cons (IsShareable types) value [] (shared_type plain_func, refl, refl) (All-nil (IsShareable types));
    }
