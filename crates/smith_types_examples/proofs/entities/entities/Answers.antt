use Rattle.smith_types_examples.proofs.Common.{rules, arith, [], ◌∷◌, Some, refl, List, All-cons, All-nil, All-head, Concrete, Ref, SubType}
use Rattle.smith_types_examples.proofs.Common.{funcref, IsTagValid, IsFuncTypeIndex, IsTableValid, IsMemoryValid, IsGlobalValid}
use Rattle.smith_types_examples.proofs.Common.{usual_features, final_type, plain_func, nullable, memory, table, constant_global}
use Rattle.smith_types_examples.proofs.entities.entities.Goals as goal

abbrev types : List SubType
types = final_type plain_func ∷ []

pub returns-clause-one_of_each_kind : goal.returns-clause-one_of_each_kind
returns-clause-one_of_each_kind c = record {
  tags = All-cons (IsTagValid types) 0 [] (record { params = []; results = [] }, (final_type plain_func, refl, refl), refl)
      (All-nil (IsTagValid types));
  funcs = All-cons (IsFuncTypeIndex types) 0 [] (record { params = []; results = [] }, (final_type plain_func, refl, refl))
      (All-nil (IsFuncTypeIndex types));
  tables = search rules;
  memories = search rules;
  globals = search rules;
}

pub returns-clause-table_above_its_maximum : goal.returns-clause-table_above_its_maximum
returns-clause-table_above_its_maximum c = λ valid.
    let (above, within) = (All-head (IsTableValid usual_features types) (table funcref 2 (Some 1)) [] valid.tables).limits.maximum_fits in
    omega (arith, above)

pub returns-clause-memory_above_its_maximum : goal.returns-clause-memory_above_its_maximum
returns-clause-memory_above_its_maximum c = λ valid.
    let (above, within) = (All-head (IsMemoryValid usual_features) (memory 2 (Some 1)) [] valid.memories).limits.maximum_fits in
    omega (arith, above)

pub returns-clause-global_of_no_type : goal.returns-clause-global_of_no_type
returns-clause-global_of_no_type c = λ valid.
    let (on, reference) = (All-head (IsGlobalValid usual_features types) (constant_global (Ref (nullable (Concrete 1)))) []
    valid.globals).value in
    let (enabled, inside) = reference.heap_type in
    omega (arith, inside)
