use Rattle.smith_config_examples.proofs.Common.{rules, ◌≡◌, true, false, [], Some, None, arith, refl, All-cons, All-nil, IsMemoryValid}
use Rattle.smith_config_examples.proofs.Common.{IsGlobalValid, open_type, plain_func, memory, constant_global, GlobalType, MemoryType, I32}
use Rattle.smith_config_examples.proofs.Common.{V128, AreTypesValid-single, no_types, default_config, features_of, every_feature}
use Rattle.smith_config_examples.proofs.ShapeFaultExamples as wrong
use Rattle.smith_config_examples.proofs.shape_faults.features.Goals as goal

pub returns-clause-vector : goal.returns-clause-vector
returns-clause-vector c = (
  record {
    types = no_types every_feature;
    tables = search rules;
    memories = search rules;
    globals = All-cons (IsGlobalValid every_feature []) (constant_global V128) [] (search rules) (All-nil (IsGlobalValid every_feature []));
    counts = search rules;
  },
  λ on.
      let one : IsGlobalValid (features_of (record default_config { simd_enabled = false })) [] (constant_global V128) =
      on.globals 0 (constant_global V128) (omega arith) in
      let never : false ≡ true = one.value in
      cc never,
)

-- a memory of pages of one byte
abbrev bytes : MemoryType
bytes = record (memory 1 None) { page_size_log2 = Some 0 }

pub returns-clause-pages_of_one_byte : goal.returns-clause-pages_of_one_byte
returns-clause-pages_of_one_byte c = (
  record {
    types = no_types every_feature;
    tables = search rules;
    memories = All-cons (IsMemoryValid every_feature) bytes [] (search rules) (All-nil (IsMemoryValid every_feature));
    globals = search rules;
    counts = search rules;
  },
  λ on.
      let one : IsMemoryValid (features_of default_config) bytes = on.memories 0 bytes (omega arith) in
      let never : false ≡ true = one.page_size.1 in
      cc never,
)

pub returns-clause-type_that_is_not_final : goal.returns-clause-type_that_is_not_final
returns-clause-type_that_is_not_final c = (
  record {
    types = AreTypesValid-single every_feature [] [] (open_type None plain_func) (search rules) (no_types every_feature) (search rules);
    tables = search rules;
    memories = search rules;
    globals = search rules;
    counts = search rules;
  },
  λ on. wrong.not_final_without_gc (features_of (record default_config { gc_enabled = false })) refl on.types,
)

-- a shared global of numbers
abbrev shared_number : GlobalType
shared_number = record (constant_global I32) { shared = true }

pub returns-clause-shared_global : goal.returns-clause-shared_global
returns-clause-shared_global c = (
  record {
    types = no_types every_feature;
    tables = search rules;
    memories = search rules;
    globals = All-cons (IsGlobalValid every_feature []) shared_number [] (search rules) (All-nil (IsGlobalValid every_feature []));
    counts = search rules;
  },
  λ on.
      let one : IsGlobalValid (features_of default_config) [] shared_number = on.globals 0 shared_number (omega arith) in
      let never : false ≡ true = (one.shared refl).0 in
      cc never,
)
