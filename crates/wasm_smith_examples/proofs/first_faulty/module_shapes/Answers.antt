use Rattle.wasm_smith_examples.proofs.Common.{rules, BadType, DuplicateExport, AvailableImports, Exports, ModuleShape, default_config}
use Rattle.wasm_smith_examples.proofs.Common.{IsShapeValid, no_fault, for_module, for_imports, for_exports, memory_available, untyped}
use Rattle.wasm_smith_examples.proofs.FaultyExamples.{before_module, fault_told, untyped_refused}
use Rattle.wasm_smith_examples.proofs.first_faulty.module_shapes.Goals as goal

memory_valid : IsShapeValid ModuleShape (for_module memory_available default_config) memory_available
memory_valid = search rules

pub returns : goal.returns
returns c = record {
  a_module_shape = record { for_use = ModuleShape; refused = untyped_refused ModuleShape _; earlier = before_module _ };
  beside_two_others = record { for_use = ModuleShape; refused = untyped_refused ModuleShape _; earlier = before_module _ };
  available_imports_beside_it = λ first. (fault_told (for_module untyped (for_imports untyped default_config)) AvailableImports BadType
      first).0;
  exports_beside_one_that_is_valid = λ first. (fault_told (for_module memory_available (for_exports untyped default_config)) Exports BadType
      first).0;
  want_of_memory = record { for_use = ModuleShape; refused = memory_valid.short; earlier = before_module _ };
  a_fault_that_is_not_there = λ first.
      let config = for_module memory_available default_config in
      no_fault ModuleShape config memory_available memory_valid BadType (fault_told config ModuleShape BadType first).0.there;
  another_fault = λ first. (fault_told (for_module untyped default_config) ModuleShape DuplicateExport first).0.there (search rules);
}
