use Rattle.wasm_smith_examples.proofs.Common.{rules, arith, common_steps, Option, Some, None, Error, EmptyChoose, Memory, BadType, Which}
use Rattle.wasm_smith_examples.proofs.Common.{AvailableImports, Exports, ModuleShape, Config, Shape, default_config, IsShapeValid, IsShort}
use Rattle.wasm_smith_examples.proofs.Common.{no_fault, IsFaultOf, shape_for, for_imports, for_exports, exporting, memory_available}
use Rattle.wasm_smith_examples.proofs.Common.{untyped}
use Rattle.wasm_smith_examples.proofs.FaultyExamples.{before_imports, before_exports, fault_told, untyped_refused, untyped_wrong}
use Rattle.wasm_smith_examples.proofs.first_faulty.available_imports_and_exports.Goals as goal

exporting_short : IsShort exporting
exporting_short = search rules

memory_before : (exports : Shape) → IsShapeValid AvailableImports (for_imports memory_available (for_exports exports default_config))
    memory_available
memory_before exports = search rules

no_choice : (config : Config) (for_use : Which) (given : Option Shape) → ¬ IsFaultOf config given for_use EmptyChoose
no_choice config for_use (Some shape) refused = refused
no_choice config for_use None refused = refused

none_given : (for_use : Which) (e : Error) → ¬ IsFaultOf default_config (shape_for default_config for_use) for_use e
none_given ModuleShape e refused = refused
none_given AvailableImports e refused = refused
none_given Exports e refused = refused

pub returns : goal.returns
returns c = record {
  available_imports = record { for_use = AvailableImports; refused = untyped_refused AvailableImports _; earlier = before_imports _ tt };
  exports_after_their_fault = λ first.
      let config = for_imports untyped (for_exports untyped default_config) in
      no_fault AvailableImports config untyped ((fault_told config Exports BadType first).1 AvailableImports tt) BadType untyped_wrong;
  exports_after_valid_imports = record {
    for_use = Exports;
    refused = untyped_refused Exports _;
    earlier = before_exports _ tt
        (memory_before untyped);
  };
  exports_alone = record { for_use = Exports; refused = untyped_refused Exports _; earlier = before_exports _ tt tt };
  a_fault_for_another_use = λ first. (fault_told (for_exports untyped default_config) ModuleShape BadType first).0;
  want_of_memory_after_valid_imports = record {
    for_use = Exports;
    refused = exporting_short;
    earlier = before_exports _ tt
        (memory_before exporting);
  };
  no_choice = λ first. no_choice (for_exports exporting default_config) first.for_use
      (shape_for (for_exports exporting default_config) first.for_use) first.refused;
  want_of_memory_without_shapes = λ first. none_given first.for_use Memory first.refused;
  a_name_twice_for_its_use = first_of (search rules, grind (arith, common_steps));
}
