-- Modules of the examples, as they are decoded.
use Rattle.std.specs.Prelude.{List, [], ◌∷◌, Some}
use Rattle.smith_types.specs.Syntax.value_type.HeapType.TheVariants.{Concrete}
use Rattle.smith_types.specs.Syntax.value_type.ValType.{ValType}
use Rattle.smith_types.specs.Syntax.value_type.ValType.TheVariants.{I32, Ref}
use Rattle.smith_instr.specs.declared.instr.Instr.{Instr}
use Rattle.smith_types.specs.ExampleTypes.{nullable}
use Rattle.smith_decode.specs.BodyReadings.{body_of, local_run}
use Rattle.smith_decode.specs.ExampleModules.{no_item}
use Rattle.smith_decode.specs.declared.bodies.LocalRun.{LocalRun}
use Rattle.smith_decode.specs.declared.modules.Module.{Module}
use Rattle.smith_check.specs.ExamplePrograms.{function_type}
use Rattle.smith_check_examples.specs.ExampleSyntax.{final_and_below}

-- a reference to the fourth type
abbrev pub fourth_type : ValType
fourth_type = Ref (nullable (Concrete 3))

-- three runs of locals, the second and the third of the fourth type
abbrev pub three_runs : List LocalRun
three_runs = local_run 2 I32 ∷ local_run 1 fourth_type ∷ local_run 1 fourth_type ∷ []

-- a type below a final type, and a start function that does not exist
abbrev pub below_final : Module
below_final = record no_item { types = final_and_below; further_supertypes = ([] ∷ []) ∷ ([] ∷ []) ∷ []; start = Some 0 }

-- a type that is its own supertype twice
abbrev pub of_several_supertypes : Module
of_several_supertypes = record no_item {
  types = (record (function_type []) { supertype = Some 0 } ∷ []) ∷ [];
  further_supertypes = ((0 ∷ []) ∷ []) ∷ [];
}

abbrev pub starts_missing : Module
starts_missing = record no_item { start = Some 0 }

-- a tag and a function of a type that does not exist
abbrev pub two_faults : Module
two_faults = record no_item { tags = record { 0 = 0 } ∷ []; functions = 0 ∷ [] }

-- a function without parameters and results, which has no body, these locals, or this body
abbrev pub without_body : Module
without_body = record no_item {
  types = (function_type [] ∷ []) ∷ [];
  further_supertypes = ([] ∷ []) ∷ [];
  functions = 0 ∷ [];
}

abbrev pub of_runs : List LocalRun → Module
of_runs runs = record without_body { bodies = body_of runs [] ∷ [] }

abbrev pub with_body : List Instr → Module
with_body instructions = record without_body { bodies = body_of [] instructions ∷ [] }
