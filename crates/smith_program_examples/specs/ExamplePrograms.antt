-- Modules and bodies of the examples, and the bytes from which such bodies are drawn.
use Rattle.std.specs.Prelude.{ℕ, true, None, List, [], ◌∷◌}
use Rattle.smith_types.specs.ExampleTypes.{final_type, giving, nullable, plain_func}
use Rattle.smith_types.specs.Syntax.code.Code.{Code}
use Rattle.smith_types.specs.Syntax.code.Instructions.TheVariants.{Arbitrary}
use Rattle.smith_types.specs.Syntax.composite_type.CompositeInnerType.{CompositeInnerType}
use Rattle.smith_types.specs.Syntax.composite_type.FuncType.{FuncType}
use Rattle.smith_types.specs.Syntax.entity_type.EntityType.TheVariants as entity
use Rattle.smith_types.specs.Syntax.imports.Imports.TheVariants.{Single}
use Rattle.smith_types.specs.Syntax.segments.ElementSegment.{ElementSegment}
use Rattle.smith_types.specs.Syntax.segments.Elements.TheVariants.{Functions}
use Rattle.smith_types.specs.Syntax.value_type.HeapType.TheVariants.{Concrete}
use Rattle.smith_types.specs.Syntax.value_type.RefType.{RefType}
use Rattle.smith_types.specs.Syntax.value_type.ValType.TheVariants.{I32, Ref}
use Rattle.smith_config.specs.declared.config.Config.{Config}
use Rattle.smith_config.specs.Config.{default_config}
use Rattle.smith_module_rules.specs.Module.{ModuleParts}
use Rattle.smith_module_rules_examples.specs.ExampleModules.{empty_module, group_of}
use Rattle.smith_module_rules_examples.specs.ExampleParts.{import_named, memory, passive_elements, trapping}
use Rattle.smith_instr.specs.declared.control.BlockType.TheVariants as block
use Rattle.smith_instr.specs.declared.instr.Instr.TheVariants as instr
use Rattle.smith_instr_examples.specs.ExampleBodies.{number}
use Rattle.smith_body_examples.specs.ExampleBytes.{narrow}
use Rattle.smith_program.specs.declared.program.Body.{Body}
use Rattle.smith_program.specs.declared.program.Body.TheVariants as body

-- a budget of one for each body, and raw bytes are allowed
abbrev pub one_unit : Config
one_unit = record default_config { max_instructions = 1; allow_invalid_funcs = true }

-- a function of this type
abbrev pub one_of : CompositeInnerType → ModuleParts
one_of ty = record (empty_module one_unit) {
  types = final_type ty ∷ [];
  groups = group_of 0 1 ∷ [];
  funcs = 0 ∷ [];
  num_defined_funcs = 1;
  code = trapping ∷ [];
  encodes_types = true;
}

-- a function without parameters and results, one with the result i32, and two of these
abbrev pub plain : ModuleParts
plain = one_of plain_func

abbrev pub narrow_function : ModuleParts
narrow_function = one_of (giving (I32 ∷ []))

abbrev pub two_functions : ModuleParts
two_functions = record narrow_function { funcs = 0 ∷ 0 ∷ []; num_defined_funcs = 2; code = trapping ∷ trapping ∷ [] }

-- the types of a function without parameters: without results, and with the result i32
abbrev pub gives_nothing : FuncType
gives_nothing = record { params = []; results = [] }

abbrev pub gives_number : FuncType
gives_number = record { params = []; results = I32 ∷ [] }

-- a body of raw bytes
abbrev pub raw : Code
raw = record { locals = []; instructions = Arbitrary (7 ∷ 8 ∷ []) }

-- a function with the result i32, and a body of raw bytes
abbrev pub raw_alone : ModuleParts
raw_alone = record narrow_function { code = raw ∷ [] }

-- a body with a local of an i32
abbrev pub with_local : Code
with_local = record trapping { locals = I32 ∷ [] }

-- two functions with the result i32, and between them one with raw bytes
abbrev pub raw_between : ModuleParts
raw_between = record narrow_function { funcs = 0 ∷ 0 ∷ 0 ∷ []; num_defined_funcs = 3; code = trapping ∷ raw ∷ trapping ∷ [] }

-- an imported function without results, and a function with the result i32
abbrev pub after_an_import : ModuleParts
after_an_import = record narrow_function {
  types = final_type plain_func ∷ final_type (giving (I32 ∷ [])) ∷ [];
  groups = group_of 0 1 ∷ group_of 1 2 ∷ [];
  imports = Single (import_named [] (entity.Func 0)) ∷ [];
  num_imports = 1;
  funcs = 0 ∷ 1 ∷ [];
  encodes_imports = true;
  type_size = 2;
}

-- an imported memory, and a function with the result i32
abbrev pub after_a_memory : ModuleParts
after_a_memory = record narrow_function {
  imports = Single (import_named [] (entity.Memory (memory 1 None))) ∷ [];
  num_imports = 1;
  memories = memory 1 None ∷ [];
  encodes_imports = true;
  type_size = 2;
}

-- a constant as a body, and the bytes from which it is drawn: no statement, then a value without
-- operands
abbrev pub constant : ℕ → Body
constant n = body.Drawn (number n ∷ [])

abbrev pub constant_bytes : ℕ → List ℕ
constant_bytes n = 0 ∷ 0 ∷ narrow n

-- a nullable reference to values of the first type; a passive segment and a local of this type, and a
-- block of a type
abbrev pub indexed : RefType
indexed = nullable (Concrete 0)

abbrev pub indexed_elements : ElementSegment
indexed_elements = record (passive_elements (Functions [])) { ty = indexed }

abbrev pub with_indexed_local : Code
with_indexed_local = record trapping { locals = Ref indexed ∷ [] }

abbrev pub block_of : RefType → Body
block_of ty = body.Drawn (instr.Block (block.Value (Ref ty)) ∷ instr.End ∷ [])
