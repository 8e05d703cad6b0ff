-- Modules of the examples, in the abstract syntax.
use Rattle.std.specs.Prelude.{ℕ, List, [], ◌∷◌, false, Some, None, replicate}
use Rattle.smith_types.specs.Syntax.composite_type.SubType.{SubType}
use Rattle.smith_types.specs.Syntax.entity_type.EntityType.{EntityType}
use Rattle.smith_types.specs.Syntax.entity_type.EntityType.TheVariants as entity
use Rattle.smith_types.specs.Syntax.entity_type.ExportKind.{ExportKind}
use Rattle.smith_types.specs.Syntax.entity_type.ExportKind.TheVariants as kind
use Rattle.smith_types.specs.Syntax.entity_type.GlobalType.{GlobalType}
use Rattle.smith_types.specs.Syntax.entity_type.MemoryType.{MemoryType}
use Rattle.smith_types.specs.Syntax.value_type.ValType.TheVariants.{I32, Ref}
use Rattle.smith_instr.specs.declared.instr.Instr.{Instr}
use Rattle.smith_instr.specs.declared.instr.Instr.TheVariants as instr
use Rattle.smith_instr.specs.declared.reference.ReferenceInstr.TheVariants as reference
use Rattle.smith_types.specs.ExampleTypes.{final_type, plain_func}
use Rattle.smith_types.specs.Flags.{funcref}
use Rattle.smith_types.specs.Imports.{import_of}
use Rattle.smith_binary_sections.specs.Elements.{func_ref}
use Rattle.smith_decode.specs.Data.{DataMode}
use Rattle.smith_decode.specs.Elements.{Mode, elem, func_items}
use Rattle.smith_decode.specs.Modules.{Syntax}
use Rattle.smith_check_module.specs.ExampleSyntax.{nothing, one}
use Rattle.smith_check_types.specs.ExampleGroups.{struct_of}
use Rattle.smith_check.specs.ExamplePrograms.{does_nothing}

-- the expression `ref.func`
abbrev pub reference_to : ℕ → List Instr
reference_to function = instr.Reference (reference.Func function) ∷ []

-- a module that exports an entity
abbrev pub exports : ExportKind → ℕ → Syntax
exports kind index = record nothing { exports = ([], kind, index) ∷ [] }

-- a module that exports one memory twice with the same name
abbrev pub small_memory : MemoryType
small_memory = record { minimum = 1; maximum = Some 2; memory64 = false; shared = false; page_size_log2 = None }

abbrev pub exports_twice : Syntax
exports_twice = record nothing { memories = small_memory ∷ []; exports = ([], kind.Memory, 0) ∷ ([], kind.Memory, 0) ∷ [] }

-- a global that is a reference to a function
abbrev pub function_global : ℕ → GlobalType × List Instr
function_global function = (record { val_type = Ref funcref; mutable = false; shared = false }, reference_to function)

abbrev pub holds : ℕ → Syntax
holds function = record nothing { globals = function_global function ∷ [] }

-- a declared segment with a reference to a function, and a segment with such a reference as offset
abbrev pub declares : ℕ → Syntax
declares function = record nothing { elems = elem (func_ref false) (func_items (function ∷ [])) Mode.declared ∷ [] }

abbrev pub copies : ℕ → Syntax
copies function = record nothing { datas = record { bytes = []; mode = DataMode.active 0 (reference_to function) } ∷ [] }

-- a module that names functions in an export, a table, a global, a segment and an offset
abbrev pub in_each_section : Syntax
in_each_section = record nothing {
  exports = ([], kind.Func, 1) ∷ [];
  tables = (record { element_type = funcref; minimum = 0; maximum = None; table64 = false; shared = false }, reference_to 2) ∷ [];
  globals = function_global 3 ∷ [];
  elems = elem (func_ref false) (func_items (4 ∷ [])) Mode.passive ∷ [];
  datas = record { bytes = []; mode = DataMode.active 0 (reference_to 5) } ∷ [];
}

-- a module with a body that names a function
abbrev pub in_a_body : ℕ → Syntax
in_a_body function = record nothing { functions = 0 ∷ []; bodies = ([], reference_to function) ∷ [] }

-- a module with an import
abbrev pub imports : EntityType → Syntax
imports ty = record nothing { imports = import_of [] [] ty ∷ [] }

abbrev pub imported_memory : Syntax
imported_memory = imports (entity.Memory small_memory)

-- an imported memory whose minimum is above its maximum
abbrev pub crossed_limits : Syntax
crossed_limits = imports (entity.Memory (record small_memory { minimum = 3 }))

-- a final function type and a declared subtype of it, in two groups
abbrev pub below_first : SubType
below_first = record (final_type plain_func) { supertype = Some 0 }

abbrev pub final_and_below : List (List SubType)
final_and_below = (final_type plain_func ∷ []) ∷ (below_first ∷ []) ∷ []

abbrev pub below_a_final_type : Syntax
below_a_final_type = record nothing { types = final_and_below }

-- a type below two others
abbrev pub not_final : SubType
not_final = record (final_type plain_func) { is_final = false }

abbrev pub below_two_types : Syntax
below_two_types = record nothing {
  types = (not_final ∷ []) ∷ (not_final ∷ []) ∷ (below_first ∷ []) ∷ [];
  further_supertypes = ([] ∷ []) ∷ ([] ∷ []) ∷ ((1 ∷ []) ∷ []) ∷ [];
}

-- a type that refers to a type of a later group
abbrev pub refers_to_a_later_group : Syntax
refers_to_a_later_group = record nothing { types = (struct_of 1 ∷ []) ∷ (struct_of 0 ∷ []) ∷ [] }

-- a passive data segment, and an active one in a module without memories
abbrev pub passive_bytes : Syntax
passive_bytes = record nothing { datas = record { bytes = 7 ∷ []; mode = DataMode.passive } ∷ [] }

abbrev pub copied_bytes : Syntax
copied_bytes = record nothing { datas = record { bytes = 7 ∷ []; mode = DataMode.active 0 one } ∷ [] }

-- an active element segment in a module without tables
abbrev pub copied_functions : Syntax
copied_functions = record nothing { elems = elem (func_ref false) [] (Mode.active 0 one) ∷ [] }

-- a function without a body
abbrev pub bodiless : Syntax
bodiless = record does_nothing { bodies = [] }

-- a function with `count` locals
abbrev pub with_locals : ℕ → Syntax
with_locals count = record does_nothing { bodies = (replicate count I32, []) ∷ [] }
