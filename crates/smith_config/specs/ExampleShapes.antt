-- Shapes used by the examples.
use Rattle.std.specs.Prelude.{ℕ, zero, suc, List, [], ◌∷◌, ◌++◌, Option, Some, None, codes}
use Rattle.smith_types.specs.Syntax.composite_type.SubType.{SubType}
use Rattle.smith_types.specs.Syntax.value_type.ValType.{ValType}
use Rattle.smith_types.specs.Syntax.value_type.ValType.TheVariants.{I32, I64, F32}
use Rattle.smith_types.specs.Syntax.value_type.AbstractHeapType.TheVariants as heap
use Rattle.smith_types.specs.Syntax.composite_type.CompositeInnerType.TheVariants.{Func}
use Rattle.smith_types.specs.Syntax.entity_type.EntityType.TheVariants as entity
use Rattle.smith_types.specs.Syntax.entity_type.ExportKind.TheVariants as kind
use Rattle.smith_types.specs.Syntax.imports.Imports.{Imports}
use Rattle.smith_types.specs.Syntax.imports.Imports.TheVariants.{Single}
use Rattle.smith_types.specs.Imports.{import_of}
use Rattle.smith_types.specs.ExampleTypes.{open_type, final_type, empty_struct, plain_func, taking, func, plain, nullable}
use Rattle.smith_types.specs.Flags.{funcref}
use Rattle.smith_types.specs.ExampleEntities.{memory, table, constant_global}
use Rattle.smith_config.specs.declared.shape.Shape.{Shape}

-- a shape without items
abbrev pub empty_shape : Shape
empty_shape = record { groups = []; imports = []; funcs = []; tags = []; tables = []; memories = []; globals = []; exports = [] }

-- types in one group, and a global
abbrev pub of_types : List SubType → Shape
of_types types = record empty_shape { groups = types ∷ [] }

abbrev pub of_global : ValType → Shape
of_global value = record empty_shape { globals = constant_global value ∷ [] }

-- an imported tag whose type has a number as its parameter
abbrev pub imported_tag : Shape
imported_tag = record empty_shape {
  groups = (final_type (taking (I32 ∷ [])) ∷ []) ∷ [];
  imports = Single (import_of (codes "m") (codes "t") (entity.Tag 0)) ∷ [];
}

-- an imported function that is exported
abbrev pub passed_on : Shape
passed_on = record empty_shape {
  groups = (final_type plain_func ∷ []) ∷ [];
  imports = Single (import_of (codes "m") (codes "f") (entity.Func 0)) ∷ [];
  exports = (codes "a", kind.Func, 0) ∷ [];
}

-- an import of a memory with one page
abbrev pub imported_memory : Imports
imported_memory = Single (import_of (codes "m") (codes "n") (entity.Memory (memory 1 None)))

-- an imported memory that is exported
abbrev pub memory_passed_on : Shape
memory_passed_on = record empty_shape { imports = imported_memory ∷ []; exports = (codes "m", kind.Memory, 0) ∷ [] }

-- an exported table of functions
abbrev pub exported_table : Shape
exported_table = record empty_shape { tables = table funcref 0 None ∷ []; exports = (codes "t", kind.Table, 0) ∷ [] }

-- one exported item of each kind
abbrev pub one_of_each_kind : Shape
one_of_each_kind = record {
  groups = (final_type (Func (func I32 I64)) ∷ []) ∷ (final_type (taking (F32 ∷ [])) ∷ []) ∷ [];
  imports = [];
  funcs = 0 ∷ [];
  tags = 1 ∷ [];
  tables = table (nullable (plain heap.Extern)) 5 (Some 10) ∷ [];
  memories = memory 1 (Some 10) ∷ [];
  globals = constant_global F32 ∷ [];
  exports =
      (codes "foo", kind.Func, 0) ∷
      (codes "bar", kind.Global, 0) ∷
      (codes "baz", kind.Memory, 0) ∷
      (codes "qux", kind.Table, 0) ∷
      (codes "quux", kind.Tag, 0) ∷
      [];
}

-- the index before this one, if any
abbrev pub before : ℕ → Option ℕ
before zero = None
before (suc index) = Some index

-- `count` struct types, each declared as a subtype of the type before it
abbrev pub chain : ℕ → List SubType
chain zero = []
chain (suc count) = chain count ++ open_type (before count) empty_struct ∷ []
