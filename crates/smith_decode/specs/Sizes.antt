-- The number of items of a decoded module: the items of its lists and of the lists within them, and
-- the bytes of names, data segments and custom sections (own rule). In a file, each item has at
-- least one byte.
use Rattle.std.specs.Prelude.{ℕ, ◌+◌, List, [], ◌∷◌, length}
use Rattle.smith_types.specs.Syntax.composite_type.CompositeInnerType.{CompositeInnerType}
use Rattle.smith_types.specs.Syntax.composite_type.CompositeInnerType.TheVariants.{Array, Struct, Func}
use Rattle.smith_decode.specs.Common.{Export, Imports, Instr, SubType}
use Rattle.smith_types.specs.Syntax.imports.ImportItem.{ImportItem}
use Rattle.smith_types.specs.Syntax.imports.Imports.TheVariants.{Single, Compact1, Compact2}
use Rattle.smith_instr.specs.declared.instr.Instr.TheVariants.{BrTable, SelectTyped, TryTable}
use Rattle.smith_decode.specs.declared.bodies.Body.{Body}
use Rattle.smith_decode.specs.declared.customs.Custom.{Custom}
use Rattle.smith_decode.specs.declared.data.DataMode.{DataMode}
use Rattle.smith_decode.specs.declared.data.DataMode.TheVariants as data_mode
use Rattle.smith_decode.specs.declared.data.DataSegment.{DataSegment}
use Rattle.smith_decode.specs.declared.definitions.GlobalDefinition.{GlobalDefinition}
use Rattle.smith_decode.specs.declared.definitions.TableDefinition.{TableDefinition}
use Rattle.smith_decode.specs.declared.elements.ElementItems.{ElementItems}
use Rattle.smith_decode.specs.declared.elements.ElementItems.TheVariants.{Functions, Expressions}
use Rattle.smith_decode.specs.declared.elements.ElementMode.{ElementMode}
use Rattle.smith_decode.specs.declared.elements.ElementMode.TheVariants as element_mode
use Rattle.smith_decode.specs.declared.elements.ElementSegment.{ElementSegment}
use Rattle.smith_decode.specs.declared.modules.Module.{Module}

-- the items of a list and the items within each of them
abbrev pub all_items : {A : Type 0} → (A → ℕ) → List A → ℕ
all_items within [] = 0
all_items within (x ∷ xs) = 1 + within x + all_items within xs

-- the items within each item of a list
abbrev pub inner_sum : {A : Type 0} → (A → ℕ) → List A → ℕ
inner_sum within [] = 0
inner_sum within (x ∷ xs) = within x + inner_sum within xs

-- the fields of a struct type, or the parameters and results of a function type (Composite Types)
abbrev pub inner_items : CompositeInnerType → ℕ
inner_items (Array array) = 0
inner_items (Struct structure) = length structure.fields
inner_items (Func function) = length function.params + length function.results

-- the fields, or the parameters and results, of a subtype (Recursive Types)
abbrev pub sub_type_items : SubType → ℕ
sub_type_items t = inner_items t.composite_type.inner

-- the supertypes of types past their first (Recursive Types)
abbrev pub further_items : List (List (List ℕ)) → ℕ
further_items groups = inner_sum (inner_sum length) groups

-- the bytes of names, and the imports of a group (Import Section)
abbrev pub import_items : Imports → ℕ
import_items (Single imported) = length imported.«module» + length imported.name
import_items (Compact1 from items) = length from + all_items (λ (item : ImportItem). length item.name) items
import_items (Compact2 from ty names) = length from + all_items (λ (name : List ℕ). length name) names

-- the labels, types and clauses of an instruction (Instructions)
abbrev pub instr_items : Instr → ℕ
instr_items (BrTable labels last) = length labels
instr_items (SelectTyped types) = length types
instr_items (TryTable ty clauses) = length clauses
instr_items _ = 0

-- the instructions of an expression and the items within them (Expressions)
abbrev pub expr_items : List Instr → ℕ
expr_items instructions = all_items instr_items instructions

-- the items of a table's initialiser (Table Section)
abbrev pub table_items : TableDefinition → ℕ
table_items table = expr_items table.initial

-- the items of a global's initialiser (Global Section)
abbrev pub global_items : GlobalDefinition → ℕ
global_items global = expr_items global.initial

-- the bytes of an export's name (Export Section)
abbrev pub export_items : Export → ℕ
export_items item = length item.name

-- the items of an element segment (Element Section)
abbrev pub element_items : ElementItems → ℕ
element_items (Functions functions) = length functions
element_items (Expressions expressions) = all_items expr_items expressions

-- the items of an element segment's offset (Element Section)
abbrev pub element_mode_items : ElementMode → ℕ
element_mode_items (element_mode.Active table offset) = expr_items offset
element_mode_items _ = 0

-- the items of an element segment and of its offset (Element Section)
abbrev pub segment_items : ElementSegment → ℕ
segment_items segment = element_mode_items segment.mode + element_items segment.items

-- the runs of locals and the instructions of a body (Code Section)
abbrev pub body_items : Body → ℕ
body_items body = length body.locals + expr_items body.instructions

-- the items of a data segment's offset (Data Section)
abbrev pub data_mode_items : DataMode → ℕ
data_mode_items (data_mode.Active memory offset) = expr_items offset
data_mode_items data_mode.Passive = 0

-- the items of a data segment's offset, and its bytes (Data Section)
abbrev pub data_items : DataSegment → ℕ
data_items segment = data_mode_items segment.mode + length segment.bytes

-- the bytes of a custom section and of its name (Custom Section)
abbrev pub custom_items : Custom → ℕ
custom_items custom = length custom.name + length custom.bytes

-- the items of a module (Modules)
abbrev pub items_in : Module → ℕ
items_in m =
    all_items (all_items sub_type_items) m.types + further_items m.further_supertypes + all_items import_items m.imports
    + length m.functions + all_items table_items m.tables + length m.memories + length m.tags + all_items global_items m.globals
    + all_items export_items m.exports + all_items segment_items m.elements + all_items body_items m.bodies
    + all_items data_items m.datas + all_items custom_items m.customs
