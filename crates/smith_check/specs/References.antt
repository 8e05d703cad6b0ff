-- The functions that `ref.func` may name in the bodies of functions: the section Validation, Modules,
-- of the WebAssembly Core Specification 3.0 (C.refs).
use Rattle.std.specs.Prelude.{ℕ, List, [], ◌∷◌, ◌++◌}
use Rattle.std.specs.List.{flat_map}
use Rattle.smith_types.specs.Syntax.entity_type.ExportKind.{ExportKind}
use Rattle.smith_types.specs.Syntax.entity_type.ExportKind.TheVariants as kind
use Rattle.smith_types.specs.Syntax.entity_type.GlobalType.{GlobalType}
use Rattle.smith_types.specs.Syntax.entity_type.TableType.{TableType}
use Rattle.smith_check.specs.Common.{Instr, Syntax}
use Rattle.smith_instr.specs.declared.instr.Instr.TheVariants as instr
use Rattle.smith_instr.specs.declared.reference.ReferenceInstr.{ReferenceInstr}
use Rattle.smith_instr.specs.declared.reference.ReferenceInstr.TheVariants as reference
use Rattle.smith_decode.specs.Data.{Data, DataMode}
use Rattle.smith_decode.specs.Elements.{Elem, Mode}

-- the function that a reference instruction names, if any (Structure, Reference Instructions)
abbrev pub named_by_reference : ReferenceInstr → List ℕ
named_by_reference (reference.Func function) = function ∷ []
named_by_reference _ = []

-- the function that an instruction names with `ref.func`, if any (Structure, Reference
-- Instructions)
abbrev pub named_by : Instr → List ℕ
named_by (instr.Reference op) = named_by_reference op
named_by _ = []

-- the functions that an expression names with `ref.func` (Structure, Expressions)
abbrev pub named_in : List Instr → List ℕ
named_in expression = flat_map named_by expression

-- the function that an export names, if any (Structure, Exports)
abbrev pub exported_by : ExportKind → ℕ → List ℕ
exported_by kind.Func index = index ∷ []
exported_by _ index = []

-- the functions that the offset of an element segment names (Structure, Element Segments)
abbrev pub named_by_element_mode : Mode → List ℕ
named_by_element_mode (Mode.active table offset) = named_in offset
named_by_element_mode _ = []

-- the functions that an element segment names (Structure, Element Segments)
abbrev pub named_by_element : Elem → List ℕ
named_by_element segment = flat_map named_in segment.items ++ named_by_element_mode segment.mode

-- the functions that the offset of a data segment names (Structure, Data Segments)
abbrev pub named_by_data_mode : DataMode → List ℕ
named_by_data_mode (DataMode.active memory offset) = named_in offset
named_by_data_mode DataMode.passive = []

-- the functions that occur in a module outside of its bodies and its start function, each once for
-- each occurrence (Validation, Modules, C.refs)
abbrev pub references_of : Syntax → List ℕ
references_of m =
    flat_map (λ (item : List ℕ × ExportKind × ℕ). exported_by item.1 item.2) m.exports
    ++ (flat_map (λ (table : TableType × List Instr). named_in table.1) m.tables
    ++ (flat_map (λ (global : GlobalType × List Instr). named_in global.1) m.globals
    ++ (flat_map named_by_element m.elems
    ++ flat_map (λ (segment : Data). named_by_data_mode segment.mode) m.datas)))
