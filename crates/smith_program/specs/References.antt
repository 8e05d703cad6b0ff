-- The functions that `ref.func` may name in bodies: the section Validation, Modules, of the
-- WebAssembly Core Specification 3.0.
use Rattle.std.specs.Prelude.{ℕ, Option, Some, None, List, [], ◌∷◌, ◌++◌}
use Rattle.std.specs.List.{flat_map}
use Rattle.smith_types.specs.Syntax.const_instr.ConstInstr.{ConstInstr}
use Rattle.smith_types.specs.Syntax.const_instr.ConstInstr.TheVariants as constant
use Rattle.smith_types.specs.Syntax.entity_type.ExportKind.{ExportKind}
use Rattle.smith_types.specs.Syntax.entity_type.ExportKind.TheVariants as kind
use Rattle.smith_types.specs.Syntax.segments.ElementSegment.{ElementSegment}
use Rattle.smith_types.specs.Syntax.segments.Elements.{Elements}
use Rattle.smith_types.specs.Syntax.segments.Elements.TheVariants as elements
use Rattle.smith_module_rules.specs.Module.{ModuleParts}

-- the function that an instruction of a constant expression names, if any (Validation, Modules,
-- C.refs)
abbrev pub named_by : ConstInstr → List ℕ
named_by (constant.RefFunc function) = function ∷ []
named_by _ = []

-- the functions that a constant expression names (Validation, Modules, C.refs)
abbrev pub named_in : List ConstInstr → List ℕ
named_in expression = flat_map named_by expression

-- the function that an export names, if any (Validation, Modules, C.refs)
abbrev pub exported_by : ExportKind → ℕ → List ℕ
exported_by kind.Func index = index ∷ []
exported_by _ index = []

-- the functions that the items of an element segment name (Validation, Modules, C.refs)
abbrev pub named_by_items : Elements → List ℕ
named_by_items (elements.Functions functions) = functions
named_by_items (elements.Expressions expressions) = flat_map named_in expressions

-- the functions that the initialiser of a table names (Validation, Modules, C.refs)
abbrev pub named_by_table : Option (List ConstInstr) → List ℕ
named_by_table (Some expression) = named_in expression
named_by_table None = []

-- The functions that occur in a module outside of its bodies and its start function, each once for
-- each occurrence (Validation, Modules, C.refs). The offset of a segment names no function.
abbrev pub references_of : ModuleParts → List ℕ
references_of m =
    flat_map (λ (export : List ℕ × ExportKind × ℕ). exported_by export.1 export.2) m.exports
    ++ (flat_map (λ (segment : ElementSegment). named_by_items segment.items) m.elems
    ++ (flat_map (λ (global : ℕ × List ConstInstr). named_in global.1) m.defined_globals
    ++ flat_map named_by_table m.defined_tables))
