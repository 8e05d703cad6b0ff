-- Contexts and bodies of the examples.
use Rattle.std.specs.Prelude.{List, [], ◌∷◌, pos, true, false}
use Rattle.smith_types.specs.ExampleFeatures.{usual_features}
use Rattle.smith_types.specs.Expressions.{reference_to}
use Rattle.smith_types.specs.Syntax.value_type.AbstractHeapType.TheVariants as abstract
use Rattle.smith_types.specs.Syntax.value_type.HeapType.TheVariants.{Abstract}
use Rattle.smith_types.specs.Syntax.value_type.ValType.{ValType}
use Rattle.smith_types.specs.Syntax.value_type.ValType.TheVariants.{I32, I64}
use Rattle.smith_instr.specs.Contexts.{BodyContext}
use Rattle.smith_instr.specs.declared.aggregate.AggregateInstr.TheVariants as aggregate
use Rattle.smith_instr.specs.declared.instr.Instr.{Instr}
use Rattle.smith_instr.specs.declared.instr.Instr.TheVariants as instr
use Rattle.smith_instr.specs.declared.reference.ReferenceInstr.TheVariants as reference
use Rattle.smith_check_rules.specs.StackTypes.{HasStackType}
use Rattle.smith_check_rules.specs.declared.slot.Slot.{Slot}

-- the context of a function without parameters, locals and results, with these labels, in an
-- otherwise empty module
abbrev pub with_two_labels : ValType → ValType → BodyContext
with_two_labels first second = record {
  features = usual_features;
  types = [];
  funcs = [];
  imported_funcs = 0;
  tables = [];
  memories = [];
  globals = [];
  tags = [];
  elems = [];
  datas = 0;
  references = [];
  locals = [];
  params = 0;
  labels = (first ∷ []) ∷ (second ∷ []) ∷ [];
  results = [];
}

abbrev pub plain : BodyContext
plain = record (with_two_labels I32 I64) { labels = [] }

-- a non-null reference to a function, and one to an external value
abbrev pub some_function : ValType
some_function = reference_to (Abstract false abstract.Func)

abbrev pub some_external : ValType
some_external = reference_to (Abstract false abstract.Extern)

-- a non-null reference to an internal value, unshared and shared
abbrev pub some_internal : ValType
some_internal = reference_to (Abstract false abstract.Any)

abbrev pub shared_internal : ValType
shared_internal = reference_to (Abstract true abstract.Any)

-- in dead code, `select` gives a value that is used as a number and as a reference
abbrev pub selects_any : List Instr
selects_any = instr.Unreachable ∷ instr.Select ∷ instr.Reference reference.IsNull ∷ instr.Drop ∷ []

-- a `br_table` whose labels take different types
abbrev pub branches_apart : List Instr
branches_apart = instr.Unreachable ∷ instr.BrTable (0 ∷ []) 1 ∷ []

-- a `br_table` whose labels take different reference types
abbrev pub branches_with_reference : List Instr
branches_with_reference = instr.Unreachable ∷ instr.Reference reference.AsNonNull ∷ instr.I32Const (pos 0) ∷ instr.BrTable (0 ∷ []) 1 ∷ []

-- a `br_table` whose labels take an unshared and a shared reference
abbrev pub branches_with_conversion : List Instr
branches_with_conversion =
    instr.Unreachable ∷ instr.Aggregate aggregate.AnyConvertExtern ∷ instr.I32Const (pos 0) ∷ instr.BrTable (0 ∷ []) 1 ∷ []

-- the instruction takes these operands and leaves these results
abbrev pub HasType : Instr → List Slot → List Slot → Type 0
HasType instruction operands results = HasStackType plain [] instruction operands results

-- the instruction does not take these operands, whatever its results
abbrev pub TakesNot : Instr → List Slot → Type 0
TakesNot instruction operands = (results : List Slot) → ¬ HasStackType plain [] instruction operands results
