-- Claims of whole rows of tables, and values that several rows have.
use Rattle.std.specs.Prelude.{◌≡◌, ℕ, List, [], Option, pos}
use Rattle.smith_types.specs.Syntax.Features.{Features}
use Rattle.smith_types.specs.Syntax.FeatureBits.{features_in}
use Rattle.smith_types.specs.Syntax.const_instr.ConstInstr.{ConstInstr}
use Rattle.smith_types.specs.Syntax.segments.DataSegment.{DataSegment}
use Rattle.smith_types.specs.Syntax.segments.DataSegmentKind.TheVariants as data_kind
use Rattle.smith_types.specs.Syntax.segments.Elements.{Elements}
use Rattle.smith_types.specs.Syntax.segments.ElementKind.{ElementKind}
use Rattle.smith_types.specs.Syntax.segments.ElementKind.TheVariants as element_kind
use Rattle.smith_types.specs.Syntax.segments.ElementSegment.{ElementSegment}
use Rattle.smith_types.specs.Syntax.segments.Offset.{Offset}
use Rattle.smith_types.specs.Syntax.segments.Offset.TheVariants.{Const32}
use Rattle.smith_types.specs.Syntax.value_type.AbstractHeapType.{AbstractHeapType}
use Rattle.smith_types.specs.Syntax.value_type.ValType.{ValType}
use Rattle.smith_types.specs.ExampleContexts.{context_with}
use Rattle.smith_types.specs.ExampleFeatures.{usual_features}
use Rattle.smith_types.specs.ExampleTypes.{plain}
use Rattle.smith_types.specs.Expressions.{Context, HasType}
use Rattle.smith_types.specs.Flags.{funcref}
use Rattle.smith_types.specs.Subtyping.{IsBelow}

-- enabled exactly with these features, whatever the others are
abbrev pub IsOnWith : (Features → Type 0) → (Features → Type 0) → Type 0
IsOnWith AreOn IsEnabled = (features : Features) → (IsEnabled features → AreOn features) × (AreOn features → IsEnabled features)

-- the features in this set of bits
abbrev pub AreIn : ℕ → Features → Type 0
AreIn bits features = features_in (record { 0 = bits }) ≡ features

-- an abstract type is a subtype of another, and not the other way round
abbrev pub IsStrictlyBelow : (AbstractHeapType × AbstractHeapType) → Type 0
IsStrictlyBelow pair = IsBelow [] (plain pair.0) (plain pair.1) × (¬ IsBelow [] (plain pair.1) (plain pair.0))

-- the context with the usual features and the first globals visible, and with both imported ones
abbrev pub seeing_first : ℕ → Context
seeing_first visible = context_with usual_features visible

abbrev pub usual : Context
usual = seeing_first 2

-- the instruction has these operands and this result, and no others
pub record HasOnlyType (instruction : ConstInstr) (operands : List ValType) (result : ValType) : Type 0 where
  pub has : HasType usual instruction operands result
  pub only : (takes : List ValType) (gives : ValType) → HasType usual instruction takes gives
      → (takes ≡ operands) × (gives ≡ result)

-- a segment of functions, and one for a table, the first if it has no number
abbrev pub elements : ElementKind → Elements → ElementSegment
elements kind items = record { kind = kind; ty = funcref; items = items }

abbrev pub elements_at : Option ℕ → ℕ → Elements → ElementSegment
elements_at table offset items = elements (element_kind.Active table (Const32 (pos offset))) items

-- a segment of bytes for a memory
abbrev pub bytes_at : ℕ → Offset → List ℕ → DataSegment
bytes_at memory offset bytes = record { kind = data_kind.Active memory offset; init = bytes }
