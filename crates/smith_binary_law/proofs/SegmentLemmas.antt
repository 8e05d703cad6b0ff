-- Valid segments are valid in the abstract syntax.
use Rattle.smith_binary_law.proofs.Common.{[], Bool, Concrete, false, func_ref, funcref, I32, I32Const, IsRefBelow, itself, length, List}
use Rattle.smith_binary_law.proofs.Common.{None, offset_of, refl, Some, subst, sym, TableType, true, ValType, ℕ, ◌∷◌, ◌≡◌}
use Rattle.std.proofs.Common.{cond}
use Rattle.std.specs.Prelude.{All, nat_le}
use Rattle.std.proofs.lemmas.List.Elements.{All-map, All-weaker}
use Rattle.smith_types.specs.Expressions.{Context, HasType, IsConstExpr, reference_to, function_reference}
use Rattle.smith_types.specs.Syntax.Features.{Features}
use Rattle.smith_types.specs.Segments.{address_type, IsOffsetValid, IsItem, AreItemsValid, IsActiveElementSegment, IsElementKindValid}
use Rattle.smith_types.specs.Segments.{IsElementSegmentValid, IsDataKindValid, IsDataValid}
use Rattle.smith_types.specs.Subtyping.{IsInRange, IsValBelow}
use Rattle.smith_types.specs.ValidTypes.{IsHeapTypeValid}
use Rattle.smith_types.specs.Syntax.composite_type.SubType.{SubType}
use Rattle.smith_types.specs.Syntax.const_instr.ConstInstr.{ConstInstr}
use Rattle.smith_types.specs.Syntax.const_instr.ConstInstr.TheVariants.{GlobalGet, I64Const, RefFunc}
use Rattle.smith_types.specs.Syntax.entity_type.MemoryType.{MemoryType}
use Rattle.smith_types.specs.Syntax.segments.DataSegment.{DataSegment}
use Rattle.smith_types.specs.Syntax.segments.DataSegmentKind.{DataSegmentKind}
use Rattle.smith_types.specs.Syntax.segments.DataSegmentKind.TheVariants as data_kind
use Rattle.smith_types.specs.Syntax.segments.Elements.{Elements}
use Rattle.smith_types.specs.Syntax.segments.Elements.TheVariants.{Functions, Expressions}
use Rattle.smith_types.specs.Syntax.segments.ElementKind.{ElementKind}
use Rattle.smith_types.specs.Syntax.segments.ElementKind.TheVariants as kind
use Rattle.smith_types.specs.Syntax.segments.ElementSegment.{ElementSegment}
use Rattle.smith_types.specs.Syntax.segments.Offset.{Offset}
use Rattle.smith_types.specs.Syntax.segments.Offset.TheVariants.{Const32, Const64, Global}
use Rattle.smith_types.specs.Syntax.value_type.HeapType.{HeapType}
use Rattle.smith_types.specs.Syntax.value_type.HeapType.TheVariants.{Abstract, Exact}
use Rattle.smith_types.specs.Syntax.value_type.RefType.{RefType}
use Rattle.smith_types.specs.Syntax.value_type.ValType.TheVariants.{I64, Ref}
use Rattle.smith_types.proofs.ConstStepLemmas.{one_step}
use Rattle.smith_types.proofs.GrowthLemmas.{IsRefBelow-trans}
use Rattle.smith_binary_sections.specs.Elements.{elem_items, elem_mode, elem_of, elem_type}
use Rattle.smith_binary_sections.specs.Data.{data_mode, data_of}
use Rattle.smith_binary_law.specs.Segments.{IsTyped, IsTaken, IsModeTyped, IsElemTyped, IsDataModeTyped, IsDataTyped, AreListedAsFuncref}

in_range : (features : Features) (types : List SubType) (heap_type : HeapType) → IsHeapTypeValid features (length types) heap_type
    → IsInRange types heap_type
in_range features types (Abstract is_shared ty) valid = tt
in_range features types (Concrete index) valid = valid.1
in_range features types (Exact index) valid = valid.1

-- an instruction without operands, alone
pub alone : (context : Context) (instruction : ConstInstr) (value wanted : ValType) → HasType context instruction [] value
    → IsValBelow context.types value wanted → IsTyped context wanted (instruction ∷ [])
alone context instruction value wanted typed below =
    record { value = value; steps = (value ∷ [], one_step context instruction [] value [] [] typed tt, refl); below = below }

-- an offset as an expression
address_itself : (types : List SubType) (wide : Bool) → IsValBelow types (address_type wide) (address_type wide)
address_itself types true = tt
address_itself types false = tt

offset_typed : (context : Context) (wide : Bool) (offset : Offset) → IsOffsetValid context wide offset → IsTyped context (address_type wide)
    (offset_of offset)
offset_typed context wide (Const32 value) valid = rw valid (alone context (I32Const value) I32 I32 (refl, refl) tt)
offset_typed context wide (Const64 value) valid = rw valid (alone context (I64Const value) I64 I64 (refl, refl) tt)
offset_typed context wide (Global index) valid = alone context (GlobalGet index) (address_type wide) (address_type wide) (refl, valid)
    (address_itself context.types wide)

-- a reference to a function is not null
not_null : (defined descriptors : Bool) (index : ℕ) → (heap_type : HeapType)
    × (cond defined (reference_to (cond descriptors (Exact index) (Concrete index))) (reference_to (Concrete index))
    ≡ reference_to heap_type)
not_null true descriptors index = (cond descriptors (Exact index) (Concrete index), refl)
not_null false descriptors index = (Concrete index, refl)

-- a non-nullable type that matches `funcref` matches the non-nullable type of functions
below_func : (types : List SubType) (value : ValType) (heap_type : HeapType) → value ≡ reference_to heap_type
    → IsValBelow types value (Ref funcref) → IsValBelow types value (Ref (func_ref false))
below_func types value heap_type is below =
    let as_reference : IsRefBelow types (record { nullable = false; heap_type = heap_type }) funcref =
    subst (λ (one : ValType). IsValBelow types one (Ref funcref)) is below in
    let not_null_below : IsRefBelow types (record { nullable = false; heap_type = heap_type }) (func_ref false) =
    record { heap = as_reference.heap; nullable = λ never. never } in
    subst (λ (one : ValType). IsValBelow types one (Ref (func_ref false))) (sym is) not_null_below

-- a function as an item
function_typed : (context : Context) (function : ℕ) → IsItem context funcref function → IsTyped context (Ref (func_ref false))
    (RefFunc function ∷ [])
function_typed context function (index, stands, below) =
    let (heap_type, is) = not_null (nat_le context.imported_funcs function) context.features.custom_descriptors index in
    alone context (RefFunc function) (function_reference context function index) (Ref (func_ref false)) (index, stands, refl, refl)
    (below_func context.types (function_reference context function index) heap_type is below)

-- items as expressions
without_features : (context : Context) (wanted : ValType) (expression : List ConstInstr) → IsConstExpr context wanted expression
    → IsTyped context wanted expression
without_features context wanted expression valid = record { value = valid.value; steps = valid.steps; below = valid.below }

items_typed : (context : Context) (ty : RefType) (items : Elements) → AreItemsValid context ty items → AreListedAsFuncref items ty
    → All (IsTyped context (Ref (elem_type items ty))) (elem_items items)
items_typed context ty (Functions functions) valid listed =
    All-map (IsTyped context (Ref (func_ref false))) (λ (index : ℕ). RefFunc index ∷ []) functions
    (All-weaker (IsItem context funcref) (λ (function : ℕ). IsTyped context (Ref (func_ref false)) (RefFunc function ∷ []))
    (function_typed context) functions
    (subst (λ (one : RefType). All (IsItem context one) functions) listed valid))
items_typed context ty (Expressions expressions) valid listed =
    All-weaker (IsConstExpr context (Ref ty)) (IsTyped context (Ref ty)) (without_features context (Ref ty)) expressions valid.1

-- the type of an element segment in the abstract syntax matches its own
pub elem_type_below : (types : List SubType) (items : Elements) (ty : RefType) → AreListedAsFuncref items ty
    → IsRefBelow types (elem_type items ty) ty
elem_type_below types (Functions functions) ty listed = rw listed (record { heap = itself; nullable = λ is. refl })
elem_type_below types (Expressions expressions) ty listed = record { heap = itself; nullable = λ is. is }

type_in_range : (features : Features) (types : List SubType) (items : Elements) (ty : RefType)
    → IsHeapTypeValid features (length types) ty.heap_type → IsInRange types (elem_type items ty).heap_type
type_in_range features types (Functions functions) ty valid = tt
type_in_range features types (Expressions expressions) ty valid = in_range features types ty.heap_type valid

taken : (context : Context) (tables : List TableType) (ty given : RefType) (index : ℕ) (offset : Offset) → IsRefBelow context.types given ty
    → IsActiveElementSegment context tables ty index offset → IsTaken context tables given index (offset_of offset)
taken context tables ty given index offset below valid = record {
  table = valid.table;
  stands = valid.stands;
  below = IsRefBelow-trans context.types below valid.below;
  offset_typed = offset_typed context valid.table.table64 offset valid.offset_valid;
}

mode_typed : (context : Context) (tables : List TableType) (ty given : RefType) (mode : ElementKind) → IsRefBelow context.types given ty
    → IsElementKindValid context tables ty mode → IsModeTyped context tables given (elem_mode mode)
mode_typed context tables ty given kind.Passive below valid = tt
mode_typed context tables ty given kind.Declared below valid = tt
mode_typed context tables ty given (kind.Active None offset) below valid = taken context tables ty given 0 offset below valid
mode_typed context tables ty given (kind.Active (Some index) offset) below valid = taken context tables ty given index offset below valid.1

pub elem_typed : (context : Context) (tables : List TableType) (segment : ElementSegment) → IsElementSegmentValid context tables segment
    → AreListedAsFuncref segment.items segment.ty → IsElemTyped context tables (elem_of segment)
elem_typed context tables segment valid listed = record {
  ty = type_in_range context.features context.types segment.items segment.ty valid.ty.heap_type;
  items = items_typed context segment.ty segment.items valid.items listed;
  mode = mode_typed context tables segment.ty (elem_type segment.items segment.ty) segment.kind
      (elem_type_below context.types segment.items segment.ty listed) valid.kind;
}

pub data_typed : (context : Context) (memories : List MemoryType) (segment : DataSegment) → IsDataValid context memories segment
    → IsDataTyped context memories (data_of segment)
data_typed context memories segment valid = mode_of segment.kind valid
  where
    mode_of : (mode : DataSegmentKind) → IsDataKindValid context memories mode → IsDataModeTyped context memories (data_mode mode)
    mode_of data_kind.Passive valid = tt
    mode_of (data_kind.Active index offset) (memory, stands, offset_valid) =
        (memory, stands, offset_typed context memory.memory64 offset offset_valid)
