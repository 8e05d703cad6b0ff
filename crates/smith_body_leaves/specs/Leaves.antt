-- Values without a budget. The choices and their order are rules of this project.
use Rattle.std.specs.Prelude.{◌≡◌, ℕ, zero, suc, ◌+◌, max, ◌&&◌, Bool, false, true, Option, Some, None, is_some, option_and_then}
use Rattle.std.specs.Prelude.{option_map, option_to_list, unwrap_or, List, [], ◌∷◌, ◌++◌, length, pos, slice_get, if◌then◌else◌}
use Rattle.std.specs.Option.{option_or}
use Rattle.smith_bytes.specs.Draws.{choose_at}
use Rattle.smith_config.specs.declared.config.Config.{Config}
use Rattle.smith_types.specs.Expressions.{field_values, reference_to, unpacked}
use Rattle.smith_types.specs.Subtyping.{IsValBelow}
use Rattle.smith_types.specs.Syntax.composite_type.FieldType.{FieldType}
use Rattle.smith_types.specs.Syntax.composite_type.StructType.{StructType}
use Rattle.smith_types.specs.Syntax.composite_type.SubType.{SubType}
use Rattle.smith_types.specs.Syntax.value_type.AbstractHeapType.TheVariants as abstract
use Rattle.smith_types.specs.Syntax.value_type.HeapType.{HeapType}
use Rattle.smith_types.specs.Syntax.value_type.HeapType.TheVariants.{Abstract, Concrete, Exact}
use Rattle.smith_types.specs.Syntax.value_type.RefType.{RefType}
use Rattle.smith_types.specs.Syntax.value_type.ValType.{ValType}
use Rattle.smith_types.specs.Syntax.value_type.ValType.TheVariants.{I32, I64, F32, F64, V128, Ref}
use Rattle.smith_draw_types.specs.Below.{is_val_below}
use Rattle.smith_draw_types.specs.Choices.{chosen_at}
use Rattle.smith_draw_types.specs.HeldFields.{fields_of}
use Rattle.smith_instr.specs.AggregateTypes.{external, internal}
use Rattle.smith_instr.specs.Contexts.{BodyContext, IsValid}
use Rattle.smith_instr.specs.InstrTypes.{sets, HasInstrType}
use Rattle.smith_instr.specs.declared.aggregate.AggregateInstr.TheVariants as aggregate
use Rattle.smith_instr.specs.declared.instr.Instr.{Instr}
use Rattle.smith_instr.specs.declared.instr.Instr.TheVariants as instr
use Rattle.smith_instr.specs.declared.reference.ReferenceInstr.TheVariants as reference
use Rattle.smith_body_leaves.specs.Constants.{double_at, float_at, integer32_at, integer64_at, vector_at, with_value}
use Rattle.smith_body_leaves.specs.FirstCreated.{first_created_array, first_created_struct}
use Rattle.smith_body_nodes.specs.IndexedTypes.{is_created_below, struct_in}
use Rattle.smith_body_nodes.specs.Chosen.{giving}
use Rattle.smith_body_nodes.specs.Offered.{is_global_below, is_readable, is_reference, offered, within_at}
use Rattle.smith_body_nodes.specs.Scopes.{indexed, is_permitted}
use Rattle.smith_body_nodes.specs.declared.offer.Reach.{Reach}
use Rattle.smith_body_nodes.specs.declared.offer.Reach.TheVariants as reach
use Rattle.smith_body_leaves.specs.declared.families.LeafFamily.{LeafFamily}
use Rattle.smith_body_leaves.specs.declared.families.LeafFamily.TheVariants as leaf
use Rattle.smith_body_leaves.specs.declared.leaf.Leaf.{Leaf}
use Rattle.smith_body_leaves.specs.declared.unary.Unary.{Unary}

-- null, or `unreachable` for a reference that is not nullable
abbrev pub null_or_stop : RefType → Instr
null_or_stop to = if to.nullable then instr.Reference (reference.Null to.heap_type) else instr.Unreachable

-- a constant of a type: the value or the bits that are drawn, or null for a reference
unfoldable pub constant_instr_at : ValType → List ℕ → Instr × List ℕ
constant_instr_at I32 bytes = with_value instr.I32Const (integer32_at bytes)
constant_instr_at I64 bytes = with_value instr.I64Const (integer64_at bytes)
constant_instr_at F32 bytes = with_value instr.F32Const (float_at bytes)
constant_instr_at F64 bytes = with_value instr.F64Const (double_at bytes)
constant_instr_at V128 bytes = with_value instr.V128Const (vector_at bytes)
constant_instr_at (Ref to) bytes = (null_or_stop to, bytes)

-- the instruction of an index that was drawn
abbrev pub by_index : (ℕ → Instr) → Option ℕ × List ℕ → Option Instr × List ℕ
by_index read drawn = (option_map read drawn.0, drawn.1)

-- a local that is set and whose type matches the wanted type
abbrev pub local_at : BodyContext → List ℕ → ValType → List ℕ → Option Instr × List ℕ
local_at context set wanted bytes =
    by_index instr.LocalGet (choose_at (offered (is_readable context set wanted) (indexed (length context.locals))) bytes)

-- a global whose type matches the wanted type
abbrev pub global_at : BodyContext → Reach → ValType → List ℕ → Option Instr × List ℕ
global_at context reach wanted bytes =
    by_index instr.GlobalGet (within_at reach (is_global_below context wanted) (indexed (length context.globals)) bytes)

-- a function that `ref.func` may name, by its drawn position among the offered ones
unfoldable pub named_at : BodyContext → Reach → ValType → List ℕ → Option ℕ × List ℕ
named_at context reach wanted bytes = giving (slice_get context.references)
    (within_at reach (is_reference context wanted) (length context.references) bytes)

abbrev pub reference_at : BodyContext → Reach → ValType → List ℕ → Option Instr × List ℕ
reference_at context reach wanted bytes = by_index (λ function. instr.Reference (reference.Func function))
    (named_at context reach wanted bytes)

-- the families of values without operands, each listed as often as its weight
abbrev pub leaf_families : List LeafFamily
leaf_families =
    leaf.Local ∷
    leaf.Local ∷
    leaf.Global ∷
    leaf.Reference ∷
    leaf.Constant ∷
    []

-- an instruction of a family; none for a constant
abbrev pub leaf_of : BodyContext → List ℕ → Reach → ValType → LeafFamily → List ℕ → Option Instr × List ℕ
leaf_of context set reach wanted leaf.Local bytes = local_at context set wanted bytes
leaf_of context set reach wanted leaf.Global bytes = global_at context reach wanted bytes
leaf_of context set reach wanted leaf.Reference bytes = reference_at context reach wanted bytes
leaf_of context set reach wanted leaf.Constant bytes = (None, bytes)

unfoldable pub leaf_choice_at : BodyContext → List ℕ → ValType → List ℕ → Option Instr × List ℕ
leaf_choice_at context set wanted bytes = let family = chosen_at leaf.Constant leaf_families bytes in
    leaf_of context set reach.Chunk wanted family.0 family.1

-- the instruction that was chosen, or a constant
abbrev pub or_constant : ValType → Option Instr → List ℕ → Instr × List ℕ
or_constant wanted (Some instruction) bytes = (instruction, bytes)
or_constant wanted None bytes = constant_instr_at wanted bytes

unfoldable pub any_leaf_at : BodyContext → List ℕ → ValType → List ℕ → Instr × List ℕ
any_leaf_at context set wanted bytes = let chosen = leaf_choice_at context set wanted bytes in or_constant wanted chosen.0 chosen.1

-- the chosen instruction, if it is permitted
abbrev pub if_permitted : Config → BodyContext → Option Instr → Option Instr
if_permitted config context None = None
if_permitted config context (Some instruction) = if is_permitted context.features config instruction then Some instruction else None

-- the first instruction of a family among all items, without a draw
abbrev pub first_of : Config → BodyContext → List ℕ → ValType → LeafFamily → Option Instr
first_of config context set wanted family = if_permitted config context (leaf_of context set reach.Whole wanted family []).0

-- zero or null
abbrev pub first_constant : Config → BodyContext → ValType → Option Instr
first_constant config context wanted = if_permitted config context (Some (constant_instr_at wanted []).0)

-- a struct of default values, of the first type that has them
abbrev pub default_struct : Config → BodyContext → ValType → Option Instr
default_struct config context wanted =
    if_permitted config context (option_map (λ ty. instr.Aggregate (aggregate.StructNewDefault ty)) (first_created_struct context wanted))

-- an array without elements, of the first array type
abbrev pub empty_array : Config → BodyContext → ValType → Option Instr
empty_array config context wanted =
    if_permitted config context (option_map (λ ty. instr.Aggregate (aggregate.ArrayNewFixed ty 0)) (first_created_array context wanted))

-- the first local, global or reference that may be read, zero or null, a struct of default values,
-- or an array without elements
unfoldable pub first_single : Config → BodyContext → List ℕ → ValType → Option Instr
first_single config context set wanted =
    option_or (first_of config context set wanted leaf.Local)
    (option_or (first_of config context set wanted leaf.Global)
    (option_or (first_of config context set wanted leaf.Reference)
    (option_or (first_constant config context wanted)
    (option_or (default_struct config context wanted)
    (empty_array config context wanted)))))

-- the instructions of a value, in order
abbrev pub instructions_of : Leaf → List Instr
instructions_of leaf = leaf.value ∷ (option_to_list leaf.next ++ option_to_list leaf.last)

-- a value of one instruction
abbrev pub only : Instr → Leaf
only instruction = record { value = instruction; next = None; last = None }

-- a value of at most two instructions, and then an instruction that takes it
abbrev pub with_last : Instr → Leaf → Leaf
with_last instruction leaf = record { value = leaf.value; next = leaf.last; last = Some instruction }

-- the greater of 2 and the greatest number of fields of a struct
unfoldable pub widest_struct : List SubType → ℕ
widest_struct [] = 2
widest_struct (t ∷ types) = max (length (fields_of t.composite_type.inner)) (widest_struct types)

-- the greatest number of instructions of a value: 2; with `disallow_traps` 3, or one for each field
-- of a struct and one for its creation, if these are more
unfoldable pub longest_leaf : Config → List SubType → ℕ
longest_leaf config types = if config.disallow_traps then 1 + widest_struct types else 2

-- a value, and then an instruction that takes it, if there is one
abbrev pub value_over : (ValType → Option Leaf) → Option Unary → Option Leaf
value_over operand None = None
value_over operand (Some unary) = option_map (with_last unary.instruction) (operand unary.operand)

-- the type of an i31, and the instruction that creates it
abbrev pub i31_type : Bool → ValType
i31_type shared = reference_to (Abstract shared abstract.I31)

abbrev pub i31_of : Bool → Instr
i31_of shared = if shared then instr.Aggregate aggregate.RefI31Shared else instr.Aggregate aggregate.RefI31

-- the creation of an i31, if it is permitted and its type matches the wanted type
abbrev pub i31_by : Config → BodyContext → ValType → Bool → Option Instr
i31_by config context wanted shared =
    if is_val_below context.types (i31_type shared) wanted then if_permitted config context (Some (i31_of shared)) else None

abbrev pub i31_creation : Config → BodyContext → ValType → Option Instr
i31_creation config context wanted = option_or (i31_by config context wanted false) (i31_by config context wanted true)

-- the number of an i31: zero, or the first i32 of one instruction
abbrev pub i31_number : Config → BodyContext → List ℕ → Option Instr
i31_number config context set = option_or (if_permitted config context (Some (instr.I32Const (pos 0))))
    (first_single config context set I32)

-- an i31
abbrev pub i31_with : Option Instr → Instr → Option Leaf
i31_with number creation = option_map (λ number. with_last creation (only number)) number

unfoldable pub i31_leaf : Config → BodyContext → List ℕ → ValType → Option Leaf
i31_leaf config context set wanted = option_and_then (i31_with (i31_number config context set)) (i31_creation config context wanted)

-- an instruction with its operand, if it is permitted
abbrev pub unary_permitted : Config → BodyContext → Option Unary → Option Unary
unary_permitted config context None = None
unary_permitted config context (Some unary) = if is_permitted context.features config unary.instruction then Some unary else None

-- the conversion to an internal reference from an external one, or to an external one from an
-- internal one
abbrev pub conversion_over : Bool → HeapType → Option Unary
conversion_over nullable (Abstract shared abstract.Any) =
    Some (record { instruction = instr.Aggregate aggregate.AnyConvertExtern; operand = external shared nullable })
conversion_over nullable (Abstract shared abstract.Extern) =
    Some (record { instruction = instr.Aggregate aggregate.ExternConvertAny; operand = internal shared nullable })
conversion_over nullable _ = None

abbrev pub conversion_to_type : ValType → Option Unary
conversion_to_type (Ref to) = conversion_over to.nullable to.heap_type
conversion_to_type _ = None

abbrev pub conversion_to : Config → BodyContext → ValType → Option Unary
conversion_to config context wanted = unary_permitted config context (conversion_to_type wanted)

-- the fields of a type, if it is a struct type
abbrev pub fields_in : Option StructType → List FieldType
fields_in (Some structure) = structure.fields
fields_in None = []

abbrev pub fields_at : List SubType → ℕ → List FieldType
fields_at types ty = fields_in (struct_in (slice_get types ty))

-- a struct of this type matches the wanted type, and its creation is permitted
abbrev pub may_create : Config → BodyContext → ValType → ℕ → Bool
may_create config context wanted ty = is_created_below context wanted ty && is_permitted context.features config
    (instr.Aggregate (aggregate.StructNew ty))

-- the creation of a struct of one field
abbrev pub creation_over : Config → BodyContext → ValType → ℕ → List FieldType → Option Unary
creation_over config context wanted ty (field ∷ []) =
    if may_create config context wanted ty
    then Some (record { instruction = instr.Aggregate (aggregate.StructNew ty); operand = unpacked field.element_type })
    else None
creation_over config context wanted ty _ = None

abbrev pub creation_of : Config → BodyContext → ValType → ℕ → Option Unary
creation_of config context wanted ty = creation_over config context wanted ty (fields_at context.types ty)

-- the index of the type that a reference type names
abbrev pub named_by : HeapType → Option ℕ
named_by (Concrete index) = Some index
named_by (Exact index) = Some index
named_by _ = None

abbrev pub named_type : ValType → Option ℕ
named_type (Ref to) = named_by to.heap_type
named_type _ = None

-- the first result among the indices below an end
abbrev pub first_below : {A : Type 0} → (ℕ → Option A) → ℕ → Option A
first_below found zero = None
first_below found (suc n) = option_or (first_below found n) (found n)

-- the first result among the types that are tried: the type with a given index, or without one, any
-- type, but only if `search` is set
abbrev pub first_tried : {A : Type 0} → BodyContext → Bool → Option ℕ → (ℕ → Option A) → Option A
first_tried context search (Some ty) found = found ty
first_tried context search None found = if search then first_below found (indexed (length context.types)) else None

-- whether the struct types are searched for the field of a struct: at most once for a value, and
-- never if the type index is given
abbrev pub searches_on : Bool → Option ℕ → Bool
searches_on search (Some ty) = search
searches_on search None = false

-- a struct of one field, which has such a value
abbrev pub created_over : Config → BodyContext → (ValType → Option Leaf) → ValType → ℕ → Option Leaf
created_over config context operand wanted ty = value_over operand (creation_of config context wanted ty)

abbrev pub created_leaf : Config → BodyContext → Bool → (Bool → ValType → Option Leaf) → ValType → Option Leaf
created_leaf config context search operand wanted =
    first_tried context search (named_type wanted) (created_over config context (operand (searches_on search (named_type wanted))) wanted)

-- an i31, a converted reference, or a struct of one field
abbrev pub unary_leaf : Config → BodyContext → List ℕ → Bool → (Bool → ValType → Option Leaf) → ValType → Option Leaf
unary_leaf config context set search operand wanted =
    option_or (i31_leaf config context set wanted)
    (option_or (value_over (operand search) (conversion_to config context wanted))
    (created_leaf config context search operand wanted))

-- a value of one instruction, and at most this number of instructions that each take the value
-- before them
unfoldable pub leaf_within : Config → BodyContext → List ℕ → ℕ → Bool → ValType → Option Leaf
leaf_within config context set zero search wanted = option_map only (first_single config context set wanted)
leaf_within config context set (suc more) search wanted =
    option_or (option_map only (first_single config context set wanted))
    (unary_leaf config context set search (leaf_within config context set more) wanted)

-- the first value of one instruction of each type, where there is one
abbrev pub singles : Config → BodyContext → List ℕ → List ValType → List Instr
singles config context set [] = []
singles config context set (wanted ∷ more) = option_to_list (first_single config context set wanted) ++ singles config context set more

-- each type has a value of one instruction
abbrev pub have_singles : Config → BodyContext → List ℕ → List ValType → Bool
have_singles config context set [] = true
have_singles config context set (wanted ∷ more) = is_some (first_single config context set wanted) && have_singles config context set more

-- a struct of this type matches the wanted type, its creation is permitted, and each field has a
-- value of one instruction
abbrev pub is_created_in : Config → BodyContext → List ℕ → ValType → ℕ → Option StructType → Bool
is_created_in config context set wanted ty (Some structure) = may_create config context wanted ty && have_singles config context set
    (field_values structure.fields)
is_created_in config context set wanted ty None = false

abbrev pub is_created : Config → BodyContext → List ℕ → ValType → ℕ → Bool
is_created config context set wanted ty = is_created_in config context set wanted ty (struct_in (slice_get context.types ty))

-- the index of a struct type, if a struct of this type may be created
abbrev pub created_at : Config → BodyContext → List ℕ → ValType → ℕ → Option ℕ
created_at config context set wanted ty = if is_created config context set wanted ty then Some ty else None

-- the first tried struct type of which a struct may be created
unfoldable pub created_type : Config → BodyContext → List ℕ → ValType → Option ℕ
created_type config context set wanted = first_tried context true (named_type wanted) (created_at config context set wanted)

-- a struct created from the first value of one instruction of each field
abbrev pub created_from : Config → BodyContext → List ℕ → ℕ → List Instr
created_from config context set ty = singles config context set (field_values (fields_at context.types ty)) ++ instr.Aggregate
    (aggregate.StructNew ty) ∷ []

-- a value of at most three instructions, or a struct of values of one instruction; `unreachable` if
-- there is none
unfoldable pub first_leaf : Config → BodyContext → List ℕ → ValType → List Instr
first_leaf config context set wanted =
    unwrap_or (option_map instructions_of (leaf_within config context set 2 true wanted))
    (unwrap_or (option_map (created_from config context set) (created_type config context set wanted)) (instr.Unreachable ∷ []))

-- the replacement for an instruction that is not permitted: `unreachable`; with `disallow_traps`
-- the first permitted value
unfoldable pub spare_leaf : Config → BodyContext → List ℕ → ValType → List Instr
spare_leaf config context set wanted = if config.disallow_traps then first_leaf config context set wanted else instr.Unreachable ∷ []

-- an instruction that produces a value that matches this type, without operands
pub record IsLeaf (context : BodyContext) (set : List ℕ) (wanted : ValType) (instruction : Instr) : Type 0 where
  pub value : ValType
  pub typed : HasInstrType context set instruction [] (value ∷ [])
  pub below : IsValBelow context.types value wanted
  pub sets_none : sets instruction ≡ []

-- a constant of this type, null, or `unreachable`
abbrev pub IsConstant : ValType → Instr → Type 0
IsConstant wanted instruction = (context : BodyContext) (set : List ℕ) → IsValid context wanted → IsLeaf context set wanted instruction

-- an instruction that takes values of these types and produces one that matches another
pub record IsTaking (context : BodyContext) (set : List ℕ) (operands : List ValType) (wanted : ValType) (instruction : Instr) : Type 0 where
  pub value : ValType
  pub typed : HasInstrType context set instruction operands (value ∷ [])
  pub below : IsValBelow context.types value wanted
  pub sets_none : sets instruction ≡ []
