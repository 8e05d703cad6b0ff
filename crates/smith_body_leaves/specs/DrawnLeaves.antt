-- Drawn values without a budget: one instruction, or a value that is preferred to null. The
-- choices, their order and their weights are rules of this project.
use Rattle.std.specs.Prelude.{◌≡◌, ℕ, ℤ, Bool, true, false, ◌&&◌, not, nat_lt, Option, Some, None, option_map, unwrap_or, List, [], ◌∷◌}
use Rattle.std.specs.Prelude.{◌++◌, length, pos, replicate, slice_get, if◌then◌else◌}
use Rattle.smith_bytes.specs.Draws.{range_at}
use Rattle.smith_config.specs.declared.config.Config.{Config}
use Rattle.smith_types.specs.Expressions.{unpacked}
use Rattle.smith_types.specs.Grounded.{is_defaultable}
use Rattle.smith_types.specs.Syntax.Features.{Features}
use Rattle.smith_types.specs.Syntax.composite_type.FieldType.{FieldType}
use Rattle.smith_types.specs.Syntax.value_type.AbstractHeapType.TheVariants as abstract
use Rattle.smith_types.specs.Syntax.value_type.HeapType.{HeapType}
use Rattle.smith_types.specs.Syntax.value_type.HeapType.TheVariants.{Abstract, Concrete, Exact}
use Rattle.smith_types.specs.Syntax.value_type.ValType.{ValType}
use Rattle.smith_types.specs.Syntax.value_type.ValType.TheVariants.{I32, Ref}
use Rattle.smith_draw_types.specs.Choices.{chosen_at}
use Rattle.smith_instr.specs.Contexts.{BodyContext}
use Rattle.smith_instr.specs.declared.aggregate.AggregateInstr.TheVariants as aggregate
use Rattle.smith_instr.specs.declared.instr.Instr.{Instr}
use Rattle.smith_instr.specs.declared.instr.Instr.TheVariants as instr
use Rattle.smith_instr.specs.declared.reference.ReferenceInstr.TheVariants as reference
use Rattle.smith_body_leaves.specs.Constants.{integer32_at}
use Rattle.smith_body_leaves.specs.Leaves.{IsLeaf, IsTaking, any_leaf_at, by_index, i31_creation, if_permitted, instructions_of, leaf_of}
use Rattle.smith_body_leaves.specs.Leaves.{named_type, only, spare_leaf, with_last}
use Rattle.smith_body_leaves.specs.declared.families.CreatedFamily.{CreatedFamily}
use Rattle.smith_body_leaves.specs.declared.families.CreatedFamily.TheVariants as created
use Rattle.smith_body_leaves.specs.declared.families.LeafFamily.{LeafFamily}
use Rattle.smith_body_leaves.specs.declared.families.LeafFamily.TheVariants as leaf
use Rattle.smith_body_leaves.specs.declared.leaf.Leaf.{Leaf}
use Rattle.smith_body_nodes.specs.IndexedTypes.{element_in, is_created_below, is_created_struct}
use Rattle.smith_body_nodes.specs.Offered.{chunk_at}
use Rattle.smith_body_nodes.specs.Scopes.{indexed, is_permitted}
use Rattle.smith_body_nodes.specs.declared.offer.Reach.TheVariants as reach

-- the chosen item, or if there is none, the item of the next choice
abbrev pub something_or : {A : Type 0} → Option A → (List ℕ → Option A × List ℕ) → List ℕ → Option A × List ℕ
something_or (Some x) next bytes = (Some x, bytes)
something_or None next bytes = next bytes

abbrev pub or_next : {A : Type 0} → Option A × List ℕ → (List ℕ → Option A × List ℕ) → Option A × List ℕ
or_next drawn next = something_or drawn.0 next drawn.1

-- a reference that is null or, where null doesn't match the wanted type, `unreachable`
abbrev pub is_null_or_stop : Instr → Bool
is_null_or_stop (instr.Reference (reference.Null heap_type)) = true
is_null_or_stop instr.Unreachable = true
is_null_or_stop _ = false

-- the non-nullable form of a type, if such types are enabled
abbrev pub strict_form : Features → ValType → ValType
strict_form features (Ref to) = Ref (record { nullable = to.nullable && not features.function_references; heap_type = to.heap_type })
strict_form features wanted = wanted

-- an instruction of a family, if it is permitted
abbrev pub held_of : Config → BodyContext → List ℕ → ValType → LeafFamily → List ℕ → Option Instr × List ℕ
held_of config context set wanted family bytes =
    let drawn = leaf_of context set reach.Chunk wanted family bytes in
    (if_permitted config context drawn.0, drawn.1)

-- a local, or if none is chosen, a global
unfoldable pub variable_at : Config → BodyContext → List ℕ → ValType → List ℕ → Option Instr × List ℕ
variable_at config context set wanted bytes = or_next (held_of config context set wanted leaf.Local bytes)
    (held_of config context set wanted leaf.Global)

-- a type that passes a test: the type with a given index, or without one, a type of a drawn chunk
abbrev pub created_type_at : (ℕ → Bool) → ℕ → Option ℕ → List ℕ → Option ℕ × List ℕ
created_type_at test size (Some ty) bytes = (if nat_lt ty size && test ty then Some ty else None, bytes)
created_type_at test size None bytes = chunk_at test size bytes

-- a struct of default values
abbrev pub struct_at : BodyContext → ValType → List ℕ → Option Instr × List ℕ
struct_at context wanted bytes =
    by_index (λ ty. instr.Aggregate (aggregate.StructNewDefault ty)) (created_type_at (is_created_struct context wanted true)
    (indexed (length context.types)) (named_type wanted) bytes)

-- an array type whose elements have a default, and whose created values match the wanted type
abbrev pub has_default_element : Option FieldType → Bool
has_default_element (Some element) = is_defaultable (unpacked element.element_type)
has_default_element None = false

abbrev pub is_created_array : BodyContext → ValType → ℕ → Bool
is_created_array context wanted index = is_created_below context wanted index && has_default_element
    (element_in (slice_get context.types index))

-- an array of default values
abbrev pub array_at : BodyContext → ValType → List ℕ → Option Instr × List ℕ
array_at context wanted bytes =
    by_index (λ ty. instr.Aggregate (aggregate.ArrayNewDefault ty)) (created_type_at (is_created_array context wanted)
    (indexed (length context.types)) (named_type wanted) bytes)

-- an instruction that takes a number, with this number, if both are permitted
abbrev pub over_number : Config → BodyContext → Instr → ℤ → Option Leaf
over_number config context creation number =
    if is_permitted context.features config (instr.I32Const number) && is_permitted context.features config creation
    then Some (with_last creation (only (instr.I32Const number)))
    else None

-- an instruction that takes a number, with a number that is drawn
abbrev pub numbered : Config → BodyContext → (List ℕ → ℤ × List ℕ) → Option Instr → List ℕ → Option Leaf × List ℕ
numbered config context draw (Some creation) bytes = let number = draw bytes in (over_number config context creation number.0, number.1)
numbered config context draw None bytes = (None, bytes)

-- a length, from 4 to 15
abbrev pub length_at : List ℕ → ℤ × List ℕ
length_at bytes = let length = range_at 4 15 bytes in (pos length.0, length.1)

-- the families of created values, or none in place of null, each listed as often as its weight
abbrev pub created_families : List (Option CreatedFamily)
created_families =
    replicate 5 (Some created.Struct) ++ replicate 5 (Some created.Array) ++ replicate 5 (Some created.I31) ++ None ∷ []

-- a created value of a family
abbrev pub created_of : Config → BodyContext → ValType → CreatedFamily → List ℕ → Option Leaf × List ℕ
created_of config context wanted created.Struct bytes =
    let drawn = struct_at context wanted bytes in
    (option_map only (if_permitted config context drawn.0), drawn.1)
created_of config context wanted created.Array bytes =
    let drawn = array_at context wanted bytes in
    numbered config context length_at drawn.0 drawn.1
created_of config context wanted created.I31 bytes = numbered config context integer32_at (i31_creation config context wanted) bytes

-- a reference that may be to a struct, an array or an i31
abbrev pub is_to_created : HeapType → Bool
is_to_created (Abstract shared abstract.Any) = true
is_to_created (Abstract shared abstract.Eq) = true
is_to_created (Abstract shared abstract.I31) = true
is_to_created (Abstract shared abstract.Struct) = true
is_to_created (Abstract shared abstract.Array) = true
is_to_created (Abstract shared _) = false
is_to_created (Concrete index) = true
is_to_created (Exact index) = true

abbrev pub may_be_created : ValType → Bool
may_be_created (Ref to) = is_to_created to.heap_type
may_be_created _ = false

-- a created value of this family, or of the first family that has one
abbrev pub created_value_at : Config → BodyContext → ValType → CreatedFamily → List ℕ → Option Leaf × List ℕ
created_value_at config context wanted family bytes =
    if may_be_created wanted then
    or_next (created_of config context wanted family bytes)
    (λ bytes. or_next (created_of config context wanted created.Struct bytes)
    (λ bytes. or_next (created_of config context wanted created.Array bytes)
    (created_of config context wanted created.I31)))
    else (None, bytes)

-- a value of one instruction
abbrev pub alone : Option Instr × List ℕ → Option Leaf × List ℕ
alone drawn = (option_map only drawn.0, drawn.1)

-- a value other than null: a local, a created value, or a reference to a function, of the strict
-- type; if there is none, a local or a global of the wanted type
abbrev pub strict_value_for : Config → BodyContext → List ℕ → (strict wanted : ValType) → CreatedFamily → List ℕ → Option Leaf × List ℕ
strict_value_for config context set strict wanted family bytes =
    or_next (alone (held_of config context set strict leaf.Local bytes))
    (λ bytes. or_next (created_value_at config context strict family bytes)
    (λ bytes. or_next (alone (held_of config context set strict leaf.Reference bytes))
    (λ bytes. alone (variable_at config context set wanted bytes))))

-- such a value, first of the non-nullable form of the type
unfoldable pub value_for : Config → BodyContext → List ℕ → ValType → CreatedFamily → List ℕ → Option Leaf × List ℕ
value_for config context set wanted family bytes = strict_value_for config context set (strict_form context.features wanted) wanted family
    bytes

-- a value that is preferred to null, if there is one: one of 16 times there is none
abbrev pub preferred_by : Config → BodyContext → List ℕ → ValType → Option CreatedFamily → List ℕ → Option Leaf × List ℕ
preferred_by config context set wanted None bytes = (None, bytes)
preferred_by config context set wanted (Some family) bytes = value_for config context set wanted family bytes

unfoldable pub preferred_at : Config → BodyContext → List ℕ → ValType → List ℕ → Option Leaf × List ℕ
preferred_at config context set wanted bytes =
    let family = chosen_at (Some created.Struct) created_families bytes in
    preferred_by config context set wanted family.0 family.1

-- the drawn instruction if it is permitted, else its replacement
abbrev pub permitted_or_spare : Config → BodyContext → List ℕ → ValType → Instr → List Instr
permitted_or_spare config context set wanted instruction =
    if is_permitted context.features config instruction then instruction ∷ [] else spare_leaf config context set wanted

-- the value that is preferred to a drawn instruction, if any
abbrev pub preferred_to : Config → BodyContext → List ℕ → ValType → Instr → List ℕ → Option Leaf × List ℕ
preferred_to config context set wanted instruction bytes =
    if is_null_or_stop instruction then preferred_at config context set wanted bytes else (None, bytes)

-- the drawn instruction, or in place of null the value that is preferred to it
unfoldable pub leaf_at : Config → BodyContext → List ℕ → ValType → List ℕ → List Instr × List ℕ
leaf_at config context set wanted bytes =
    let leaf = any_leaf_at context set wanted bytes in
    let preferred = preferred_to config context set wanted leaf.0 leaf.1 in
    (unwrap_or (option_map instructions_of preferred.0) (permitted_or_spare config context set wanted leaf.0), preferred.1)

-- an instruction without operands, or an i32 and an instruction that takes it, produces a value that
-- matches this type
abbrev pub IsMadeBy : BodyContext → List ℕ → (wanted : ValType) → Instr → Option Instr → Type 0
IsMadeBy context set wanted value None = IsLeaf context set wanted value
IsMadeBy context set wanted value (Some last) = IsLeaf context set I32 value × IsTaking context set (I32 ∷ []) wanted last

-- a value of one such instruction or two
pub record IsBrief (context : BodyContext) (set : List ℕ) (wanted : ValType) (leaf : Leaf) : Type 0 where
  pub brief : leaf.next ≡ None
  pub made : IsMadeBy context set wanted leaf.value leaf.last
