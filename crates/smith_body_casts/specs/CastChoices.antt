-- Drawn casts, tests and conversions of references, and drawn instructions on an i31. The choices,
-- their order and their weights are rules of this project.
use Rattle.std.specs.Prelude.{ℕ, Bool, true, false, ◌&&◌, not, Option, Some, None, is_some, List, [], ◌∷◌, length, slice_get, if◌then◌else◌}
use Rattle.smith_bytes.specs.Draws.{choose_at}
use Rattle.smith_types.specs.Expressions.{reference_to}
use Rattle.smith_types.specs.Syntax.Features.{Features}
use Rattle.smith_types.specs.Syntax.value_type.AbstractHeapType.TheVariants as abstract
use Rattle.smith_types.specs.Syntax.value_type.HeapType.{HeapType}
use Rattle.smith_types.specs.Syntax.value_type.HeapType.TheVariants.{Abstract}
use Rattle.smith_types.specs.Syntax.value_type.RefType.{RefType}
use Rattle.smith_types.specs.Syntax.value_type.ValType.{ValType}
use Rattle.smith_types.specs.Syntax.value_type.ValType.TheVariants.{I32, Ref}
use Rattle.smith_draw_types.specs.Below.{is_val_below}
use Rattle.smith_draw_types.specs.Choices.{chosen_at}
use Rattle.smith_instr.specs.AggregateTypes.{external, internal}
use Rattle.smith_instr.specs.Contexts.{BodyContext, nullable_to}
use Rattle.smith_instr.specs.declared.aggregate.AggregateInstr.TheVariants as aggregate
use Rattle.smith_instr.specs.declared.instr.Instr.TheVariants as instr
use Rattle.smith_instr.specs.declared.reference.ReferenceInstr.TheVariants as reference
use Rattle.smith_body_nodes.specs.IndexedTypes.{names_types}
use Rattle.smith_body_nodes.specs.Chosen.{Chosen, giving}
use Rattle.smith_body_nodes.specs.Nodes.{aggregate_of, node_of}
use Rattle.smith_body_nodes.specs.Items.{continued}
use Rattle.smith_body_nodes.specs.Above.{above_at, reference_in}
use Rattle.smith_body_nodes.specs.Offered.{offered}
use Rattle.smith_body_nodes.specs.Scopes.{indexed}
use Rattle.smith_body_casts.specs.declared.casts.Conversion.{Conversion}
use Rattle.smith_body_casts.specs.declared.casts.Conversion.TheVariants as conversion
use Rattle.smith_body_casts.specs.declared.casts.Scalar.{Scalar}
use Rattle.smith_body_casts.specs.declared.casts.Scalar.TheVariants as scalar
use Rattle.smith_body_nodes.specs.declared.node.Node.{Node}

-- the non-nullable form of a reference type, if such types are enabled
abbrev pub without_null : Features → RefType → RefType
without_null features to = record { nullable = to.nullable && not features.function_references; heap_type = to.heap_type }

-- a cast to a reference type
unfoldable pub cast_at : BodyContext → RefType → List ℕ → Chosen
cast_at context to bytes = let from = above_at context to bytes in
    (Some (node_of (Ref from.0 ∷ []) (instr.Reference (reference.Cast to)) 0), from.1)

-- a local that is a reference
abbrev pub is_reference_local : BodyContext → ℕ → Bool
is_reference_local context index = is_some (reference_in (slice_get context.locals index))

abbrev pub reference_local_at : BodyContext → List ℕ → Option RefType × List ℕ
reference_local_at context bytes =
    giving (λ index. reference_in (slice_get context.locals index))
    (choose_at (offered (is_reference_local context) (indexed (length context.locals))) bytes)

-- a test for the type of a local
abbrev pub tested_for : BodyContext → RefType → List ℕ → Chosen
tested_for context to bytes = let from = above_at context to bytes in
    (Some (node_of (Ref from.0 ∷ []) (instr.Reference (reference.Test to)) 0), from.1)

unfoldable pub type_test_at : BodyContext → List ℕ → Chosen
type_test_at context bytes = let to = reference_local_at context bytes in continued (tested_for context) to.0 to.1

-- a test for the non-nullable form of the type of a local
unfoldable pub non_null_test_at : BodyContext → List ℕ → Chosen
non_null_test_at context bytes =
    let to = reference_local_at context bytes in
    continued (λ (to : RefType) (bytes : List ℕ). tested_for context (without_null context.features to) bytes) to.0 to.1

-- the ways to get a number from a reference, each with the same weight
abbrev pub scalars : List Scalar
scalars = scalar.Length ∷ scalar.Signed ∷ scalar.Unsigned ∷ scalar.Test ∷ scalar.NonNullTest ∷ []

abbrev pub scalar_of : BodyContext → Scalar → List ℕ → Chosen
scalar_of context scalar.Length bytes = (Some (aggregate_of (nullable_to (Abstract false abstract.Array) ∷ []) aggregate.ArrayLen), bytes)
scalar_of context scalar.Signed bytes = (Some (aggregate_of (nullable_to (Abstract false abstract.I31) ∷ []) aggregate.I31GetS), bytes)
scalar_of context scalar.Unsigned bytes = (Some (aggregate_of (nullable_to (Abstract false abstract.I31) ∷ []) aggregate.I31GetU), bytes)
scalar_of context scalar.Test bytes = type_test_at context bytes
scalar_of context scalar.NonNullTest bytes = non_null_test_at context bytes

unfoldable pub scalar_at : BodyContext → List ℕ → Chosen
scalar_at context bytes = let kind = chosen_at scalar.Length scalars bytes in scalar_of context kind.0 kind.1

-- an i31, shared or not, if its type matches the wanted type
abbrev pub is_i31_below : BodyContext → RefType → Bool → Bool
is_i31_below context to shared = is_val_below context.types (reference_to (Abstract shared abstract.I31)) (Ref to)

abbrev pub i31_node : BodyContext → RefType → Option Node
i31_node context to =
    if is_i31_below context to false then Some (aggregate_of (I32 ∷ []) aggregate.RefI31)
    else if is_i31_below context to true then Some (aggregate_of (I32 ∷ []) aggregate.RefI31Shared)
    else None

-- a conversion to a heap type
abbrev pub converted_to : Bool → HeapType → Option Node
converted_to nullable (Abstract shared abstract.Any) = Some (aggregate_of (external shared nullable ∷ []) aggregate.AnyConvertExtern)
converted_to nullable (Abstract shared abstract.Extern) = Some (aggregate_of (internal shared nullable ∷ []) aggregate.ExternConvertAny)
converted_to nullable _ = None

-- the ways to get a reference from a number or another reference, each listed as often as its
-- weight
abbrev pub conversions : List Conversion
conversions = conversion.I31 ∷ conversion.Outside ∷ conversion.Cast ∷ conversion.NonNullCast ∷ conversion.Outside ∷ conversion.Outside
    ∷ conversion.Outside ∷ []

abbrev pub conversion_of : BodyContext → RefType → Conversion → List ℕ → Chosen
conversion_of context to conversion.I31 bytes = (i31_node context to, bytes)
conversion_of context to conversion.Outside bytes = (converted_to to.nullable to.heap_type, bytes)
conversion_of context to conversion.Cast bytes = cast_at context to bytes
conversion_of context to conversion.NonNullCast bytes = cast_at context (without_null context.features to) bytes

unfoldable pub conversion_at : BodyContext → RefType → List ℕ → Chosen
conversion_at context to bytes = let kind = chosen_at conversion.Cast conversions bytes in conversion_of context to kind.0 kind.1

-- a node that produces a value of the wanted type
unfoldable pub cast_for : BodyContext → ValType → List ℕ → Chosen
cast_for context I32 bytes = scalar_at context bytes
cast_for context (Ref to) bytes = conversion_at context to bytes
cast_for context _ bytes = (None, bytes)

-- a node that produces a value of the wanted type, if references may name types by their indices
unfoldable pub cast_choice_at : BodyContext → ValType → List ℕ → Chosen
cast_choice_at context wanted bytes = if names_types context then cast_for context wanted bytes else (None, bytes)
