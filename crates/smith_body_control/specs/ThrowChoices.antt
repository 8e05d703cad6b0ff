-- Drawn throws. The choices, their order and their weights are rules of this project.
use Rattle.std.specs.Prelude.{ℕ, ◌-◌, ◌==◌, ◌&&◌, Bool, false, Option, Some, None, option_map, List, [], ◌∷◌, length, slice_get}
use Rattle.std.specs.Prelude.{if◌then◌else◌}
use Rattle.smith_body_control.specs.Common.{BodyContext, Chosen, Features, FuncType, indexed, Node, node_of, nullable_to, range_at}
use Rattle.smith_types.specs.Syntax.value_type.AbstractHeapType.TheVariants as abstract
use Rattle.smith_types.specs.Syntax.value_type.HeapType.{HeapType}
use Rattle.smith_types.specs.Syntax.value_type.HeapType.TheVariants.{Abstract}
use Rattle.smith_instr.specs.declared.instr.Instr.TheVariants as instr
use Rattle.smith_body_nodes.specs.Chosen.{giving}
use Rattle.smith_body_nodes.specs.Offered.{function_in}

-- the type of a tag
abbrev pub tag_type_at : BodyContext → ℕ → Option FuncType
tag_type_at context tag = function_in context.types (slice_get context.tags tag)

-- one of these tags, if there is one
unfoldable pub tag_at : List ℕ → List ℕ → Option ℕ × List ℕ
tag_at tags bytes =
    let count = indexed (length tags) in
    let tag = range_at 0 (count - 1) bytes in
    if count == 0 then (None, bytes) else (Some tag.0, tag.1)

-- `throw` of a tag, which takes the values of an exception
abbrev pub throw_node : BodyContext → ℕ → Option Node
throw_node context tag = option_map (λ (ty : FuncType). node_of ty.params (instr.Throw tag) 0) (tag_type_at context tag)

unfoldable pub throw_at : BodyContext → List ℕ → Chosen
throw_at context bytes = giving (throw_node context) (tag_at context.tags bytes)

-- the heap type of exceptions
abbrev pub exn : HeapType
exn = Abstract false abstract.Exn

-- whether references to exceptions are enabled
abbrev pub refers_to_exceptions : Features → Bool
refers_to_exceptions features = features.reference_types && features.exceptions

-- `throw_ref`, if references to exceptions are enabled
abbrev pub throw_ref_node : Features → Option Node
throw_ref_node features = if refers_to_exceptions features then Some (node_of (nullable_to exn ∷ []) instr.ThrowRef 0) else None

-- `throw`, or one of eight times `throw_ref`, whose operand is often null
unfoldable pub any_throw_at : BodyContext → List ℕ → Chosen
any_throw_at context bytes =
    let number = range_at 0 7 bytes in
    if number.0 == 7 then (throw_ref_node context.features, number.1) else throw_at context number.1
