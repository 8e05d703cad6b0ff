-- Drawn branches on casts. The choices, their order and their weights are rules of this project.
use Rattle.std.specs.Prelude.{ℕ, ◌-◌, ◌==◌, ◌&&◌, not, Bool, true, false, min, Option, Some, None, option_map, option_and_then, unwrap_or}
use Rattle.std.specs.Prelude.{List, [], ◌∷◌, ◌++◌, length, slice_get, take, if◌then◌else◌}
use Rattle.smith_bytes.specs.Draws.{bool_at, choose_at, range_at}
use Rattle.smith_types.specs.Syntax.value_type.AbstractHeapType.TheVariants as abstract
use Rattle.smith_types.specs.Syntax.value_type.HeapType.{HeapType}
use Rattle.smith_types.specs.Syntax.value_type.HeapType.TheVariants.{Abstract, Concrete}
use Rattle.smith_types.specs.Syntax.value_type.RefType.{RefType}
use Rattle.smith_types.specs.Syntax.value_type.ValType.{ValType}
use Rattle.smith_types.specs.Syntax.value_type.ValType.TheVariants.{Ref}
use Rattle.smith_draw_types.specs.Below.{is_val_below}
use Rattle.smith_instr.specs.Contexts.{BodyContext}
use Rattle.smith_instr.specs.declared.control.BranchCast.{BranchCast}
use Rattle.smith_instr.specs.declared.instr.Instr.{Instr}
use Rattle.smith_instr.specs.declared.instr.Instr.TheVariants as instr
use Rattle.smith_body_nodes.specs.Above.{above_at, reference_in}
use Rattle.smith_body_nodes.specs.Chosen.{Chosen, giving}
use Rattle.smith_body_nodes.specs.IndexedTypes.{names_types}
use Rattle.smith_body_nodes.specs.Items.{continued}
use Rattle.smith_body_nodes.specs.Nodes.{node_of}
use Rattle.smith_body_reference_branches.specs.NullChoices.{is_of_reference, last_reference}
use Rattle.smith_body_nodes.specs.Offered.{chunk_at, is_local_below, is_target, offered}
use Rattle.smith_body_nodes.specs.Scopes.{indexed}
use Rattle.smith_body_reference_branches.specs.declared.cast_branches.CastLabel.{CastLabel}
use Rattle.smith_body_nodes.specs.declared.node.Node.{Node}

-- the type of the last value of a label, if it is a reference type
abbrev pub last_of : List (List ValType) → ℕ → Option RefType
last_of labels index = option_and_then last_reference (slice_get labels index)

-- a label whose last value is a reference
abbrev pub cast_label : ℕ → RefType → CastLabel
cast_label index last = record { index = index; last = last }

abbrev pub cast_label_there : List (List ValType) → ℕ → Option CastLabel
cast_label_there labels index = option_map (cast_label index) (last_of labels index)

abbrev pub cast_label_at : List (List ValType) → List ℕ → Option CastLabel × List ℕ
cast_label_at labels bytes = giving (cast_label_there labels) (choose_at (offered (is_of_reference labels) (min (length labels) 64)) bytes)

-- a branch on a cast takes the values of its label, with a reference of another type as the last;
-- if it is not taken, its values are dropped
abbrev pub cast_node : RefType → Instr → List ValType → Node
cast_node from instruction taken = node_of (take (length taken - 1) taken ++ Ref from ∷ []) instruction (length taken)

-- the type of references to a type by its index, nullable if another is
abbrev pub reference_as : RefType → ℕ → RefType
reference_as above index = record { nullable = above.nullable; heap_type = Concrete index }

-- such a type matches the other, and not the other way round
abbrev pub is_strictly_below : BodyContext → RefType → ℕ → Bool
is_strictly_below context above index =
    is_val_below context.types (Ref (reference_as above index)) (Ref above)
    && not (is_val_below context.types (Ref above) (Ref (reference_as above index)))

-- a proper subtype of a reference type, from a drawn chunk of the types, or the type itself if
-- there is none
abbrev pub strict_in : RefType → Option ℕ → RefType
strict_in above (Some index) = reference_as above index
strict_in above None = above

abbrev pub strictly_below_at : BodyContext → RefType → List ℕ → RefType × List ℕ
strictly_below_at context above bytes =
    let index = chunk_at (is_strictly_below context above) (indexed (length context.types)) bytes in
    if names_types context then (strict_in above index.0, index.1) else (above, bytes)

-- a reference type, or half of the time a proper subtype
abbrev pub lower_at : BodyContext → RefType → List ℕ → RefType × List ℕ
lower_at context above bytes = let half = bool_at bytes in if half.0 then strictly_below_at context above half.1 else (above, half.1)

-- a branch if a reference has a type that matches that of the label's last value
abbrev pub cast_of : CastLabel → RefType → RefType → BranchCast
cast_of label from to = record { label = label.index; from = from; to = to }

abbrev pub br_on_cast_at : BodyContext → CastLabel → List ℕ → Chosen
br_on_cast_at context label bytes =
    let to = lower_at context label.last bytes in
    let from = above_at context label.last to.1 in
    (option_map (cast_node from.0 (instr.BrOnCast (cast_of label from.0 to.0))) (slice_get context.labels label.index), from.1)

-- the type of a local that matches a reference type, or the type itself if there is none
abbrev pub below_in : BodyContext → RefType → Option ℕ → RefType
below_in context from (Some index) = unwrap_or (reference_in (slice_get context.locals index)) from
below_in context from None = from

abbrev pub local_below_at : BodyContext → RefType → List ℕ → RefType × List ℕ
local_below_at context from bytes =
    let index = choose_at (offered (is_local_below context (Ref from)) (indexed (length context.locals))) bytes in
    (below_in context from index.0, index.1)

-- a type that matches a reference type: half of the time a proper subtype, else the type of a local
abbrev pub below_at : BodyContext → RefType → List ℕ → RefType × List ℕ
below_at context from bytes =
    let half = bool_at bytes in
    if half.0 then strictly_below_at context from half.1 else local_below_at context from half.1

-- a branch if a reference, whose type matches that of the label's last value, does not have the type
-- of a cast
abbrev pub br_on_cast_fail_at : BodyContext → CastLabel → List ℕ → Chosen
br_on_cast_fail_at context label bytes =
    let from = lower_at context label.last bytes in
    let to = below_at context from.0 from.1 in
    (option_map (cast_node from.0 (instr.BrOnCastFail (cast_of label from.0 to.0))) (slice_get context.labels label.index), to.1)

-- a branch of either kind
unfoldable pub cast_branch_for : BodyContext → CastLabel → List ℕ → Chosen
cast_branch_for context label bytes =
    let succeeds = bool_at bytes in
    if succeeds.0 then br_on_cast_at context label succeeds.1 else br_on_cast_fail_at context label succeeds.1

-- a heap type is that of exceptions, or of none
abbrev pub is_exception : HeapType → Bool
is_exception (Abstract shared abstract.Exn) = true
is_exception (Abstract shared abstract.NoExn) = true
is_exception _ = false

-- whether a branch on a cast to such a type is left out: 15 of 16 times for exceptions, because
-- their hierarchy has no other types
unfoldable pub left_out_at : HeapType → List ℕ → Bool × List ℕ
left_out_at heap_type bytes =
    let number = range_at 0 15 bytes in
    if is_exception heap_type then (not (number.0 == 15), number.1) else (false, bytes)

abbrev pub cast_branch_to : BodyContext → CastLabel → List ℕ → Chosen
cast_branch_to context label bytes =
    let out = left_out_at label.last.heap_type bytes in
    if out.0 then (None, out.1) else cast_branch_for context label out.1

-- a branch of either kind, to a label whose last value is a reference
abbrev pub cast_branch_at : BodyContext → List ℕ → Chosen
cast_branch_at context bytes = let label = cast_label_at context.labels bytes in continued (cast_branch_to context) label.0 label.1

-- a reference of the wanted type after a cast; if the cast fails, a branch is taken to a label of
-- one value, whose type the wanted type matches
abbrev pub kept_cast_node : RefType → ℕ → RefType → Node
kept_cast_node to label from = node_of (Ref from ∷ []) (instr.BrOnCastFail (cast_of (cast_label label from) from to)) 0

abbrev pub kept_cast : List (List ValType) → RefType → ℕ → Option Node
kept_cast labels to label = option_map (kept_cast_node to label) (last_of labels label)

abbrev pub kept_cast_at : BodyContext → RefType → List ℕ → Chosen
kept_cast_at context to bytes =
    giving (kept_cast context.labels to)
    (choose_at (offered (is_target context.types context.labels (Ref to ∷ [])) (min (length context.labels) 64)) bytes)

unfoldable pub cast_value_at : BodyContext → ValType → List ℕ → Chosen
cast_value_at context (Ref to) bytes =
    let out = left_out_at to.heap_type bytes in
    if out.0 then (None, out.1) else kept_cast_at context to out.1
cast_value_at context _ bytes = (None, bytes)
