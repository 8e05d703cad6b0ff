-- Drawn branches on null. The choices, their order and their weights are rules of this project.
use Rattle.std.specs.Prelude.{ℕ, ◌+◌, ◌-◌, nat_le, Bool, false, Option, Some, None, option_map, is_some, List, [], ◌∷◌, ◌++◌, length}
use Rattle.std.specs.Prelude.{slice_get, take, if◌then◌else◌}
use Rattle.smith_bytes.specs.Draws.{bool_at, choose_at}
use Rattle.smith_types.specs.Syntax.value_type.HeapType.{HeapType}
use Rattle.smith_types.specs.Syntax.value_type.RefType.{RefType}
use Rattle.smith_types.specs.Syntax.value_type.ValType.{ValType}
use Rattle.smith_types.specs.Syntax.value_type.ValType.TheVariants.{Ref}
use Rattle.smith_instr.specs.Contexts.{BodyContext, nullable_to}
use Rattle.smith_instr.specs.declared.instr.Instr.TheVariants as instr
use Rattle.smith_body_nodes.specs.Above.{reference_in}
use Rattle.smith_body_nodes.specs.Chosen.{Chosen, giving}
use Rattle.smith_body_nodes.specs.Nodes.{node_of}
use Rattle.smith_body_nodes.specs.Offered.{label_count, offered}
use Rattle.smith_body_nodes.specs.ReferenceChoices.{referent_at}
use Rattle.smith_body_nodes.specs.declared.node.Node.{Node}

-- a label of at most `most` values
abbrev pub is_short_at : ℕ → Option (List ValType) → Bool
is_short_at most (Some taken) = nat_le (length taken) most
is_short_at most None = false

abbrev pub is_short : List (List ValType) → ℕ → ℕ → Bool
is_short labels most index = is_short_at most (slice_get labels index)

-- a chosen label of at most `most` values
abbrev pub short_label_at : BodyContext → ℕ → List ℕ → Option ℕ × List ℕ
short_label_at context most bytes = choose_at (offered (is_short context.labels most) (label_count context)) bytes

-- a non-null reference: for null, a branch is taken to a label without values
abbrev pub kept_node : RefType → ℕ → Option Node
kept_node to label = Some (node_of (nullable_to to.heap_type ∷ []) (instr.BrOnNull label) 0)

-- a non-null reference of the wanted type
unfoldable pub br_on_null_value_at : BodyContext → ValType → List ℕ → Chosen
br_on_null_value_at context (Ref to) bytes = giving (kept_node to) (short_label_at context 0 bytes)
br_on_null_value_at context _ bytes = (None, bytes)

-- a branch on null whose values and reference are dropped if it is not taken
abbrev pub br_on_null_node : ℕ → HeapType → List ValType → Node
br_on_null_node label heap_type taken = node_of (taken ++ nullable_to heap_type ∷ []) (instr.BrOnNull label) (length taken + 1)

abbrev pub br_on_null_by : BodyContext → Option ℕ → List ℕ → Chosen
br_on_null_by context None bytes = (None, bytes)
br_on_null_by context (Some label) bytes =
    let heap_type = referent_at context.locals bytes in
    (option_map (br_on_null_node label heap_type.0) (slice_get context.labels label), heap_type.1)

-- such a branch, with reference types on, to a label of at most two values
unfoldable pub br_on_null_at : BodyContext → List ℕ → Chosen
br_on_null_at context bytes =
    let label = short_label_at context 2 bytes in
    if context.features.reference_types then br_on_null_by context label.0 label.1 else (None, bytes)

-- the type of the last of some values, if it is a reference type
abbrev pub last_reference : List ValType → Option RefType
last_reference taken = reference_in (slice_get taken (length taken - 1))

-- a label whose last value is a reference
abbrev pub is_of_reference_at : Option (List ValType) → Bool
is_of_reference_at (Some taken) = is_some (last_reference taken)
is_of_reference_at None = false

abbrev pub is_of_reference : List (List ValType) → ℕ → Bool
is_of_reference labels index = is_of_reference_at (slice_get labels index)

-- a branch on non-null, whose other values are dropped if it is not taken
abbrev pub br_on_non_null_node : ℕ → List ValType → RefType → Node
br_on_non_null_node label taken to =
    node_of (take (length taken - 1) taken ++ nullable_to to.heap_type ∷ []) (instr.BrOnNonNull label) (length taken - 1)

abbrev pub br_on_non_null_by : BodyContext → ℕ → Option (List ValType) → Option Node
br_on_non_null_by context label (Some taken) = option_map (br_on_non_null_node label taken) (last_reference taken)
br_on_non_null_by context label None = None

unfoldable pub br_on_non_null_at : BodyContext → List ℕ → Chosen
br_on_non_null_at context bytes =
    giving (λ label. br_on_non_null_by context label (slice_get context.labels label))
    (choose_at (offered (is_of_reference context.labels) (label_count context)) bytes)

-- a branch of either kind
unfoldable pub null_branch_at : BodyContext → List ℕ → Chosen
null_branch_at context bytes = let null = bool_at bytes in if null.0 then br_on_null_at context null.1 else br_on_non_null_at context null.1
