-- Drawn nodes on references. The choices, their order and their weights are rules of this project.
use Rattle.std.specs.Prelude.{ℕ, false, Option, Some, None, List, [], ◌∷◌, if◌then◌else◌}
use Rattle.smith_bytes.specs.Draws.{bool_at}
use Rattle.smith_body_nodes.specs.Common.{BodyContext, Features, I32, Ref, ValType}
use Rattle.smith_types.specs.Syntax.value_type.AbstractHeapType.TheVariants as abstract
use Rattle.smith_types.specs.Syntax.value_type.HeapType.{HeapType}
use Rattle.smith_types.specs.Syntax.value_type.HeapType.TheVariants.{Abstract}
use Rattle.smith_types.specs.Syntax.value_type.RefType.{RefType}
use Rattle.smith_draw_types.specs.Choices.{chosen_at}
use Rattle.smith_instr.specs.Contexts.{nullable_to}
use Rattle.smith_instr.specs.declared.instr.Instr.TheVariants as instr
use Rattle.smith_instr.specs.declared.reference.ReferenceInstr.TheVariants as reference
use Rattle.smith_body_nodes.specs.Chosen.{Chosen}
use Rattle.smith_body_nodes.specs.Nodes.{node_of}
use Rattle.smith_body_nodes.specs.declared.node.Node.{Node}

-- `select` with a type
abbrev pub select_typed_node : ValType → Node
select_typed_node wanted = node_of (wanted ∷ wanted ∷ I32 ∷ []) (instr.SelectTyped (wanted ∷ [])) 0

-- the nullable references to the unshared heap types `func`, `extern` and `eq`
abbrev pub funcref : ValType
funcref = nullable_to (Abstract false abstract.Func)

abbrev pub externref : ValType
externref = nullable_to (Abstract false abstract.Extern)

abbrev pub eqref : ValType
eqref = nullable_to (Abstract false abstract.Eq)

-- the heap type of a reference type, or `func` for any other type
abbrev pub referent : ValType → HeapType
referent (Ref to) = to.heap_type
referent _ = Abstract false abstract.Func

-- the heap type of a reference: `func`, `extern`, or that of one of the locals
unfoldable pub referent_at : List ValType → List ℕ → HeapType × List ℕ
referent_at locals bytes = let value = chosen_at funcref (funcref ∷ externref ∷ locals) bytes in (referent value.0, value.1)

-- a test for null
abbrev pub is_null_node : HeapType → Node
is_null_node heap_type = node_of (nullable_to heap_type ∷ []) (instr.Reference reference.IsNull) 0

-- a test whether two references are the same, with garbage collection
abbrev pub eq_node : Features → Option Node
eq_node features = if features.gc then Some (node_of (eqref ∷ eqref ∷ []) (instr.Reference reference.Eq) 0) else None

-- a test of two references or of one, with reference types on
unfoldable pub test_at : Features → List ValType → List ℕ → Chosen
test_at features locals bytes =
    let two = bool_at bytes in
    let heap_type = referent_at locals two.1 in
    if features.reference_types then (if two.0 then (eq_node features, two.1) else (Some (is_null_node heap_type.0), heap_type.1)) else
    (None, bytes)

-- a reference that is not null, from a nullable one
abbrev pub non_null_node : RefType → Option Node
non_null_node to = Some (node_of (nullable_to to.heap_type ∷ []) (instr.Reference reference.AsNonNull) 0)

-- an instruction on references that produces a value of the wanted type
unfoldable pub reference_value_at : BodyContext → ValType → List ℕ → Chosen
reference_value_at context I32 bytes = test_at context.features context.locals bytes
reference_value_at context (Ref to) bytes = (non_null_node to, bytes)
reference_value_at context _ bytes = (None, bytes)
