-- The instruction for a choice, and the operands that are drawn before it.
use Rattle.std.specs.Prelude.{ℕ, zero, suc, Bool, true, false, List, [], ◌∷◌, ◌++◌, map, Option, Some, None, slice_get}
use Rattle.smith_draw_consts.specs.Common.{ConstInstr, field_values, FieldType, I32, range_at, Ref, SubType, ValType}
use Rattle.smith_types.specs.Syntax.value_type.AbstractHeapType.{AbstractHeapType}
use Rattle.smith_types.specs.Syntax.value_type.AbstractHeapType.TheVariants as heap
use Rattle.smith_types.specs.Syntax.value_type.HeapType.{HeapType}
use Rattle.smith_types.specs.Syntax.value_type.HeapType.TheVariants.{Abstract}
use Rattle.smith_types.specs.Syntax.const_instr.ConstInstr.TheVariants as instr
use Rattle.smith_draw_consts.specs.Constants.{constant_at}
use Rattle.smith_draw_types.specs.HeldFields.{fields_of}
use Rattle.smith_draw_consts.specs.declared.node_choice.Choice.{Choice}
use Rattle.smith_draw_consts.specs.declared.node_choice.Choice.TheVariants as choice
use Rattle.smith_draw_consts.specs.declared.node.Operand.{Operand}
use Rattle.smith_draw_consts.specs.declared.node.Operand.TheVariants.{Value, Length}
use Rattle.smith_draw_consts.specs.declared.node.Node.{Node}

-- the fields of a type, if it exists
abbrev pub fields_there : Option SubType → List FieldType
fields_there None = []
fields_there (Some t) = fields_of t.composite_type.inner

-- an operand for each field of the type at this index
abbrev pub field_operands : List SubType → ℕ → List Operand
field_operands types index = map Value (field_values (fields_there (slice_get types index)))

-- `count` copies of a list, concatenated
abbrev pub repeated : {A : Type 0} → ℕ → List A → List A
repeated zero xs = []
repeated (suc n) xs = xs ++ repeated n xs

-- whether an abstract heap type is shared
abbrev pub is_shared_heap : HeapType → Bool
is_shared_heap (Abstract shared ty) = shared
is_shared_heap _ = false

-- the reference type from which a value is converted to the wanted type: this heap type, with the
-- same nullability and sharedness
abbrev pub converted : ValType → AbstractHeapType → ValType
converted (Ref reference) ty = Ref (record { nullable = reference.nullable; heap_type = Abstract (is_shared_heap reference.heap_type) ty })
converted value ty = value

-- whether a choice is an extended constant
abbrev pub is_extended : Choice → Bool
is_extended choice.Extended = true
is_extended _ = false

-- the node with these fields
abbrev pub node_of : List Operand → ConstInstr → Node
node_of operands instruction = record { operands = operands; instruction = instruction }

-- the node of a choice; the size of a fixed array and the value of a constant are drawn
unfoldable pub node_at : List SubType → ValType → Choice → List ℕ → Node × List ℕ
node_at types wanted (choice.Global index) bytes = (node_of [] (instr.GlobalGet index), bytes)
node_at types wanted choice.Constant bytes = let drawn = constant_at wanted bytes in (node_of [] drawn.0, drawn.1)
node_at types wanted choice.Extended bytes = let drawn = constant_at wanted bytes in (node_of [] drawn.0, drawn.1)
node_at types wanted (choice.Function index) bytes = (node_of [] (instr.RefFunc index), bytes)
node_at types wanted (choice.Struct index) bytes = (node_of (field_operands types index) (instr.StructNew index), bytes)
node_at types wanted (choice.StructDefault index) bytes = (node_of [] (instr.StructNewDefault index), bytes)
node_at types wanted (choice.Array index) bytes = (node_of (field_operands types index ++ Length ∷ []) (instr.ArrayNew index), bytes)
node_at types wanted (choice.FixedArray index) bytes =
    let size = range_at 0 3 bytes in
    (node_of (repeated size.0 (field_operands types index)) (instr.ArrayNewFixed index size.0), size.1)
node_at types wanted (choice.ArrayDefault index) bytes = (node_of (Length ∷ []) (instr.ArrayNewDefault index), bytes)
node_at types wanted choice.I31 bytes = (node_of (Value I32 ∷ []) instr.RefI31, bytes)
node_at types wanted choice.SharedI31 bytes = (node_of (Value I32 ∷ []) instr.RefI31Shared, bytes)
node_at types wanted choice.FromExtern bytes = (node_of (Value (converted wanted heap.Extern) ∷ []) instr.AnyConvertExtern, bytes)
node_at types wanted choice.FromAny bytes = (node_of (Value (converted wanted heap.Any) ∷ []) instr.ExternConvertAny, bytes)
