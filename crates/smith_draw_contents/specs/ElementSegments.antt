-- The element segments that the bytes give. Rules of this project.
use Rattle.std.specs.Prelude.{ℕ, zero, suc, ◌-◌, min, Bool, true, false, not, ◌&&◌, ◌==◌, nat_lt, Option, Some, None, option_to_list, ok_or}
use Rattle.std.specs.Prelude.{unwrap_or, List, [], ◌∷◌, ◌++◌, length, slice_get, sum_by, Result, Ok, Err, if◌then◌else◌}
use Rattle.std.specs.Int.{cast_signed, w32, w64}
use Rattle.std.specs.List.{list_any}
use Rattle.smith_bytes.specs.declared.error.Count.TheVariants as counts
use Rattle.smith_draw_contents.specs.Common.{address_type, bool_at, chosen_at, Config, Context, Error, grow_at, IncorrectFormat, Offset}
use Rattle.smith_draw_contents.specs.Common.{places_from, SubType, TableType, Unmet}
use Rattle.smith_bytes.specs.declared.error.Error.TheVariants.{EmptyChoose}
use Rattle.smith_bytes.specs.Draws.{range_at}
use Rattle.smith_bytes.specs.Growth.{goes_at}
use Rattle.smith_types.specs.Entities.{most_elements}
use Rattle.smith_types.specs.Segments.{item_count}
use Rattle.smith_types.specs.Syntax.const_instr.ConstInstr.{ConstInstr}
use Rattle.smith_types.specs.Syntax.segments.ElementKind.{ElementKind}
use Rattle.smith_types.specs.Syntax.segments.ElementKind.TheVariants as element_kind
use Rattle.smith_types.specs.Syntax.segments.Elements.{Elements}
use Rattle.smith_types.specs.Syntax.segments.Elements.TheVariants.{Functions, Expressions}
use Rattle.smith_types.specs.Syntax.segments.ElementSegment.{ElementSegment}
use Rattle.smith_types.specs.Syntax.segments.Offset.TheVariants.{Const32, Const64, Global}
use Rattle.smith_types.specs.Syntax.value_type.AbstractHeapType.TheVariants as heap
use Rattle.smith_types.specs.Syntax.value_type.HeapType.{HeapType}
use Rattle.smith_types.specs.Syntax.value_type.HeapType.TheVariants.{Abstract}
use Rattle.smith_types.specs.Syntax.value_type.RefType.{RefType}
use Rattle.smith_types.specs.Syntax.value_type.ValType.TheVariants.{Ref}
use Rattle.smith_draw_consts.specs.ConstExprs.{const_expr_at}
use Rattle.smith_draw_consts.specs.ConstOffers.{readable_globals}
use Rattle.smith_draw_consts.specs.TriedLists.{try_grow_at}
use Rattle.smith_draw_types.specs.Grounding.{without_globals}
use Rattle.smith_draw_types.specs.MatchingTypes.{matching_ref_type_at}
use Rattle.smith_draw_types.specs.Offsets.{offset_at}
use Rattle.smith_draw_types.specs.ValueTypes.{ref_type_at}
use Rattle.smith_bytes.specs.Steps.{◌>>=◌}
pub use Rattle.smith_draw_contents.specs.declared.element_kinds.KindChoice.{KindChoice}
use Rattle.smith_draw_contents.specs.declared.element_kinds.KindChoice.TheVariants as choice

-- whether a heap type is the unshared type `func`
abbrev pub is_plain_func : HeapType → Bool
is_plain_func (Abstract shared heap.Func) = not shared
is_plain_func _ = false

-- whether references are nullable, and have the unshared heap type `func`
abbrev pub is_funcref : RefType → Bool
is_funcref reference = reference.nullable && is_plain_func reference.heap_type

-- whether a table may be the target of segments: always if its minimum is above 0, else for one of
-- eleven drawn numbers
unfoldable pub is_offered_at : TableType → List ℕ → Bool × List ℕ
is_offered_at table bytes =
    if nat_lt 0 table.minimum then (true, bytes)
    else (let chance = range_at 0 10 bytes in (chance.0 == 0, chance.1))

-- the first table is offered without its index if its elements are function references
abbrev pub with_unnamed : ℕ → TableType → List KindChoice → List KindChoice
with_unnamed index table choices =
    if (index == 0) && is_funcref table.element_type then choices ++ choice.Active None table ∷ [] else choices

-- a table is offered by its index, with bulk memory
abbrev pub with_named : Config → ℕ → TableType → List KindChoice → List KindChoice
with_named config index table choices = if config.bulk_memory_enabled then choices ++ choice.Active (Some index) table ∷ [] else choices

-- these modes, then the modes for the tables from an index on
unfoldable pub table_kinds_at : Config → List KindChoice → ℕ → List TableType → List ℕ → List KindChoice × List ℕ
table_kinds_at config choices index [] bytes = (choices, bytes)
table_kinds_at config choices index (table ∷ tables) bytes =
    let offered = is_offered_at table bytes in
    table_kinds_at config (if offered.0 then with_named config index table (with_unnamed index table choices) else choices)
    (suc index) tables offered.1

-- the modes without a table
abbrev pub kept_kinds : Config → List KindChoice
kept_kinds config = if config.bulk_memory_enabled then choice.Passive ∷ choice.Declared ∷ [] else []

-- the modes of segments that are offered, in order
unfoldable pub element_kinds_at : Config → List TableType → List ℕ → List KindChoice × List ℕ
element_kinds_at config tables bytes = table_kinds_at config (kept_kinds config) 0 tables bytes

-- the globals that an offset may read: none with `disallow_traps`
abbrev pub offset_globals : Config → Context → TableType → List ℕ
offset_globals config context table = if config.disallow_traps then [] else readable_globals context (address_type table.table64)

-- the greatest constant offset
abbrev pub most_offset : Config → TableType → ℕ
most_offset config table = if config.disallow_traps then table.minimum else most_elements table.table64

-- a constant of the address type of a table
abbrev pub constant_offset : TableType → ℕ → Offset
constant_offset table offset = if table.table64 then Const64 (cast_signed w64 offset) else Const32 (cast_signed w32 offset)

-- the number of elements between an offset and the minimum, if items must fit: always with
-- `disallow_traps`, and else in ten of the eleven cases in which they can
unfoldable pub hint_at : Config → TableType → ℕ → List ℕ → Option ℕ × List ℕ
hint_at config table offset bytes =
    if config.disallow_traps then (Some (table.minimum - offset), bytes)
    else if nat_lt table.minimum offset then (None, bytes)
    else (let chance = range_at 0 10 bytes in (if chance.0 == 0 then None else Some (table.minimum - offset), chance.1))

-- a constant offset, and the number of elements that must fit after it, if that is limited
unfoldable pub constant_offset_at : Config → TableType → List ℕ → (Offset × Option ℕ) × List ℕ
constant_offset_at config table bytes =
    let offset = offset_at table.minimum (most_offset config table) 0 bytes in
    let hint = hint_at config table offset.0 offset.1 in
    ((constant_offset table offset.0, hint.0), hint.1)

-- whether an offset reads one of `count` globals
unfoldable pub is_global_wanted_at : ℕ → List ℕ → Bool × List ℕ
is_global_wanted_at count bytes = if count == 0 then (false, bytes) else bool_at bytes

-- an offset into a table: the value of a global, or a constant
unfoldable pub table_offset_at : Config → Context → TableType → List ℕ → (Offset × Option ℕ) × List ℕ
table_offset_at config context table bytes =
    let globals = offset_globals config context table in
    let wanted = is_global_wanted_at (length globals) bytes in
    let chosen = chosen_at 0 globals wanted.1 in
    if wanted.0 then ((Global chosen.0, None), chosen.1) else constant_offset_at config table wanted.1

-- the mode of a segment, with the number of elements that must fit, if that is limited
unfoldable pub element_kind_at : Config → Context → KindChoice → List ℕ → (ElementKind × Option ℕ) × List ℕ
element_kind_at config context choice.Passive bytes = ((element_kind.Passive, None), bytes)
element_kind_at config context choice.Declared bytes = ((element_kind.Declared, None), bytes)
element_kind_at config context (choice.Active index table) bytes =
    let offset = table_offset_at config context table bytes in
    ((element_kind.Active index offset.0.0, offset.0.1), offset.1)

-- the type of the items: a subtype of the table's element type, or any type without a table
unfoldable pub item_type_at : Config → Context → KindChoice → List ℕ → RefType × List ℕ
item_type_at config context (choice.Active index table) bytes = matching_ref_type_at config context table.element_type bytes
item_type_at config context _ bytes = ref_type_at config context false (length context.types) bytes

-- the greatest number of items of a segment after segments of `total` items
abbrev pub most_items : Config → Option ℕ → ℕ → ℕ
most_items config hint total = min (unwrap_or hint config.max_elements) (config.max_elements - total)

-- whether the type of this index is not shared
abbrev pub is_unshared_type : List SubType → ℕ → Bool
is_unshared_type types index = list_any (λ (t : SubType). not t.composite_type.shared) (option_to_list (slice_get types index))

-- the indices of the functions whose types are not shared
abbrev pub unshared_funcs : List SubType → List ℕ → List ℕ
unshared_funcs types funcs = places_from (is_unshared_type types) 0 funcs

-- whether items are listed as functions: always without reference types, else if their type is
-- funcref and a drawn bool is true
unfoldable pub are_functions_at : Config → RefType → List ℕ → Bool × List ℕ
are_functions_at config ty bytes =
    if not config.reference_types_enabled then (true, bytes)
    else if is_funcref ty then bool_at bytes
    else (false, bytes)

-- at most `most` items of these functions
unfoldable pub chosen_functions_at : Config → List ℕ → ℕ → List ℕ → List ℕ × List ℕ
chosen_functions_at config funcs most bytes = grow_at (λ _. chosen_at 0 funcs) config.min_elements most [] bytes

-- unshared functions; none, whatever the minimum is, if there is no such function
unfoldable pub functions_at : Config → Context → ℕ → List ℕ → Result (List ℕ × List ℕ) Error
functions_at config context most bytes =
    let funcs = unshared_funcs context.types context.funcs in
    if length funcs == 0 then Ok ([], bytes)
    else if nat_lt most config.min_elements then Err (IncorrectFormat (Unmet counts.Elements))
    else Ok (chosen_functions_at config funcs most bytes)

-- an item as an expression; an error if there is no candidate
unfoldable pub expression_item_at : Config → Context → RefType → List ℕ → Result (List ConstInstr × List ℕ) Error
expression_item_at config context ty bytes = ok_or (const_expr_at config context (Ref ty) bytes) EmptyChoose

-- at most `most` items as expressions
unfoldable pub drawn_expressions_at : Config → Context → RefType → ℕ → List ℕ → Result (List (List ConstInstr) × List ℕ) Error
drawn_expressions_at config context ty most bytes = try_grow_at (λ _. expression_item_at config context ty) config.min_elements most []
    bytes

-- at most `most` items as expressions; an error if `most` is less than the minimum
unfoldable pub expressions_at : Config → Context → RefType → ℕ → List ℕ → Result (List (List ConstInstr) × List ℕ) Error
expressions_at config context ty most bytes =
    if nat_lt most config.min_elements then Err (IncorrectFormat (Unmet counts.Elements)) else drawn_expressions_at config context ty most
    bytes

-- at most `most` items of a segment with items of a type
unfoldable pub items_at : Config → Context → RefType → ℕ → List ℕ → Result (Elements × List ℕ) Error
items_at config context ty most bytes =
    let listed = are_functions_at config ty bytes in
    if listed.0 then (do
      functions ← functions_at config context most listed.1
      Ok (Functions functions.0, functions.1))
    else (do
      expressions ← expressions_at config context ty most listed.1
      Ok (Expressions expressions.0, expressions.1))

-- the number of items of all segments together
abbrev pub items_in : List ElementSegment → ℕ
items_in segments = sum_by (λ (segment : ElementSegment). item_count segment.items) segments

-- a segment with one of these modes, after segments with `total` items
unfoldable pub element_segment_at : Config → Context → List KindChoice → ℕ → List ℕ → Result (ElementSegment × List ℕ) Error
element_segment_at config context kinds total bytes = do
  let chosen = chosen_at choice.Passive kinds bytes
  let kind = element_kind_at config context chosen.0 chosen.1
  let ty = item_type_at config (without_globals context) chosen.0 kind.1
  items ← items_at config context ty.0 (most_items config kind.0.1 total) ty.1
  Ok (record { kind = kind.0.0; ty = ty.0; items = items.0 }, items.1)

-- at most `most` segments with these modes, after these segments
unfoldable pub element_segments_at : Config → Context → List KindChoice → ℕ → List ElementSegment → List ℕ
    → Result (List ElementSegment × List ℕ) Error
element_segments_at config context kinds zero made bytes = Ok (made, bytes)
element_segments_at config context kinds (suc most) made bytes =
    let go = goes_at (nat_lt (length made) config.min_element_segments) bytes in
    if go.0 then (do
      segment ← element_segment_at config context kinds (items_in made) go.1
      element_segments_at config context kinds most (made ++ segment.0 ∷ []) segment.1)
    else Ok (made, go.1)

-- the element segments of a module with these tables; without a mode none, and an error if some are
-- required
unfoldable pub all_element_segments_at : Config → Context → List TableType → List ℕ → Result (List ElementSegment × List ℕ) Error
all_element_segments_at config context tables bytes =
    let kinds = element_kinds_at config tables bytes in
    if length kinds.0 == 0 then (if config.min_element_segments == 0 then Ok ([], kinds.1) else Err
    (IncorrectFormat (Unmet counts.ElementSegments)))
    else element_segments_at config context kinds.0 config.max_element_segments [] kinds.1
