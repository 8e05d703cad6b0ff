-- The chosen table instructions, and their operands and results.
use Rattle.std.proofs.Common.{◌≡◌, ℕ, ◌<◌, Bool, true, List, [], ◌∷◌, Option, Some, None, length, get_or, refl, sym, subst, ap, ◌∙◌, arith}
use Rattle.std.specs.Prelude.{slice_get, option_map, All}
use Rattle.std.proofs.lemmas.Option.{same_Some, slice_get-get_or}
use Rattle.smith_bytes.specs.Draws.{bool_at}
use Rattle.smith_types.specs.Subtyping.{IsValBelow}
use Rattle.smith_types.specs.Types.{IsOrderly}
use Rattle.smith_types.specs.Syntax.entity_type.TableType.{TableType}
use Rattle.smith_types.specs.Syntax.value_type.RefType.{RefType}
use Rattle.smith_types.specs.Syntax.value_type.ValType.{ValType}
use Rattle.smith_types.specs.Syntax.value_type.ValType.TheVariants.{I32, I64, F32, F64, V128, Ref}
use Rattle.smith_types.proofs.GrowthLemmas.{IsValBelow-refl}
use Rattle.smith_draw_types.specs.Choices.{chosen_at}
use Rattle.smith_instr.specs.Contexts.{BodyContext, IsRefValid, IsValid, address}
use Rattle.smith_instr.specs.ReferenceTypes.{IsTable, narrower}
use Rattle.smith_instr.specs.declared.instr.Instr.TheVariants as instr
use Rattle.smith_instr.specs.declared.table.TableInstr.TheVariants as table_instr
use Rattle.smith_body_nodes.specs.Chosen.{or_nop}
use Rattle.smith_body_nodes.specs.Nodes.{IsNode, node_of}
use Rattle.smith_body_nodes.specs.Offered.{chunk_at, is_below_at, is_elem_below}
use Rattle.smith_body_nodes.specs.Scopes.{indexed}
use Rattle.smith_body_nodes.specs.declared.node.Node.{Node}
use Rattle.smith_body_tables.specs.TableChoices.{is_table_addressed, is_table_addressed_at, is_table_below, table_change_at}
use Rattle.smith_body_tables.specs.TableChoices.{table_change_of, table_changes, table_get_at, table_growth_at, table_growth_node}
use Rattle.smith_body_tables.specs.TableChoices.{table_value_at}
use Rattle.smith_body_tables.specs.declared.tables.TableChange.{TableChange}
use Rattle.smith_body_tables.specs.declared.tables.TableChange.TheVariants as change
use Rattle.smith_body_nodes.proofs.ChosenLemmas.{chosen_by}
use Rattle.smith_body_nodes.proofs.NodeLemmas.{address_valid, no_valid, one_valid}
use Rattle.smith_body_nodes.proofs.OfferLemmas.{both, is_this_address, segment_below_at, tested}
use Rattle.smith_body_nodes.proofs.PlainLemmas.{gives_none, gives_one, narrower_valid, three_valid, two_valid}

-- a table whose element type matches the wanted type
table_below : (context : BodyContext) (wanted : ValType) (index : ℕ) (d : TableType) → IsOrderly context.types
    → index < length context.tables → is_table_below context wanted index ≡ true
    → IsValBelow context.types (Ref (get_or context.tables index d).element_type) wanted
table_below context wanted index d orderly inside is =
    tested context.types orderly (Ref (get_or context.tables index d).element_type) wanted
    (subst (λ (o : Option TableType). is_below_at context.types wanted (option_map (λ (table : TableType). Ref table.element_type) o)
    ≡ true) (slice_get-get_or context.tables index d inside) is)

-- a table whose addresses have the wanted type
addressed_at : (context : BodyContext) (wanted : ValType) (index : ℕ) (o : Option TableType) → slice_get context.tables index ≡ o
    → is_table_addressed_at wanted o ≡ true
    → (ty : TableType) × IsTable context index ty × (wanted ≡ address ty.table64)
addressed_at context wanted index (Some ty) at is = (ty, at, is_this_address wanted ty.table64 is)
addressed_at context wanted index None at is = cc

table_addressed : (context : BodyContext) (wanted : ValType) (index : ℕ) → is_table_addressed context wanted index ≡ true
    → (context.features.reference_types ≡ true) × ((ty : TableType) × IsTable context index ty × (wanted ≡ address ty.table64))
table_addressed context wanted index is =
    let (references, at) = both context.features.reference_types (is_table_addressed_at wanted (slice_get context.tables index)) is in
    (references, addressed_at context wanted index (slice_get context.tables index) refl at)

pub get_node : (context : BodyContext) (set : List ℕ) (wanted : ValType) (index : ℕ) (d : TableType) → IsOrderly context.types
    → IsValid context wanted → index < length context.tables → is_table_below context wanted index ≡ true
    → IsNode context set (wanted ∷ []) (node_of (address (get_or context.tables index d).table64 ∷ []) (instr.Table (table_instr.Get index))
    0)
get_node context set wanted index d orderly valid inside is =
    let ty = get_or context.tables index d in
    gives_one context set wanted (Ref ty.element_type) (address ty.table64 ∷ []) (instr.Table (table_instr.Get index))
    (λ more. (ty, slice_get-get_or context.tables index d inside, (refl, refl)))
    (table_below context wanted index d orderly inside is) valid refl (omega arith)
    (one_valid context (address ty.table64) (address_valid context ty.table64))

pub size_node : (context : BodyContext) (set : List ℕ) (wanted : ValType) (index : ℕ) → is_table_addressed context wanted index ≡ true
    → IsNode context set (wanted ∷ []) (node_of [] (instr.Table (table_instr.Size index)) 0)
size_node context set wanted index is =
    let (references, (ty, there, of)) = table_addressed context wanted index is in
    gives_one context set wanted wanted [] (instr.Table (table_instr.Size index))
    (λ more. (ty, there, (refl, ap (λ (v : ValType). v ∷ []) of))) (IsValBelow-refl context.types wanted)
    (subst (IsValid context) (sym of) (address_valid context ty.table64)) refl (omega arith) (no_valid context)

pub grow_node : (context : BodyContext) (set : List ℕ) (wanted : ValType) (index : ℕ) (d : TableType)
    → All (λ (table : TableType). IsRefValid context table.element_type) context.tables → index < length context.tables
    → is_table_addressed context wanted index ≡ true
    → IsNode context set (wanted ∷ []) (node_of (Ref (get_or context.tables index d).element_type ∷ wanted ∷ [])
    (instr.Table (table_instr.Grow index)) 0)
grow_node context set wanted index d all inside is =
    let ty = get_or context.tables index d in
    let (references, (other, there, of)) = table_addressed context wanted index is in
    let here : slice_get context.tables index ≡ Some ty = slice_get-get_or context.tables index d inside in
    let of_it : wanted ≡ address ty.table64 = subst (λ (t : TableType). wanted ≡ address t.table64) (same_Some other ty (sym there ∙ here))
    of in
    let valid = subst (IsValid context) (sym of_it) (address_valid context ty.table64) in
    gives_one context set wanted wanted (Ref ty.element_type ∷ wanted ∷ []) (instr.Table (table_instr.Grow index))
    (λ more. (ty, here, (ap (λ (v : ValType). Ref ty.element_type ∷ v ∷ []) of_it, ap (λ (v : ValType). v ∷ []) of_it)))
    (IsValBelow-refl context.types wanted) valid refl (omega arith)
    (two_valid context (Ref ty.element_type) wanted (references, all index d inside) valid)

pub set_node : (context : BodyContext) (set : List ℕ) (index : ℕ) (ty : TableType) → IsTable context index ty
    → IsValid context (Ref ty.element_type)
    → IsNode context set [] (node_of (address ty.table64 ∷ Ref ty.element_type ∷ []) (instr.Table (table_instr.Set index)) 0)
set_node context set index ty there held =
    gives_none context set (address ty.table64 ∷ Ref ty.element_type ∷ []) (instr.Table (table_instr.Set index))
    (λ more. (ty, there, (refl, refl))) refl (omega arith)
    (two_valid context (address ty.table64) (Ref ty.element_type) (address_valid context ty.table64) held)

pub fill_node : (context : BodyContext) (set : List ℕ) (index : ℕ) (ty : TableType) → IsTable context index ty
    → IsValid context (Ref ty.element_type)
    → IsNode context set [] (node_of (address ty.table64 ∷ Ref ty.element_type ∷ address ty.table64 ∷ [])
    (instr.Table (table_instr.Fill index)) 0)
fill_node context set index ty there held =
    let place = address_valid context ty.table64 in
    gives_none context set (address ty.table64 ∷ Ref ty.element_type ∷ address ty.table64 ∷ []) (instr.Table (table_instr.Fill index))
    (λ more. (ty, there, (refl, refl))) refl (omega arith)
    (three_valid context (address ty.table64) (Ref ty.element_type) (address ty.table64) place held place)

pub copy_node : (context : BodyContext) (set : List ℕ) (to from : ℕ) (into d : TableType) → IsOrderly context.types
    → IsTable context to into → from < length context.tables → is_table_below context (Ref into.element_type) from ≡ true
    → IsNode context set [] (node_of (address into.table64 ∷ address (get_or context.tables from d).table64 ∷ narrower into.table64
    (get_or context.tables from d).table64 ∷ []) (instr.Table (table_instr.Copy to from)) 0)
copy_node context set to from into d orderly there inside is =
    let out = get_or context.tables from d in
    gives_none context set (address into.table64 ∷ address out.table64 ∷ narrower into.table64 out.table64 ∷ [])
    (instr.Table (table_instr.Copy to from))
    (λ more. (
      into,
      out,
      there,
      slice_get-get_or context.tables from d inside,
      table_below context (Ref into.element_type) from d orderly
          inside is,
      (refl, refl),
    )) refl (omega arith)
    (three_valid context (address into.table64) (address out.table64) (narrower into.table64 out.table64)
    (address_valid context into.table64) (address_valid context out.table64) (narrower_valid context into.table64 out.table64))

pub init_node : (context : BodyContext) (set : List ℕ) (index segment : ℕ) (ty : TableType) → IsOrderly context.types
    → IsTable context index ty → is_elem_below context (Ref ty.element_type) segment ≡ true
    → IsNode context set [] (node_of (address ty.table64 ∷ I32 ∷ I32 ∷ []) (instr.Table (table_instr.Init index segment)) 0)
init_node context set index segment ty orderly there is =
    let (element, there', below) = segment_below_at context (Ref ty.element_type) segment (slice_get context.elems segment) orderly refl
    is in
    gives_none context set (address ty.table64 ∷ I32 ∷ I32 ∷ []) (instr.Table (table_instr.Init index segment))
    (λ more. (ty, element, there, there', below, (refl, refl))) refl (omega arith)
    (three_valid context (address ty.table64) I32 I32 (address_valid context ty.table64) tt tt)

-- a reference from a table, or its size or growth
pub value_reference : (context : BodyContext) (wanted : ValType) (reference : RefType) (bytes : List ℕ) → wanted ≡ Ref reference
    → table_value_at context wanted bytes ≡ table_get_at context wanted bytes
unfolding table_value_at
value_reference context (Ref r) reference bytes is = refl
value_reference context I32 reference bytes is = cc
value_reference context I64 reference bytes is = cc
value_reference context F32 reference bytes is = cc
value_reference context F64 reference bytes is = cc
value_reference context V128 reference bytes is = cc

pub value_number : (context : BodyContext) (wanted : ValType) (bytes : List ℕ) → ((reference : RefType) → wanted ≡ Ref reference → ⊥)
    → table_value_at context wanted bytes ≡ table_growth_at context wanted bytes
unfolding table_value_at
value_number context (Ref reference) bytes other = absurd (other reference refl)
value_number context I32 bytes other = refl
value_number context I64 bytes other = refl
value_number context F32 bytes other = refl
value_number context F64 bytes other = refl
value_number context V128 bytes other = refl

-- the growth or the size of the chosen table
pub table_grown : (context : BodyContext) (wanted : ValType) (bytes middle left : List ℕ) (grown : Bool) (index : ℕ) (o : Option Node)
    → bool_at bytes ≡ (grown, middle)
    → chunk_at (is_table_addressed context wanted) (indexed (length context.tables)) middle ≡ (Some index, left)
    → o ≡ table_growth_node context wanted grown index → table_growth_at context wanted bytes ≡ (o, left)
table_grown context wanted bytes middle left grown index o drawn chosen is = rw (drawn, chosen, is) refl

-- the chosen statement on a table
pub change_by : (context : BodyContext) (bytes left : List ℕ) (rows : List TableChange) (drawn this : TableChange) → rows ≡ table_changes
    → chosen_at change.Set rows bytes ≡ (drawn, left) → drawn ≡ this
    → or_nop (table_change_at context bytes) ≡ or_nop (table_change_of context this left)
unfolding table_change_at
change_by context bytes left rows drawn this are chosen is = chosen_by (λ kind bytes. or_nop (table_change_of context kind bytes))
    change.Set table_changes rows bytes left drawn this are chosen is
