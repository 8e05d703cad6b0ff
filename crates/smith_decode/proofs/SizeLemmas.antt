-- The items of each production take a byte each in what spells it.
use Rattle.smith_decode.proofs.Common.{[], ap, arith, Decodes, Each, Err, Fault, Instr, instr_at, IsByte, IsDeclaredGroup, IsExportItem}
use Rattle.smith_decode.proofs.Common.{IsImportGroup}
use Rattle.smith_decode.proofs.Common.{IsIndex, IsList, IsNestedExpr, IsUnsigned, Joined, length, length-append, List, Reading}
use Rattle.smith_decode.proofs.Common.{refl, sym, TableType, unsigned_at, unsigned_decodes, ValType, ℕ, ◌++◌, ◌+◌, ◌∙◌, ◌∷◌, ◌≡◌, ◌≤◌}
use Rattle.std.specs.Prelude.{option_to_list}
use Rattle.smith_binary.specs.Pieces.{IsName}
use Rattle.smith_types.specs.Syntax.composite_type.CompositeInnerType.{CompositeInnerType}
use Rattle.smith_types.specs.Syntax.composite_type.CompositeInnerType.TheVariants as inner
use Rattle.smith_types.specs.Syntax.composite_type.FieldType.{FieldType}
use Rattle.smith_types.specs.Syntax.imports.ImportItem.{ImportItem}
use Rattle.smith_types.specs.Syntax.imports.Imports.{Imports}
use Rattle.smith_types.specs.Syntax.imports.Imports.TheVariants.{Single, Compact1, Compact2}
use Rattle.smith_binary_sections.specs.Types.{IsFieldType, IsInnerType, IsValType}
use Rattle.smith_binary_sections.specs.Entities.{IsTableType}
use Rattle.smith_binary_sections.specs.Imports.{IsImportItem}
use Rattle.smith_binary_read.specs.declared.error.Reason.TheVariants.{UnexpectedEnd}
use Rattle.smith_binary_read.specs.TypeReadings.{val_type_at}
use Rattle.smith_binary_read.specs.declared.exports.Export.{Export}
use Rattle.smith_binary_read.specs.declared.types.DeclaredType.{DeclaredType}
use Rattle.smith_binary_read.specs.DeclaredTypes.{IsDeclaredType}
use Rattle.smith_binary_read.proofs.TypeLemmas.{val_decodes}
use Rattle.smith_instr.specs.declared.control.Catch.{Catch}
use Rattle.smith_instr.specs.declared.control.Catch.TheVariants as catch
use Rattle.smith_instr.specs.declared.instr.Instr.TheVariants.{BrTable, SelectTyped, TryTable}
use Rattle.smith_binary_instr.specs.Control.{IsCatch}
use Rattle.smith_binary_instr.specs.Instructions.{IsInstr}
use Rattle.smith_binary_read_instr.proofs.InstrLemmas.{instr_decodes}
use Rattle.smith_decode.proofs.TypeGroupLemmas.{declared_items}
use Rattle.smith_decode.specs.Sizes.{all_items, inner_items, import_items, instr_items, expr_items, export_items}

-- two pieces are as long as both
pub joined_long : {First Second : List ℕ → Type 0} {piece : List ℕ} → (h : Joined First Second piece)
    → length piece ≡ length h.first + length h.second
joined_long h = ap length h.whole ∙ length-append h.first h.second

pub tagged_long : {Second : List ℕ → Type 0} {piece : List ℕ} {tag : ℕ} → (h : Joined (IsByte tag) Second piece)
    → length piece ≡ 1 + length h.second
tagged_long h = omega (arith, joined_long h, ap length h.is_first)

-- what is never spelled by no byte takes one
abbrev ended : Fault
ended = record { left = 0; reason = UnexpectedEnd }

some_byte : {A : Type 0} {Spells : A → List ℕ → Type 0} {read : List ℕ → Reading A} → Decodes Spells read → read [] ≡ Err ended
    → (x : A) (piece : List ℕ) → Spells x piece → 1 ≤ length piece
some_byte reads none x [] h = absurd (let never = sym (reads.complete x [] [] h) ∙ none in cc)
some_byte reads none x (byte ∷ piece) h = omega arith

pub unsigned_some : (bits n : ℕ) (piece : List ℕ) → IsUnsigned bits n piece → 1 ≤ length piece
unfolding unsigned_at
unsigned_some bits n piece h = some_byte (unsigned_decodes bits) refl n piece h

pub index_some : (index : ℕ) (piece : List ℕ) → IsIndex index piece → 1 ≤ length piece
index_some index piece h = unsigned_some 32 index piece h

pub val_some : (t : ValType) (piece : List ℕ) → IsValType t piece → 1 ≤ length piece
unfolding val_type_at
val_some t piece h = some_byte val_decodes refl t piece h

instr_some : (x : Instr) (piece : List ℕ) → IsInstr x piece → 1 ≤ length piece
unfolding instr_at
instr_some x piece h = some_byte instr_decodes refl x piece h

-- lists
each_takes : {A : Type 0} {Item : A → List ℕ → Type 0} (within : A → ℕ)
    → ((x : A) (piece : List ℕ) → Item x piece → 1 + within x ≤ length piece)
    → (xs : List A) (piece : List ℕ) → Each Item xs piece → all_items within xs ≤ length piece
unfolding Each
each_takes within takes [] piece h = omega arith
each_takes within takes (x ∷ xs) piece h =
    omega (arith, joined_long h, takes x h.first h.is_first, each_takes within takes xs h.second h.is_second)

pub list_takes : {A : Type 0} {Item : A → List ℕ → Type 0} (within : A → ℕ)
    → ((x : A) (piece : List ℕ) → Item x piece → 1 + within x ≤ length piece)
    → (xs : List A) (piece : List ℕ) → IsList Item xs piece → 1 + all_items within xs ≤ length piece
list_takes within takes xs piece h =
    omega (arith, joined_long h, unsigned_some 32 (length xs) h.first h.is_first, each_takes within takes xs h.second h.is_second)

each_some : {A : Type 0} {Item : A → List ℕ → Type 0} → ((x : A) (piece : List ℕ) → Item x piece → 1 ≤ length piece)
    → (xs : List A) (piece : List ℕ) → Each Item xs piece → length xs ≤ length piece
unfolding Each
each_some takes [] piece h = omega arith
each_some takes (x ∷ xs) piece h =
    omega (arith, joined_long h, takes x h.first h.is_first, each_some takes xs h.second h.is_second)

pub list_some : {A : Type 0} {Item : A → List ℕ → Type 0} → ((x : A) (piece : List ℕ) → Item x piece → 1 ≤ length piece)
    → (xs : List A) (piece : List ℕ) → IsList Item xs piece → 1 + length xs ≤ length piece
list_some takes xs piece h =
    omega (arith, joined_long h, unsigned_some 32 (length xs) h.first h.is_first, each_some takes xs h.second h.is_second)

pub bytes_take : (bytes piece : List ℕ) → IsList IsByte bytes piece → 1 + length bytes ≤ length piece
bytes_take bytes piece h = list_some (λ byte piece h. omega (arith, ap length h)) bytes piece h

pub name_takes : (name piece : List ℕ) → IsName name piece → 1 + length name ≤ length piece
name_takes name piece h = bytes_take name piece h.form

-- types
field_some : (field : FieldType) (piece : List ℕ) → IsFieldType field piece → 1 ≤ length piece
field_some field piece h = omega (arith, joined_long h, ap length h.is_second)

inner_takes : (x : CompositeInnerType) (piece : List ℕ) → IsInnerType x piece → 2 + inner_items x ≤ length piece
inner_takes (inner.Array array) piece h = omega (arith, tagged_long h, field_some array.0 h.second h.is_second)
inner_takes (inner.Struct structure) piece h =
    omega (arith, tagged_long h, list_some field_some structure.fields h.second h.is_second)
inner_takes (inner.Func function) piece h =
    let lists = h.is_second in
    omega (
      arith,
      tagged_long h,
      joined_long lists,
      list_some val_some function.params lists.first lists.is_first,
      list_some val_some function.results lists.second lists.is_second,
    )

declared_takes : (t : DeclaredType) (piece : List ℕ) → IsDeclaredType t piece → 2 + declared_items t ≤ length piece
declared_takes t piece (IsDeclaredType.full h) =
    let supertypes = h.is_second.is_first in
    let composite = h.is_second.is_second in
    let first = option_to_list t.sub_type.supertype in
    omega (
      arith,
      joined_long h,
      joined_long h.is_second,
      joined_long composite,
      length-append first t.further_supertypes,
      list_some index_some (first ++ t.further_supertypes) h.is_second.first supertypes.form,
      inner_takes t.sub_type.composite_type.inner composite.second composite.is_second,
    )
declared_takes t piece (IsDeclaredType.short is_final alone none h) =
    omega (arith, joined_long h, ap length none, inner_takes t.sub_type.composite_type.inner h.second h.is_second)

pub group_takes : (group : List DeclaredType) (piece : List ℕ) → IsDeclaredGroup group piece
    → 1 + all_items declared_items group ≤ length piece
group_takes group piece (IsDeclaredGroup.full h) =
    let types = list_takes declared_items (λ t piece h. omega (arith, declared_takes t piece h)) group h.second h.is_second in
    omega (arith, tagged_long h, types)
group_takes group piece (IsDeclaredGroup.short t alone h) =
    let one : all_items declared_items group ≡ all_items declared_items (t ∷ []) = ap (all_items declared_items) alone in
    omega (arith, one, declared_takes t piece h)

-- imports and exports
import_item_takes : (item : ImportItem) (piece : List ℕ) → IsImportItem item piece → 1 + length item.name ≤ length piece
import_item_takes item piece h = omega (arith, joined_long h, name_takes item.name h.first h.is_first)

pub import_takes : (group : Imports) (piece : List ℕ) → IsImportGroup group piece → 1 + import_items group ≤ length piece
import_takes (Single imported) piece h =
    let own = h.is_second in
    omega (
      arith,
      joined_long h,
      joined_long own,
      name_takes imported.«module» h.first h.is_first,
      name_takes imported.name own.first own.is_first,
    )
import_takes (Compact1 from items) piece h =
    let head = h.is_first in
    omega (
      arith,
      joined_long h,
      joined_long head,
      name_takes from head.first head.is_first,
      list_takes (λ (item : ImportItem). length item.name) import_item_takes items h.second h.is_second,
    )
import_takes (Compact2 from ty names) piece h =
    let head = h.is_first in
    let typed = h.is_second in
    omega (
      arith,
      joined_long h,
      joined_long head,
      joined_long typed,
      name_takes from head.first head.is_first,
      list_takes (λ (name : List ℕ). length name) name_takes names typed.second typed.is_second,
    )

pub export_takes : (item : Export) (piece : List ℕ) → IsExportItem item piece → 1 + export_items item ≤ length piece
export_takes item piece h = omega (arith, joined_long h, name_takes item.name h.first h.is_first)

-- instructions
catch_some : (x : Catch) (piece : List ℕ) → IsCatch x piece → 1 ≤ length piece
catch_some (catch.One tag label) piece h = omega (arith, tagged_long h)
catch_some (catch.OneRef tag label) piece h = omega (arith, tagged_long h)
catch_some (catch.All label) piece h = omega (arith, tagged_long h)
catch_some (catch.AllRef label) piece h = omega (arith, tagged_long h)

instr_takes : (x : Instr) (piece : List ℕ) → IsInstr x piece → 1 + instr_items x ≤ length piece
instr_takes (BrTable labels last) piece h =
    let list = h.is_second in
    omega (arith, tagged_long h, joined_long list, list_some index_some labels list.first list.is_first)
instr_takes (SelectTyped types) piece h = omega (arith, tagged_long h, list_some val_some types h.second h.is_second)
instr_takes (TryTable ty clauses) piece h =
    let list = h.is_second in
    omega (arith, tagged_long h, joined_long list, list_some catch_some clauses list.second list.is_second)
instr_takes x piece h = instr_some x piece h

pub expr_takes : (xs : List Instr) (piece : List ℕ) → IsNestedExpr xs piece → 1 + expr_items xs ≤ length piece
expr_takes xs piece h =
    let spelled = h.1 in
    omega (arith, joined_long spelled, each_takes instr_items instr_takes xs spelled.first spelled.is_first, ap length spelled.is_second)

-- a table type has a byte, flags and a minimum
pub table_type_takes : (ty : TableType) (piece : List ℕ) → IsTableType ty piece → 2 ≤ length piece
table_type_takes ty piece h =
    let limits = h.is_second in
    let range = limits.is_second in
    omega (
      arith,
      joined_long h,
      tagged_long limits,
      joined_long range,
      unsigned_some 64 ty.minimum range.first range.is_first,
    )
