-- Items as they are written.
use Rattle.smith_encode.proofs.Common.{[], and_parts, Body, Bool, Instr, Is, IsElem, IsList, IsNestedExpr, joined_written, List, Output}
use Rattle.smith_encode.proofs.Common.{refl, total, true, Writes, written_plain, ℕ, ◌^◌, ◌∷◌, ◌≡◌}
use Rattle.std.proofs.Common.{nat_lt, ◌&&◌}
use Rattle.std.proofs.lemmas.Bool.{ltb-true}
use Rattle.smith_binary.specs.Spelling.{IsUnsignedIn}
use Rattle.smith_binary.specs.Pieces.{IsByte, IsListIn, IsSizedIn, Joined}
use Rattle.smith_types.specs.Syntax.value_type.RefType.{RefType}
use Rattle.smith_binary_sections.specs.Elements.{func_ref, IsFuncs, IsKindFuncs}
use Rattle.smith_binary_sections.specs.Elements.Form.{first_funcs, passive_funcs, table_funcs, declared_funcs, first_items, passive_items}
use Rattle.smith_binary_sections.specs.Elements.Form.{table_items, declared_items}
use Rattle.smith_binary_sections.specs.Data.DataForm.{first_memory, no_memory, named_memory}
use Rattle.smith_binary_sections.specs.Types.{IsRefTypeIn}
use Rattle.smith_binary_sections.specs.Entities.{IsGlobalTypeIn, IsTableTypeIn}
use Rattle.smith_instr.specs.declared.instr.Instr.TheVariants.{Reference}
use Rattle.smith_instr.specs.declared.reference.ReferenceInstr.TheVariants.{Func}
use Rattle.smith_binary_instr.specs.Instructions.{IsExprIn}
use Rattle.smith_decode.specs.declared.data.DataMode.TheVariants as data_mode
use Rattle.smith_decode.specs.declared.definitions.GlobalDefinition.{GlobalDefinition}
use Rattle.smith_decode.specs.declared.definitions.TableDefinition.{TableDefinition}
use Rattle.smith_decode.specs.BodyReadings.{IsLocalRun, IsRunBody}
use Rattle.smith_decode.specs.DataReadings.{segment, IsSegment}
use Rattle.smith_decode.specs.DefinitionReadings.{IsGlobalDefinition, IsTableDefinition}
use Rattle.smith_decode.specs.Definitions.{null_of, IsTable}
use Rattle.smith_decode.specs.Elements.{elem, IsItems, IsTypedItems}
use Rattle.smith_decode.specs.Elements.Mode.{passive, declared, active}
use Rattle.smith_encode.specs.Nesting.{is_nested}
use Rattle.smith_encode.specs.Segments.{functions_elem}
use Rattle.smith_encode.specs.Spelled.{IfPasses, is_table_nested, is_global_nested}
use Rattle.smith_encode.specs.Spelled.{is_body_spelled}
use Rattle.smith_encode.proofs.NestingLemmas.{nested_sound}

-- one part by another property
pub second_as : {P Q R : List ℕ → Type 0} {piece : List ℕ} → ((second : List ℕ) → Q second → R second) → Joined P Q piece → Joined P R piece
second_as weaker h = record {
  first = h.first;
  second = h.second;
  is_first = h.is_first;
  is_second = weaker h.second h.is_second;
  whole = h.whole;
}

pub first_as : {P Q R : List ℕ → Type 0} {piece : List ℕ} → ((first : List ℕ) → P first → R first) → Joined P Q piece → Joined R Q piece
first_as weaker h = record {
  first = h.first;
  second = h.second;
  is_first = weaker h.first h.is_first;
  is_second = h.is_second;
  whole = h.whole;
}

-- expressions, tables and globals
pub expr_written : (instructions : List Instr) {old new : Output} → Writes (λ s. IsExprIn s instructions) old new
    → Writes (λ _. IfPasses is_nested IsNestedExpr instructions) old new
expr_written instructions one =
    written_plain {Spells = λ s. IsExprIn s instructions} {Other = IfPasses is_nested IsNestedExpr instructions}
    (λ piece h nested. (nested_sound instructions [] nested, h)) one

pub table_written : (table : TableDefinition) {a b c d : Output} → Writes (λ _. Is (0x40 ∷ 0x00 ∷ [])) a b
    → Writes (λ s. IsTableTypeIn s table.ty) b c → Writes (λ _. IfPasses is_nested IsNestedExpr table.initial) c d
    → Writes (λ _. IfPasses is_table_nested IsTableDefinition table) a d
table_written table head ty initial =
    written_plain {Other = IfPasses is_table_nested IsTableDefinition table}
    (λ piece h nested. IsTable.initialised (second_as (λ p typed. second_as (λ q one. one nested) typed) h))
    (joined_written head (joined_written ty initial))

pub null_written : (table : TableDefinition) {old new : Output} → table.initial ≡ null_of table.ty.element_type
    → Writes (λ s. IsTableTypeIn s table.ty) old new → Writes (λ _. IfPasses is_table_nested IsTableDefinition table) old new
null_written table null ty =
    written_plain {Other = IfPasses is_table_nested IsTableDefinition table} (λ piece h nested. IsTable.null null h) ty

pub global_written : (global : GlobalDefinition) {a b c : Output} → Writes (λ s. IsGlobalTypeIn s global.ty) a b
    → Writes (λ _. IfPasses is_nested IsNestedExpr global.initial) b c
    → Writes (λ _. IfPasses is_global_nested IsGlobalDefinition global) a c
global_written global ty initial =
    written_plain {Other = IfPasses is_global_nested IsGlobalDefinition global} (λ piece h nested. second_as (λ p one. one nested) h)
    (joined_written ty initial)

-- bodies
pub body_written : (body : Body) {old new : Output}
    → Writes (λ s. IsSizedIn s (Joined (IsListIn s IsLocalRun body.locals) (IsExprIn s body.instructions))) old new
    → Writes (λ _. IfPasses is_body_spelled IsRunBody body) old new
body_written body one =
    written_plain {Spells = λ s. IsSizedIn s (Joined (IsListIn s IsLocalRun body.locals) (IsExprIn s body.instructions))}
    {Other = IfPasses is_body_spelled IsRunBody body} (λ piece h passes.
    let (few, nested) = and_parts (nat_lt (total body.locals) (2 ^ 32)) (is_nested body.instructions) passes in
    record {
      content = h.content;
      is_content = (
        ltb-true (total body.locals) (2 ^ 32) few,
        second_as (λ p instructions. (nested_sound body.instructions [] nested, instructions)) h.is_content,
      );
      form = h.form;
    }) one

-- data segments
pub no_memory_written : (bytes : List ℕ) {a b c : Output} → Writes (λ s. IsUnsignedIn s 32 1) a b → Writes (λ _. IsList IsByte bytes) b c
    → Writes (λ _ piece. true ≡ true → IsSegment (segment data_mode.Passive bytes) piece) a c
no_memory_written bytes form content =
    written_plain {Other = λ piece. true ≡ true → IsSegment (segment data_mode.Passive bytes) piece} (λ piece h nested. record {
      form = no_memory;
      spelled = second_as (λ p one. (refl, one)) h;
    }) (joined_written form content)

pub first_memory_written : (memory : ℕ) (offset : List Instr) (bytes : List ℕ) {a b c d : Output} → memory ≡ 0
    → Writes (λ s. IsUnsignedIn s 32 0) a b → Writes (λ _. IfPasses is_nested IsNestedExpr offset) b c
    → Writes (λ _. IsList IsByte bytes) c d
    → Writes (λ _ piece. is_nested offset ≡ true → IsSegment (segment (data_mode.Active memory offset) bytes) piece) a d
first_memory_written memory offset bytes first form place content =
    written_plain {Other = λ piece. is_nested offset ≡ true → IsSegment (segment (data_mode.Active memory offset) bytes) piece}
    (λ piece h nested. record {
      form = first_memory;
      spelled = second_as (λ p placed. (offset, rw first refl, first_as (λ q one. one nested) placed)) h;
    }) (joined_written form (joined_written place content))

pub named_memory_written : (memory : ℕ) (offset : List Instr) (bytes : List ℕ) {a b c d e : Output}
    → Writes (λ s. IsUnsignedIn s 32 2) a b → Writes (λ s. IsUnsignedIn s 32 memory) b c
    → Writes (λ _. IfPasses is_nested IsNestedExpr offset) c d → Writes (λ _. IsList IsByte bytes) d e
    → Writes (λ _ piece. is_nested offset ≡ true → IsSegment (segment (data_mode.Active memory offset) bytes) piece) a e
named_memory_written memory offset bytes form index place content =
    written_plain {Other = λ piece. is_nested offset ≡ true → IsSegment (segment (data_mode.Active memory offset) bytes) piece}
    (λ piece h nested. record {
      form = named_memory;
      spelled = second_as (λ p named. (
        memory,
        offset,
        refl,
        second_as (λ q placed. first_as (λ r one. one nested) placed) named,
      )) h;
    }) (joined_written form (joined_written index (joined_written place content)))

-- element segments, as lists of functions
pub passive_functions_written : (functions : List ℕ) {a b c : Output} → Writes (λ s. IsUnsignedIn s 32 1) a b
    → Writes (λ _. IsKindFuncs functions) b c
    → Writes (λ _ piece. true ≡ true → IsElem (functions_elem functions passive) piece) a c
passive_functions_written functions form list =
    written_plain {Other = λ piece. true ≡ true → IsElem (functions_elem functions passive) piece} (λ piece h nested. record {
      form = passive_funcs;
      spelled = second_as (λ p one. (functions, refl, one)) h;
    }) (joined_written form list)

pub declared_functions_written : (functions : List ℕ) {a b c : Output} → Writes (λ s. IsUnsignedIn s 32 3) a b
    → Writes (λ _. IsKindFuncs functions) b c
    → Writes (λ _ piece. true ≡ true → IsElem (functions_elem functions declared) piece) a c
declared_functions_written functions form list =
    written_plain {Other = λ piece. true ≡ true → IsElem (functions_elem functions declared) piece} (λ piece h nested. record {
      form = declared_funcs;
      spelled = second_as (λ p one. (functions, refl, one)) h;
    }) (joined_written form list)

pub first_functions_written : (table : ℕ) (offset : List Instr) (functions : List ℕ) {a b c d : Output} → table ≡ 0
    → Writes (λ s. IsUnsignedIn s 32 0) a b → Writes (λ _. IfPasses is_nested IsNestedExpr offset) b c
    → Writes (λ _. IsFuncs functions) c d
    → Writes (λ _ piece. is_nested offset ≡ true → IsElem (functions_elem functions (active table offset)) piece) a d
first_functions_written table offset functions first form place list =
    written_plain {Other = λ piece. is_nested offset ≡ true → IsElem (functions_elem functions (active table offset)) piece}
    (λ piece h nested. record {
      form = first_funcs;
      spelled = second_as (λ p placed. (offset, functions, rw first refl, first_as (λ q one. one nested) placed)) h;
    }) (joined_written form (joined_written place list))

pub table_functions_written : (table : ℕ) (offset : List Instr) (functions : List ℕ) {a b c d e : Output}
    → Writes (λ s. IsUnsignedIn s 32 2) a b → Writes (λ s. IsUnsignedIn s 32 table) b c
    → Writes (λ _. IfPasses is_nested IsNestedExpr offset) c d → Writes (λ _. IsKindFuncs functions) d e
    → Writes (λ _ piece. is_nested offset ≡ true → IsElem (functions_elem functions (active table offset)) piece) a e
table_functions_written table offset functions form index place list =
    written_plain {Other = λ piece. is_nested offset ≡ true → IsElem (functions_elem functions (active table offset)) piece}
    (λ piece h nested. record {
      form = table_funcs;
      spelled = second_as (λ p named. (
        table,
        offset,
        functions,
        refl,
        second_as (λ q placed. first_as (λ r one. one nested) placed) named,
      )) h;
    }) (joined_written form (joined_written index (joined_written place list)))

-- element segments, as lists of expressions
pub function_expr_written : (function : ℕ) {old new : Output} → Writes (λ s. IsExprIn s (Reference (Func function) ∷ [])) old new
    → Writes (λ _. IsNestedExpr (Reference (Func function) ∷ [])) old new
function_expr_written function one =
    written_plain {Spells = λ s. IsExprIn s (Reference (Func function) ∷ [])} {Other = IsNestedExpr (Reference (Func function) ∷ [])}
    (λ piece h. (([], refl, refl), h)) one

pub typed_written : (ty : RefType) (items : List (List Instr)) (passes : Bool) {a b c : Output} → Writes (λ s. IsRefTypeIn s ty) a b
    → Writes (λ _ piece. passes ≡ true → IsItems items piece) b c → Writes (λ _ piece. passes ≡ true → IsTypedItems ty items piece) a c
typed_written ty items passes one list =
    written_plain {Other = λ piece. passes ≡ true → IsTypedItems ty items piece} (λ piece h all. second_as (λ p those. those all) h)
    (joined_written one list)

pub passive_exprs_written : (ty : RefType) (items : List (List Instr)) (nested : Bool) {a b c : Output}
    → Writes (λ s. IsUnsignedIn s 32 5) a b → Writes (λ _ piece. nested ≡ true → IsTypedItems ty items piece) b c
    → Writes (λ _ piece. true && nested ≡ true → IsElem (elem ty items passive) piece) a c
passive_exprs_written ty items nested form list =
    written_plain {Other = λ piece. true && nested ≡ true → IsElem (elem ty items passive) piece} (λ piece h passes. record {
      form = passive_items;
      spelled = second_as (λ p one. (ty, items, refl, one passes)) h;
    }) (joined_written form list)

pub declared_exprs_written : (ty : RefType) (items : List (List Instr)) (nested : Bool) {a b c : Output}
    → Writes (λ s. IsUnsignedIn s 32 7) a b → Writes (λ _ piece. nested ≡ true → IsTypedItems ty items piece) b c
    → Writes (λ _ piece. true && nested ≡ true → IsElem (elem ty items declared) piece) a c
declared_exprs_written ty items nested form list =
    written_plain {Other = λ piece. true && nested ≡ true → IsElem (elem ty items declared) piece} (λ piece h passes. record {
      form = declared_items;
      spelled = second_as (λ p one. (ty, items, refl, one passes)) h;
    }) (joined_written form list)

pub first_exprs_written : (table : ℕ) (offset : List Instr) (ty : RefType) (items : List (List Instr)) (passes : Bool) {a b c d : Output}
    → table ≡ 0 → ty ≡ func_ref true → Writes (λ s. IsUnsignedIn s 32 4) a b
    → Writes (λ _. IfPasses is_nested IsNestedExpr offset) b c → Writes (λ _ piece. passes ≡ true → IsItems items piece) c d
    → Writes (λ _ piece. is_nested offset ≡ true → passes ≡ true → IsElem (elem ty items (active table offset)) piece) a d
first_exprs_written table offset ty items passes first of_funcs form place list =
    written_plain {Other = λ piece. is_nested offset ≡ true → passes ≡ true → IsElem (elem ty items (active table offset)) piece}
    (λ piece h nested all. record {
      form = first_items;
      spelled = second_as (λ p placed. (
        offset,
        items,
        rw (first, of_funcs) refl,
        first_as (λ q one. one nested) (second_as (λ q those. those all) placed),
      )) h;
    }) (joined_written form (joined_written place list))

pub table_exprs_written : (table : ℕ) (offset : List Instr) (ty : RefType) (items : List (List Instr)) (passes : Bool) {a b c d e : Output}
    → Writes (λ s. IsUnsignedIn s 32 6) a b → Writes (λ s. IsUnsignedIn s 32 table) b c
    → Writes (λ _. IfPasses is_nested IsNestedExpr offset) c d → Writes (λ _ piece. passes ≡ true → IsTypedItems ty items piece) d e
    → Writes (λ _ piece. is_nested offset ≡ true → passes ≡ true → IsElem (elem ty items (active table offset)) piece) a e
table_exprs_written table offset ty items passes form index place list =
    written_plain {Other = λ piece. is_nested offset ≡ true → passes ≡ true → IsElem (elem ty items (active table offset)) piece}
    (λ piece h nested all. record {
      form = table_items;
      spelled = second_as (λ p named. (
        table,
        offset,
        ty,
        items,
        refl,
        second_as (λ q placed. first_as (λ r one. one nested) (second_as (λ r those. those all) placed)) named,
      )) h;
    }) (joined_written form (joined_written index (joined_written place list)))
