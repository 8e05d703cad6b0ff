-- The items of segments, definitions, bodies and custom sections take a byte each in what spells them.
use Rattle.smith_decode.proofs.Common.{ap, arith, first_memory, Instr, IsIndex, IsMemoryType, IsNestedExpr, IsTagDefinition, Joined, length}
use Rattle.smith_decode.proofs.Common.{List, named_memory, no_memory, Option, refl, ℕ, ◌+◌, ◌≡◌, ◌≤◌}
use Rattle.smith_binary_sections.specs.Data.{DataForm, data_number}
use Rattle.smith_binary_sections.specs.Elements.{IsFuncs, IsKindFuncs}
use Rattle.smith_types.specs.Syntax.entity_type.MemoryType.{MemoryType}
use Rattle.smith_binary_read.specs.declared.tags.TagDefinition.{TagDefinition}
use Rattle.smith_decode.specs.declared.bodies.Body.{Body}
use Rattle.smith_decode.specs.declared.bodies.LocalRun.{LocalRun}
use Rattle.smith_decode.specs.declared.customs.Custom.{Custom}
use Rattle.smith_decode.specs.declared.data.DataMode.{DataMode}
use Rattle.smith_decode.specs.declared.data.DataMode.TheVariants as data_mode
use Rattle.smith_decode.specs.declared.data.DataSegment.{DataSegment}
use Rattle.smith_decode.specs.declared.definitions.GlobalDefinition.{GlobalDefinition}
use Rattle.smith_decode.specs.declared.definitions.TableDefinition.{TableDefinition}
use Rattle.smith_decode.specs.declared.elements.ElementSegment.{ElementSegment}
use Rattle.smith_decode.specs.BodyReadings.{IsLocalRun, IsRunBody}
use Rattle.smith_decode.specs.Customs.{IsCustomAfter}
use Rattle.smith_decode.specs.Data.{IsPlaced, IsInDataForm, DataMode as AbstractMode}
use Rattle.smith_decode.specs.Data.DataMode.{passive, active}
use Rattle.smith_decode.specs.DataReadings as data_segment
use Rattle.smith_decode.specs.DefinitionReadings.{IsGlobalDefinition, IsTableDefinition}
use Rattle.smith_decode.specs.Definitions.{IsTable}
use Rattle.smith_decode.specs.ElementReadings.{IsElementSegment}
use Rattle.smith_decode.specs.Elements.{IsItems}
use Rattle.smith_decode.specs.Sizes.{all_items, expr_items, table_items, global_items, segment_items, body_items}
use Rattle.smith_decode.specs.Sizes.{data_mode_items, data_items, custom_items}
use Rattle.smith_decode.proofs.SizeLemmas.{joined_long, tagged_long, unsigned_some, index_some, list_some, list_takes, bytes_take}
use Rattle.smith_decode.proofs.SizeLemmas.{name_takes, expr_takes, table_type_takes}

-- definitions
pub memory_some : (memory : MemoryType) (piece : List ℕ) → IsMemoryType memory piece → 1 ≤ length piece
memory_some memory piece h = omega (arith, tagged_long h)

pub tag_some : (tag : TagDefinition) (piece : List ℕ) → IsTagDefinition tag piece → 1 ≤ length piece
tag_some tag piece h = omega (arith, tagged_long h)

pub table_takes : (table : TableDefinition) (piece : List ℕ) → IsTableDefinition table piece → 1 + table_items table ≤ length piece
table_takes table piece (IsTable.initialised h) =
    let typed = h.is_second in
    omega (arith, joined_long h, joined_long typed, expr_takes table.initial typed.second typed.is_second)
table_takes table piece (IsTable.null is_null h) =
    omega (arith, ap expr_items is_null, table_type_takes table.ty piece h)

pub global_takes : (global : GlobalDefinition) (piece : List ℕ) → IsGlobalDefinition global piece
    → 1 + global_items global ≤ length piece
global_takes global piece h = omega (arith, joined_long h, expr_takes global.initial h.second h.is_second)

-- parts of element segments
funcs_take : (funcs piece : List ℕ) → IsFuncs funcs piece → length funcs ≤ length piece
funcs_take funcs piece h = omega (arith, list_some index_some funcs piece h)

kind_funcs_take : (funcs piece : List ℕ) → IsKindFuncs funcs piece → length funcs ≤ length piece
kind_funcs_take funcs piece h = omega (arith, tagged_long h, funcs_take funcs h.second h.is_second)

items_take : (items : List (List Instr)) (piece : List ℕ) → IsItems items piece → all_items expr_items items ≤ length piece
items_take items piece h = omega (arith, list_takes expr_items expr_takes items piece h)

offset_takes : {Second : List ℕ → Type 0} {piece : List ℕ} (offset : List Instr) (size : ℕ)
    → ((rest : List ℕ) → Second rest → size ≤ length rest) → Joined (IsNestedExpr offset) Second piece
    → expr_items offset + size ≤ length piece
offset_takes offset size takes h =
    omega (arith, joined_long h, expr_takes offset h.first h.is_first, takes h.second h.is_second)

-- after the number of a form, or an index
numbered_takes : {Second : List ℕ → Type 0} {piece : List ℕ} (n size : ℕ) → (Joined (IsIndex n) Second piece)
    → ((rest : List ℕ) → Second rest → size ≤ length rest) → 1 + size ≤ length piece
numbered_takes n size h takes = omega (arith, joined_long h, index_some n h.first h.is_first, takes h.second h.is_second)

-- element segments
typed_items_take : {First : List ℕ → Type 0} (items : List (List Instr)) (piece : List ℕ) → Joined First (IsItems items) piece
    → all_items expr_items items ≤ length piece
typed_items_take items piece h = omega (arith, joined_long h, items_take items h.second h.is_second)

pub segment_takes : (s : ElementSegment) (piece : List ℕ) → IsElementSegment s piece → 1 + segment_items s ≤ length piece
segment_takes s piece (IsElementSegment.form_0 offset funcs is h) =
    omega (arith, ap segment_items is, numbered_takes 0 _ h (λ rest h. offset_takes offset _ (funcs_take funcs) h))
segment_takes s piece (IsElementSegment.form_1 funcs is h) =
    omega (arith, ap segment_items is, numbered_takes 1 _ h (kind_funcs_take funcs))
segment_takes s piece (IsElementSegment.form_2 table offset funcs is h) =
    omega (
      arith,
      ap segment_items is,
      numbered_takes 2 _ h (λ rest h. numbered_takes table _ h (λ rest h. offset_takes offset _ (kind_funcs_take funcs) h)),
    )
segment_takes s piece (IsElementSegment.form_3 funcs is h) =
    omega (arith, ap segment_items is, numbered_takes 3 _ h (kind_funcs_take funcs))
segment_takes s piece (IsElementSegment.form_4 offset items is h) =
    omega (arith, ap segment_items is, numbered_takes 4 _ h (λ rest h. offset_takes offset _ (items_take items) h))
segment_takes s piece (IsElementSegment.form_5 ty items is h) =
    omega (arith, ap segment_items is, numbered_takes 5 _ h (typed_items_take items))
segment_takes s piece (IsElementSegment.form_6 table offset ty items is h) =
    omega (
      arith,
      ap segment_items is,
      numbered_takes 6 _ h (λ rest h. numbered_takes table _ h (λ rest h. offset_takes offset _ (typed_items_take items) h)),
    )
segment_takes s piece (IsElementSegment.form_7 ty items is h) =
    omega (arith, ap segment_items is, numbered_takes 7 _ h (typed_items_take items))

-- bodies
run_some : (run : LocalRun) (piece : List ℕ) → IsLocalRun run piece → 1 ≤ length piece
run_some run piece h = omega (arith, joined_long h, unsigned_some 32 run.count h.first h.is_first)

pub body_takes : (body : Body) (piece : List ℕ) → IsRunBody body piece → 1 + body_items body ≤ length piece
body_takes body piece h =
    let content = h.is_content.1 in
    omega (
      arith,
      joined_long h.form,
      ap length h.form.is_second,
      unsigned_some 32 (length h.content) h.form.first h.form.is_first,
      joined_long content,
      list_some run_some body.locals content.first content.is_first,
      expr_takes body.instructions content.second content.is_second,
    )

-- data segments
abbrev abstract_items : AbstractMode → ℕ
abstract_items passive = 0
abstract_items (active memory offset) = expr_items offset

mode_is : (mode : DataMode) → data_mode_items mode ≡ abstract_items (data_segment.mode_view mode)
mode_is data_mode.Passive = refl
mode_is (data_mode.Active memory offset) = refl

placed_takes : (offset : List Instr) (bytes piece : List ℕ) → IsPlaced offset bytes piece
    → expr_items offset + length bytes ≤ length piece
placed_takes offset bytes piece h = offset_takes offset (length bytes) (λ rest h. omega (arith, bytes_take bytes rest h)) h

in_form_takes : (form : DataForm) (s : DataSegment) (piece : List ℕ) → IsInDataForm form (data_segment.segment_view s) piece
    → data_items s ≤ length piece
in_form_takes first_memory s piece (offset, is, h) =
    omega (arith, mode_is s.mode, ap abstract_items is, placed_takes offset s.bytes piece h)
in_form_takes no_memory s piece (is, h) = omega (arith, mode_is s.mode, ap abstract_items is, bytes_take s.bytes piece h)
in_form_takes named_memory s piece (memory, offset, is, h) =
    omega (arith, mode_is s.mode, ap abstract_items is, numbered_takes memory _ h (placed_takes offset s.bytes))

pub data_takes : (s : DataSegment) (piece : List ℕ) → data_segment.IsSegment s piece → 1 + data_items s ≤ length piece
data_takes s piece h =
    let spelled = h.spelled in
    omega (
      arith,
      joined_long spelled,
      index_some (data_number h.form) spelled.first spelled.is_first,
      in_form_takes h.form s spelled.second spelled.is_second,
    )

-- the content of a custom section
pub custom_takes : (after : Option ℕ) (custom : Custom) (content : List ℕ) → IsCustomAfter after custom content
    → 1 + custom_items custom ≤ length content
custom_takes after custom content h =
    let form = h.1 in
    omega (arith, joined_long form, name_takes custom.name form.first form.is_first, ap length form.is_second)
