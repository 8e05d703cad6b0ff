-- Modules have one meaning: their sections are read as those of a decoded module are, and the expressions of
-- bodies as any bytes.
use Rattle.smith_binary_law.proofs.Common.{[], ap, arith, Instr, IsList, Joined, length, List, map, None, refl, subst, sym, TableType}
use Rattle.smith_binary_law.proofs.Common.{ValType, ℕ, ◌∙◌, ◌∷◌, ◌≡◌}
use Rattle.std.proofs.Common.{Option}
use Rattle.smith_binary.proofs.UnambiguousLemmas.{same_front}
use Rattle.smith_types.specs.Syntax.composite_type.SubType.{SubType}
use Rattle.smith_types.specs.Syntax.entity_type.ExportKind.{ExportKind}
use Rattle.smith_types.specs.Syntax.entity_type.GlobalType.{GlobalType}
use Rattle.smith_types.specs.Syntax.entity_type.MemoryType.{MemoryType}
use Rattle.smith_types.specs.Syntax.imports.Import.{Import}
use Rattle.smith_binary_sections.specs.Codes.{IsBody}
use Rattle.smith_binary_sections.specs.Data.{IsData as IsConstData}
use Rattle.smith_binary_sections.specs.Definitions.{IsTable as IsConstTable, IsGlobal as IsConstGlobal}
use Rattle.smith_binary_sections.specs.Elements.{IsElem as IsConstElem}
use Rattle.smith_binary_sections.specs.Entities.{IsMemoryType, IsTagType}
use Rattle.smith_binary_sections.specs.Exports.{IsExport}
use Rattle.smith_binary_sections.specs.Imports.{IsImports}
use Rattle.smith_binary_sections.specs.Instructions.{IsIndex}
use Rattle.smith_binary_sections.specs.Modules.{Contents, IsPreamble, IsModule}
use Rattle.smith_binary_sections.specs.Types.{IsRecGroup}
use Rattle.smith_binary_read.proofs.ReadLemmas.{whole_decodes}
use Rattle.smith_binary_read.proofs.IntegerLemmas.{unsigned_decodes}
use Rattle.smith_binary_read.proofs.ContentLemmas.{list_decodes, sized_decodes}
use Rattle.smith_binary_read.specs.DeclaredTypes.{IsDeclaredGroup}
use Rattle.smith_binary_read.specs.declared.types.DeclaredType.{DeclaredType}
use Rattle.smith_binary_read.proofs.TypeLemmas.{group_decodes, plain_group, without_further}
use Rattle.smith_binary_read.proofs.EntityLemmas.{memory_decodes, export_decodes}
use Rattle.smith_binary_read.proofs.ImportLemmas.{import_group_decodes}
use Rattle.smith_binary_read.proofs.TagLemmas.{tag_def_decodes}
use Rattle.smith_decode.specs.Constants.{as_table, as_global, as_elem, as_data}
use Rattle.smith_decode.specs.CustomReadings.{end_at}
use Rattle.smith_decode.specs.Data.{Data, IsData}
use Rattle.smith_decode.specs.Definitions.{IsTable, IsGlobal}
use Rattle.smith_decode.specs.Elements.{Elem, IsElem}
use Rattle.smith_decode.specs.Modules.{IsStated}
use Rattle.smith_decode.specs.TypeGroups.{groups_types, types_in}
use Rattle.smith_decode.proofs.ConstantLemmas.{table_as, global_as, elem_as, data_as}
use Rattle.smith_decode.proofs.CustomLemmas.{IsMore, IsEnd, end_decodes}
use Rattle.smith_decode.proofs.DataLemmas as data_segment
use Rattle.smith_decode.proofs.DefinitionLemmas.{global_def_decodes, table_def_decodes}
use Rattle.smith_decode.proofs.ElementLemmas as element
use Rattle.smith_decode.proofs.ViewLemmas.{table_viewed, tag_viewed, global_viewed, export_viewed, imports_viewed, data_viewed}
use Rattle.smith_binary_law.proofs.ConstantLemmas.{from_table, from_global, from_elem, from_data, table_again, global_again, elem_again}
use Rattle.smith_binary_law.proofs.ConstantLemmas.{data_again, map_again}
use Rattle.smith_binary_law.proofs.ReadLemmas.{raw_decodes, viewed_decodes}
use Rattle.smith_binary_law.proofs.SectionLemmas.{AreRead, count_form, last_form, more_read, read_whole, section_of, start_form}
use Rattle.smith_binary_law.proofs.SectionLemmas.{stated_viewed, then_form}

-- the parts of a module in the order of their sections, with the number of data segments if it is stated
abbrev Parts : Type 0
Parts =
    List (List DeclaredType) × (List Import × (List ℕ × (List (TableType × List Instr) × (List MemoryType × (List ℕ
    × (List (GlobalType × List Instr) × (List (List ℕ × ExportKind × ℕ) × (Option ℕ × (List Elem × (Option ℕ
    × (List (List ValType × List ℕ) × (List Data × Unit {0}))))))))))))

abbrev AreParts : Parts → List ℕ → Type 0
AreParts =
    IsMore 1 [] (IsList IsDeclaredGroup)
    (IsMore 2 [] IsImports
    (IsMore 3 [] (IsList IsIndex)
    (IsMore 4 [] (IsList IsTable)
    (IsMore 5 [] (IsList IsMemoryType)
    (IsMore 13 [] (IsList IsTagType)
    (IsMore 6 [] (IsList IsGlobal)
    (IsMore 7 [] (IsList IsExport)
    (IsMore 8 None IsStated
    (IsMore 9 [] (IsList IsElem)
    (IsMore 12 None IsStated
    (IsMore 10 [] (IsList IsBody)
    (IsMore 11 [] (IsList IsData) IsEnd))))))))))))

-- their readings
parts_read : AreRead (1 ∷ 2 ∷ 3 ∷ 4 ∷ 5 ∷ 13 ∷ 6 ∷ 7 ∷ 8 ∷ 9 ∷ 12 ∷ 10 ∷ 11 ∷ []) AreParts
parts_read =
    more_read 1 [] (λ e. omega arith) refl (whole_decodes (list_decodes group_decodes))
    (more_read 2 [] (λ e. omega arith) refl (whole_decodes (viewed_decodes imports_viewed (list_decodes import_group_decodes)))
    (more_read 3 [] (λ e. omega arith) refl (whole_decodes (list_decodes (unsigned_decodes 32)))
    (more_read 4 [] (λ e. omega arith) refl (whole_decodes (list_decodes (viewed_decodes table_viewed table_def_decodes)))
    (more_read 5 [] (λ e. omega arith) refl (whole_decodes (list_decodes memory_decodes))
    (more_read 13 [] (λ e. omega arith) refl (whole_decodes (list_decodes (viewed_decodes tag_viewed tag_def_decodes)))
    (more_read 6 [] (λ e. omega arith) refl (whole_decodes (list_decodes (viewed_decodes global_viewed global_def_decodes)))
    (more_read 7 [] (λ e. omega arith) refl (whole_decodes (list_decodes (viewed_decodes export_viewed export_decodes)))
    (more_read 8 None (λ e. omega arith) refl (whole_decodes (viewed_decodes stated_viewed (unsigned_decodes 32)))
    (more_read 9 [] (λ e. omega arith) refl (whole_decodes (list_decodes (viewed_decodes element.segment_viewed element.segment_decodes)))
    (more_read 12 None (λ e. omega arith) refl (whole_decodes (viewed_decodes stated_viewed (unsigned_decodes 32)))
    (more_read 10 [] (λ e. omega arith) refl (whole_decodes (list_decodes (sized_decodes raw_decodes)))
    (more_read 11 [] (λ e. omega arith) refl (whole_decodes (list_decodes (viewed_decodes data_viewed data_segment.segment_decodes)))
    (record { read = end_at; decodes = end_decodes })))))))))))))

-- the parts of a module, and a module of parts
abbrev parts_of : Contents → Option ℕ → Parts
parts_of m count = (
  map (map without_further) m.types,
  (
    m.imports,
    (
      m.functions,
      (
        map as_table m.tables,
        (
          m.memories,
          (
            m.tags,
            (
              map as_global m.globals,
              (m.exports, (m.start, (map as_elem m.elems, (count, (m.bodies, (map as_data m.datas, tt)))))),
            ),
          ),
        ),
      ),
    ),
  ),
)

abbrev made_of : Parts → Contents
made_of x = record {
  types = groups_types x.0;
  imports = x.1.0;
  functions = x.1.1.0;
  tables = map from_table x.1.1.1.0;
  memories = x.1.1.1.1.0;
  tags = x.1.1.1.1.1.0;
  globals = map from_global x.1.1.1.1.1.1.0;
  exports = x.1.1.1.1.1.1.1.0;
  start = x.1.1.1.1.1.1.1.1.0;
  elems = map from_elem x.1.1.1.1.1.1.1.1.1.0;
  bodies = x.1.1.1.1.1.1.1.1.1.1.1.0;
  datas = map from_data x.1.1.1.1.1.1.1.1.1.1.1.1.0;
}

types_again : (groups : List (List SubType)) → groups_types (map (map without_further) groups) ≡ groups
types_again groups =
    map_again types_in (map without_further) (map_again (λ (t : DeclaredType). t.sub_type) without_further (λ t. refl)) groups

made_again : (m : Contents) (count : Option ℕ) → made_of (parts_of m count) ≡ m
made_again m count =
    rw (
      types_again m.types,
      map_again from_table as_table table_again m.tables,
      map_again from_global as_global global_again m.globals,
      map_again from_elem as_elem elem_again m.elems,
      map_again from_data as_data data_again m.datas,
    ) refl

-- a module without custom sections as its parts
parts_form : (m : Contents) (bytes : List ℕ) → IsModule m bytes
    → (count : Option ℕ) × Joined IsPreamble (AreParts (parts_of m count)) bytes
parts_form m bytes is_module =
    let h = is_module.form in
    let types = h.is_second in
    let imports = types.is_second in
    let functions = imports.is_second in
    let tables = functions.is_second in
    let memories = tables.is_second in
    let tags = memories.is_second in
    let globals = tags.is_second in
    let exports = globals.is_second in
    let start = exports.is_second in
    let elems = start.is_second in
    let counts = elems.is_second in
    let code = counts.is_second in
    let count = count_form (length m.datas) counts.is_first in (
      count.0,
      record {
        first = h.first;
        second = h.second;
        is_first = h.is_first;
        is_second =
            then_form 1 types (section_of 1 (map without_further) IsDeclaredGroup IsRecGroup plain_group m.types types.is_first)
            (then_form 2 imports imports.is_first
            (then_form 3 functions functions.is_first
            (then_form 4 tables (section_of 4 as_table IsTable IsConstTable table_as m.tables tables.is_first)
            (then_form 5 memories memories.is_first
            (then_form 13 tags tags.is_first
            (then_form 6 globals (section_of 6 as_global IsGlobal IsConstGlobal global_as m.globals globals.is_first)
            (then_form 7 exports exports.is_first
            (then_form 8 start (start_form m.start start.is_first)
            (then_form 9 elems (section_of 9 as_elem IsElem IsConstElem elem_as m.elems elems.is_first)
            (then_form 12 counts count.1
            (then_form 10 code code.is_first
            (last_form 11 (section_of 11 as_data IsData IsConstData data_as m.datas code.is_second)))))))))))));
        whole = h.whole;
      },
    )

pub module_same : (m n : Contents) (bytes : List ℕ) → IsModule m bytes → IsModule n bytes → m ≡ n
module_same m n bytes one two =
    let (count, h) = parts_form m bytes one in
    let (other, k) = parts_form n bytes two in
    let rest = (same_front h.first k.first h.second k.second (ap length (h.is_first ∙ sym k.is_first)) (sym h.whole ∙ k.whole)).after in
    let same =
    (read_whole parts_read).one (parts_of m count) (parts_of n other) k.second (subst (AreParts (parts_of m count)) rest h.is_second)
    k.is_second in
    sym (made_again m count) ∙ ap made_of same ∙ made_again n other
