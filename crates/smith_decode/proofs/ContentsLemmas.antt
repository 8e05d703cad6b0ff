-- Decoded modules in the abstract syntax, as a whole.
use Rattle.smith_decode.proofs.Common.{[], ap, Bool, eq-eqb, eqb, eqb-true, Err, false, Features, Instr, IsIndex, IsList, IsMemoryType}
use Rattle.smith_decode.proofs.Common.{IsDeclaredGroup, length, List, list_any, map, None, Ok, Option, refl, Result, Some, subst, sym}
use Rattle.smith_decode.proofs.Common.{TableType}
use Rattle.smith_decode.proofs.Common.{true, ValType, Viewed, ℕ, ◌||◌, ◌∙◌, ◌∷◌, ◌≡◌}
use Rattle.std.specs.Prelude.{IfOk, IfSome}
use Rattle.std.proofs.lemmas.Bool.{and_parts}
use Rattle.std.proofs.lemmas.List.{length-map}
use Rattle.smith_types.specs.Syntax.composite_type.SubType.{SubType}
use Rattle.smith_types.specs.Syntax.entity_type.ExportKind.{ExportKind}
use Rattle.smith_types.specs.Syntax.entity_type.GlobalType.{GlobalType}
use Rattle.smith_types.specs.Syntax.entity_type.MemoryType.{MemoryType}
use Rattle.smith_types.specs.Syntax.imports.Import.{Import}
use Rattle.smith_types.specs.Imports.{flattened}
use Rattle.smith_binary_sections.specs.Entities.{IsTagType}
use Rattle.smith_binary_sections.specs.Imports.{IsImports}
use Rattle.smith_binary_sections.specs.Exports.{IsExport}
use Rattle.smith_binary_read.specs.declared.types.DeclaredType.{DeclaredType}
use Rattle.smith_binary_read.proofs.ViewLemmas.{list_viewed}
use Rattle.smith_decode.specs.declared.error.DecodeError.{DecodeError}
use Rattle.smith_decode.specs.declared.error.DecodeError.TheVariants.{Memory, Malformed, FeatureOff}
use Rattle.smith_decode.specs.declared.bodies.Body.{Body}
use Rattle.smith_decode.specs.declared.customs.Custom.{Custom}
use Rattle.smith_decode.specs.declared.modules.Module.{Module}
use Rattle.smith_decode.specs.BodyReadings.{body_view, names_data_in, name_data}
use Rattle.smith_decode.specs.Data.{Data, IsData}
use Rattle.smith_decode.specs.DataReadings.{segment_view}
use Rattle.smith_decode.specs.Definitions.{IsTable, IsGlobal}
use Rattle.smith_decode.specs.ElementReadings.{element_view}
use Rattle.smith_decode.specs.Elements.{Elem, IsElem}
use Rattle.smith_decode.specs.ModuleReadings.{Parts, module_of, with_customs, is_number, is_stated_if, module_at}
use Rattle.smith_decode.specs.Modules.{Syntax, declared_types, IsFunctionBody, IsStated, IsModuleBinary, syntax_of}
use Rattle.smith_decode.specs.TypeGroups.{AreAligned, groups_further, groups_types}
use Rattle.smith_decode.specs.Forms.{AreFormsEnabled}
use Rattle.smith_decode.specs.Results.{Locates, Returns}
use Rattle.smith_decode.specs.Modules.{table_pair, tag_index, global_pair, export_triple, body_names_data}
use Rattle.smith_decode.proofs.ElementLemmas.{segment_viewed}
use Rattle.smith_decode.proofs.FormLemmas.{off_disabled}
use Rattle.smith_decode.proofs.CustomLemmas.{IsMore, IsEnd}
use Rattle.smith_decode.proofs.ModuleLemmas.{AreParts, parts_of, parts_again, IsDecodedBinary, module_decodes}
use Rattle.smith_decode.proofs.TypeGroupLemmas.{groups_aligned, groups_types_again, groups_further_again}
use Rattle.smith_decode.proofs.ViewLemmas.{same_viewed, table_viewed, tag_viewed, global_viewed, export_viewed, imports_viewed, data_viewed}
use Rattle.smith_decode.proofs.ViewLemmas.{body_viewed, both_views, more_viewed}

-- the parts of a module in the abstract syntax, and the stated number of data segments
abbrev Abstract : Type 0
Abstract =
    List (List DeclaredType) × (List Import × (List ℕ × (List (TableType × List Instr) × (List MemoryType × (List ℕ
    × (List (GlobalType × List Instr) × (List (List ℕ × ExportKind × ℕ) × (Option ℕ × (List Elem × (Option ℕ
    × (List (List ValType × List Instr) × (List Data × Unit {0}))))))))))))

abbrev abstract_of : Syntax → Option ℕ → Abstract
abstract_of m count = (
  declared_types m,
  (
    m.imports,
    (
      m.functions,
      (
        m.tables,
        (m.memories, (m.tags, (m.globals, (m.exports, (m.start, (m.elems, (count, (m.bodies, (m.datas, tt))))))))),
      ),
    ),
  ),
)

abbrev syntax_from : List Custom → Abstract → Syntax
syntax_from customs a = record {
  types = groups_types a.0;
  further_supertypes = groups_further a.0;
  imports = a.1.0;
  functions = a.1.1.0;
  tables = a.1.1.1.0;
  memories = a.1.1.1.1.0;
  tags = a.1.1.1.1.1.0;
  globals = a.1.1.1.1.1.1.0;
  exports = a.1.1.1.1.1.1.1.0;
  start = a.1.1.1.1.1.1.1.1.0;
  elems = a.1.1.1.1.1.1.1.1.1.0;
  bodies = a.1.1.1.1.1.1.1.1.1.1.1.0;
  datas = a.1.1.1.1.1.1.1.1.1.1.1.1.0;
  customs = customs;
}

abbrev with_groups : Syntax → List (List SubType) → List (List (List ℕ)) → Syntax
with_groups m types further = record m { types = types; further_supertypes = further }

syntax_again : (m : Syntax) (count : Option ℕ) → AreAligned m.types m.further_supertypes
    → syntax_from m.customs (abstract_of m count) ≡ m
syntax_again m count aligned =
    ap (λ (types : List (List SubType)). with_groups m types (groups_further (declared_types m)))
    (groups_types_again m.types m.further_supertypes)
    ∙ ap (with_groups m m.types) (groups_further_again m.types m.further_supertypes aligned)

-- the sections of these parts
abbrev IsAbstract : Abstract → List ℕ → Type 0
IsAbstract =
    IsMore 1 [] (IsList IsDeclaredGroup)
    (IsMore 2 [] IsImports
    (IsMore 3 [] (IsList IsIndex)
    (IsMore 4 [] (IsList IsTable)
    (IsMore 5 [] (IsList IsMemoryType)
    (IsMore 13 [] (IsList IsTagType)
    (IsMore 6 [] (IsList IsGlobal)
    (IsMore 7 [] (IsList IsExport)
    (IsMore 8 None IsStated
    (IsMore 9 [] (IsList IsElem)
    (IsMore 12 None IsStated
    (IsMore 10 [] (IsList IsFunctionBody)
    (IsMore 11 [] (IsList IsData) IsEnd))))))))))))

-- decoded parts in the abstract syntax
abbrev parts_view : Parts → Abstract
parts_view =
    both_views (λ types. types)
    (both_views flattened
    (both_views (λ functions. functions)
    (both_views (map table_pair)
    (both_views (λ memories. memories)
    (both_views (map tag_index)
    (both_views (map global_pair)
    (both_views (map export_triple)
    (both_views (λ start. start)
    (both_views (map element_view)
    (both_views (λ count. count)
    (both_views (map body_view)
    (both_views (map segment_view) (λ end. end)))))))))))))

parts_viewed : Viewed parts_view IsAbstract AreParts
parts_viewed =
    more_viewed 1 [] [] refl same_viewed
    (more_viewed 2 [] [] refl imports_viewed
    (more_viewed 3 [] [] refl same_viewed
    (more_viewed 4 [] [] refl (list_viewed table_viewed)
    (more_viewed 5 [] [] refl same_viewed
    (more_viewed 13 [] [] refl (list_viewed tag_viewed)
    (more_viewed 6 [] [] refl (list_viewed global_viewed)
    (more_viewed 7 [] [] refl (list_viewed export_viewed)
    (more_viewed 8 None None refl same_viewed
    (more_viewed 9 [] [] refl (list_viewed segment_viewed)
    (more_viewed 12 None None refl same_viewed
    (more_viewed 10 [] [] refl (list_viewed body_viewed)
    (more_viewed 11 [] [] refl (list_viewed data_viewed) same_viewed))))))))))))

-- the numbers of items
stated_is : (count : Option ℕ) (n : ℕ) → is_number count n ≡ true → IfSome count (λ stated. stated ≡ n)
stated_is None n e = tt
stated_is (Some stated) n e = eqb-true stated n e

stated_again : (count : Option ℕ) (n : ℕ) → IfSome count (λ stated. stated ≡ n) → is_number count n ≡ true
stated_again None n h = refl
stated_again (Some stated) n h = eq-eqb stated n h

-- the number of data segments that is needed
any_viewed : (bodies : List Body) → list_any body_names_data (map body_view bodies) ≡ name_data bodies
any_viewed [] = refl
any_viewed (body ∷ bodies) = ap (λ (more : Bool). names_data_in body || more) (any_viewed bodies)

none_named : (named : Bool) (count : Option ℕ) → is_stated_if named count ≡ true → count ≡ None → named ≡ false
none_named false None e none = refl
none_named true None e none = absurd cc
none_named named (Some stated) e none = absurd cc

suffices_again : (named : Bool) (count : Option ℕ) → (count ≡ None → named ≡ false) → is_stated_if named count ≡ true
suffices_again false None h = refl
suffices_again true None h = absurd (let never : true ≡ false = h refl in cc)
suffices_again named (Some stated) h = refl

pub module_forth : (m : Module) (bytes : List ℕ) → IsDecodedBinary m bytes → IsModuleBinary (syntax_of m) bytes
module_forth m bytes h =
    let agrees = and_parts (eqb (length m.functions) (length m.bodies)) (is_number m.data_count (length m.datas)) h.agrees in
    let functions : length m.functions ≡ length m.bodies = eqb-true (length m.functions) (length m.bodies) agrees.0 in
    record {
      count = m.data_count;
      form = record {
        first = h.form.first;
        second = h.form.second;
        is_first = h.form.is_first;
        is_second = parts_viewed.forth (parts_of m) h.form.second h.form.is_second;
        whole = h.form.whole;
      };
      bodies = functions ∙ sym (length-map m.bodies body_view);
      datas = subst (λ (n : ℕ). IfSome m.data_count (λ stated. stated ≡ n)) (sym (length-map m.datas segment_view))
          (stated_is m.data_count (length m.datas) agrees.1);
      named = λ none. any_viewed m.bodies ∙ none_named (name_data m.bodies) m.data_count h.suffices none;
      customs = h.customs;
      aligned = h.aligned;
    }

-- a decoded module that is seen as one of the abstract syntax
pub record Decoded (m : Syntax) (bytes : List ℕ) : Type 0 where
  pub decoded : Module
  pub is : syntax_of decoded ≡ m
  pub form : IsDecodedBinary decoded bytes

pub module_back : (m : Syntax) (bytes : List ℕ) → IsModuleBinary m bytes → Decoded m bytes
module_back m bytes h =
    let one = parts_viewed.back (abstract_of m h.count) h.form.second h.form.is_second in
    let decoded = with_customs (module_of one.item) m.customs in
    let same : syntax_of decoded ≡ m = ap (syntax_from m.customs) one.is ∙ syntax_again m h.count h.aligned in
    let parts : AreParts (parts_of decoded) h.form.second = subst (λ (p : Parts). AreParts p h.form.second) (sym (parts_again one.item))
    one.form in
    let count : decoded.data_count ≡ h.count = ap (λ (a : Abstract). a.1.1.1.1.1.1.1.1.1.1.0) one.is in
    let functions : decoded.functions ≡ m.functions = ap (λ (c : Syntax). c.functions) same in
    let bodies : map body_view decoded.bodies ≡ m.bodies = ap (λ (c : Syntax). c.bodies) same in
    let datas : map segment_view decoded.datas ≡ m.datas = ap (λ (c : Syntax). c.datas) same in
    let many : length decoded.functions ≡ length decoded.bodies =
    ap length functions ∙ h.bodies ∙ sym (ap length bodies) ∙ length-map decoded.bodies body_view in
    let stated : IfSome decoded.data_count (λ stated. stated ≡ length decoded.datas) =
    subst (λ (c : Option ℕ). IfSome c (λ stated. stated ≡ length decoded.datas)) (sym count)
    (subst (λ (n : ℕ). IfSome h.count (λ stated. stated ≡ n)) (sym (ap length datas) ∙ length-map decoded.datas segment_view) h.datas) in
    record {
      decoded = decoded;
      is = same;
      form = record {
        form = record {
          first = h.form.first;
          second = h.form.second;
          is_first = h.form.is_first;
          is_second = parts;
          whole = h.form.whole;
        };
        agrees = rw (
          eq-eqb (length decoded.functions) (length decoded.bodies) many,
          stated_again decoded.data_count
              (length decoded.datas) stated,
        ) refl;
        suffices = suffices_again (name_data decoded.bodies) decoded.data_count
            (λ none. sym (any_viewed decoded.bodies) ∙ ap (list_any body_names_data) bodies ∙ h.named (sym count ∙ none));
        customs = h.customs;
        aligned = groups_aligned one.item.0;
      };
    }

-- what a call returned
pub is_sound : (features : Features) (bytes : List ℕ) (r : Result Module DecodeError) → Locates features r bytes (module_at bytes)
    → IfOk r (λ m. IsModuleBinary (syntax_of m) bytes)
is_sound features bytes (Ok m) read = module_forth m bytes (module_decodes.sound bytes m read.0)
is_sound features bytes (Err e) read = tt

pub is_enabled : (features : Features) (bytes : List ℕ) (r : Result Module DecodeError) → Locates features r bytes (module_at bytes)
    → IfOk r (λ m. AreFormsEnabled features m)
is_enabled features bytes (Ok m) read = read.1
is_enabled features bytes (Err e) read = tt

pub is_complete : (features : Features) (bytes : List ℕ) (r : Result Module DecodeError) (m : Syntax)
    → Locates features r bytes (module_at bytes) → IsModuleBinary m bytes → Returns features m r
is_complete features bytes (Ok x) m read h =
    let one = module_back m bytes h in
    let same : one.decoded ≡ x = let e = sym (module_decodes.complete one.decoded bytes one.form) ∙ read.0 in cc in
    ap syntax_of (sym same) ∙ one.is
is_complete features bytes (Err Memory) m read h = tt
is_complete features bytes (Err (Malformed offset reason)) m read h =
    let one = module_back m bytes h in
    absurd (let never = sym (module_decodes.complete one.decoded bytes one.form) ∙ read.1 in cc)
is_complete features bytes (Err (FeatureOff offset)) m (x, read, place, off, at) h =
    let one = module_back m bytes h in
    let same : one.decoded ≡ x = let e = sym (module_decodes.complete one.decoded bytes one.form) ∙ read in cc in
    (x, ap syntax_of (sym same) ∙ one.is, off_disabled features x place off)
