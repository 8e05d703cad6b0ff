-- Modules that are read: the reading is sound and complete for sections of the items that are decoded.
use Rattle.smith_decode.proofs.Common.{[], ap, arith, Decodes, DecodesWhole, eq-eqb, eqb-true, expr_decodes, IsDeclaredGroup}
use Rattle.smith_decode.proofs.Common.{IsExportItem, IsImportGroup}
use Rattle.smith_decode.proofs.Common.{IsIndex, IsList, IsMemoryType, IsTagDefinition, Joined, joined_decodes, List, list_at}
use Rattle.smith_decode.proofs.Common.{None, Ok, Option, refl, Some, step, subst, sym, test_passed, true, unsigned_at, unsigned_decodes, ℕ}
use Rattle.smith_decode.proofs.Common.{◌++◌, ◌<◌, ◌^◌, ◌∙◌, ◌∷◌, ◌≡◌}
use Rattle.std.specs.List.{AllByRecursion}
use Rattle.std.proofs.lemmas.Bool.{lt-ltb, ltb-true}
use Rattle.smith_types.specs.Syntax.composite_type.SubType.{SubType}
use Rattle.smith_binary_sections.specs.Modules.{IsPreamble}
use Rattle.smith_binary_read.specs.declared.types.DeclaredType.{DeclaredType}
use Rattle.smith_binary_read.specs.Readings.{◌>>=◌, mapped_at}
use Rattle.smith_binary_read.proofs.ReadLemmas.{byte_sound, whole_decodes}
use Rattle.smith_binary_read.proofs.ContentLemmas.{list_decodes, sized_decodes}
use Rattle.smith_binary_read.proofs.ChoiceLemmas.{mapped_sound}
use Rattle.smith_binary_read.proofs.TypeLemmas.{val_decodes, group_decodes}
use Rattle.smith_binary_read.proofs.EntityLemmas.{memory_decodes, export_decodes}
use Rattle.smith_binary_read.proofs.ImportLemmas.{import_group_decodes}
use Rattle.smith_binary_read.proofs.TagLemmas.{tag_def_decodes}
use Rattle.smith_decode.specs.declared.bodies.Body.{Body}
use Rattle.smith_decode.specs.declared.modules.Module.{Module}
use Rattle.smith_decode.specs.BodyReadings.{IsLocalRun, total, IsRunContent, IsRunBody, local_run, run_at, body_of, body_whole, body_at}
use Rattle.smith_decode.specs.Customs.{HasCustoms}
use Rattle.smith_decode.specs.CustomReadings.{kept_at}
use Rattle.smith_decode.specs.DataReadings.{IsSegment}
use Rattle.smith_decode.specs.DefinitionReadings.{IsGlobalDefinition, IsTableDefinition}
use Rattle.smith_decode.specs.ElementReadings.{IsElementSegment}
use Rattle.smith_decode.specs.ModuleReadings.{literal_at, preamble, preamble_at, index_whole, Bodies, Counts, Starts, Globals, Memories}
use Rattle.smith_decode.specs.ModuleReadings.{Functions, Parts, module_of, bodies_at, counts_at, starts_at, globals_at, memories_at}
use Rattle.smith_decode.specs.ModuleReadings.{functions_at, parts_at, sections_at, counts_agree, count_suffices, if_counts_agree}
use Rattle.smith_decode.specs.ModuleReadings.{with_customs, checked_at, module_at}
use Rattle.smith_decode.specs.Modules.{IsStated}
use Rattle.smith_decode.specs.TypeGroups.{AreAligned, declared_groups, groups_further}
use Rattle.smith_decode.proofs.TypeGroupLemmas.{groups_again, groups_aligned, groups_types_again, groups_further_again}
use Rattle.smith_decode.proofs.DataLemmas as data_segment
use Rattle.smith_decode.proofs.KeptLemmas.{kept_decodes}
use Rattle.smith_decode.proofs.DefinitionLemmas.{global_def_decodes, table_def_decodes}
use Rattle.smith_decode.proofs.ElementLemmas as element
use Rattle.smith_decode.proofs.CustomLemmas.{IsMore, IsEnd, DecodesTail, customs_sound, end_decodes, more_decodes}

-- the sections of a module, with custom sections between them (Modules)
abbrev pub AreBodies : Bodies → List ℕ → Type 0
AreBodies = IsMore 10 [] (IsList IsRunBody) (IsMore 11 [] (IsList IsSegment) IsEnd)

abbrev pub AreCounts : Counts → List ℕ → Type 0
AreCounts = IsMore 12 None IsStated AreBodies

abbrev pub AreStarts : Starts → List ℕ → Type 0
AreStarts = IsMore 8 None IsStated (IsMore 9 [] (IsList IsElementSegment) AreCounts)

abbrev pub AreGlobals : Globals → List ℕ → Type 0
AreGlobals = IsMore 6 [] (IsList IsGlobalDefinition) (IsMore 7 [] (IsList IsExportItem) AreStarts)

abbrev pub AreMemories : Memories → List ℕ → Type 0
AreMemories = IsMore 5 [] (IsList IsMemoryType) (IsMore 13 [] (IsList IsTagDefinition) AreGlobals)

abbrev pub AreFunctions : Functions → List ℕ → Type 0
AreFunctions = IsMore 3 [] (IsList IsIndex) (IsMore 4 [] (IsList IsTableDefinition) AreMemories)

abbrev pub AreParts : Parts → List ℕ → Type 0
AreParts = IsMore 1 [] (IsList IsDeclaredGroup) (IsMore 2 [] (IsList IsImportGroup) AreFunctions)

-- a decoded module as its parts
abbrev pub parts_of : Module → Parts
parts_of m = (
  declared_groups m.types m.further_supertypes,
  (
    m.imports,
    (
      m.functions,
      (
        m.tables,
        (
          m.memories,
          (
            m.tags,
            (
              m.globals,
              (
                m.exports,
                (
                  m.start,
                  (
                    m.elements,
                    (
                      m.data_count,
                      (m.bodies, (m.datas, tt)),
                    ),
                  ),
                ),
              ),
            ),
          ),
        ),
      ),
    ),
  ),
)

-- the bytes of a decoded module
pub record IsDecodedBinary (m : Module) (bytes : List ℕ) : Type 0 where
  pub form : Joined IsPreamble (AreParts (parts_of m)) bytes
  pub agrees : counts_agree m ≡ true
  pub suffices : count_suffices m ≡ true
  pub customs : HasCustoms m.customs form.second
  pub aligned : AreAligned m.types m.further_supertypes

-- these bytes
literal_sound : (literal bytes rest : List ℕ) → literal_at literal bytes ≡ Ok rest → bytes ≡ literal ++ rest
literal_sound [] bytes rest e = cc
literal_sound (byte ∷ literal) bytes rest e = step _ _ _ e (λ front first e. test_passed _ _ _ _ e (λ is e.
    let one = byte_sound bytes front.0 front.1 first in
    let same : front.0 ≡ byte = eqb-true front.0 byte is in
    one.0.whole ∙ ap (λ (piece : List ℕ). piece ++ front.1) one.0.spelled ∙ ap (λ (b : ℕ). b ∷ front.1) same
    ∙ ap (λ (more : List ℕ). byte ∷ more) (literal_sound literal front.1 rest e)))

literal_complete : (literal rest : List ℕ) → AllByRecursion (λ byte. byte < 256) literal → literal_at literal (literal ++ rest) ≡ Ok rest
literal_complete [] rest low = refl
literal_complete (byte ∷ literal) rest low = rw (lt-ltb byte 256 low.0, eq-eqb byte byte refl) (literal_complete literal rest low.1)

-- bodies
pub run_decodes : Decodes IsLocalRun run_at
unfolding run_at
run_decodes =
    joined_decodes local_run (λ run. run.count) (λ run. run.ty) (λ x y. refl) (λ x y. refl) (λ z. refl) (unsigned_decodes 32) val_decodes

body_content_decodes : DecodesWhole IsRunContent body_whole
unfolding body_whole
body_content_decodes = record {
  sound = λ bytes x e. step _ _ _ e (λ runs first e. test_passed _ _ _ _ e (λ few e. step _ _ _ e (λ instructions second e.
      let one = (list_decodes run_decodes).sound bytes runs.0 runs.1 first in
      let expression = (whole_decodes expr_decodes).sound runs.1 instructions second in
      let below : total runs.0 < 2 ^ 32 = ltb-true (total runs.0) (2 ^ 32) few in
      let same : body_of runs.0 instructions ≡ x = cc in
      subst (λ (body : Body). IsRunContent body bytes) same
      (below, record { first = one.piece; second = runs.1; is_first = one.spelled; is_second = expression; whole = one.whole }))));
  complete = λ x bytes h.
      rw (
        ap (list_at run_at) h.1.whole ∙ (list_decodes run_decodes).complete x.locals h.1.first h.1.second h.1.is_first,
        lt-ltb
            (total x.locals) (2 ^ 32) h.0,
        (whole_decodes expr_decodes).complete x.instructions h.1.second h.1.is_second,
      ) refl;
}

pub body_decodes : Decodes IsRunBody body_at
unfolding body_at
body_decodes = sized_decodes body_content_decodes

-- a number that a section states
stated_reads : Decodes IsStated (mapped_at (λ n. Some n) (unsigned_at 32))
stated_reads = record {
  sound = λ bytes x rest e. mapped_sound IsStated (λ n. Some n) (unsigned_decodes 32)
      (λ y piece h. record { number = y; is = refl; form = h }) bytes x rest e;
  complete = λ x piece rest h. rw ((unsigned_decodes 32).complete h.number piece rest h.form)
      (ap (λ (start : Option ℕ). Ok (start, rest)) (sym h.is));
}

stated_decodes : DecodesWhole IsStated index_whole
unfolding index_whole
stated_decodes = whole_decodes stated_reads

-- the sections of a module: one line for each
bodies_decode : DecodesTail (10 ∷ 11 ∷ []) AreBodies bodies_at
unfolding bodies_at
bodies_decode =
    more_decodes 10 (11 ∷ []) [] (λ e. omega arith) refl (whole_decodes (list_decodes body_decodes))
    (more_decodes 11 [] [] (λ e. omega arith) refl (whole_decodes (list_decodes data_segment.segment_decodes)) end_decodes)

counts_decode : DecodesTail (12 ∷ 10 ∷ 11 ∷ []) AreCounts counts_at
unfolding counts_at
counts_decode = more_decodes 12 (10 ∷ 11 ∷ []) None (λ e. omega arith) refl stated_decodes bodies_decode

starts_decode : DecodesTail (8 ∷ 9 ∷ 12 ∷ 10 ∷ 11 ∷ []) AreStarts starts_at
unfolding starts_at
starts_decode =
    more_decodes 8 (9 ∷ 12 ∷ 10 ∷ 11 ∷ []) None (λ e. omega arith) refl stated_decodes
    (more_decodes 9 (12 ∷ 10 ∷ 11 ∷ []) [] (λ e. omega arith) refl (whole_decodes (list_decodes element.segment_decodes)) counts_decode)

globals_decode : DecodesTail (6 ∷ 7 ∷ 8 ∷ 9 ∷ 12 ∷ 10 ∷ 11 ∷ []) AreGlobals globals_at
unfolding globals_at
globals_decode =
    more_decodes 6 (7 ∷ 8 ∷ 9 ∷ 12 ∷ 10 ∷ 11 ∷ []) [] (λ e. omega arith) refl (whole_decodes (list_decodes global_def_decodes))
    (more_decodes 7 (8 ∷ 9 ∷ 12 ∷ 10 ∷ 11 ∷ []) [] (λ e. omega arith) refl (whole_decodes (list_decodes export_decodes)) starts_decode)

memories_decode : DecodesTail (5 ∷ 13 ∷ 6 ∷ 7 ∷ 8 ∷ 9 ∷ 12 ∷ 10 ∷ 11 ∷ []) AreMemories memories_at
unfolding memories_at
memories_decode =
    more_decodes 5 (13 ∷ 6 ∷ 7 ∷ 8 ∷ 9 ∷ 12 ∷ 10 ∷ 11 ∷ []) [] (λ e. omega arith) refl (whole_decodes (list_decodes memory_decodes))
    (more_decodes 13 (6 ∷ 7 ∷ 8 ∷ 9 ∷ 12 ∷ 10 ∷ 11 ∷ []) [] (λ e. omega arith) refl
    (whole_decodes (list_decodes tag_def_decodes)) globals_decode)

functions_decode : DecodesTail (3 ∷ 4 ∷ 5 ∷ 13 ∷ 6 ∷ 7 ∷ 8 ∷ 9 ∷ 12 ∷ 10 ∷ 11 ∷ []) AreFunctions functions_at
unfolding functions_at
functions_decode =
    more_decodes 3 (4 ∷ 5 ∷ 13 ∷ 6 ∷ 7 ∷ 8 ∷ 9 ∷ 12 ∷ 10 ∷ 11 ∷ []) [] (λ e. omega arith) refl
    (whole_decodes (list_decodes (unsigned_decodes 32)))
    (more_decodes 4 (5 ∷ 13 ∷ 6 ∷ 7 ∷ 8 ∷ 9 ∷ 12 ∷ 10 ∷ 11 ∷ []) [] (λ e. omega arith) refl
    (whole_decodes (list_decodes table_def_decodes)) memories_decode)

pub parts_decode : DecodesTail (1 ∷ 2 ∷ 3 ∷ 4 ∷ 5 ∷ 13 ∷ 6 ∷ 7 ∷ 8 ∷ 9 ∷ 12 ∷ 10 ∷ 11 ∷ []) AreParts parts_at
unfolding parts_at
parts_decode =
    more_decodes 1 (2 ∷ 3 ∷ 4 ∷ 5 ∷ 13 ∷ 6 ∷ 7 ∷ 8 ∷ 9 ∷ 12 ∷ 10 ∷ 11 ∷ []) [] (λ e. omega arith) refl
    (whole_decodes (list_decodes group_decodes))
    (more_decodes 2 (3 ∷ 4 ∷ 5 ∷ 13 ∷ 6 ∷ 7 ∷ 8 ∷ 9 ∷ 12 ∷ 10 ∷ 11 ∷ []) [] (λ e. omega arith) refl
    (whole_decodes (list_decodes import_group_decodes)) functions_decode)

-- parts as a module, and a module as its parts
abbrev with_types : Parts → List (List DeclaredType) → Parts
with_types parts groups = (groups, parts.1)

pub parts_again : (parts : Parts) → parts_of (module_of parts) ≡ parts
parts_again parts = ap (with_types parts) (groups_again parts.0)

abbrev with_groups : Module → List (List SubType) → List (List (List ℕ)) → Module
with_groups m types further = record m { types = types; further_supertypes = further; customs = [] }

module_again : (m : Module) → AreAligned m.types m.further_supertypes → module_of (parts_of m) ≡ with_customs m []
module_again m aligned =
    let groups = declared_groups m.types m.further_supertypes in
    ap (λ (types : List (List SubType)). with_groups m types (groups_further groups)) (groups_types_again m.types m.further_supertypes)
    ∙ ap (with_groups m m.types) (groups_further_again m.types m.further_supertypes aligned)

-- the sections up to the end as a module
abbrev AreAll : Module → List ℕ → Type 0
AreAll m bytes = AreParts (parts_of m) bytes × AreAligned m.types m.further_supertypes

sections_read : (bytes : List ℕ) (m : Module) → sections_at bytes ≡ Ok m → AreAll m bytes
unfolding sections_at
sections_read bytes m e = step _ _ _ e (λ parts first e.
    let same : module_of parts ≡ m = cc in
    let form : AreParts (parts_of (module_of parts)) bytes = subst (λ (p : Parts). AreParts p bytes) (sym (parts_again parts))
    (parts_decode.sound bytes parts first) in
    subst (λ (x : Module). AreAll x bytes) same (form, groups_aligned parts.0))

-- a module after its preamble
record IsChecked (m : Module) (bytes : List ℕ) : Type 0 where
  pub form : AreParts (parts_of m) bytes
  pub agrees : counts_agree m ≡ true
  pub suffices : count_suffices m ≡ true
  pub aligned : AreAligned m.types m.further_supertypes

agreed_is : (m agreed : Module) → if_counts_agree m ≡ Ok agreed
    → (m ≡ agreed) × (counts_agree m ≡ true) × (count_suffices m ≡ true)
agreed_is m agreed e = test_passed _ _ _ _ e (λ agrees e. test_passed _ _ _ _ e (λ suffices e.
    let same : m ≡ agreed = cc in (same, agrees, suffices)))

checked_sound : (bytes : List ℕ) (x : Module) → checked_at bytes ≡ Ok x → IsChecked x bytes
unfolding checked_at
checked_sound bytes x e = step _ _ _ e (λ settled first e. step _ _ _ e (λ m second e.
    let customs = customs_sound bytes settled first in
    let agreed = agreed_is m x e in
    let all = sections_read settled m second in
    subst (λ (y : Module). IsChecked y bytes) agreed.0 (record {
      form = subst (AreParts (parts_of m)) (sym customs.whole)
          (parts_decode.prepend (parts_of m) customs.piece settled customs.spelled all.0);
      agrees = agreed.1;
      suffices = agreed.2;
      aligned = all.1;
    })))

checked_complete : (x : Module) (bytes : List ℕ) → IsChecked x bytes → checked_at bytes ≡ Ok (with_customs x [])
unfolding checked_at sections_at
checked_complete x bytes h =
    let one = parts_decode.complete (parts_of x) bytes h.form in
    rw (one.skipped, one.is_read, h.agrees, h.suffices) (ap Ok (module_again x h.aligned))

-- a module
pub module_decodes : DecodesWhole IsDecodedBinary module_at
unfolding module_at preamble_at
module_decodes = record {
  sound = λ bytes x e. step _ _ _ e (λ rest first e. step _ _ _ e (λ m second e. step _ _ _ e (λ customs third e.
      let checked = checked_sound rest m second in
      let same : with_customs m customs ≡ x = cc in
      subst (λ (y : Module). IsDecodedBinary y bytes) same (record {
        form = record {
          first = preamble;
          second = rest;
          is_first = refl;
          is_second = checked.form;
          whole = literal_sound preamble bytes rest first;
        };
        agrees = checked.agrees;
        suffices = checked.suffices;
        customs = kept_decodes.sound rest customs third;
        aligned = checked.aligned;
      }))));
  complete = λ x bytes h.
      let rest = h.form.second in
      let checked = checked_complete x rest (record {
        form = h.form.is_second;
        agrees = h.agrees;
        suffices = h.suffices;
        aligned = h.aligned;
      }) in
      let whole : bytes ≡ preamble ++ rest = h.form.whole ∙ ap (λ (first : List ℕ). first ++ rest) h.form.is_first in
      ap (λ (b : List ℕ). preamble_at b >>= (λ after. checked_at after >>= (λ m. kept_at after
      >>= (λ customs. Ok (with_customs m customs))))) whole
      ∙ rw (checked, kept_decodes.complete x.customs rest h.customs) refl;
}
