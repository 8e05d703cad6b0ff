-- A module whose items are right is valid.
use Rattle.smith_check_module.proofs.Common.{[], All, ap, arith, canonical_index, Context, EntitySpaces, EntityType, Err, Error, ExportKind}
use Rattle.smith_check_module.proofs.Common.{Features, get_or, GlobalType, IfOk, imported_spaces, Instr, IsEntityAt, IsFuncTypeIndex}
use Rattle.smith_check_module.proofs.Common.{IsGlobalValid, IsMemoryValid, IsTableValid, length, List, map, MatchOption, None, Ok, refl}
use Rattle.smith_check_module.proofs.Common.{Result, same_Some, seeing, seen_by_segments, slice_get, slice_get_within, Some, subst, suc}
use Rattle.smith_check_module.proofs.Common.{sym, ℕ, ◌+◌, ◌<◌, ◌∙◌, ◌∷◌, ◌≡◌}
use Rattle.std.proofs.Common.{Option, zero}
use Rattle.std.specs.Prelude.{IfSome}
use Rattle.std.specs.Option.{option_map}
use Rattle.std.proofs.lemmas.Option.{slice_get-get_or, slice_get-map}
use Rattle.smith_types.specs.Entities.{AreCountsEnabled}
use Rattle.smith_types.specs.Exports.{AreExportsValid, IsStartValid}
use Rattle.smith_types.specs.Expressions.{seen_by_global, seen_by_tables}
use Rattle.smith_types.proofs.ListLemmas.{mapped_at}
use Rattle.smith_decode.specs.Data.{Data}
use Rattle.smith_decode.specs.Modules.{Syntax}
use Rattle.smith_check_types.specs.Renamed.{renamed_val}
use Rattle.smith_check_types.proofs.CanonicalLemmas.{some_at}
use Rattle.smith_check_module.specs.Contexts.{context_in, spaces_in}
use Rattle.smith_check_module.specs.SectionFaults.{IsExportRight, IsFirstBy, IsFirstFault, IsItemRight, IsPartRight, IsRightAt, parts}
use Rattle.smith_check_module.specs.ValidModules.{AreDefinitionsValid, AreEntitiesValid, AreGlobalsInitialised, AreSectionsValid}
use Rattle.smith_check_module.specs.ValidModules.{AreSegmentsValid, IsConstant, IsDataModeValid, IsElementValid, IsTableInitialised}
use Rattle.smith_check_module.specs.declared.faults.Part.{Part}
use Rattle.smith_check_module.specs.declared.faults.Part.TheVariants as part
use Rattle.smith_check_module.specs.declared.faults.SectionFault.{SectionFault}
use Rattle.smith_check_module.proofs.SignatureLemmas.{all_at}

all_from_right : {A : Type 0} (P : A → Type 0) (xs : List A) → ((index : ℕ) → IsRightAt xs index P) → All P xs
all_from_right P xs right = λ i d inside. right i (get_or xs i d) (slice_get-get_or xs i d inside)

right_from_all : {A : Type 0} (P : A → Type 0) (xs : List A) → All P xs → (index : ℕ) → IsRightAt xs index P
right_from_all P xs all = λ index item at. all_at P xs index item all at

-- a part of a list of properties of all parts
pub part_right : (P : Part → Type 0) → All P parts → (kind : Part) → P kind
part_right P all part.Tags = all 0 part.Tags (omega arith)
part_right P all part.Functions = all 1 part.Tags (omega arith)
part_right P all part.Tables = all 2 part.Tags (omega arith)
part_right P all part.Memories = all 3 part.Tags (omega arith)
part_right P all part.Globals = all 4 part.Tags (omega arith)
part_right P all part.TableInitials = all 5 part.Tags (omega arith)
part_right P all part.GlobalInitials = all 6 part.Tags (omega arith)
part_right P all part.Exports = all 7 part.Tags (omega arith)
part_right P all part.Start = all 8 part.Tags (omega arith)
part_right P all part.Elements = all 9 part.Tags (omega arith)
part_right P all part.Datas = all 10 part.Tags (omega arith)

module _ (context : Context) (indices : List ℕ) (spaces : EntitySpaces) (m : Syntax) where
  pub entities_right : IsPartRight context indices spaces m part.Tags → IsPartRight context indices spaces m part.Functions
      → IsPartRight context indices spaces m part.Tables → IsPartRight context indices spaces m part.Memories
      → IsPartRight context indices spaces m part.Globals → AreEntitiesValid context.features context.types spaces
  entities_right tags funcs tables memories globals = record {
    tags = all_from_right (IsFuncTypeIndex context.types) spaces.tags (λ index tag at. (tags index tag at).0);
    funcs = all_from_right (IsFuncTypeIndex context.types) spaces.funcs funcs;
    tables = all_from_right (IsTableValid context.features context.types) spaces.tables (λ index table at. (tables index table at).0);
    memories = all_from_right (IsMemoryValid context.features) spaces.memories (λ index memory at. (memories index memory at).0);
    globals = all_from_right (IsGlobalValid context.features context.types) spaces.globals globals;
  }

  counts_right : ((kind : Part) → IsPartRight context indices spaces m kind) → AreCountsEnabled context.features spaces
  counts_right right = record {
    tags = λ some. let (tag, at) = some_at spaces.tags 0 some in (right part.Tags 0 tag at).1;
    several_tables = λ some. let (table, at) = some_at spaces.tables 1 some in (right part.Tables 1 table at).1 (omega arith);
    several_memories = λ some. let (memory, at) = some_at spaces.memories 1 some in (right part.Memories 1 memory at).1 (omega arith);
  }

  IsGlobalAt : ℕ → GlobalType × List Instr → Type 0
  IsGlobalAt index global = IsConstant (seeing context (seen_by_global context index)) indices
      (renamed_val (canonical_index indices) global.0.val_type) global.1

  globals_right : (globals : List (GlobalType × List Instr)) (first : ℕ)
      → ((index : ℕ) → IsRightAt globals index (IsGlobalAt (first + index)))
      → AreGlobalsInitialised context indices first globals
  unfolding IsGlobalAt
  globals_right [] first right = tt
  globals_right (global ∷ globals) first right = (
    (let same : first + 0 ≡ first = omega arith in subst (λ (n : ℕ). IsGlobalAt n global) same (right 0 global refl)),
    globals_right globals (first + 1)
        (λ index item at. let same : first + suc index ≡ first + 1 + index = omega arith in
        subst (λ (n : ℕ). IsGlobalAt n item) same (right (suc index) item at)),
  )

  globals_from : (globals : List (GlobalType × List Instr)) (first : ℕ) → AreGlobalsInitialised context indices first globals
      → (index : ℕ) → IsRightAt globals index (IsGlobalAt (first + index))
  unfolding IsGlobalAt
  globals_from [] first valid index item at = absurd cc
  globals_from (global ∷ globals) first valid zero item at =
      let same : first ≡ first + 0 = omega arith in
      subst (λ (n : ℕ). IsGlobalAt n item) same (subst (λ (g : GlobalType × List Instr). IsGlobalAt first g) (same_Some global item at)
      valid.0)
  globals_from (global ∷ globals) first valid (suc index) item at =
      let same : first + 1 + index ≡ first + suc index = omega arith in
      subst (λ (n : ℕ). IsGlobalAt n item) same (globals_from globals (first + 1) valid.1 index item at)

  name : List ℕ × ExportKind × ℕ → List ℕ
  name one = one.0

  exports_right : ((index : ℕ) → IsRightAt m.exports index (IsExportRight spaces m.exports index))
      → AreExportsValid spaces m.exports
  exports_right right = record {
    stand = all_from_right (λ (one : List ℕ × ExportKind × ℕ). (ty : EntityType) × IsEntityAt spaces one.1 one.2 ty) m.exports
        (λ index one at. (right index one at).stands);
    distinct = record {
      once = λ i j item at there.
          let (one, at_i, named) = mapped_at m.exports i item at in
          let (two, at_j, also) = mapped_at m.exports j item there in
          let low : i < j → ⊥ = λ before. (right j two at_j).unused i one before at_i (named ∙ sym also) in
          let high : j < i → ⊥ = λ before. (right i one at_i).unused j two before at_j (also ∙ sym named) in
          omega arith;
    };
  }

  exports_from : AreExportsValid spaces m.exports → (index : ℕ) → IsRightAt m.exports index (IsExportRight spaces m.exports index)
  exports_from valid index one at = record {
    stands = all_at (λ (one : List ℕ × ExportKind × ℕ). (ty : EntityType) × IsEntityAt spaces one.1 one.2 ty) m.exports index one
        valid.stand at;
    unused = λ earlier other before there same.
        let named : (k : ℕ) (e : List ℕ × ExportKind × ℕ) → slice_get m.exports k ≡ Some e
        → slice_get (map (λ (one : List ℕ × ExportKind × ℕ). one.0) m.exports) k ≡ Some e.0 =
        λ k e is. slice_get-map (λ (one : List ℕ × ExportKind × ℕ). one.0) m.exports k
        ∙ ap (option_map (λ (one : List ℕ × ExportKind × ℕ). one.0)) is in
        let once : earlier ≡ index = valid.distinct.once earlier index one.0
        (named earlier other there ∙ ap (λ (n : List ℕ). Some n) same) (named index one at) in
        absurd (omega arith);
  }

  definitions_right : ((kind : Part) → IsPartRight context indices spaces m kind) → AreDefinitionsValid context indices m
  unfolding IsGlobalAt
  definitions_right right = record {
    tables = all_from_right (IsTableInitialised (seeing context (seen_by_tables context)) indices) m.tables (right part.TableInitials);
    globals = globals_right m.globals (length (imported_spaces m.imports).globals) (right part.GlobalInitials);
  }

  segments_right : ((kind : Part) → IsPartRight context indices spaces m kind) → AreSegmentsValid context indices spaces m
  segments_right right = record {
    elements = all_from_right (IsElementValid (seeing context (seen_by_segments context)) indices spaces) m.elems (right part.Elements);
    datas = all_from_right (λ (segment : Data). IsDataModeValid (seeing context (seen_by_segments context)) indices spaces segment.mode)
        m.datas (right part.Datas);
  }

  -- the parts of a valid module are right
  right_from : AreEntitiesValid context.features context.types spaces → AreCountsEnabled context.features spaces
      → AreDefinitionsValid context indices m → AreExportsValid spaces m.exports → IsStartValid context.types spaces.funcs m.start
      → AreSegmentsValid context indices spaces m → (kind : Part) → IsPartRight context indices spaces m kind
  unfolding IsGlobalAt
  right_from entities counts definitions exports start segments part.Tags = λ index tag at. (
    all_at (IsFuncTypeIndex context.types) spaces.tags index tag entities.tags at,
    counts.tags (let inside = slice_get_within spaces.tags index tag at in omega arith),
  )
  right_from entities counts definitions exports start segments part.Functions =
      right_from_all (IsFuncTypeIndex context.types) spaces.funcs entities.funcs
  right_from entities counts definitions exports start segments part.Tables = λ index table at. (
    all_at (IsTableValid context.features context.types) spaces.tables index table entities.tables at,
    λ some. counts.several_tables (let inside = slice_get_within spaces.tables index table at in omega arith),
  )
  right_from entities counts definitions exports start segments part.Memories = λ index memory at. (
    all_at (IsMemoryValid context.features) spaces.memories index memory entities.memories at,
    λ some. counts.several_memories (let inside = slice_get_within spaces.memories index memory at in omega arith),
  )
  right_from entities counts definitions exports start segments part.Globals =
      right_from_all (IsGlobalValid context.features context.types) spaces.globals entities.globals
  right_from entities counts definitions exports start segments part.TableInitials =
      right_from_all (IsTableInitialised (seeing context (seen_by_tables context)) indices) m.tables definitions.tables
  right_from entities counts definitions exports start segments part.GlobalInitials =
      globals_from m.globals (length (imported_spaces m.imports).globals) definitions.globals
  right_from entities counts definitions exports start segments part.Exports = exports_from exports
  right_from entities counts definitions exports start segments part.Start = λ index first. start
  right_from entities counts definitions exports start segments part.Elements =
      right_from_all (IsElementValid (seeing context (seen_by_segments context)) indices spaces) m.elems segments.elements
  right_from entities counts definitions exports start segments part.Datas =
      right_from_all (λ (segment : Data). IsDataModeValid (seeing context (seen_by_segments context)) indices spaces segment.mode) m.datas
      segments.datas

module _ (features : Features) (indices : List ℕ) (m : Syntax) where
  sections_right : All (λ kind. IsPartRight (context_in features indices m) indices (spaces_in indices m) m kind) parts
      → AreSectionsValid features indices m
  sections_right all =
      let right = part_right (λ kind. IsPartRight (context_in features indices m) indices (spaces_in indices m) m kind) all in
      record {
        entities = entities_right (context_in features indices m) indices (spaces_in indices m) m (right part.Tags) (right part.Functions)
            (right part.Tables) (right part.Memories) (right part.Globals);
        counts = counts_right (context_in features indices m) indices (spaces_in indices m) m right;
        definitions = definitions_right (context_in features indices m) indices (spaces_in indices m) m right;
        exports = exports_right (context_in features indices m) indices (spaces_in indices m) m (right part.Exports);
        start = right part.Start 0 refl;
        segments = segments_right (context_in features indices m) indices (spaces_in indices m) m right;
      }

  sections_wrong : (fault : SectionFault)
      → IsFirstFault features indices m fault → AreSectionsValid features indices m → ⊥
  sections_wrong fault first valid =
      first.first.wrong (right_from (context_in features indices m) indices (spaces_in indices m) m valid.entities valid.counts
      valid.definitions valid.exports valid.start valid.segments fault.part fault.index)

  decides : (found : Result (Option SectionFault) Error)
      → IfOk found (λ answer. MatchOption answer
      (All (λ kind. IsPartRight (context_in features indices m) indices (spaces_in indices m) m kind) parts)
      (λ fault. IsFirstFault features indices m fault))
      → IfOk found (λ answer. MatchOption answer (AreSectionsValid features indices m)
      (λ fault. ¬ AreSectionsValid features indices m))
      × IfOk found (λ answer. IfSome answer (λ fault. IsFirstFault features indices m fault))
  decides (Ok None) answer = (sections_right answer, tt)
  decides (Ok (Some fault)) answer = (sections_wrong fault answer, answer)
  decides (Err e) answer = (tt, tt)

  -- the answer of the check, over the context and the index spaces of the code
  pub decided : (context : Context) (spaces : EntitySpaces) (found : Result (Option SectionFault) Error)
      → context ≡ context_in features indices m → spaces ≡ spaces_in indices m
      → IfOk found (λ answer. MatchOption answer (All (λ kind. IsPartRight context indices spaces m kind) parts)
      (λ fault. IsFirstBy (IsItemRight context indices spaces m) fault))
      → IfOk found (λ answer. MatchOption answer (AreSectionsValid features indices m)
      (λ fault. ¬ AreSectionsValid features indices m))
      × IfOk found (λ answer. IfSome answer (λ fault. IsFirstFault features indices m fault))
  decided context spaces found same equal answer =
      decides found (subst (λ (s : EntitySpaces). IfOk found (λ answer. MatchOption answer
      (All (λ kind. IsPartRight (context_in features indices m) indices s m kind) parts)
      (λ fault. IsFirstBy (IsItemRight (context_in features indices m) indices s m) fault))) equal
      (subst (λ (c : Context). IfOk found (λ answer. MatchOption answer (All (λ kind. IsPartRight c indices spaces m kind) parts)
      (λ fault. IsFirstBy (IsItemRight c indices spaces m) fault))) same answer))
