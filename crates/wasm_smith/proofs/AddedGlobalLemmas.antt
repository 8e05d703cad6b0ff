-- A valid module stays valid with one more global, or several.
use Rattle.wasm_smith.proofs.Common.{[], All-append, All-cons, All-nil, All-weaker, all_kept, ap, AreExportsValid-grown, AreSpacesGrown}
use Rattle.wasm_smith.proofs.Common.{arith, Bool, ConstInstr, Context, ElementSegment, false, Features, GlobalType, if◌then◌else◌, inl, inr}
use Rattle.wasm_smith.proofs.Common.{IsConstExpr, IsContextGrown, IsCounterGlobal, IsValid, length, List, module_features, module_imports}
use Rattle.wasm_smith.proofs.Common.{module_spaces, ModuleParts, refl, rules, slice_get, subst, sym, true, ValType, ℕ, ◌++◌, ◌+◌, ◌∙◌, ◌∷◌}
use Rattle.wasm_smith.proofs.Common.{◌≡◌, ◌≤◌}
use Rattle.std.proofs.Common.{Some}
use Rattle.std.specs.List.{All}
use Rattle.std.proofs.lemmas.List.{length-append, append_assoc}
use Rattle.std.proofs.lemmas.List.Elements.{All-head, All-tail}
use Rattle.smith_types.specs.Imports.{Defines}
use Rattle.smith_types.specs.Entities.{IsGlobalValid}
use Rattle.smith_types.specs.ValidTypes.{IsValTypeValid}
use Rattle.smith_types.specs.Expressions.{seeing, seen_by_global, seen_by_segments, seen_by_tables}
use Rattle.smith_types.specs.Segments.{IsElementSegmentValid, IsDataValid}
use Rattle.smith_types.specs.Syntax.segments.DataSegment.{DataSegment}
use Rattle.smith_types.proofs.ListLemmas.{slice_get-grown, slice_get-last, slice_get-push}
use Rattle.smith_types.proofs.EntityGrowthLemmas.{no_fewer}
use Rattle.smith_types.proofs.ExpressionGrowthLemmas.{IsConstExpr-grown}
use Rattle.smith_types.proofs.SegmentGrowthLemmas.{IsElementSegmentValid-grown, IsDataValid-grown}
use Rattle.smith_module_rules.specs.Module.{IsGlobalDefined, module_context}
use Rattle.smith_module_rules.specs.Module.{global_context, segment_context, table_context}
use Rattle.wasm_smith.specs.Termination.{counter}
use Rattle.wasm_smith.specs.Sinks.{sink}
use Rattle.wasm_smith.specs.AddedGlobals.{added_types, added_definitions}
use Rattle.smith_module_rules.proofs.InitialLemmas.{IsTableInitialised-grown}

-- a module with one more global of a type, defined by this initialiser, and with these counters
abbrev pub with_defined : GlobalType → List ConstInstr → List ℕ → ModuleParts → ModuleParts
with_defined global initial counters m = record m {
  globals = m.globals ++ global ∷ [];
  defined_globals = m.defined_globals ++ (length m.globals, initial) ∷ [];
  fuel_globals = counters;
}

-- a list with nothing added is the same
no_more : {A : Type 0} (xs : List A) → xs ++ [] ≡ xs
no_more xs = search rules

-- a valid module has as many globals as it imports and defines
pub all_globals : (m : ModuleParts) → IsValid m → length m.globals ≡ length (module_imports m).globals + length m.defined_globals
all_globals m valid =
    let spaces = valid.spaces.globals in
    ap length spaces.parts ∙ length-append (module_imports m).globals spaces.defined ∙ ap (λ n. length (module_imports m).globals + n)
    spaces.count_is

-- counters of a valid module may still be counters, with one more global
pub still_counters : (m : ModuleParts) (global : GlobalType) → IsValid m
    → All (IsCounterGlobal (m.globals ++ global ∷ []) (length (module_imports m).globals)) m.fuel_globals
still_counters m global valid =
    let imported = length (module_imports m).globals in
    All-weaker (IsCounterGlobal m.globals imported) (IsCounterGlobal (m.globals ++ global ∷ []) imported)
    (λ index h. record { defined = h.defined; stands = slice_get-grown m.globals (global ∷ []) index counter h.stands })
    m.fuel_globals valid.bodies.counters

module _ (global : GlobalType) (initial : List ConstInstr) (counters : List ℕ) (old : ModuleParts) (valid : IsValid old)
    (given : IsConstExpr (global_context (with_defined global initial counters old) (length old.globals)) global.val_type initial)
    (of_type : IsGlobalValid (module_features old) old.types global)
    (counting : All (IsCounterGlobal (old.globals ++ global ∷ []) (length (module_imports old).globals)) counters) where
  abbrev new : ModuleParts
  new = with_defined global initial counters old

  -- a context of the old module grows into one of the new, if at least as much is visible
  context_grown : (visible wider : ℕ) → visible ≤ wider → IsContextGrown (seeing (module_context old) visible)
      (seeing (module_context new) wider)
  context_grown visible wider more = record {
    features = refl;
    types = all_kept old.types;
    funcs = all_kept old.funcs;
    globals = record { more = global ∷ []; parts = refl };
    imported_funcs = refl;
    imported_globals = refl;
    visible = more;
  }

  global_grown : (place index : ℕ) (expression : List ConstInstr) → IsGlobalDefined old place index expression
      → IsGlobalDefined new place index expression
  global_grown place index expression h =
      let seen = seen_by_global (module_context old) index in
      record {
        in_order = h.in_order;
        global = h.global;
        stands = slice_get-grown old.globals (global ∷ []) index h.global h.stands;
        initialised = IsConstExpr-grown (global_context old index) (global_context new index) (context_grown seen seen (omega arith))
            h.global.val_type expression h.initialised;
      }

  last_defined : IsGlobalDefined new (length old.defined_globals) (length old.globals) initial
  last_defined = record {
    in_order = all_globals old valid;
    global = global;
    stands = slice_get-last old.globals global;
    initialised = given;
  }

  globals_defined_more : (place index : ℕ) (expression : List ConstInstr) → slice_get new.defined_globals place ≡ Some (index, expression)
      → IsGlobalDefined new place index expression
  globals_defined_more place index expression at =
      elim (slice_get-push old.defined_globals (length old.globals, initial) place (index, expression) at) [
        | inl was ↦ global_grown place index expression (valid.definitions.globals place index expression was)
        | inr (is, same) ↦ subst (λ (one : ℕ × List ConstInstr). IsGlobalDefined new place one.0 one.1) same
            (subst (λ n. IsGlobalDefined new n (length old.globals) initial) (sym is) last_defined)
      ]

  segments_grown : IsContextGrown (segment_context old) (segment_context new)
  segments_grown = context_grown (seen_by_segments (module_context old)) (seen_by_segments (module_context new))
      (wider (module_features old).gc)
    where
      wider : (gc : Bool) → (if gc then length old.globals else length (module_imports old).globals) ≤
          (if gc then length new.globals else length (module_imports old).globals)
      wider true = no_fewer old.globals (global ∷ [])
      wider false = omega arith

  spaces_grown : AreSpacesGrown (module_spaces old) (module_spaces new)
  spaces_grown = record {
    tags = all_kept old.tags;
    funcs = all_kept old.funcs;
    tables = all_kept old.tables;
    memories = all_kept old.memories;
    globals = record { more = global ∷ []; parts = refl };
  }

  element_grown : (segment : ElementSegment) → IsElementSegmentValid (segment_context old) old.tables segment
      → IsElementSegmentValid (segment_context new) old.tables segment
  element_grown segment h =
      subst (λ tables. IsElementSegmentValid (segment_context new) tables segment) (no_more old.tables)
      (IsElementSegmentValid-grown (segment_context old) (segment_context new) segments_grown old.tables [] segment h)

  data_grown : (segment : DataSegment) → IsDataValid (segment_context old) old.memories segment
      → IsDataValid (segment_context new) old.memories segment
  data_grown segment h =
      subst (λ memories. IsDataValid (segment_context new) memories segment) (no_more old.memories)
      (IsDataValid-grown (segment_context old) (segment_context new) segments_grown old.memories [] segment h)

  globals_valid : All (IsGlobalValid (module_features old) old.types) new.globals
  globals_valid =
      let P = IsGlobalValid (module_features old) old.types in
      All-append P old.globals (global ∷ []) valid.entities.globals (All-cons P global [] of_type (All-nil P))

  defines_more : Defines (module_imports old).globals (length new.defined_globals) new.globals
  defines_more =
      let spaces = valid.spaces.globals in
      let one = length-append spaces.defined (global ∷ []) in
      let also = length-append old.defined_globals ((length old.globals, initial) ∷ []) in
      let were = spaces.count_is in
      record {
        defined = spaces.defined ++ global ∷ [];
        count_is = omega (arith, one, also, were);
        parts = ap (λ xs. xs ++ global ∷ []) spaces.parts ∙ append_assoc (module_imports old).globals spaces.defined (global ∷ []);
      }

  pub defined_valid : IsValid new
  defined_valid = record {
    types = valid.types;
    imports = valid.imports;
    spaces = record {
      imports = valid.spaces.imports;
      tags = valid.spaces.tags;
      funcs = valid.spaces.funcs;
      tables = valid.spaces.tables;
      memories = valid.spaces.memories;
      globals = defines_more;
    };
    entities = record {
      tags = valid.entities.tags;
      funcs = valid.entities.funcs;
      tables = valid.entities.tables;
      memories = valid.entities.memories;
      globals = globals_valid;
    };
    counts = record {
      tags = valid.counts.tags;
      several_tables = valid.counts.several_tables;
      several_memories = valid.counts.several_memories;
    };
    definitions = record {
      tables = λ place initial at.
          let (table, stands, h) = valid.definitions.tables place initial at in (
            table,
            stands,
            IsTableInitialised-grown (table_context old) (table_context new)
                (context_grown (seen_by_tables (module_context old)) (seen_by_tables (module_context new)) (omega arith)) table initial h,
          );
      globals = globals_defined_more;
    };
    exports = AreExportsValid-grown (module_spaces old) (module_spaces new) spaces_grown old.exports valid.exports;
    start = valid.start;
    elems = All-weaker (IsElementSegmentValid (segment_context old) old.tables) (IsElementSegmentValid (segment_context new) old.tables)
        element_grown old.elems valid.elems;
    data_segments = All-weaker (IsDataValid (segment_context old) old.memories) (IsDataValid (segment_context new) old.memories) data_grown
        old.datas valid.data_segments;
    bodies = record { each = valid.bodies.each; bodies = valid.bodies.bodies; counters = counting };
  }

-- a global of this type with this initialiser is valid in each module with these features and types
pub record IsAddable (features : Features) (types : ℕ) (one : ValType × ConstInstr) : Type 0 where
  pub value : IsValTypeValid features types one.0
  pub given : (context : Context) → context.features ≡ features → IsConstExpr context one.0 (one.1 ∷ [])

-- a module with these globals and definitions after its own
abbrev with_more : List GlobalType → List (ℕ × List ConstInstr) → ModuleParts → ModuleParts
with_more globals definitions m = record m {
  globals = m.globals ++ globals;
  defined_globals = m.defined_globals ++ definitions;
}

same_parts : (m : ModuleParts) (globals globals' : List GlobalType) (definitions definitions' : List (ℕ × List ConstInstr))
    → globals ≡ globals' → definitions ≡ definitions'
    → record m { globals = globals; defined_globals = definitions } ≡ record m { globals = globals'; defined_globals = definitions' }
same_parts m globals globals' definitions definitions' e f = rw (e, f) refl

one_valid : (one : ValType × ConstInstr) (m : ModuleParts) → IsAddable (module_features m) (length m.types) one → IsValid m
    → IsValid (with_defined (sink one.0) (one.1 ∷ []) m.fuel_globals m)
one_valid one m addable valid =
    defined_valid (sink one.0) (one.1 ∷ []) m.fuel_globals m valid (addable.given _ refl)
    (record { value = addable.value; shared = λ never. cc }) (still_counters m (sink one.0) valid)

all_valid : (added : List (ValType × ConstInstr)) (m : ModuleParts) → All (IsAddable (module_features m) (length m.types)) added → IsValid m
    → IsValid (with_more (added_types added) (added_definitions (length m.globals) added) m)
all_valid [] m addable valid = subst IsValid (same_parts m _ _ _ _ (sym (no_more m.globals)) (sym (no_more m.defined_globals))) valid
all_valid (one ∷ rest) m addable valid =
    let P = IsAddable (module_features m) (length m.types) in
    let next = with_defined (sink one.0) (one.1 ∷ []) m.fuel_globals m in
    let definition : ℕ × List ConstInstr = (length m.globals, one.1 ∷ []) in
    let longer = length-append m.globals (sink one.0 ∷ []) in
    subst IsValid
    (same_parts m _ _ _ _ (append_assoc m.globals (sink one.0 ∷ []) (added_types rest))
    (ap (λ n. (m.defined_globals ++ definition ∷ []) ++ added_definitions n rest) longer
    ∙ append_assoc m.defined_globals (definition ∷ []) (added_definitions (length m.globals + 1) rest)))
    (all_valid rest next (All-tail P one rest addable) (one_valid one m (All-head P one rest addable) valid))

-- a valid module stays valid with several more globals, of which the first has this index
pub all_added_valid : (added : List (ValType × ConstInstr)) (first : ℕ) (definitions : List (ℕ × List ConstInstr)) (old new : ModuleParts)
    → All (IsAddable (module_features old) (length old.types)) added → definitions ≡ added_definitions first added
    → first ≡ length old.globals → new ≡ with_more (added_types added) definitions old → IsValid old → IsValid new
all_added_valid added first definitions old after addable defined next is valid =
    let same : definitions ≡ added_definitions (length old.globals) added = defined ∙ ap (λ n. added_definitions n added) next in
    subst IsValid (sym is)
    (subst (λ definitions. IsValid (with_more (added_types added) definitions old)) (sym same) (all_valid added old addable valid))
