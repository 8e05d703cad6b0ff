-- The written sections of a module are those of its parts.
use Rattle.std.proofs.Common.{◌≡◌, ℕ, ◌-◌, Bool, true, false, List, [], ◌∷◌, ◌++◌, Option, Some, None, length, ◌≤◌, refl, sym, subst, ap}
use Rattle.std.proofs.Common.{◌∙◌, arith, append_assoc, append-nil}
use Rattle.std.specs.Prelude.{map, ◌||◌, is_some}
use Rattle.std.specs.List.{zip}
use Rattle.std.proofs.lemmas.Bool.{ltb-false}
use Rattle.std.proofs.lemmas.List.{length-drop, length-map}
use Rattle.smith_binary.specs.Numbers.{IsUnsigned}
use Rattle.smith_binary.specs.Pieces.{Joined, Each, IsList, IsSection}
use Rattle.smith_module_rules.specs.Module.{ModuleParts}
use Rattle.wasm_smith.specs.Bodies.{HasBodies}
use Rattle.smith_types.specs.Syntax.imports.Imports.{Imports}
use Rattle.smith_types.specs.Imports.{flattened}
use Rattle.smith_binary_sections.specs.Types.{IsRecGroup, IsRecGroupWritten, group_at}
use Rattle.smith_binary_sections.specs.Instructions.{IsIndex}
use Rattle.smith_binary_sections.specs.Entities.{IsMemoryType, IsTagType}
use Rattle.smith_binary_sections.specs.Imports.{IsImportGroup, IsImports}
use Rattle.smith_binary_sections.specs.Definitions.{IsTable, IsTableWritten, IsGlobal, initialised_table, initialised_global}
use Rattle.smith_binary_sections.specs.Exports.{IsExport}
use Rattle.smith_binary_sections.specs.Elements.{IsElem, IsElemWritten, elem_of}
use Rattle.smith_binary_sections.specs.Data.{IsData, IsDataWritten, data_of}
use Rattle.smith_binary_sections.specs.Sections.{IsOptionalSection, IsListSection, IsSectionIf}
use Rattle.smith_binary_sections.specs.Modules.{Contents, IsPreamble, IsStartSection, IsDataCount, IsModuleAround}
use Rattle.smith_binary_sections.proofs.ListLemmas.{list_as, list_mapped}
use Rattle.smith_binary_sections.proofs.SpelledFormLemmas.{elem_spelled, data_spelled, group_spelled, table_spelled}
use Rattle.smith_binary_module.specs.Contents.{defined, contents_of}
use Rattle.smith_binary_module.specs.Layout.{is_filled, id_if, writes_types, writes_imports, writes_data_count, section_ids, IsAnySection}
use Rattle.smith_binary_module.specs.Layout.{HasSections}
use Rattle.smith_binary_module.specs.Written.{IsFront, IsMiddle, IsBack}

-- pieces in order, in another grouping
regrouped : {A B C : List ℕ → Type 0} {piece : List ℕ} → Joined (Joined A B) C piece → Joined A (Joined B C) piece
regrouped h = record {
  first = h.is_first.first;
  second = h.is_first.second ++ h.second;
  is_first = h.is_first.is_first;
  is_second = record {
    first = h.is_first.second;
    second = h.second;
    is_first = h.is_first.is_second;
    is_second = h.is_second;
    whole = refl;
  };
  whole = h.whole ∙ ap (λ (bytes : List ℕ). bytes ++ h.second) h.is_first.whole ∙ append_assoc h.is_first.first h.is_first.second h.second;
}

-- as many functions as bodies
pub functions_counted : (m : ModuleParts) → HasBodies m.num_defined_funcs m.funcs m.code → length (contents_of m).functions ≡ length m.code
functions_counted m h =
    let left : length (defined m.num_defined_funcs m.funcs) ≡ length m.funcs - (length m.funcs - m.num_defined_funcs) =
    length-drop (length m.funcs - m.num_defined_funcs) m.funcs in
    omega (arith, left, h.each, h.among)

-- pieces in order, each with a property that implies another
pub both_as : {A B V W : List ℕ → Type 0} (piece : List ℕ) → ((p : List ℕ) → A p → V p) → ((p : List ℕ) → B p → W p) → Joined A B piece
    → Joined V W piece
both_as piece one other h = record {
  first = h.first;
  second = h.second;
  is_first = one h.first h.is_first;
  is_second = other h.second h.is_second;
  whole = h.whole;
}

-- a piece, then another with a property that implies another
following : {First Second Other : List ℕ → Type 0} → ((piece : List ℕ) → Second piece → Other piece) → (piece : List ℕ)
    → Joined First Second piece → Joined First Other piece
following weaker piece h = both_as piece (λ p same. same) weaker h

-- a section that is left out if it is empty
optional : (is_written : Bool) (id : ℕ) (SaysNothing : Type 0) (Content Other : List ℕ → Type 0) → (is_written ≡ false → SaysNothing)
    → ((p : List ℕ) → Content p → Other p) → (piece : List ℕ) → IsSectionIf is_written id Content piece
    → IsOptionalSection id SaysNothing Other piece
optional true id SaysNothing Content Other nothing weaker piece h = IsOptionalSection.present (record {
  first = h.first;
  second = h.second;
  is_first = h.is_first;
  is_second = record {
    content = h.is_second.content;
    is_content = weaker h.is_second.content h.is_second.is_content;
    form = h.is_second.form;
  };
  whole = h.whole;
})
optional false id SaysNothing Content Other nothing weaker piece h = IsOptionalSection.absent (nothing refl) h

list_optional : {A : Type 0} (is_written : Bool) (id : ℕ) (Item : A → List ℕ → Type 0) (xs : List A) → (is_written ≡ false → xs ≡ [])
    → (piece : List ℕ) → IsSectionIf is_written id (IsList Item xs) piece → IsListSection id Item xs piece
list_optional is_written id Item xs nothing piece h = optional is_written id (xs ≡ []) (IsList Item xs) (IsList Item xs) nothing
    (λ p content. content) piece h

-- a list that is not filled is empty
pub not_filled : {A : Type 0} (xs : List A) → is_filled xs ≡ false → xs ≡ []
not_filled [] e = refl
not_filled (x ∷ xs) e = absurd (let past : length (x ∷ xs) ≤ 0 = ltb-false 0 (length (x ∷ xs)) e in omega arith)

or_false : (a b : Bool) → (a || b) ≡ false → b ≡ false
or_false true b e = cc
or_false false b e = e

no_pairs : {A B : Type 0} (xs : List A) (ys : List B) → ys ≡ [] → zip xs ys ≡ []
no_pairs [] ys e = refl
no_pairs (x ∷ xs) ys e = rw e refl

no_pairs_mapped : {A B C : Type 0} (f : A × B → C) (xs : List A) (ys : List B) → is_filled ys ≡ false → map f (zip xs ys) ≡ []
no_pairs_mapped f xs ys e = ap (map f) (no_pairs xs ys (not_filled ys e))

none_mapped : {A B : Type 0} (f : A → B) (xs : List A) → is_filled xs ≡ false → map f xs ≡ []
none_mapped f xs e = ap (map f) (not_filled xs e)

grouped : (groups : List Imports) (piece : List ℕ) → IsList IsImportGroup groups piece → IsImports (flattened groups) piece
grouped groups piece h = record { groups = groups; grouped = refl; form = h }

-- the section of a list, by the meaning of its items
mapped_optional : {A B : Type 0} (is_written : Bool) (id : ℕ) (Written : A → List ℕ → Type 0) (Item : B → List ℕ → Type 0) (f : A → B)
    → ((x : A) (piece : List ℕ) → Written x piece → Item (f x) piece) → (xs : List A) → (is_written ≡ false → map f xs ≡ [])
    → (piece : List ℕ) → IsSectionIf is_written id (IsList Written xs) piece → IsListSection id Item (map f xs) piece
mapped_optional is_written id Written Item f weaker xs nothing piece h =
    optional is_written id (map f xs ≡ []) (IsList Written xs) (IsList Item (map f xs)) nothing
    (λ p content. list_mapped Item f xs p (list_as Written (λ x. Item (f x)) weaker xs p content)) piece h

-- the sections of a module as it is written are those of its parts
front_is : (m : ModuleParts) {More Other : List ℕ → Type 0} → ((p : List ℕ) → More p → Other p) → (piece : List ℕ)
    → Joined (IsFront m) More piece
    → Joined (IsListSection 1 IsRecGroup (contents_of m).types)
    (Joined (IsOptionalSection 2 ((contents_of m).imports ≡ []) (IsImports (contents_of m).imports))
    (Joined (IsListSection 3 IsIndex (contents_of m).functions) (Joined (IsListSection 4 IsTable (contents_of m).tables) Other))) piece
front_is m more piece h =
    both_as piece
    (optional (writes_types m) 1 ((contents_of m).types ≡ []) (IsList IsRecGroupWritten (contents_of m).types)
    (IsList IsRecGroup (contents_of m).types)
    (λ e. none_mapped (group_at m.types) m.groups (or_false m.encodes_types (is_filled m.groups) e))
    (λ p. list_as IsRecGroupWritten IsRecGroup group_spelled (contents_of m).types p))
    (λ p rest. both_as p
    (optional (writes_imports m) 2 ((contents_of m).imports ≡ []) (IsList IsImportGroup m.imports) (IsImports (contents_of m).imports)
    (λ e. ap (λ (groups : List Imports). flattened groups) (not_filled m.imports (or_false m.encodes_imports (is_filled m.imports) e)))
    (grouped m.imports))
    (λ q later. both_as q (list_optional (is_filled (contents_of m).functions) 3 IsIndex (contents_of m).functions
    (not_filled (contents_of m).functions))
    (λ r last. both_as r (mapped_optional (is_filled m.defined_tables) 4 IsTableWritten IsTable initialised_table table_spelled
    (zip (defined (length m.defined_tables) m.tables) m.defined_tables)
    (no_pairs_mapped initialised_table (defined (length m.defined_tables) m.tables) m.defined_tables)) more last) (regrouped later))
    (regrouped rest))
    (regrouped h)

middle_is : (m : ModuleParts) {More Other : List ℕ → Type 0} → ((p : List ℕ) → More p → Other p) → (piece : List ℕ)
    → Joined (IsMiddle m) More piece
    → Joined (IsListSection 5 IsMemoryType (contents_of m).memories)
    (Joined (IsListSection 13 IsTagType (contents_of m).tags) (Joined (IsListSection 6 IsGlobal (contents_of m).globals)
    (Joined (IsListSection 7 IsExport (contents_of m).exports) Other))) piece
middle_is m more piece h =
    both_as piece (list_optional (is_filled (contents_of m).memories) 5 IsMemoryType (contents_of m).memories
    (not_filled (contents_of m).memories))
    (λ p rest. both_as p (list_optional (is_filled (contents_of m).tags) 13 IsTagType (contents_of m).tags
    (not_filled (contents_of m).tags))
    (λ q later. both_as q (list_optional (is_filled m.defined_globals) 6 IsGlobal (contents_of m).globals
    (no_pairs_mapped initialised_global (defined (length m.defined_globals) m.globals) m.defined_globals))
    (λ r last. both_as r (list_optional (is_filled m.exports) 7 IsExport m.exports (not_filled m.exports)) more last) (regrouped later))
    (regrouped rest))
    (regrouped h)

back_is : (m : ModuleParts) (Bodies : List ℕ → Type 0) (piece : List ℕ) → IsBack m Bodies piece
    → Joined (IsStartSection m.start)
    (Joined (IsListSection 9 IsElem (contents_of m).elems)
    (Joined (IsDataCount (contents_of m).datas) (Joined (IsSectionIf (is_filled m.code) 10 Bodies)
    (IsListSection 11 IsData (contents_of m).datas)))) piece
back_is m Bodies piece h =
    both_as piece (λ p start. start)
    (λ p rest. both_as p (mapped_optional (is_filled m.elems) 9 IsElemWritten IsElem elem_of elem_spelled m.elems
    (none_mapped elem_of m.elems))
    (λ q later. both_as q
    (optional (writes_data_count m) 12 (Unit {0}) (IsUnsigned 32 (length m.datas)) (IsUnsigned 32 (length (contents_of m).datas)) (λ e. tt)
    (λ c count. subst (λ (n : ℕ). IsUnsigned 32 n c) (sym (length-map m.datas data_of)) count))
    (λ r last. both_as r (λ s code. code) (mapped_optional (is_filled m.datas) 11 IsDataWritten IsData data_of data_spelled m.datas
    (none_mapped data_of m.datas)) last)
    later) rest)
    h

pub module_around : (m : ModuleParts) (Bodies : List ℕ → Type 0) (piece : List ℕ)
    → Joined IsPreamble (Joined (IsFront m) (Joined (IsMiddle m) (IsBack m Bodies))) piece
    → IsModuleAround (contents_of m) (IsSectionIf (is_filled m.code) 10 Bodies) piece
module_around m Bodies piece h = both_as piece (λ p preamble. preamble)
    (λ p rest. front_is m (λ q later. middle_is m (back_is m Bodies) q later) p rest) h

-- a module whose code section has a property that implies another
pub around_as : (m : Contents) (Code Other : List ℕ → Type 0) → ((piece : List ℕ) → Code piece → Other piece) → (piece : List ℕ)
    → IsModuleAround m Code piece → IsModuleAround m Other piece
around_as m Code Other weaker piece h =
    let last : (p : List ℕ) → Joined Code (IsListSection 11 IsData m.datas) p → Joined Other (IsListSection 11 IsData m.datas) p =
    λ p. both_as p weaker (λ q same. same) in
    following (following (following
    (following (following (following (following (following (following (following (following (following last))))))))))) piece h

-- the section of a list of bodies, by the meaning of the bodies as they are written
pub code_section : {A B : Type 0} (Written P : B → List ℕ → Type 0) (f : A → B) → ((y : B) (piece : List ℕ) → Written y piece → P y piece)
    → (xs : List A) (piece : List ℕ) → IsSectionIf (is_filled xs) 10 (IsList (λ (x : A). Written (f x)) xs) piece
    → IsListSection 10 P (map f xs) piece
code_section Written P f weaker xs piece h = mapped_optional (is_filled xs) 10 (λ x. Written (f x)) P f (λ x. weaker (f x)) xs
    (none_mapped f xs) piece h

-- the identifiers of sections in order
ids_joined : (xs ys : List ℕ) {piece : List ℕ} → Joined (Each IsAnySection xs) (Each IsAnySection ys) piece
    → Each IsAnySection (xs ++ ys) piece
unfolding Each
ids_joined [] ys h = subst (Each IsAnySection ys) (sym (h.whole ∙ ap (λ (bytes : List ℕ). bytes ++ h.second) h.is_first)) h.is_second
ids_joined (x ∷ xs) ys h =
    let turned = regrouped (record { first = h.first; second = h.second; is_first = h.is_first; is_second = h.is_second; whole = h.whole })
    in
    record {
      first = turned.first;
      second = turned.second;
      is_first = turned.is_first;
      is_second = ids_joined xs ys turned.is_second;
      whole = turned.whole;
    }

any_section : (id : ℕ) (Content : List ℕ → Type 0) (piece : List ℕ) → IsSection id Content piece → Each IsAnySection (id ∷ []) piece
unfolding Each
any_section id Content piece h = record {
  first = piece;
  second = [];
  is_first = record {
    first = h.first;
    second = h.second;
    is_first = h.is_first;
    is_second = record {
      content = h.is_second.content;
      is_content = tt;
      form = h.is_second.form;
    };
    whole = h.whole;
  };
  is_second = refl;
  whole = sym (append-nil piece);
}

no_section : (piece : List ℕ) → piece ≡ [] → Each IsAnySection [] piece
unfolding Each
no_section piece h = h

section_id : (is_written : Bool) (id : ℕ) (Content : List ℕ → Type 0) (piece : List ℕ) → IsSectionIf is_written id Content piece
    → Each IsAnySection (id_if is_written id) piece
section_id true id Content piece h = any_section id Content piece h
section_id false id Content piece h = no_section piece h

start_id : (start : Option ℕ) (piece : List ℕ) → IsStartSection start piece → Each IsAnySection (id_if (is_some start) 8) piece
start_id (Some index) piece h = any_section 8 (IsIndex index) piece h
start_id None piece h = no_section piece h

-- the section of one identifier, then others
one_id : (is_written : Bool) (id : ℕ) (Content : List ℕ → Type 0) (ids : List ℕ) {More : List ℕ → Type 0}
    → ((p : List ℕ) → More p → Each IsAnySection ids p) → (piece : List ℕ) → Joined (IsSectionIf is_written id Content) More piece
    → Each IsAnySection (id_if is_written id ++ ids) piece
one_id is_written id Content ids more piece h = ids_joined (id_if is_written id) ids
    (both_as piece (section_id is_written id Content) more h)

front_ids : (m : ModuleParts) (ids : List ℕ) {More : List ℕ → Type 0} → ((p : List ℕ) → More p → Each IsAnySection ids p) → (piece : List ℕ)
    → Joined (IsFront m) More piece
    → Each IsAnySection (id_if (writes_types m) 1 ++
    (id_if (writes_imports m) 2 ++ (id_if (is_filled (defined m.num_defined_funcs m.funcs)) 3 ++
    (id_if (is_filled m.defined_tables) 4 ++ ids)))) piece
front_ids m ids more piece h =
    one_id (writes_types m) 1 (IsList IsRecGroupWritten (contents_of m).types) _
    (λ p rest. one_id (writes_imports m) 2 (IsList IsImportGroup m.imports) _
    (λ q later. one_id (is_filled (defined m.num_defined_funcs m.funcs)) 3 (IsList IsIndex (contents_of m).functions) _
    (λ r last. one_id (is_filled m.defined_tables) 4
    (IsList IsTableWritten (zip (defined (length m.defined_tables) m.tables) m.defined_tables)) ids more r last) q (regrouped later)) p
    (regrouped rest))
    piece
    (regrouped h)

middle_ids : (m : ModuleParts) (ids : List ℕ) {More : List ℕ → Type 0} → ((p : List ℕ) → More p → Each IsAnySection ids p)
    → (piece : List ℕ) → Joined (IsMiddle m) More piece
    → Each IsAnySection (id_if (is_filled (defined m.num_defined_memories m.memories)) 5 ++
    (id_if (is_filled (defined m.num_defined_tags m.tags)) 13 ++
    (id_if (is_filled m.defined_globals) 6 ++ (id_if (is_filled m.exports) 7 ++ ids)))) piece
middle_ids m ids more piece h =
    one_id (is_filled (defined m.num_defined_memories m.memories)) 5 (IsList IsMemoryType (contents_of m).memories) _
    (λ p rest. one_id (is_filled (defined m.num_defined_tags m.tags)) 13 (IsList IsTagType (contents_of m).tags) _
    (λ q later. one_id (is_filled m.defined_globals) 6 (IsList IsGlobal (contents_of m).globals) _
    (λ r last. one_id (is_filled m.exports) 7 (IsList IsExport m.exports) ids more r last) q (regrouped later)) p (regrouped rest))
    piece
    (regrouped h)

back_ids : (m : ModuleParts) (Bodies : List ℕ → Type 0) (piece : List ℕ) → IsBack m Bodies piece
    → Each IsAnySection (id_if (is_some m.start) 8 ++
    (id_if (is_filled m.elems) 9 ++ (id_if (writes_data_count m) 12 ++ (id_if (is_filled m.code) 10 ++ id_if (is_filled m.datas) 11))))
    piece
back_ids m Bodies piece h =
    ids_joined (id_if (is_some m.start) 8) _
    (both_as piece (start_id m.start)
    (one_id (is_filled m.elems) 9 (IsList IsElemWritten m.elems) _
    (one_id (writes_data_count m) 12 (IsUnsigned 32 (length m.datas)) _
    (one_id (is_filled m.code) 10 Bodies _ (section_id (is_filled m.datas) 11 (IsList IsDataWritten m.datas)))))
    h)

pub sections_are : (m : ModuleParts) (Bodies : List ℕ → Type 0) (piece : List ℕ)
    → Joined IsPreamble (Joined (IsFront m) (Joined (IsMiddle m) (IsBack m Bodies))) piece → HasSections (section_ids m) piece
sections_are m Bodies piece h = both_as piece (λ p preamble. preamble) (front_ids m _ (middle_ids m _ (back_ids m Bodies))) h
