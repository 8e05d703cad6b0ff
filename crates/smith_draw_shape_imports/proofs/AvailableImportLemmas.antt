-- Available imports that are taken: their counts and their properties.
use Rattle.smith_draw_shape_imports.proofs.Common.{[], All, All-nil, all_apart, ap, arith, Bool, Config, drop, false, Features, features_of}
use Rattle.smith_draw_shape_imports.proofs.Common.{flattened, Import, Imports, is_fitting, IsTrue, length, length-append, List, refl}
use Rattle.smith_draw_shape_imports.proofs.Common.{shape_imports, shape_types, sym, true, ℕ, ◌++◌, ◌+◌, ◌<◌, ◌∙◌, ◌∷◌, ◌≡◌}
use Rattle.std.proofs.Common.{suc, ◌&&◌, ◌^◌, ◌≤◌}
use Rattle.std.specs.Prelude.{if◌then◌else◌, nat_le, nat_lt}
use Rattle.std.specs.List.{Contains}
use Rattle.std.proofs.lemmas.Bool.{ltb-true, leb-true}
use Rattle.std.proofs.lemmas.List.{get_or-drop, drop-drop}
use Rattle.std.proofs.lemmas.List.Elements.{All-append, All-contains_itself, All-from_recursion, All-head, All-tail, All-weaker}
use Rattle.std.proofs.lemmas.List.Sums.{sum_by-append}
use Rattle.std.proofs.lemmas.Option.{slice_get_within, get_or_from_slice_get}
use Rattle.smith_bytes.specs.Draws.{bool_at}
use Rattle.smith_bytes.specs.declared.error.Which.TheVariants.{AvailableImports}
use Rattle.smith_types.specs.Entities.{AreEntitiesValid, IsTagValid, IsFuncTypeIndex, IsTableValid, IsMemoryValid, IsGlobalValid}
use Rattle.smith_types.specs.Imports.{EntitySpaces, func_of, global_of, imported, imported_spaces, memory_of, table_of, tag_of}
use Rattle.smith_types.specs.Sizes.{IsTyped, size_in, value_count}
use Rattle.smith_types.specs.Syntax.composite_type.CompositeInnerType.{CompositeInnerType}
use Rattle.smith_types.specs.Syntax.composite_type.CompositeInnerType.TheVariants.{Array, Func, Struct}
use Rattle.smith_types.specs.Syntax.composite_type.SubType.{SubType}
use Rattle.smith_types.specs.Syntax.entity_type.EntityType.{EntityType}
use Rattle.smith_types.specs.Syntax.entity_type.EntityType.TheVariants as entity
use Rattle.smith_validity.proofs.HeldValueLemmas.{parts_of_all}
use Rattle.smith_config.specs.declared.shape.Shape.{Shape}
use Rattle.smith_config.specs.Faults.{maximum_of}
use Rattle.smith_config.specs.Shapes.{IsInnerShort, IsShapeValid, shape_spaces}
use Rattle.smith_module_rules.specs.ShapeImports.{count_for, count_in, is_allowed, is_picked, sizes_of, taken_from}
use Rattle.smith_draw_imports.specs.ImportedEntities.{has_room}
use Rattle.smith_types.specs.Exports.{entity_kind}
use Rattle.smith_draw_imports.specs.Imported.{spaces_of}
use Rattle.smith_draw_shape_imports.specs.AvailableImports.{picked_at, fits_beside, CountsTaken, IsImportSized, AreImportsWithin}
use Rattle.smith_draw_shape_imports.specs.AvailableImports.{AreTakenFit}
use Rattle.smith_draw_imports.specs.declared.imports_so_far.Imported.{Imported}
use Rattle.smith_draw_imports.proofs.ImportedEntityLemmas.{first_holds, second_holds}
use Rattle.smith_draw_imports.proofs.ImportsGrownLemmas.{imported_more, spaces_more, numbers_more, tags_on}

room_is : (config : Config) (spaces : EntitySpaces) (one : EntityType) → has_room config spaces (entity_kind one)
    ≡ nat_lt (count_in spaces (count_for one)) (maximum_of config (count_for one))
room_is config spaces (entity.Tag index) = refl
room_is config spaces (entity.Func index) = refl
room_is config spaces (entity.Table table) = refl
room_is config spaces (entity.Memory memory) = refl
room_is config spaces (entity.Global global) = refl

-- the counts decide whether an import fits
fits_counted : (config : Config) (types : List SubType) (taken : List Import) (one : Import) (spaces : EntitySpaces) (count size : ℕ)
    → spaces ≡ imported_spaces taken → count ≡ length taken → size ≡ sizes_of types taken
    → (nat_lt count config.max_imports && has_room config spaces (entity_kind one.entity_type) && is_allowed config one.entity_type &&
    nat_le (size + size_in types one.entity_type) config.max_type_size) ≡ is_fitting config types taken one
unfolding is_fitting
fits_counted config types taken one spaces count size same_spaces same_count same_size =
    rw (same_spaces, same_count, same_size, room_is config (imported_spaces taken) one.entity_type) refl

pub fits_is : (config : Config) (types : List SubType) (imported : Imported) (taken : List Import) (one : Import)
    → CountsTaken types imported taken → fits_beside config types imported one.entity_type ≡ is_fitting config types taken one
fits_is config types imported taken one counts = fits_counted config types taken one (spaces_of imported) imported.count imported.type_size
    counts.spaces counts.count counts.type_size

-- a drawn bool picks the import at its place
bool_picks : (bytes : List ℕ) (place : ℕ) → bool_at (drop place bytes) ≡ (is_picked bytes place, drop (suc place) bytes)
unfolding bool_at
bool_picks bytes place = rw (get_or-drop place bytes 0 0, drop-drop 1 place bytes) (let at : place + 0 ≡ place = omega arith in
    let next : place + 1 ≡ suc place = omega arith in rw (at, next) refl)

-- the imports that the bools pick are those that the input picks
picked_is_taken : (config : Config) (types : List SubType) (bytes : List ℕ) (place : ℕ) (taken imports : List Import)
    → (picked_at config types taken imports (drop place bytes)).0 ≡ taken_from config types bytes place taken imports
unfolding picked_at
picked_is_taken config types bytes place taken [] = refl
picked_is_taken config types bytes place taken (one ∷ more) =
    rw (bool_picks bytes place, picked_at)
    (picked_is_taken config types bytes (suc place) (if is_picked bytes place && is_fitting config types taken one then taken ++ one
    ∷ [] else taken) more)

pub drawn_is_taken : (config : Config) (types : List SubType) (bytes after : List ℕ) (imports made : List Import)
    → picked_at config types [] imports bytes ≡ (made, after) → made ≡ taken_from config types bytes 0 [] imports
drawn_is_taken config types bytes after imports made drawn = sym (ap (λ (d : List Import × List ℕ). d.0) drawn) ∙ picked_is_taken config
    types bytes 0 [] imports

-- a property of imports that one more fitting import preserves holds for the taken imports
module _ (config : Config) (types : List SubType) (bytes : List ℕ) (P : List Import → Type 0) (Q : Import → Type 0)
    (grows : (taken : List Import) (one : Import) → P taken → Q one → is_fitting config types taken one ≡ true
    → P (taken ++ one ∷ [])) where
  picked_or_not : (picked fit : Bool) (taken : List Import) (one : Import) → P taken → (fit ≡ true → P (taken ++ one ∷ []))
      → P (if picked && fit then taken ++ one ∷ [] else taken)
  picked_or_not true true taken one old new = new refl
  picked_or_not true false taken one old new = old
  picked_or_not false fit taken one old new = old

  pub taken_keeps : (place : ℕ) (taken imports : List Import) → P taken → All Q imports
      → P (taken_from config types bytes place taken imports)
  taken_keeps place taken [] old each = old
  taken_keeps place taken (one ∷ more) old each =
      taken_keeps (suc place) (if is_picked bytes place && is_fitting config types taken one then taken ++ one ∷ [] else taken) more
      (picked_or_not (is_picked bytes place) (is_fitting config types taken one) taken one old
      (λ fit. grows taken one old (All-head Q one more each) fit)) (All-tail Q one more each)

-- a property of each offered entity of a kind holds for each taken one
kept_of_kind : (config : Config) (types : List SubType) (bytes : List ℕ) (imports : List Import) {A : Type 0} (of_kind : EntityType
    → List A) (P : A → Type 0) → All P (imported of_kind imports) → All P (imported of_kind (taken_from config types bytes 0 [] imports))
kept_of_kind config types bytes imports of_kind P all =
    let Here = λ (one : Import). All P (of_kind one.entity_type) in
    taken_keeps config types bytes (λ taken. All P (imported of_kind taken)) Here
    (λ taken one old new fit. rw (imported_more of_kind taken one) (All-append P (imported of_kind taken) (of_kind one.entity_type) old
    new)) 0 [] imports (All-nil P)
    (All-from_recursion Here imports (parts_of_all P (λ (one : Import). of_kind one.entity_type) imports all))

tag_allowed : (config : Config) (one : EntityType) → is_allowed config one ≡ true → 0 < length (tag_of one)
    → IsTrue config.exceptions_enabled
tag_allowed config (entity.Tag index) on some = on
tag_allowed config (entity.Func index) on some = absurd (omega arith)
tag_allowed config (entity.Table table) on some = absurd (omega arith)
tag_allowed config (entity.Memory memory) on some = absurd (omega arith)
tag_allowed config (entity.Global global) on some = absurd (omega arith)

sizes_more : (types : List SubType) (taken : List Import) (one : Import) → sizes_of types (taken ++ one ∷ []) ≡ sizes_of types taken +
    size_in types one.entity_type
sizes_more types taken one = let parts = sum_by-append (λ (each : Import). size_in types each.entity_type) taken (one ∷ []) in
    omega (arith, parts)

-- imports stay within the bounds as one more that fits is taken
within_more : (config : Config) (types : List SubType) (taken : List Import) (one : Import) → AreImportsWithin config types taken
    → is_fitting config types taken one ≡ true → AreImportsWithin config types (taken ++ one ∷ [])
unfolding is_fitting
within_more config types taken one old fit =
    let of_kind = count_for one.entity_type in
    let room = nat_lt (length taken) config.max_imports && nat_lt (count_in (imported_spaces taken) of_kind) (maximum_of config of_kind) in
    let allowed = is_allowed config one.entity_type in
    let size = sizes_of types taken + size_in types one.entity_type in
    let first = first_holds (room && allowed) (nat_le size config.max_type_size) fit in
    let second = first_holds room allowed first in
    let of_room = room_is config (imported_spaces taken) one.entity_type ∙ second_holds (nat_lt (length taken) config.max_imports) _
    second in
    let few = ltb-true (length taken) config.max_imports
    (first_holds _ (nat_lt (count_in (imported_spaces taken) of_kind) (maximum_of config of_kind)) second) in
    let small = leb-true size config.max_type_size (second_holds (room && allowed) _ fit) in
    record {
      numbers = rw (spaces_more taken one) (numbers_more config (imported_spaces taken) one.entity_type old.numbers of_room);
      tags = rw (imported_more tag_of taken one) (tags_on config (imported tag_of taken) (tag_of one.entity_type) old.tags
          (tag_allowed config one.entity_type (second_holds room allowed first)));
      most = omega (arith, few, length-append taken (one ∷ []));
      type_size = omega (arith, small, sizes_more types taken one);
    }

none_within : (config : Config) (types : List SubType) → AreImportsWithin config types []
none_within config types =
    record {
      numbers = record {
        tags = omega arith;
        funcs = omega arith;
        tables = omega arith;
        memories = omega arith;
        globals = omega arith;
      };
      tags = λ some. absurd (omega arith);
      most = omega arith;
      type_size = omega arith;
    }

-- the imports of a shape are valid
offered_valid : (features : Features) (shape : Shape) → AreEntitiesValid features (shape_types shape) (shape_spaces shape)
    → AreEntitiesValid features (shape_types shape) (imported_spaces (shape_imports shape))
offered_valid features shape valid =
    let before = imported_spaces (shape_imports shape) in
    record {
      tags = (all_apart (IsTagValid (shape_types shape)) before.tags shape.tags valid.tags).0;
      funcs = (all_apart (IsFuncTypeIndex (shape_types shape)) before.funcs shape.funcs valid.funcs).0;
      tables = (all_apart (IsTableValid features (shape_types shape)) before.tables shape.tables valid.tables).0;
      memories = (all_apart (IsMemoryValid features) before.memories shape.memories valid.memories).0;
      globals = (all_apart (IsGlobalValid features (shape_types shape)) before.globals shape.globals valid.globals).0;
    }

pub taken_fit : (config : Config) (shape : Shape) (bytes : List ℕ) → IsShapeValid AvailableImports config shape
    → AreTakenFit config (shape_types shape) (shape_imports shape) (taken_from config (shape_types shape) bytes 0 [] (shape_imports shape))
taken_fit config shape bytes valid =
    let types = shape_types shape in
    let imports = shape_imports shape in
    let features = features_of config in
    let offered = offered_valid features shape valid.consistent.entities in
    record {
      entities = record {
        tags = kept_of_kind config types bytes imports tag_of (IsTagValid types) offered.tags;
        funcs = kept_of_kind config types bytes imports func_of (IsFuncTypeIndex types) offered.funcs;
        tables = kept_of_kind config types bytes imports table_of (IsTableValid features types) offered.tables;
        memories = kept_of_kind config types bytes imports memory_of (IsMemoryValid features) offered.memories;
        globals = kept_of_kind config types bytes imports global_of (IsGlobalValid features types) offered.globals;
      };
      within = taken_keeps config types bytes (AreImportsWithin config types) (λ one. Unit {0})
          (λ taken one old any fit. within_more config types taken one old fit) 0 [] imports (none_within config types) (λ k d inside. tt);
      tables = kept_of_kind config types bytes imports table_of (Contains (imported table_of imports))
          (All-contains_itself (imported table_of imports));
      memories = kept_of_kind config types bytes imports memory_of (Contains (imported memory_of imports))
          (All-contains_itself (imported memory_of imports));
      globals = kept_of_kind config types bytes imports global_of (Contains (imported global_of imports))
          (All-contains_itself (imported global_of imports));
    }

-- each import of a shape has a size of 32 bits
few_values : (inner : CompositeInnerType) → IsInnerShort inner → value_count inner ≤ 2 ^ 30
few_values (Array array) short = omega arith
few_values (Func function) short = let params = short.0 in let results = short.1 in omega (arith, params, results)
few_values (Struct structure) short = omega arith

sized : (types : List SubType) (one : EntityType) → All (λ (t : SubType). IsInnerShort t.composite_type.inner) types
    → All (IsFuncTypeIndex types) (func_of one) → IsTyped types one × (size_in types one < 2 ^ 32)
sized types (entity.Func index) short valid =
    let (function, (t, at, is)) = All-head (IsFuncTypeIndex types) index [] valid in
    let inside : index < length types = slice_get_within types index t at in
    let few : value_count t.composite_type.inner ≤ 2 ^ 30 =
    few_values t.composite_type.inner (rw (get_or_from_slice_get types index t t at) at (short index t inside)) in
    (inside, rw at (omega (arith, few)))
sized types (entity.Tag index) short valid = (tt, omega arith)
sized types (entity.Table table) short valid = (tt, omega arith)
sized types (entity.Memory memory) short valid = (tt, omega arith)
sized types (entity.Global global) short valid = (tt, omega arith)

pub offered_sized : (config : Config) (shape : Shape) → IsShapeValid AvailableImports config shape → All (IsImportSized (shape_types shape))
    (shape_imports shape)
offered_sized config shape valid =
    let types = shape_types shape in
    let imports = shape_imports shape in
    let offered = offered_valid (features_of config) shape valid.consistent.entities in
    let Here = λ (one : Import). All (IsFuncTypeIndex types) (func_of one.entity_type) in
    All-weaker Here (IsImportSized types) (λ one here. let both = sized types one.entity_type valid.short.inner here in
    record { typed = both.0; few = both.1 }) imports
    (All-from_recursion Here imports (parts_of_all (IsFuncTypeIndex types) (λ (one : Import). func_of one.entity_type) imports
    offered.funcs))

-- the counts stay the same as imports are put into groups
pub counts_grouped : {types : List SubType} {counted : Imported} {taken : List Import} (made : List Imports)
    → CountsTaken types counted taken → flattened made ≡ taken → CountsTaken types (record counted { groups = made }) (flattened made)
counts_grouped made counts same = rw same (record { spaces = counts.spaces; count = counts.count; type_size = counts.type_size })
