-- One iteration of the loop over the exports that a shape fixes.
use Rattle.smith_draw_definitions.proofs.Common.{[], All, All-cons, All-nil, ap, append_assoc, AreSpacesGrown, arith, Bool, Config, Context}
use Rattle.smith_draw_definitions.proofs.Common.{Count, drop, EntitySpaces, EntityType, Err, Error, Export, Extends, false, GroupedTypes}
use Rattle.smith_draw_definitions.proofs.Common.{inl, inr, is_memory, KeepsPieces, length, List, map, Ok, refl, Result, Returns}
use Rattle.smith_draw_definitions.proofs.Common.{SeveralMemories, SeveralTables, Shape, shape_spaces, shape_types, slice_get}
use Rattle.smith_draw_definitions.proofs.Common.{slice_get-grown, Some, subst, SubType, suc, sym, take, true, zero, ℕ, ◌++◌, ◌+◌, ◌-◌, ◌<◌}
use Rattle.smith_draw_definitions.proofs.Common.{◌∙◌, ◌∷◌, ◌≡◌, ◌≤◌, ◌⊎◌}
use Rattle.std.proofs.Common.{get_or}
use Rattle.std.specs.Prelude.{IsErrAnd, sum_by}
use Rattle.std.specs.List.{Any, AllZip}
use Rattle.std.proofs.lemmas.List.{drop_all, drop_more, take_all, take_more}
use Rattle.std.proofs.lemmas.List.Sums.{sum_by-cons, sum_by_push}
use Rattle.std.proofs.lemmas.Slice.Zip.{all_zipped_more}
use Rattle.smith_bytes.specs.declared.error.Count.TheVariants as counts
use Rattle.smith_bytes.specs.declared.error.Error.TheVariants as errors
use Rattle.smith_types.specs.Exports.{AreDistinct, AreExportsStanding, AreExportsValid}
use Rattle.smith_types.specs.Syntax.entity_type.EntityType.TheVariants as entity
use Rattle.smith_types.proofs.ExportGrowthLemmas.{IsEntityAt-grown}
use Rattle.smith_types.proofs.ListLemmas.{AllZip-weaker}
use Rattle.smith_config.specs.Shapes.{most_listed, shape_values}
use Rattle.smith_config.specs.Granted.{IsNonNullable}
use Rattle.smith_draw_types.specs.HeldFields.{HoldsUngroundedField}
use Rattle.smith_draw_types.specs.FuncSizes.{HasFewValues}
use Rattle.smith_module_rules.specs.Bounds.{counts_as}
use Rattle.smith_module_rules.specs.ShapeImports.{count_in}
use Rattle.smith_module_rules.specs.ExportedItems.{IsStanding}
use Rattle.smith_draw_definitions.proofs.RequiredLimitLemmas.{no_limits, limits_both, no_types, types_both}
use Rattle.smith_draw_definitions.specs.Defined.{StandsAfter, drawn_beside}
use Rattle.smith_draw_definitions.specs.Required.{AddsLimitsOf, AddsTypesOf, IsKeptType, MayRequire, MayDefineMore, IsRequiredMore}
use Rattle.smith_draw_definitions.specs.Required.{AreRequired, MayLackIn, MayRefuseExported, MayRefuseRequired}
use Rattle.smith_draw_definitions.specs.RequiredExports.{Required, entity_of, standing_with, export_required_at, required_from, required_at}
use Rattle.smith_module_rules.specs.ShapesKept.{IsSameExport, IsSameFuncType}
use Rattle.smith_draw_definitions.specs.declared.definitions.Definitions.{Definitions}
use Rattle.smith_draw_definitions.proofs.ExtensionLemmas.{all_kept}

pub extends_both : {A : Type 0} {first second third : List A} → Extends first second → Extends second third → Extends first third
extends_both {first = first} one two =
    record { more = one.more ++ two.more; parts = two.parts ∙ (ap (λ xs. xs ++ two.more) one.parts ∙ append_assoc first one.more two.more) }

grown_both : {first second third : EntitySpaces} → AreSpacesGrown first second → AreSpacesGrown second third → AreSpacesGrown first third
grown_both one two = record {
  tags = extends_both one.tags two.tags;
  funcs = extends_both one.funcs two.funcs;
  tables = extends_both one.tables two.tables;
  memories = extends_both one.memories two.memories;
  globals = extends_both one.globals two.globals;
}

-- the same types stay the same as types are added
same_func_grown : (types more_types theirs : List SubType) → Extends types more_types → (index other : ℕ)
    → IsSameFuncType types theirs index other → IsSameFuncType more_types theirs index other
same_func_grown types more_types theirs longer index other h =
    record {
      mine = h.mine;
      yours = h.yours;
      stands = subst (λ all. slice_get all index ≡ Some h.mine) (sym longer.parts)
          (slice_get-grown types longer.more index h.mine h.stands);
      stood = h.stood;
      final = h.final;
      root = h.root;
      same = h.same;
    }

kept_grown : (own_types : Bool) (types more_types theirs : List SubType) → Extends types more_types → (mine yours : EntityType)
    → IsKeptType own_types types theirs mine yours → IsKeptType own_types more_types theirs mine yours
kept_grown false types more_types theirs longer mine yours h = h
kept_grown true types more_types theirs longer (entity.Func index) (entity.Func other) h =
    same_func_grown types more_types theirs longer index other h
kept_grown true types more_types theirs longer (entity.Tag index) (entity.Tag other) h =
    same_func_grown types more_types theirs longer index other h
kept_grown true types more_types theirs longer mine yours h = h

-- an item of a list counts
some_counted : (f : Export → ℕ) (xs : List Export) (i : ℕ) (x : Export) → i < length xs → x ≡ get_or xs i x → f x ≡ 1 → 0 < sum_by f xs
some_counted f [] i x inside is counted = absurd (omega arith)
some_counted f (y ∷ xs) zero x inside is counted = let same : f y ≡ 1 = ap f (sym is) ∙ counted in let sum = sum_by-cons f y xs in
    omega (arith, same, sum)
some_counted f (y ∷ xs) (suc i) x inside is counted = let later = some_counted f xs i x (omega arith) is counted in
    let sum = sum_by-cons f y xs in omega (arith, later, sum)

refused_part : {X Y A B : Type 0} (of_part : X → A) (of_whole : Y → B) (e : Error) (part : Result A Error) (whole : Result B Error)
    → Returns is_memory of_part (Err e) part → ((one : Error) → part ≡ Err one → whole ≡ Err one) → Returns is_memory of_whole (Err e) whole
refused_part of_part of_whole errors.Memory part whole given passes = tt
refused_part of_part of_whole e part whole given passes = passes e given

-- a refusal of a part is a refusal of the whole
pub refused_by : {X Y A B : Type 0} (of_part : X → A) (of_whole : Y → B) (e : Error) (part : Result A Error) (whole : Result B Error)
    (result : Result Y Error) → Returns is_memory of_part (Err e) part → ((one : Error) → part ≡ Err one → whole ≡ Err one)
    → IsErrAnd result (λ y. y ≡ e) → Returns is_memory of_whole result whole
refused_by of_part of_whole e part whole (Ok y) given passes h = absurd h
refused_by {X = X} of_part of_whole e part whole (Err own) given passes h = refused_part of_part of_whole own part whole
    (subst (λ (one : Error). Returns is_memory of_part (Err one) part) (sym h) given) passes

-- the exports before a place are made, and making the others completes the whole
pub record AreRequiring (own_types : Bool) (config : Config) (shape : Shape) (old_types : GroupedTypes) (old : EntitySpaces)
    (old_defined : Definitions) (place : ℕ) (types : GroupedTypes) (spaces : EntitySpaces) (defined : Definitions) (exports : List Export)
    (start bytes : List ℕ) : Type 0 where
  pub so_far : required_from own_types config shape (drop place shape.exports) (standing_with types spaces defined exports) bytes
      ≡ required_at own_types config shape old_types old old_defined start
  pub same : AllZip (IsSameExport (IsKeptType own_types types.types (shape_types shape)) spaces (shape_spaces shape)) exports
      (take place shape.exports)
  pub types_grown : Extends old_types.types types.types
  pub groups_grown : Extends old_types.groups types.groups
  pub types_most : length types.types ≤ length old_types.types + place
  pub spaces_grown : AreSpacesGrown old spaces
  pub counted : (count : Count) → (count ≡ counts.Types → ⊥) → count_in spaces count ≡ count_in old count + sum_by
      (λ (each : Export). counts_as count each.1) (take place shape.exports)
  pub types_counted : length types.types ≤ length old_types.types + sum_by (λ (each : Export). counts_as counts.Types each.1)
      (take place shape.exports)
  pub limits : AddsLimitsOf shape old spaces
  pub unchanged : own_types ≡ false → types ≡ old_types
  pub lacking : HoldsUngroundedField config (drawn_beside config types.types spaces defined)
      → HoldsUngroundedField config (drawn_beside config old_types.types old old_defined)
  pub types_of : AddsTypesOf shape old_types.types types.types
  pub few_values : All (HasFewValues most_listed) old_types.types → All (HasFewValues most_listed) types.types
  pub may : MayDefineMore config types spaces defined (length shape.exports - place)
  pub shape_may : MayRequire own_types config shape types
  pub stands : (imported : EntitySpaces) → StandsAfter config imported old_types old old_defined
      → StandsAfter config imported types spaces defined
  pub left : KeepsPieces start bytes

-- none is made yet
pub none_required : (own_types : Bool) (config : Config) (shape : Shape) (types : GroupedTypes) (spaces : EntitySpaces)
    (defined : Definitions) (start : List ℕ) → MayRequire own_types config shape types → MayDefineMore config types spaces defined
    (length shape.exports)
    → AreRequiring own_types config shape types spaces defined 0 types spaces defined [] start start
none_required own_types config shape types spaces defined start shape_may may = record {
  so_far = refl;
  same = tt;
  types_grown = all_kept types.types;
  groups_grown = all_kept types.groups;
  types_most = omega arith;
  spaces_grown = record {
    tags = all_kept spaces.tags;
    funcs = all_kept spaces.funcs;
    tables = all_kept spaces.tables;
    memories = all_kept spaces.memories;
    globals = all_kept spaces.globals;
  };
  counted = λ count other. omega arith;
  types_counted = omega arith;
  limits = no_limits shape spaces;
  unchanged = λ off. refl;
  lacking = λ holds. holds;
  types_of = no_types shape types.types;
  few_values = λ few. few;
  may = let same : length shape.exports - 0 ≡ length shape.exports = omega arith in rw same may;
  shape_may = shape_may;
  stands = λ imported now. now;
  left = λ whole h. h;
}

module _ {own_types : Bool} {config : Config} {shape : Shape} {old_types types : GroupedTypes} {old spaces : EntitySpaces}
    {old_defined defined : Definitions} {place : ℕ} {exports : List Export} {start bytes : List ℕ}
    (now : AreRequiring own_types config shape old_types old old_defined place types spaces defined exports start bytes) where
  -- all are made
  pub required_full : length shape.exports ≤ place → required_at own_types config shape old_types old old_defined start
      ≡ Ok (standing_with types spaces defined exports, bytes)
  unfolding required_from
  required_full full =
      let none : drop place shape.exports ≡ [] = drop_all place shape.exports full in
      let one : required_from own_types config shape (drop place shape.exports) (standing_with types spaces defined exports) bytes
      ≡ Ok (standing_with types spaces defined exports, bytes) = rw none refl in
      sym now.so_far ∙ one

  pub all_required : length shape.exports ≤ place → AreRequired own_types config shape old_types old old_defined types spaces defined
      exports
  all_required full = record {
    same = rw (take_all place shape.exports full) at now.same;
    types_grown = now.types_grown;
    groups_grown = now.groups_grown;
    spaces_grown = now.spaces_grown;
    counted = λ count other. rw (take_all place shape.exports full) at now.counted count other;
    types_counted = rw (take_all place shape.exports full) at now.types_counted;
    limits = now.limits;
    unchanged = now.unchanged;
    lacking = now.lacking;
    types_of = now.types_of;
    few_values = now.few_values;
    stands = now.stands;
  }

  -- one more is made, or refused
  module _ (one : Export) (inside : place < length shape.exports) (is : one ≡ get_or shape.exports place one) where
    rest : drop place shape.exports ≡ one ∷ drop (place + 1) shape.exports
    rest = drop_more shape.exports place one inside ∙ ap (λ (each : Export). each ∷ drop (place + 1) shape.exports) (sym is)

    abbrev turn : Result (Required × List ℕ) Error
    turn = export_required_at own_types config shape one (standing_with types spaces defined exports) bytes
        (entity_of (shape_spaces shape) one.1 one.2)

    pub required_refused : (e : Error) → turn ≡ Err e → required_at own_types config shape old_types old old_defined start ≡ Err e
    unfolding required_from
    required_refused e refused =
        let here : required_from own_types config shape (drop place shape.exports) (standing_with types spaces defined exports) bytes
        ≡ Err e = rw (rest, refused) refl in
        sym now.so_far ∙ here

    pub room_for_one : MayDefineMore config types spaces defined 1
    room_for_one =
        let may = now.may in
        let room = may.room in
        record {
          sanitized = may.sanitized;
          valid = may.valid;
          entities = may.entities;
          within = may.within;
          room = record {
            tags = omega (arith, room.tags);
            funcs = omega (arith, room.funcs);
            tables = omega (arith, room.tables);
            memories = omega (arith, room.memories);
            globals = omega (arith, room.globals);
          };
        }

    pub required_more : {more_types : GroupedTypes} {later : EntitySpaces} {fuller : Definitions} {made : Export} {longer : List Export}
        {after : List ℕ} → turn ≡ Ok (standing_with more_types later fuller (exports ++ made ∷ []), after)
        → IsRequiredMore own_types config shape types spaces defined more_types later fuller one made → longer ≡ exports ++ made ∷ []
        → KeepsPieces bytes after
        → AreRequiring own_types config shape old_types old old_defined (place + 1) more_types later fuller longer start after
    unfolding required_from
    required_more {more_types = more_types} {later = later} {fuller = fuller} {made = made} {longer = longer} {after = after} drawn more
        pushed p =
        let R = IsSameExport (IsKeptType own_types types.types (shape_types shape)) spaces (shape_spaces shape) in
        let S = IsSameExport (IsKeptType own_types more_types.types (shape_types shape)) later (shape_spaces shape) in
        let still : (mine yours : Export) → R mine yours → S mine yours = λ mine yours h. record {
          name = h.name;
          kind = h.kind;
          mine = h.mine;
          yours = h.yours;
          mine_is = IsEntityAt-grown spaces later more.spaces_grown mine.1 mine.2 h.mine h.mine_is;
          yours_is = h.yours_is;
          same = kept_grown own_types types.types more_types.types (shape_types shape) more.types_grown h.mine h.yours h.same;
        } in
        let front : take (place + 1) shape.exports ≡ take place shape.exports ++ one ∷ [] = take_more shape.exports place one inside
        ∙ ap (λ (each : Export). take place shape.exports ++ each ∷ []) (sym is) in
        let here : required_from own_types config shape (drop place shape.exports) (standing_with types spaces defined exports) bytes
        ≡ required_from own_types config shape (drop (place + 1) shape.exports)
        (standing_with more_types later fuller (exports ++ made ∷ [])) after = rw (rest, drawn) refl in
        let sum : (count : Count) → sum_by (λ (each : Export). counts_as count each.1) (take (place + 1) shape.exports)
        ≡ sum_by (λ (each : Export). counts_as count each.1) (take place shape.exports) + counts_as count one.1 =
        λ count. ap (sum_by (λ (each : Export). counts_as count each.1)) front ∙ sum_by_push (λ (each : Export). counts_as count each.1)
        (take place shape.exports) one in
        let steps : length shape.exports - place ≡ (length shape.exports - (place + 1)) + 1 = omega (arith, inside) in
        rw pushed (record {
          so_far = sym here ∙ now.so_far;
          same = rw front (all_zipped_more S exports (take place shape.exports) made one
              (AllZip-weaker R S still exports (take place shape.exports) now.same) more.same);
          types_grown = extends_both now.types_grown more.types_grown;
          groups_grown = extends_both now.groups_grown more.groups_grown;
          types_most = omega (arith, now.types_most, more.types_most);
          spaces_grown = grown_both now.spaces_grown more.spaces_grown;
          counted = λ count other. omega (arith, now.counted count other, more.counted count other, sum count);
          types_counted = omega (arith, now.types_counted, more.types_counted, sum counts.Types);
          limits = limits_both now.limits more.limits;
          unchanged = λ off. more.unchanged off ∙ now.unchanged off;
          lacking = λ holds. now.lacking (more.lacking holds);
          types_of = types_both shape old_types.types types.types more_types.types now.types_of more.types_of;
          few_values = λ few. more.few_values (now.few_values few);
          may = more.may (length shape.exports - (place + 1)) (rw steps at now.may);
          shape_may = record { valid = now.shape_may.valid; present = λ off. extends_both (now.shape_may.present off) more.types_grown };
          stands = λ imported before. more.stands imported (now.stands imported before);
          left = λ whole h. p whole (now.left whole h);
        })

    pub one_stands : IsStanding (shape_spaces shape) one.1 one.2
    one_stands = subst (λ (each : Export). IsStanding (shape_spaces shape) each.1 each.2) (sym is)
        (now.shape_may.valid.consistent.exports.stand place one inside)

    lacking_for : (e : Error) → (e ≡ errors.Memory)
        ⊎ ((e ≡ errors.EmptyChoose)
        × (Any IsNonNullable (shape_values shape) ⊎ HoldsUngroundedField config (drawn_beside config types.types spaces defined)))
        → (e ≡ errors.Memory)
        ⊎ ((e ≡ errors.EmptyChoose)
        × (Any IsNonNullable (shape_values shape) ⊎ HoldsUngroundedField config (drawn_beside config old_types.types old old_defined)))
    lacking_for e (inl memory) = inl memory
    lacking_for e (inr (empty, inl strict)) = inr (empty, inl strict)
    lacking_for e (inr (empty, inr holds)) = inr (empty, inr (now.lacking holds))

    pub refused_for : (e : Error) → MayRefuseExported config (drawn_beside config types.types spaces defined) shape one e
        → MayRefuseRequired config (drawn_beside config old_types.types old old_defined) shape e
    refused_for (errors.IncorrectFormat SeveralMemories) (counted, few) =
        (some_counted (λ (each : Export). counts_as counts.Memories each.1) shape.exports place one inside is counted, few)
    refused_for (errors.IncorrectFormat SeveralTables) (counted, few) =
        (some_counted (λ (each : Export). counts_as counts.Tables each.1) shape.exports place one inside is counted, few)
    refused_for e refused = lacking_for e refused

-- exports that are the same as valid ones, of existing entities, are valid
stand_so : (IsSame : EntityType → EntityType → Type 0) (ours theirs : EntitySpaces) (exports others : List Export)
    → AllZip (IsSameExport IsSame ours theirs) exports others → AreExportsStanding ours exports
stand_so IsSame ours theirs [] others same = All-nil (λ (one : Export). IsStanding ours one.1 one.2)
stand_so IsSame ours theirs (one ∷ exports) [] same = absurd same
stand_so IsSame ours theirs (one ∷ exports) (other ∷ others) same =
    All-cons (λ (each : Export). IsStanding ours each.1 each.2) one exports (same.0.mine, same.0.mine_is)
    (stand_so IsSame ours theirs exports others same.1)

named_so : (IsSame : EntityType → EntityType → Type 0) (ours theirs : EntitySpaces) (exports others : List Export)
    → AllZip (IsSameExport IsSame ours theirs) exports others
    → map (λ (one : Export). one.0) others ≡ map (λ (one : Export). one.0) exports
named_so IsSame ours theirs [] [] same = refl
named_so IsSame ours theirs [] (other ∷ others) same = absurd same
named_so IsSame ours theirs (one ∷ exports) [] same = absurd same
named_so IsSame ours theirs (one ∷ exports) (other ∷ others) same = λ i. sym same.0.name i ∷ named_so IsSame ours theirs exports others
    same.1 i

pub valid_so : (IsSame : EntityType → EntityType → Type 0) (ours theirs : EntitySpaces) (exports others : List Export)
    → AllZip (IsSameExport IsSame ours theirs) exports others → AreExportsValid theirs others → AreExportsValid ours exports
valid_so IsSame ours theirs exports others same valid = record {
  stand = stand_so IsSame ours theirs exports others same;
  distinct = subst AreDistinct (named_so IsSame ours theirs exports others same) valid.distinct;
}

-- if there is no such reference, exports are refused only for lack of memory
not_empty : (e : Error) (A : Type 0) → (A → ⊥) → (e ≡ errors.Memory) ⊎ ((e ≡ errors.EmptyChoose) × A) → e ≡ errors.Memory
not_empty e A none (inl memory) = memory
not_empty e A none (inr (empty, holds)) = absurd (none holds)

pub only_memory : (config : Config) (context : Context) (shape : Shape) (e : Error) → (MayLackIn config context shape → ⊥)
    → config.reference_types_enabled ≡ true → 2 ≤ config.max_memories → MayRefuseRequired config context shape e → e ≡ errors.Memory
only_memory config context shape (errors.IncorrectFormat SeveralMemories) none on several (counted, few) =
    absurd (omega (arith, few, several))
only_memory config context shape (errors.IncorrectFormat SeveralTables) none on several (counted, off) = absurd (cc (sym on ∙ off))
only_memory config context shape e none on several refused = not_empty e (MayLackIn config context shape) none refused
