-- The imports that a module takes from its shape are the shape's, one by one, in valid groups.
use Rattle.smith_draw_shape_imports.proofs.Common.{[], All, All-nil, all_apart, ap, arith, Bool, Config, false, Features, features_of}
use Rattle.smith_draw_shape_imports.proofs.Common.{flat_map, flattened, Import, Imports, IsImportsValid, IsTrue, length, length-append}
use Rattle.smith_draw_shape_imports.proofs.Common.{List, map, refl, shape_imports, shape_types, Single, sym, take, true, ℕ, ◌++◌, ◌+◌, ◌<◌}
use Rattle.smith_draw_shape_imports.proofs.Common.{◌∙◌, ◌∷◌, ◌≡◌}
use Rattle.std.proofs.Common.{cond, lt-ltb, nat_lt}
use Rattle.std.proofs.Common.{append-nil, get_or}
use Rattle.std.specs.List.{filter}
use Rattle.std.proofs.lemmas.Bool.{ltb-true}
use Rattle.std.proofs.lemmas.Grind.{flat_map-append}
use Rattle.std.proofs.lemmas.List.{map-append, take_more}
use Rattle.std.proofs.lemmas.List.Elements.{All-cons}
use Rattle.smith_bytes.specs.declared.error.Which.TheVariants.{ModuleShape}
use Rattle.smith_types.specs.Entities.{IsTagValid, IsFuncTypeIndex, IsTableValid, IsMemoryValid, IsGlobalValid, AreEntitiesValid}
use Rattle.smith_types.specs.Entities.{AreCountsEnabled}
use Rattle.smith_types.specs.Flags.{IsImportsEnabled}
use Rattle.smith_types.specs.Imports.{imported_spaces, imports_of}
use Rattle.smith_types.specs.Syntax.imports.Imports.TheVariants.{Compact1, Compact2}
use Rattle.smith_config.specs.declared.shape.Shape.{Shape}
use Rattle.smith_config.specs.Shapes.{IsShapeValid}
use Rattle.smith_draw_shape_imports.specs.KeptImports.{kept_of}
use Rattle.smith_module_rules.specs.ShapeImports.{is_filled}

-- one more group is kept
pub kept_more : (compact : Bool) (all : List Imports) (place : ℕ) (group : Imports) (groups longer : List Imports) → place < length all
    → group ≡ get_or all place group → groups ≡ flat_map (kept_of compact) (take place all)
    → longer ≡ groups ++ kept_of compact group → longer ≡ flat_map (kept_of compact) (take (place + 1) all)
kept_more compact all place group groups longer inside is now pushed =
    let front : take (place + 1) all ≡ take place all ++ group ∷ [] = take_more all place group inside
    ∙ ap (λ (one : Imports). take place all ++ one ∷ []) (sym is) in
    rw (pushed, now, front)
    (sym (flat_map-append (kept_of compact) (take place all) (group ∷ [])
    ∙ ap (λ (l : List Imports). flat_map (kept_of compact) (take place all) ++ l) (append-nil (kept_of compact group))))

-- the groups of a shape in the form in which a module has them
abbrev kept : Bool → List Imports → List Imports
kept compact groups = cond compact (filter is_filled groups) (map Single (flattened groups))

in_front : (filled : Bool) (group : Imports) (rest : List Imports) → cond filled (group ∷ []) [] ++ rest ≡ cond filled (group ∷ rest) rest
in_front true group rest = refl
in_front false group rest = refl

pub all_kept_are : (compact : Bool) (groups : List Imports) → flat_map (kept_of compact) groups ≡ kept compact groups
all_kept_are true [] = refl
all_kept_are false [] = refl
all_kept_are true (group ∷ groups) = ap (λ (l : List Imports). cond (is_filled group) (group ∷ []) [] ++ l) (all_kept_are true groups)
    ∙ in_front (is_filled group) group (kept true groups)
all_kept_are false (group ∷ groups) = ap (λ (l : List Imports). map Single (imports_of group) ++ l) (all_kept_are false groups)
    ∙ sym (map-append Single (imports_of group) (flattened groups))

no_import : (imports : List Import) → nat_lt 0 (length imports) ≡ false → imports ≡ []
no_import [] none = refl
no_import (one ∷ imports) none = absurd (let some : nat_lt 0 (length (one ∷ imports)) ≡ true = lt-ltb 0 (length (one ∷ imports))
    (omega arith) in cc)

after_filled : (filled : Bool) (group : Imports) (groups : List Imports) → is_filled group ≡ filled
    → flattened (cond filled (group ∷ groups) groups) ≡ imports_of group ++ flattened groups
after_filled true group groups is = refl
after_filled false group groups is = ap (λ (imports : List Import). imports ++ flattened groups) (sym (no_import (imports_of group) is))

singles_flat : (imports : List Import) → flattened (map Single imports) ≡ imports
singles_flat [] = refl
singles_flat (one ∷ imports) = ap (λ (l : List Import). one ∷ l) (singles_flat imports)

-- the imports are the same
pub kept_flat : (compact : Bool) (groups : List Imports) → flattened (kept compact groups) ≡ flattened groups
kept_flat false groups = singles_flat (flattened groups)
kept_flat true [] = refl
kept_flat true (group ∷ groups) = after_filled (is_filled group) group (kept true groups) refl
    ∙ ap (λ (l : List Import). imports_of group ++ l) (kept_flat true groups)

module _ (features : Features) where
  may_be_compact : (group : Imports) → IsTrue features.compact_imports → IsImportsEnabled features group
  may_be_compact (Single imported) on = tt
  may_be_compact (Compact1 from items) on = on
  may_be_compact (Compact2 from entity_type names) on = on

  filled_valid : (filled : Bool) (group : Imports) (groups : List Imports) → is_filled group ≡ filled → IsTrue features.compact_imports
      → All (IsImportsValid features) groups → All (IsImportsValid features) (cond filled (group ∷ groups) groups)
  filled_valid true group groups is on valid = All-cons (IsImportsValid features) group groups
      (record { filled = ltb-true 0 (length (imports_of group)) is; enabled = may_be_compact group on }) valid
  filled_valid false group groups is on valid = valid

  singles_valid : (imports : List Import) → All (IsImportsValid features) (map Single imports)
  singles_valid [] = All-nil (IsImportsValid features)
  singles_valid (one ∷ imports) = All-cons (IsImportsValid features) (Single one) (map Single imports)
      (record { filled = omega arith; enabled = tt }) (singles_valid imports)

  compact_valid : (groups : List Imports) → IsTrue features.compact_imports → All (IsImportsValid features) (filter is_filled groups)
  compact_valid [] on = All-nil (IsImportsValid features)
  compact_valid (group ∷ groups) on = filled_valid (is_filled group) group (filter is_filled groups) refl on (compact_valid groups on)

  -- the groups are valid
  pub kept_valid : (compact : Bool) (groups : List Imports) → (compact ≡ true → IsTrue features.compact_imports)
      → All (IsImportsValid features) (kept compact groups)
  kept_valid true groups on = compact_valid groups (on refl)
  kept_valid false groups on = singles_valid (flattened groups)

-- the imports of a module shape are valid
pub imported_valid : (config : Config) (shape : Shape) → IsShapeValid ModuleShape config shape → AreEntitiesValid (features_of config)
    (shape_types shape) (imported_spaces (shape_imports shape))
imported_valid config shape valid =
    let features = features_of config in
    let types = shape_types shape in
    let spaces = imported_spaces (shape_imports shape) in
    let h = valid.consistent.entities in
    record {
      tags = (all_apart (IsTagValid types) spaces.tags shape.tags h.tags).0;
      funcs = (all_apart (IsFuncTypeIndex types) spaces.funcs shape.funcs h.funcs).0;
      tables = (all_apart (IsTableValid features types) spaces.tables shape.tables h.tables).0;
      memories = (all_apart (IsMemoryValid features) spaces.memories shape.memories h.memories).0;
      globals = (all_apart (IsGlobalValid features types) spaces.globals shape.globals h.globals).0;
    }

pub imported_enabled : (config : Config) (shape : Shape) → IsShapeValid ModuleShape config shape → AreCountsEnabled (features_of config)
    (imported_spaces (shape_imports shape))
imported_enabled config shape valid =
    let spaces = imported_spaces (shape_imports shape) in
    let h = valid.counts in
    let tags = length-append spaces.tags shape.tags in
    let tables = length-append spaces.tables shape.tables in
    let memories = length-append spaces.memories shape.memories in
    record {
      tags = λ some. h.tags (omega (arith, tags, some));
      several_tables = λ some. h.several_tables (omega (arith, tables, some));
      several_memories = λ some. h.several_memories (omega (arith, memories, some));
    }
