-- Growth of a module under construction. Lists grow at their ends, so that indices keep their
-- meaning.
use Rattle.std.specs.Prelude.{◌≡◌, ℕ, ◌≤◌, List, ◌++◌, length, All}
use Rattle.smith_types.specs.Common.{Features, Range, SubType}
use Rattle.smith_types.specs.Types.{IsOrderly, AreConsecutive, end_from}
use Rattle.smith_types.specs.ValidTypes.{IsGroupValid}
use Rattle.smith_types.specs.Imports.{EntitySpaces}
use Rattle.smith_types.specs.Expressions.{Context}

-- `new` is `old` with a possibly empty list appended
pub record Extends {A : Type 0} (old new : List A) : Type 0 where
  pub more : List A
  pub parts : new ≡ old ++ more

-- `new` is `old` with types, functions and globals appended, the same features and imports, and at
-- least as many visible globals
pub record IsContextGrown (old new : Context) : Type 0 where
  pub features : new.features ≡ old.features
  pub types : Extends old.types new.types
  pub funcs : Extends old.funcs new.funcs
  pub globals : Extends old.globals new.globals
  pub imported_funcs : new.imported_funcs ≡ old.imported_funcs
  pub imported_globals : new.imported_globals ≡ old.imported_globals
  pub visible : old.visible ≤ new.visible

-- all functions of both contexts are imported, and `new` is `old` with types and imported functions
-- appended and the same features
pub record AreImportsGrown (old new : Context) : Type 0 where
  pub features : new.features ≡ old.features
  pub types : Extends old.types new.types
  pub funcs : Extends old.funcs new.funcs
  pub imported : old.imported_funcs ≡ length old.funcs
  pub still_imported : new.imported_funcs ≡ length new.funcs

-- `new` is `old` with entities of each kind appended
pub record AreSpacesGrown (old new : EntitySpaces) : Type 0 where
  pub tags : Extends old.tags new.tags
  pub funcs : Extends old.funcs new.funcs
  pub tables : Extends old.tables new.tables
  pub memories : Extends old.memories new.memories
  pub globals : Extends old.globals new.globals

-- the types `more` follow `types`, in valid groups that cover `more`
pub record AreGroupsAdded (features : Features) (types more : List SubType) (groups : List (Range ℕ)) : Type 0 where
  pub orderly : IsOrderly (types ++ more)
  pub consecutive : AreConsecutive (length types) groups
  pub whole : end_from (length types) groups ≡ length (types ++ more)
  pub valid : All (IsGroupValid features (types ++ more)) groups
