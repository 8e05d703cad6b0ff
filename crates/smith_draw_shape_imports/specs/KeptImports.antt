-- The imports that a module has from its shape. Rules of this project.
use Rattle.std.specs.Prelude.{◌≡◌, Bool, List, [], ◌∷◌, map, length, All, if◌then◌else◌}
use Rattle.smith_types.specs.Entities.{AreEntitiesValid, AreCountsEnabled}
use Rattle.smith_types.specs.Imports.{IsImportsValid, imports_of, flattened, imported_spaces}
use Rattle.smith_types.specs.Syntax.imports.Imports.{Imports}
use Rattle.smith_types.specs.Syntax.imports.Imports.TheVariants.{Single}
use Rattle.smith_config.specs.declared.config.Config.{Config}
use Rattle.smith_config.specs.declared.shape.Shape.{Shape}
use Rattle.smith_config.specs.Features.{features_of}
use Rattle.smith_config.specs.Shapes.{shape_types, shape_imports}
use Rattle.smith_draw_imports.specs.Imported.{spaces_of}
use Rattle.smith_module_rules.specs.ShapeImports.{is_filled, kept_groups}
use Rattle.smith_draw_imports.specs.declared.imports_so_far.Imported.{Imported}

-- a group as a module has it: whole with compact imports, unless it is empty, else one by one
abbrev pub kept_of : Bool → Imports → List Imports
kept_of compact group = if compact then (if is_filled group then group ∷ [] else []) else map Single (imports_of group)

-- the imports of a shape are in valid groups and counted; they add nothing to the type size
pub record AreKept (config : Config) (shape : Shape) (imported : Imported) : Type 0 where
  pub groups : imported.groups ≡ kept_groups config shape
  pub flat : flattened imported.groups ≡ shape_imports shape
  pub spaces : spaces_of imported ≡ imported_spaces (shape_imports shape)
  pub count : imported.count ≡ length (shape_imports shape)
  pub type_size : imported.type_size ≡ 0
  pub valid : All (IsImportsValid (features_of config)) imported.groups
  pub entities : AreEntitiesValid (features_of config) (shape_types shape) (imported_spaces (shape_imports shape))
  pub counts : AreCountsEnabled (features_of config) (imported_spaces (shape_imports shape))
