-- The shapes in use in a configuration, and the parts that they fix. Rules of this project.
use Rattle.std.specs.Prelude.{◌≡◌, ◌⊎◌, None, IsSome}
use Rattle.smith_config.specs.declared.config.Config.{Config}
use Rattle.smith_config.specs.Shapes.{Shapes, in_use}

-- the shapes in use: a module shape replaces the others
abbrev pub shapes_of : Config → Shapes
shapes_of config = in_use (record {
  available_imports = config.available_imports;
  exports = config.exports;
  module_shape = config.module_shape;
})

-- no shape is given
pub record HasNoShapes (config : Config) : Type 0 where
  pub available_imports : config.available_imports ≡ None
  pub exports : config.exports ≡ None
  pub module_shape : config.module_shape ≡ None

-- a shape fixes the imports
abbrev pub FixesImports : Config → Type 0
FixesImports config = IsSome config.available_imports ⊎ IsSome config.module_shape

-- a shape fixes the exports
abbrev pub FixesExports : Config → Type 0
FixesExports config = IsSome config.exports ⊎ IsSome config.module_shape
