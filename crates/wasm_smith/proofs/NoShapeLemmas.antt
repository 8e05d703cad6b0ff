-- Configurations without shapes.
use Rattle.wasm_smith.proofs.Common.{ap, AreShapesValid, Config, HasNoShapes, IsSomeAnd, Shape, shape_for, shapes_of, subst, Which, ◌≡◌}
use Rattle.std.proofs.Common.{None, Option}
use Rattle.smith_bytes.specs.declared.error.Which.TheVariants as which
use Rattle.smith_config.specs.Shapes.{Shapes, in_use, no_shapes}

none_in_use : (config : Config) → HasNoShapes config → shapes_of config ≡ no_shapes
none_in_use config none =
    λ i. in_use (record { available_imports = none.available_imports i; exports = none.exports i; module_shape = none.module_shape i })

none_for : (config : Config) (for_use : Which) → HasNoShapes config → shape_for config for_use ≡ None
none_for config which.ModuleShape none = ap (λ (used : Shapes). used.module_shape) (none_in_use config none)
none_for config which.AvailableImports none = ap (λ (used : Shapes). used.available_imports) (none_in_use config none)
none_for config which.Exports none = ap (λ (used : Shapes). used.exports) (none_in_use config none)

-- every shape in use is accepted
pub no_shapes_valid : (config : Config) → HasNoShapes config → AreShapesValid config
no_shapes_valid config none for_use = rw (none_for config for_use none) tt

-- no shape in use has any property
pub none_used : (P : Shape → Type 0) (config : Config) (for_use : Which) → HasNoShapes config → IsSomeAnd (shape_for config for_use) P → ⊥
none_used P config for_use none h = subst (λ (given : Option Shape). IsSomeAnd given P) (none_for config for_use none) h
