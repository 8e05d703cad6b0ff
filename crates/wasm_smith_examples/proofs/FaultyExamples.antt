-- Lemmas for the examples of refused shapes.
use Rattle.wasm_smith_examples.proofs.Common.{rules, arith, ◌≡◌, ◌<◌, refl, sym, subst, IfSome, IsSomeAnd, Option, Some, None, ShapeFault}
use Rattle.wasm_smith_examples.proofs.Common.{BadType, Which, AvailableImports, Exports, ModuleShape, nullable, Concrete, Ref, Config}
use Rattle.wasm_smith_examples.proofs.Common.{Shape, AreTypesRight, IsFirstShapeFault, IsRefused, IsShapeValid, IsShort, first_bad_type}
use Rattle.wasm_smith_examples.proofs.Common.{ComesBefore, IsFaultOf, IsFirstFaulty, shape_for, untyped}
use Rattle.smith_bytes.specs.declared.error.Error.TheVariants.{Shape as Misshapen}

-- a property of each use that comes before another
pub before_module : (P : Which → Type 0) (other : Which) → ComesBefore other ModuleShape → P other
before_module P ModuleShape before = absurd before
before_module P AvailableImports before = absurd before
before_module P Exports before = absurd before

pub before_imports : (P : Which → Type 0) → P ModuleShape → (other : Which) → ComesBefore other AvailableImports → P other
before_imports P of_module ModuleShape before = of_module
before_imports P of_module AvailableImports before = absurd before
before_imports P of_module Exports before = absurd before

pub before_exports : (P : Which → Type 0) → P ModuleShape → P AvailableImports → (other : Which) → ComesBefore other Exports → P other
before_exports P of_module of_imports ModuleShape before = of_module
before_exports P of_module of_imports AvailableImports before = of_imports
before_exports P of_module of_imports Exports before = absurd before

untyped_short : IsShort untyped
untyped_short = search rules

pub untyped_wrong : AreTypesRight untyped → ⊥
untyped_wrong right = let never : 0 < 0 = (right.values 0 (Ref (nullable (Concrete 0))) (omega arith)).1.heap_type.1 in omega (arith, never)

-- for any use, a reference to a type that does not exist is a bad type
pub untyped_refused : (for_use : Which) (config : Config) → IsRefused for_use config untyped (Misshapen for_use BadType)
untyped_refused for_use config = (refl, first_bad_type for_use config untyped untyped_short untyped_wrong)

told_by : (config : Config) (for_use named : Which) (found : ShapeFault) (given : Option Shape)
    → IsFaultOf config given for_use (Misshapen named found) → (named ≡ for_use)
    × IsSomeAnd given (λ shape. IsFirstShapeFault for_use config shape found)
told_by config for_use named found (Some shape) refused = refused
told_by config for_use named found None refused = absurd refused

-- a reported fault is the first of the shape for its use, and the shapes before are valid
pub fault_told : (config : Config) (named : Which) (found : ShapeFault) → IsFirstFaulty config (Misshapen named found)
    → IsSomeAnd (shape_for config named) (λ shape. IsFirstShapeFault named config shape found) × ((other : Which) → ComesBefore other named
    → IfSome (shape_for config other) (λ shape. IsShapeValid other config shape))
fault_told config named found first =
    let told = told_by config first.for_use named found (shape_for config first.for_use) first.refused in
    subst (λ (for_use : Which). IsSomeAnd (shape_for config for_use) (λ shape. IsFirstShapeFault for_use config shape found)
    × ((other : Which) → ComesBefore other for_use → IfSome (shape_for config other) (λ shape. IsShapeValid other config shape)))
    (sym told.0) (told.1, first.earlier)
