-- If nothing prevents a module, the only refusal is lack of memory; and the refusals of the first
-- shape that fails its check.
use Rattle.wasm_smith.proofs.Common.{AreShapesValid, arith, AsksNothingImpossible, Config, Count, Error, IfSome, inl, inr, IsShapeValid}
use Rattle.wasm_smith.proofs.Common.{IsSome, IsSomeAnd, items_of_exports, items_of_module_shape, MayRefuse, minimum_of, None, Option, refl}
use Rattle.wasm_smith.proofs.Common.{Shape, shape_for, shapes_of, Some, subst, sym, Which, Why, ℕ, ◌<◌, ◌≡◌}
use Rattle.smith_bytes.specs.declared.error.Error.TheVariants as errors
use Rattle.smith_bytes.specs.declared.error.ShapeFault.{ShapeFault}
use Rattle.smith_bytes.specs.declared.error.Why.TheVariants as reasons
use Rattle.smith_bytes.specs.declared.error.Count.TheVariants as counts
use Rattle.smith_bytes.specs.declared.error.Which.TheVariants as which
use Rattle.smith_config.specs.ShapeFaults.{HasShapeFault, IsRefused}
use Rattle.smith_config.proofs.FaultLemmas.{no_fault}
use Rattle.smith_config.proofs.ShapeLemmas.{no_fault as no_shape_fault}
use Rattle.smith_module_rules.specs.Bounds.{where_given}
use Rattle.wasm_smith.specs.CheckedShapes.{IsFirstFaulty}
use Rattle.smith_module_rules.specs.Refusals.{Brings, HasShape}

given_some : (of_shape : Shape → ℕ) (given : Option Shape) → 0 < where_given of_shape given → IsSome given
given_some of_shape (Some shape) some = refl
given_some of_shape None some = absurd (omega (arith, some))

-- a shape that adds items exists
shape_brings : (config : Config) (count : Count) → Brings config count → HasShape config
shape_brings config count (inl some) = (which.Exports, given_some (items_of_exports count) (shapes_of config).exports some)
shape_brings config count (inr some) = (which.ModuleShape, given_some (items_of_module_shape count) (shapes_of config).module_shape some)

-- an accepted shape has no fault
faultless : (config : Config) (for_use : Which) (found : ShapeFault) (given : Option Shape)
    → IfSome given (λ shape. IsShapeValid for_use config shape) → IsSomeAnd given (λ shape. HasShapeFault for_use config shape found) → ⊥
faultless config for_use found (Some shape) valid wrong = no_shape_fault for_use config shape valid found wrong
faultless config for_use found None valid wrong = wrong

in_shape : (config : Config) (why : Why) → AsksNothingImpossible config → MayRefuse config (errors.IncorrectFormat why) → ⊥
in_shape config (reasons.Unmet count) h short = let above : 0 < minimum_of config count = short.1.0 in
    omega (arith, h.no_minimums count, above)
in_shape config reasons.TypeSize h large = let all = large.0 in let some = h.not_everything in cc
in_shape config reasons.SeveralMemories h several = let may = (h.several (shape_brings config counts.Memories several.0)).1 in
    omega (arith, may, several.1)
in_shape config reasons.SeveralTables h several = let may = (h.several (shape_brings config counts.Tables several.0)).0 in
    let off = several.1 in cc
in_shape config reasons.Loop h never = never
in_shape config reasons.RawBody h never = never

-- if nothing impossible is required, the only refusal is lack of memory
pub memory_alone : (config : Config) (e : Error) → AsksNothingImpossible config → MayRefuse config e → e ≡ errors.Memory
memory_alone config errors.Memory h refused = refl
memory_alone config (errors.Config fault) h refused = absurd (no_fault config h.may_give.passes fault refused.there)
memory_alone config (errors.IncorrectFormat why) h refused = absurd (in_shape config why h refused)
memory_alone config errors.EmptyChoose h refused = absurd (h.nullable refused)
memory_alone config errors.NotEnoughData h refused = absurd refused
memory_alone config (errors.Shape for_use found) h refused =
    absurd (faultless config for_use found (shape_for config for_use) (h.may_give.shapes_valid for_use) refused)

refused_by : (config : Config) (for_use : Which) (e : Error) (given : Option Shape) → shape_for config for_use ≡ given
    → IsSomeAnd given (λ shape. IsRefused for_use config shape e) → MayRefuse config e
refused_by config for_use e None is refused = absurd refused
refused_by config for_use errors.Memory (Some shape) is refused = tt
refused_by config for_use (errors.Shape named found) (Some shape) is refused =
    subst (λ (use_of : Which). IsSomeAnd (shape_for config use_of) (λ one. HasShapeFault use_of config one found)) (sym refused.0)
    (rw is refused.1.there)
refused_by config for_use (errors.Config fault) (Some shape) is refused = absurd refused
refused_by config for_use (errors.IncorrectFormat why) (Some shape) is refused = absurd refused
refused_by config for_use errors.EmptyChoose (Some shape) is refused = absurd refused
refused_by config for_use errors.NotEnoughData (Some shape) is refused = absurd refused

-- the refusal of the first shape that fails its check is possible
pub first_faulty_refuses : (config : Config) (e : Error) → IsFirstFaulty config e → MayRefuse config e
first_faulty_refuses config e h = refused_by config h.for_use e (shape_for config h.for_use) refl h.refused

memory_wanted : (config : Config) (for_use : Which) (e : Error) (given : Option Shape)
    → IfSome given (λ shape. IsShapeValid for_use config shape) → IsSomeAnd given (λ shape. IsRefused for_use config shape e)
    → e ≡ errors.Memory
memory_wanted config for_use e None valid refused = absurd refused
memory_wanted config for_use errors.Memory (Some shape) valid refused = refl
memory_wanted config for_use (errors.Shape named found) (Some shape) valid refused =
    absurd (no_shape_fault for_use config shape valid found refused.1.there)
memory_wanted config for_use (errors.Config fault) (Some shape) valid refused = absurd refused
memory_wanted config for_use (errors.IncorrectFormat why) (Some shape) valid refused = absurd refused
memory_wanted config for_use errors.EmptyChoose (Some shape) valid refused = absurd refused
memory_wanted config for_use errors.NotEnoughData (Some shape) valid refused = absurd refused

-- the refusal is lack of memory if all shapes pass
pub first_faulty_memory : (config : Config) (e : Error) → AreShapesValid config → IsFirstFaulty config e → e ≡ errors.Memory
first_faulty_memory config e valid h = memory_wanted config h.for_use e (shape_for config h.for_use) (valid h.for_use) h.refused
