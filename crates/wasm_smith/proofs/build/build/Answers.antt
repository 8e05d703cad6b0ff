use Rattle.wasm_smith.proofs.Common.{Config, HasInterestingValues, IsValid, refl, subst, sym, ◌≡◌}
use Rattle.std.proofs.Common.{Ok}
use Rattle.smith_module_rules.specs.Bounds.{KeepsBounds, MeetsMinimums}
use Rattle.wasm_smith.specs.Build.{as_drawn, module_at, parts_of}
use Rattle.smith_module_rules.specs.Promises.{KeepsPromises}
use Rattle.smith_module_rules.specs.ShapesKept.{KeepsShapes}
use Rattle.wasm_smith.proofs.DrawnModuleLemmas.{bodies_there}
use Rattle.wasm_smith.proofs.build.build.Goals as goal

-- a fact about the borrowed configuration is a fact about the caller's, and about the module's
kept : (P : Config → Config → Type 0) (given boxed lent shown : Config) → boxed ≡ given → lent ≡ boxed → shown ≡ boxed → P lent lent
    → P given shown
kept P given boxed lent shown was read stands h =
    let same : P boxed boxed = subst (λ (config : Config). P config config) read h in
    let first : P given boxed = subst (λ (config : Config). P config boxed) was same in
    subst (λ (config : Config). P given config) (sym stands) first

pub returns-in-Ok-clause-config : goal.returns-in-Ok-clause-config
returns-in-Ok-clause-config c = rw (c.as_mut.ensures.value, c.in_ok-config.ensures.ok) refl

pub returns-in-Ok-clause-exact : goal.returns-in-Ok-clause-exact
returns-in-Ok-clause-exact c =
    rw c.new-in-Ok.ensures
    (kept (λ given shown. module_at c.args.distinct given c.args.u.now ≡ Ok (
      as_drawn (parts_of shown c.in-Ok.drawn.value),
      c.draw.new.u,
    )) _ _ _ _ c.in_ok-config.ensures.ok c.as_ref.ensures c.as_mut.ensures.value c.in-Ok.ensures.exact)

pub returns-in-Ok-clause-valid : goal.returns-in-Ok-clause-valid
returns-in-Ok-clause-valid c =
    rw c.new-in-Ok.ensures (kept (λ given shown. IsValid (parts_of shown c.in-Ok.drawn.value)) _ _ _ _ c.in_ok-config.ensures.ok
    c.as_ref.ensures c.as_mut.ensures.value c.in-Ok.ensures.valid)

pub returns-in-Ok-clause-bounds : goal.returns-in-Ok-clause-bounds
returns-in-Ok-clause-bounds c =
    rw c.new-in-Ok.ensures (kept (λ given shown. KeepsBounds given (parts_of shown c.in-Ok.drawn.value)) _ _ _ _ c.in_ok-config.ensures.ok
    c.as_ref.ensures c.as_mut.ensures.value c.in-Ok.ensures.bounds)

pub returns-in-Ok-clause-minimums : goal.returns-in-Ok-clause-minimums
returns-in-Ok-clause-minimums c =
    rw c.new-in-Ok.ensures (kept (λ given shown. MeetsMinimums given (parts_of shown c.in-Ok.drawn.value)) _ _ _ _ c.in_ok-config.ensures.ok
    c.as_ref.ensures c.as_mut.ensures.value c.in-Ok.ensures.minimums)

pub returns-in-Ok-clause-shapes : goal.returns-in-Ok-clause-shapes
returns-in-Ok-clause-shapes c =
    rw c.new-in-Ok.ensures (kept (λ given shown. KeepsShapes given c.args.u.now (parts_of shown c.in-Ok.drawn.value)) _ _ _ _
    c.in_ok-config.ensures.ok c.as_ref.ensures c.as_mut.ensures.value c.in-Ok.ensures.shapes)

pub returns-in-Ok-clause-promises : goal.returns-in-Ok-clause-promises
returns-in-Ok-clause-promises c =
    rw c.new-in-Ok.ensures (kept (λ given shown. KeepsPromises c.args.distinct given (parts_of shown c.in-Ok.drawn.value)) _ _ _ _
    c.in_ok-config.ensures.ok c.as_ref.ensures c.as_mut.ensures.value c.in-Ok.ensures.promises)

pub returns-in-Ok-clause-interesting : goal.returns-in-Ok-clause-interesting
returns-in-Ok-clause-interesting c =
    rw c.new-in-Ok.ensures (kept (λ given shown. HasInterestingValues (parts_of shown c.in-Ok.drawn.value)) _ _ _ _
    c.in_ok-config.ensures.ok c.as_ref.ensures c.as_mut.ensures.value c.in-Ok.ensures.interesting)

pub invariant_of-result : goal.invariant_of-result
invariant_of-result c = bodies_there _ c.in-Ok.ensures.valid
