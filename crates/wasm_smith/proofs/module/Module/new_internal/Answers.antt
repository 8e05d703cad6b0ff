use Rattle.wasm_smith.proofs.Common.{AreShapesValid, AsksNothingImpossible, Bool, Config, Error, IfErr, IfErr-weaker, is_memory, IsErrAnd}
use Rattle.wasm_smith.proofs.Common.{IsSanitized, List, MayRefuse, ModuleParts, OnOk, Passes, refl, Returns, rules, subst, sym, ℕ, ◌≡◌}
use Rattle.std.proofs.Common.{Err, Ok, Result}
use Rattle.smith_bytes.specs.declared.error.Error.TheVariants.{Memory}
use Rattle.smith_bytes.proofs.PieceLemmas.{piece_same}
use Rattle.smith_config.specs.Sanitized.{sanitized}
use Rattle.wasm_smith.specs.Build.{IsGiven, as_drawn, module_at}
use Rattle.wasm_smith.specs.CheckedShapes.{IsFirstFaulty}
use Rattle.wasm_smith.specs.Generated.{IsFaulted, IsGenerated, is_distinct}
use Rattle.smith_module_rules.specs.Refusals.{MayGive}
use Rattle.wasm_smith.proofs.NeedlessLemmas.{memory_alone, first_faulty_refuses, first_faulty_memory}
use Rattle.wasm_smith.proofs.ReachedLemmas.{members_reached, rests_reached}
use Rattle.wasm_smith.proofs.module.Module.new_internal.Goals as goal

module _ (distinct : Bool) (given : Config) (bytes : List ℕ) (sound : IsSanitized (sanitized given)) where
  -- a refusal before anything is drawn
  refused_undrawn : (e : Error) → MayRefuse (sanitized given) e → (MayGive (sanitized given) → e ≡ Memory)
      → ((Passes (sanitized given) → ⊥) → IsFaulted (sanitized given) e)
      → (Passes (sanitized given) → (AreShapesValid (sanitized given) → ⊥) → IsFirstFaulty (sanitized given) e)
      → IsGenerated distinct given bytes (Err e) bytes
  refused_undrawn e refused memory fault shape_fault =
      let exact : IsGiven distinct (sanitized given) bytes (Err e) bytes = record {
        exact = λ may_give. subst (λ (one : Error). Returns is_memory (λ m. (as_drawn m, bytes)) (Err one)
            (module_at distinct (sanitized given) bytes)) (sym (memory may_give)) tt;
      } in
      let needless : AsksNothingImpossible (sanitized given) → e ≡ Memory = λ asked. memory asked.may_give in
      record {
        exact = exact;
        config = tt;
        valid = tt;
        bounds = tt;
        minimums = tt;
        shapes = tt;
        promises = tt;
        interesting = tt;
        may_give = tt;
        fault = fault;
        shape_fault = shape_fault;
        refusals = refused;
        needless = needless;
        reach = members_reached sound exact needless;
        rest = rests_reached sound exact needless;
        undrawn = λ never. refl;
        source = piece_same _;
      }

  -- the refusal of a shape is returned
  shape_refused : (e : Error) → Passes (sanitized given) → IsFirstFaulty (sanitized given) e
      → IsGenerated distinct given bytes (Err e) bytes
  shape_refused e passes faulty =
      refused_undrawn e (first_faulty_refuses (sanitized given) e faulty)
      (λ may_give. first_faulty_memory (sanitized given) e may_give.shapes_valid faulty) (λ fails. absurd (fails passes))
      (λ _ _. faulty)

given_there : (answer : Result ModuleParts Error) (P : Type 0) → P → OnOk answer P
given_there (Ok m) P h = h
given_there (Err e) P h = tt

pub returns-in-Err : goal.returns-in-Err
returns-in-Err c =
    let sound : IsSanitized (sanitized c.args.config) = rw c.sanitize.ensures.exact at c.sanitize.ensures.sound in
    let fails : Passes (sanitized c.args.config) → ⊥ = search rules in
    let fault = rw c.sanitize.ensures.exact at c.in-Err.ensures.fault in
    refused_undrawn (is_distinct c.args.behavior) c.args.config c.args.u.now sound _ fault (λ may_give. absurd (fails may_give.passes))
    (λ _. fault) (λ passes. absurd (fails passes))

pub returns-in-Err-check_shapes : goal.returns-in-Err-check_shapes
returns-in-Err-check_shapes c =
    let sound : IsSanitized (sanitized c.args.config) = rw c.sanitize.ensures.exact at c.sanitize.ensures.sound in
    let passes : Passes (sanitized c.args.config) = search rules in
    let first = rw c.sanitize.ensures.exact at c.in-Err-check_shapes.ensures.refused in
    shape_refused (is_distinct c.args.behavior) c.args.config c.args.u.now sound _ passes first

pub returns : goal.returns
returns c =
    let sound : IsSanitized (sanitized c.args.config) = rw c.sanitize.ensures.exact at c.sanitize.ensures.sound in
    let may_give : MayGive (sanitized c.args.config) =
    record { passes = search rules; shapes_valid = rw c.sanitize.ensures.exact at c.in_default-check_shapes.ensures.valid } in
    let refused = rw c.sanitize.ensures.exact at c.build.ensures.refusal in
    let given : IsGiven (is_distinct c.args.behavior) (sanitized c.args.config) c.args.u.now c.build.result c.build.new.u =
    record { exact = λ _. rw (c.sanitize.ensures.exact, c.is_distinct.ensures) at c.build.ensures.exact } in
    let needless : AsksNothingImpossible (sanitized c.args.config) → IfErr c.build.result (λ e. e ≡ Memory) =
    λ asked. IfErr-weaker c.build.result (MayRefuse (sanitized c.args.config)) _ (λ e h. memory_alone (sanitized c.args.config) e asked h)
    refused in
    record {
      exact = given;
      config = rw c.sanitize.ensures.exact at c.build.ensures.config;
      valid = c.build.ensures.valid;
      bounds = rw c.sanitize.ensures.exact at c.build.ensures.bounds;
      minimums = rw c.sanitize.ensures.exact at c.build.ensures.minimums;
      shapes = rw c.sanitize.ensures.exact at c.build.ensures.shapes;
      promises = rw (c.sanitize.ensures.exact, c.is_distinct.ensures) at c.build.ensures.promises;
      interesting = c.build.ensures.interesting;
      may_give = given_there c.build.result (MayGive (sanitized c.args.config)) may_give;
      fault = λ fails. absurd (fails may_give.passes);
      shape_fault = λ _ invalid. absurd (invalid may_give.shapes_valid);
      refusals = refused;
      needless = needless;
      reach = members_reached sound given needless;
      rest = rests_reached sound given needless;
      undrawn = λ never. absurd (never may_give);
      source = c.build.ensures.left _ (piece_same _);
    }
