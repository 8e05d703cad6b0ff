use Rattle.smith_check_instr.proofs.Common.{[], address, All, all_in_range, ap, AreValid, bare, held, IsValInRange, List, refl, subst, sym}
use Rattle.smith_check_instr.proofs.Common.{To, tried_values, ValType, ◌∙◌, ◌∷◌}
use Rattle.smith_instr.specs.declared.instr.Instr.TheVariants as instr
use Rattle.smith_check_instr.specs.AtomicSignatures.{atomic_operands, atomic_results}
use Rattle.smith_check_instr.proofs.MemoryLemmas.{access_same}
use Rattle.smith_check_instr.proofs.PlainLemmas.{all_plain_in_range, is_address_plain}
use Rattle.smith_check_instr.proofs.AtomicLemmas.{atomic_typed, atomic_only, atomic_operands_valid, atomic_results_valid}
use Rattle.smith_check_instr.proofs.atomics.atomic.Goals as goal

pub apply_below-requires-clause-expected : goal.apply_below-requires-clause-expected
apply_below-requires-clause-expected c =
    all_plain_in_range c.args.scope.now.types.now.types (c.address_type-address.result ∷ [])
    (is_address_plain c.in-Some.wide c.address_type-address.result c.address_type-address.ensures, tt)

pub apply_below-requires-clause-expected_top : goal.apply_below-requires-clause-expected_top
apply_below-requires-clause-expected_top c =
    subst (λ ts. All (IsValInRange c.args.scope.now.types.now.types) ts) (sym c.operands_above.ensures)
    (all_in_range (bare c.args.scope.now) (atomic_operands c.args.op) (atomic_operands_valid (bare c.args.scope.now) c.args.op))

pub apply_below-requires-clause-valid : goal.apply_below-requires-clause-valid
apply_below-requires-clause-valid c = subst (λ ts. AreValid (bare c.args.scope.now) ts) (sym c.results.ensures)
    (atomic_results_valid (bare c.args.scope.now) c.args.op)

pub returns-clause-ok : goal.returns-clause-ok
returns-clause-ok c = λ labels set.
    let wide = c.in-Some.wide in
    let op = c.args.op in
    let context = bare c.args.scope.now in
    let operands = address wide ∷ atomic_operands op in
    tried_values context labels (instr.Atomic op c.args.at) set operands (atomic_results op)
    (c.address_type-address.result ∷ c.operands_above.result.now) c.results.result.now (held c.args.operands.now) _ c.apply_below.result
    (λ os rs t. t) (λ os rs t. t)
    (atomic_typed context op c.args.at operands (atomic_results op)
    (wide, (c.in-Some.ensures.0, c.in-Some.ensures.1 ∙ c.log2_bytes.ensures), (refl, refl)))
    (λ os rs t. let (other, there, fits) = atomic_only context op c.args.at os rs t in
    subst (λ w. To os rs (address w ∷ atomic_operands op) (atomic_results op))
    (access_same c.args.scope.now.memories.now c.args.at other wide there.0 c.in-Some.ensures.0) fits)
    (ap (λ (v : ValType). v ∷ c.operands_above.result.now) c.address_type-address.ensures
    ∙ ap (λ (vs : List ValType). address wide ∷ vs) c.operands_above.ensures)
    c.results.ensures c.apply_below.ensures.ok

pub returns-in_default-clause-ok : goal.returns-in_default-clause-ok
returns-in_default-clause-ok c = λ labels set before after covered s.
    let (these, those, has, is, also) = s.typed in
    let (wide, there, fits) = atomic_only (bare c.args.scope.now) c.args.op c.args.at these those has in
    c.in_default.ensures wide there.0 (there.1 ∙ sym c.log2_bytes.ensures)
