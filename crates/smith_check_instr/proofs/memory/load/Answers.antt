use Rattle.smith_check_instr.proofs.Common.{[], address, ap, bare, held, IsValid, IsValInRange, one_in_range, one_valid, refl, subst, sym}
use Rattle.smith_check_instr.proofs.Common.{To, tried_values, ValType, ℕ, ◌∷◌, ◌≤◌}
use Rattle.smith_instr.specs.MemoryTypes.{loaded}
use Rattle.smith_instr.specs.declared.instr.Instr.TheVariants as instr
use Rattle.smith_check_instr.proofs.MemoryLemmas.{access_same, address_in_range, loaded_valid}
use Rattle.smith_check_instr.proofs.memory.load.Goals as goal

pub apply-requires-clause-expected : goal.apply-requires-clause-expected
apply-requires-clause-expected c = one_in_range c.args.scope.now.types.now.types c.address_type.result
    (subst (λ v. IsValInRange c.args.scope.now.types.now.types v) (sym c.address_type.ensures)
    (address_in_range c.args.scope.now.types.now.types c.in-Some.wide))

pub apply-requires-clause-valid : goal.apply-requires-clause-valid
apply-requires-clause-valid c = one_valid (bare c.args.scope.now) c.value.result
    (subst (λ v. IsValid (bare c.args.scope.now) v) (sym c.value.ensures) (loaded_valid (bare c.args.scope.now) c.args.op))

pub returns-clause-ok : goal.returns-clause-ok
returns-clause-ok c = λ labels set.
    let wide = c.in-Some.wide in
    let memories = c.args.scope.now.memories.now in
    let value = (loaded c.args.op).0 in
    tried_values (bare c.args.scope.now) labels (instr.Load c.args.op c.args.at) set (address wide ∷ []) (value ∷ [])
    (c.address_type.result ∷ []) (c.value.result ∷ []) (held c.args.operands.now) _ c.apply.result (λ os rs t. t) (λ os rs t. t)
    (wide, (c.in-Some.ensures.0, subst (λ (n : ℕ). c.args.at.align ≤ n) c.log2_bytes.ensures c.in-Some.ensures.1), (refl, refl))
    (λ os rs t. let (other, there, fits) = t in subst (λ w. To os rs (address w ∷ []) (value ∷ []))
    (access_same memories c.args.at other wide there.0 c.in-Some.ensures.0) fits)
    (ap (λ (v : ValType). v ∷ []) c.address_type.ensures) (ap (λ (v : ValType). v ∷ []) c.value.ensures) c.apply.ensures.ok

pub returns-in_default-clause-ok : goal.returns-in_default-clause-ok
returns-in_default-clause-ok c = λ labels set before after covered s.
    let (these, those, has, is, also) = s.typed in
    let (wide, there, fits) = has in
    c.in_default.ensures wide there.0 (subst (λ (n : ℕ). c.args.at.align ≤ n) (sym c.log2_bytes.ensures) there.1)
