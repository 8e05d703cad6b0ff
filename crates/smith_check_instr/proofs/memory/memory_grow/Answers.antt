use Rattle.smith_check_instr.proofs.Common.{[], address, ap, bare, held, IsValid, IsValInRange, MemoryType, one_in_range, one_valid, refl}
use Rattle.smith_check_instr.proofs.Common.{some_same, subst, sym, To, tried_values, ValType, ◌∙◌, ◌∷◌}
use Rattle.smith_instr.specs.declared.instr.Instr.TheVariants as instr
use Rattle.smith_instr.specs.declared.memory.MemoryInstr.TheVariants as memory
use Rattle.smith_check_instr.proofs.MemoryLemmas.{address_in_range, address_valid}
use Rattle.smith_check_instr.proofs.memory.memory_grow.Goals as goal

pub apply-requires-clause-expected : goal.apply-requires-clause-expected
apply-requires-clause-expected c = one_in_range c.args.scope.now.types.now.types c.address_type-address.result
    (subst (λ v. IsValInRange c.args.scope.now.types.now.types v) (sym c.address_type-address.ensures)
    (address_in_range c.args.scope.now.types.now.types c.in-Some.memory.memory64))

pub apply-requires-clause-valid : goal.apply-requires-clause-valid
apply-requires-clause-valid c = one_valid (bare c.args.scope.now) c.address_type-address.result
    (subst (λ v. IsValid (bare c.args.scope.now) v) (sym c.address_type-address.ensures)
    (address_valid (bare c.args.scope.now) c.in-Some.memory.memory64))

pub returns-clause-ok : goal.returns-clause-ok
returns-clause-ok c = λ labels set.
    let found = c.in-Some.memory in
    let address_of = c.address_type-address.result in
    tried_values (bare c.args.scope.now) labels (instr.Memory (memory.Grow c.args.index)) set (address found.memory64 ∷ [])
    (address found.memory64 ∷ []) (address_of ∷ []) (address_of ∷ []) (held c.args.operands.now) _ c.apply.result (λ os rs t. t)
    (λ os rs t. t)
    (found, sym c.in-Some.ensures, (refl, refl))
    (λ os rs t. let (other, at, fits) = t in subst (λ (m : MemoryType). To os rs (address m.memory64 ∷ []) (address m.memory64 ∷ []))
    (some_same other found (sym at ∙ sym c.in-Some.ensures)) fits)
    (ap (λ (v : ValType). v ∷ []) c.address_type-address.ensures) (ap (λ (v : ValType). v ∷ []) c.address_type-address.ensures)
    c.apply.ensures.ok
