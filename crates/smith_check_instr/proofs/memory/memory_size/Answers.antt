use Rattle.smith_check_instr.proofs.Common.{[], address, ap, bare, held, IsValid, MemoryType, no_range, one_valid, refl, some_same, subst}
use Rattle.smith_check_instr.proofs.Common.{sym, To, tried_values, ValType, ◌∙◌, ◌∷◌}
use Rattle.smith_instr.specs.declared.instr.Instr.TheVariants as instr
use Rattle.smith_instr.specs.declared.memory.MemoryInstr.TheVariants as memory
use Rattle.smith_check_instr.proofs.MemoryLemmas.{address_valid}
use Rattle.smith_check_instr.proofs.memory.memory_size.Goals as goal

pub apply-requires-clause-expected : goal.apply-requires-clause-expected
apply-requires-clause-expected c = no_range c.args.scope.now.types.now.types

pub apply-requires-clause-valid : goal.apply-requires-clause-valid
apply-requires-clause-valid c = one_valid (bare c.args.scope.now) c.address_type.result
    (subst (λ v. IsValid (bare c.args.scope.now) v) (sym c.address_type.ensures)
    (address_valid (bare c.args.scope.now) c.in-Some.memory.memory64))

pub returns-clause-ok : goal.returns-clause-ok
returns-clause-ok c = λ labels set.
    let found = c.in-Some.memory in
    let address_of = c.address_type.result in
    tried_values (bare c.args.scope.now) labels (instr.Memory (memory.Size c.args.index)) set [] (address found.memory64 ∷ []) []
    (address_of ∷ []) (held c.args.operands.now) _ c.apply.result (λ os rs t. t) (λ os rs t. t)
    (found, sym c.in-Some.ensures, (refl, refl))
    (λ os rs t. let (other, at, fits) = t in subst (λ (m : MemoryType). To os rs [] (address m.memory64 ∷ []))
    (some_same other found (sym at ∙ sym c.in-Some.ensures)) fits)
    refl (ap (λ (v : ValType). v ∷ []) c.address_type.ensures) c.apply.ensures.ok
