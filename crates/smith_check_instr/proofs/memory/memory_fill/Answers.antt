use Rattle.smith_check_instr.proofs.Common.{[], address, All-cons, ap, bare, held, I32, IsValInRange, MemoryType, one_in_range, refl}
use Rattle.smith_check_instr.proofs.Common.{some_same, subst, sym, To, tried_values, ValType, ◌∙◌, ◌∷◌}
use Rattle.smith_instr.specs.declared.instr.Instr.TheVariants as instr
use Rattle.smith_instr.specs.declared.memory.MemoryInstr.TheVariants as memory
use Rattle.smith_check_instr.proofs.MemoryLemmas.{address_in_range}
use Rattle.smith_check_instr.proofs.memory.memory_fill.Goals as goal

pub apply-requires-clause-expected : goal.apply-requires-clause-expected
apply-requires-clause-expected c =
    let within = subst (λ v. IsValInRange c.args.scope.now.types.now.types v) (sym c.address_type-address.ensures)
    (address_in_range c.args.scope.now.types.now.types c.in-Some.memory.memory64) in
    All-cons (IsValInRange c.args.scope.now.types.now.types) c.address_type-address.result (I32 ∷ c.address_type-address.result ∷ []) within
    (All-cons (IsValInRange c.args.scope.now.types.now.types) I32 (c.address_type-address.result ∷ []) tt
    (one_in_range c.args.scope.now.types.now.types c.address_type-address.result within))

pub returns-clause-ok : goal.returns-clause-ok
returns-clause-ok c = λ labels set.
    let found = c.in-Some.memory in
    let address_of = c.address_type-address.result in
    tried_values (bare c.args.scope.now) labels (instr.Memory (memory.Fill c.args.index)) set
    (address found.memory64 ∷ I32 ∷ address found.memory64 ∷ []) [] (address_of ∷ I32 ∷ address_of ∷ []) [] (held c.args.operands.now) _
    c.apply.result (λ os rs t. t) (λ os rs t. t)
    (found, sym c.in-Some.ensures, (refl, refl))
    (λ os rs t. let (other, at, fits) = t in subst (λ (m : MemoryType). To os rs (address m.memory64 ∷ I32 ∷ address m.memory64 ∷ []) [])
    (some_same other found (sym at ∙ sym c.in-Some.ensures)) fits)
    (ap (λ (v : ValType). v ∷ I32 ∷ v ∷ []) c.address_type-address.ensures) refl c.apply.ensures.ok
