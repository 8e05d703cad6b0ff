use Rattle.smith_check_instr.proofs.Common.{[], address, ap, bare, held, I32, MemoryType, refl, some_same, subst, sym, To, tried_values}
use Rattle.smith_check_instr.proofs.Common.{ValType, ◌∙◌, ◌∷◌}
use Rattle.smith_instr.specs.declared.instr.Instr.TheVariants as instr
use Rattle.smith_instr.specs.declared.memory.MemoryInstr.TheVariants as memory
use Rattle.smith_check_instr.proofs.PlainLemmas.{all_plain_in_range, is_address_plain}
use Rattle.smith_check_instr.proofs.memory.memory_init.Goals as goal

pub apply-requires-clause-expected : goal.apply-requires-clause-expected
apply-requires-clause-expected c =
    all_plain_in_range c.args.scope.now.types.now.types (c.address_type-address.result ∷ I32 ∷ I32 ∷ [])
    (is_address_plain c.in-Some.memory.memory64 c.address_type-address.result c.address_type-address.ensures, (tt, (tt, tt)))

pub returns-clause-ok : goal.returns-clause-ok
returns-clause-ok c = λ labels set.
    let found = c.in-Some.memory in
    tried_values (bare c.args.scope.now) labels (instr.Memory (memory.Init c.args.index c.args.segment)) set
    (address found.memory64 ∷ I32 ∷ I32 ∷ []) [] (c.address_type-address.result ∷ I32 ∷ I32 ∷ []) [] (held c.args.operands.now) _
    c.apply.result (λ os rs t. t) (λ os rs t. t)
    (found, sym c.in-Some.ensures, c.has_segment.ensures.0 c.if-not-has_segment.false, (refl, refl))
    (λ os rs t. let (other, at, there, fits) = t in subst (λ (m : MemoryType). To os rs (address m.memory64 ∷ I32 ∷ I32 ∷ []) [])
    (some_same other found (sym at ∙ sym c.in-Some.ensures)) fits)
    (ap (λ (v : ValType). v ∷ I32 ∷ I32 ∷ []) c.address_type-address.ensures) refl c.apply.ensures.ok
