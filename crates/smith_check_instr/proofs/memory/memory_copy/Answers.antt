use Rattle.smith_check_instr.proofs.Common.{[], address, ap, bare, held, MemoryType, refl, some_same, subst, sym, To, tried_values, ValType}
use Rattle.smith_check_instr.proofs.Common.{◌∙◌, ◌∷◌}
use Rattle.smith_instr.specs.ReferenceTypes.{narrower}
use Rattle.smith_instr.specs.declared.instr.Instr.TheVariants as instr
use Rattle.smith_instr.specs.declared.memory.MemoryInstr.TheVariants as memory
use Rattle.smith_check_instr.proofs.PlainLemmas.{all_plain_in_range, is_address_plain, is_narrower_plain}
use Rattle.smith_check_instr.proofs.memory.memory_copy.Goals as goal

pub apply-requires-clause-expected : goal.apply-requires-clause-expected
apply-requires-clause-expected c =
    let into = c.in-Some.into.memory64 in
    let out = c.in-Some-memory_at.out.memory64 in
    let first = is_address_plain into c.address_type-first.result c.address_type-first.ensures in
    let second = is_address_plain out c.address_type-second.result c.address_type-second.ensures in
    let length = is_narrower_plain into out c.narrower_type-length.result c.narrower_type-length.ensures in
    all_plain_in_range c.args.scope.now.types.now.types
    (c.address_type-first.result ∷ c.address_type-second.result ∷ c.narrower_type-length.result ∷ []) (first, (second, (length, tt)))

pub returns-clause-ok : goal.returns-clause-ok
returns-clause-ok c = λ labels set.
    let into = c.in-Some.into in
    let out = c.in-Some-memory_at.out in
    let first = c.address_type-first.result in
    let second = c.address_type-second.result in
    let length = c.narrower_type-length.result in
    tried_values (bare c.args.scope.now) labels (instr.Memory (memory.Copy c.args.to c.args.from)) set
    (address into.memory64 ∷ address out.memory64 ∷ narrower into.memory64 out.memory64 ∷ []) [] (first ∷ second ∷ length ∷ []) []
    (held c.args.operands.now) _ c.apply.result (λ os rs t. t) (λ os rs t. t)
    (into, out, sym c.in-Some.ensures, sym c.in-Some-memory_at.ensures, (refl, refl))
    (λ os rs t. let (to, from, at, also, fits) = t in
    subst (λ (m : MemoryType). To os rs (address m.memory64 ∷ address out.memory64 ∷ narrower m.memory64 out.memory64 ∷ []) [])
    (some_same to into (sym at ∙ sym c.in-Some.ensures))
    (subst (λ (m : MemoryType). To os rs (address to.memory64 ∷ address m.memory64 ∷ narrower to.memory64 m.memory64 ∷ []) [])
    (some_same from out (sym also ∙ sym c.in-Some-memory_at.ensures)) fits))
    (ap (λ (v : ValType). v ∷ second ∷ length ∷ []) c.address_type-first.ensures
    ∙ ap (λ (v : ValType). address into.memory64 ∷ v ∷ length ∷ []) c.address_type-second.ensures
    ∙ ap (λ (v : ValType). address into.memory64 ∷ address out.memory64 ∷ v ∷ []) c.narrower_type-length.ensures)
    refl c.apply.ensures.ok
