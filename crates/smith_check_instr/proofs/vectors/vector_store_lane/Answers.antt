use Rattle.smith_check_instr.proofs.Common.{[], address, ap, bare, false≢true, held, refl, subst, sym, To, tried_values, V128, ValType, ◌∙◌}
use Rattle.smith_check_instr.proofs.Common.{◌∷◌}
use Rattle.smith_instr.specs.declared.instr.Instr.TheVariants as instr
use Rattle.smith_check_instr.proofs.MemoryLemmas.{access_same}
use Rattle.smith_check_instr.proofs.PlainLemmas.{all_plain_in_range, is_address_plain}
use Rattle.smith_check_instr.proofs.vectors.vector_store_lane.Goals as goal

pub apply-requires-clause-expected : goal.apply-requires-clause-expected
apply-requires-clause-expected c =
    all_plain_in_range c.args.scope.now.types.now.types (c.address_type.result ∷ V128 ∷ [])
    (is_address_plain c.in-Some.wide c.address_type.result c.address_type.ensures, (tt, tt))

pub returns-clause-ok : goal.returns-clause-ok
returns-clause-ok c = λ labels set.
    let wide = c.in-Some.wide in
    tried_values (bare c.args.scope.now) labels (instr.VectorStoreLane c.args.log2_bytes c.args.at c.args.lane) set
    (address wide ∷ V128 ∷ []) [] (c.address_type.result ∷ V128 ∷ []) []
    (held c.args.operands.now) _ c.apply.result (λ os rs t. t) (λ os rs t. t)
    (wide, (c.in-Some.ensures.0, c.in-Some.ensures.1), c.is_lane.ensures.0 c.if-not-is_lane.false, (refl, refl))
    (λ os rs t. let (other, there, within, fits) = t in subst (λ w. To os rs (address w ∷ V128 ∷ []) [])
    (access_same c.args.scope.now.memories.now c.args.at other wide there.0 c.in-Some.ensures.0) fits)
    (ap (λ (v : ValType). v ∷ V128 ∷ []) c.address_type.ensures) refl c.apply.ensures.ok

pub returns-in_default-clause-ok : goal.returns-in_default-clause-ok
returns-in_default-clause-ok c = λ labels set before after covered s.
    let (these, those, has, is, also) = s.typed in
    let (wide, there, within, fits) = has in
    c.in_default.ensures wide there.0 there.1

pub returns-then-not-is_lane-clause-ok : goal.returns-then-not-is_lane-clause-ok
returns-then-not-is_lane-clause-ok c = λ labels set before after covered s.
    let (these, those, has, is, also) = s.typed in
    let (wide, there, within, fits) = has in
    false≢true (sym c.if-not-is_lane.true ∙ c.is_lane.ensures.1 within)
