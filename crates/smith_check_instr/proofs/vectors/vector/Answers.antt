use Rattle.smith_check_instr.proofs.Common.{[], All, ap, bare, false≢true, held, IsValid, IsValInRange, one_valid, refl, subst, sym}
use Rattle.smith_check_instr.proofs.Common.{tried_values, ValType, values, ◌∙◌, ◌∷◌}
use Rattle.smith_instr.specs.declared.instr.Instr.TheVariants as instr
use Rattle.smith_check_instr.specs.VectorSignatures.{vector_operands, vector_result}
use Rattle.smith_check_instr.proofs.PlainLemmas.{all_plain_in_range, no_plain}
use Rattle.smith_check_instr.proofs.VectorLemmas.{vector_typed, vector_only, vector_operands_plain, vector_result_plain}
use Rattle.smith_check_instr.proofs.vectors.vector.Goals as goal

pub apply-requires-clause-expected : goal.apply-requires-clause-expected
apply-requires-clause-expected c = subst (λ ts. All (IsValInRange c.args.scope.now.types.now.types) ts) (sym c.taken.ensures)
    (all_plain_in_range c.args.scope.now.types.now.types (vector_operands c.args.op) (vector_operands_plain c.args.op))

pub apply-requires-clause-valid : goal.apply-requires-clause-valid
apply-requires-clause-valid c = one_valid (bare c.args.scope.now) c.result_type-value.result (c.is_valid.ensures.0 c.if-not-is_valid.false)

pub returns-clause-ok : goal.returns-clause-ok
returns-clause-ok c = λ labels set.
    let op = c.args.op in
    tried_values (bare c.args.scope.now) labels (instr.Vector op) set (vector_operands op) (vector_result op ∷ []) c.taken.result.now
    (c.result_type-value.result ∷ []) (held c.args.operands.now) _ c.apply.result (λ os rs t. t) (λ os rs t. t)
    (vector_typed op (vector_operands op) (vector_result op ∷ []) (c.has_lanes.ensures.0 c.if-not-has_lanes.false) (refl, refl))
    (λ os rs t. (vector_only op os rs t).1)
    c.taken.ensures (ap (λ (v : ValType). v ∷ []) c.result_type-value.ensures) c.apply.ensures.ok

pub returns-then-not-has_lanes-clause-ok : goal.returns-then-not-has_lanes-clause-ok
returns-then-not-has_lanes-clause-ok c = λ labels set before after covered s.
    let (these, those, has, is, also) = s.typed in
    false≢true (sym c.if-not-has_lanes.true ∙ c.has_lanes.ensures.1 (vector_only c.args.op these those has).0)

pub returns-then-not-is_valid-clause-ok : goal.returns-then-not-is_valid-clause-ok
returns-then-not-is_valid-clause-ok c = λ labels set before after covered s.
    let context = bare c.args.scope.now in
    let (these, those, has, is, also) = s.typed in
    no_plain context (vector_result c.args.op) s.results s.framed.given (vector_result_plain c.args.op)
    (also ∙ ap (λ ts. values ts) (vector_only c.args.op these those has).1.1) s.framed.offered.below s.framed.offered.valid
    (λ h. false≢true (sym c.if-not-is_valid.true
    ∙ c.is_valid.ensures.1 (subst (λ v. IsValid context v) (sym c.result_type-value.ensures) h)))
