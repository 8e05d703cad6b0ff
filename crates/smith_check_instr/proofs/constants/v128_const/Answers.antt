use Rattle.smith_check_instr.proofs.Common.{[], ap, bare, false≢true, held, no_range, one_valid, refl, sym, tried_values, V128, values, ◌∙◌}
use Rattle.smith_check_instr.proofs.Common.{◌∷◌}
use Rattle.smith_instr.specs.declared.instr.Instr.TheVariants as instr
use Rattle.smith_check_instr.proofs.PlainLemmas.{no_plain}
use Rattle.smith_check_instr.proofs.constants.v128_const.Goals as goal

pub apply-requires-clause-expected : goal.apply-requires-clause-expected
apply-requires-clause-expected c = no_range c.args.scope.now.types.now.types

pub apply-requires-clause-valid : goal.apply-requires-clause-valid
apply-requires-clause-valid c = one_valid (bare c.args.scope.now) V128 (c.is_valid.ensures.0 c.if-not-is_valid.false)

pub returns-clause-ok : goal.returns-clause-ok
returns-clause-ok c = λ value labels set.
    tried_values (bare c.args.scope.now) labels (instr.V128Const value) set [] (V128 ∷ []) [] (V128 ∷ []) (held c.args.operands.now) _
    c.apply.result (λ os rs t. t) (λ os rs t. t)
    (refl, refl)
    (λ os rs t. t)
    refl refl c.apply.ensures.ok

pub returns-then-not-is_valid-clause-ok : goal.returns-then-not-is_valid-clause-ok
returns-then-not-is_valid-clause-ok c = λ value labels set before after covered s.
    let (these, those, has, is, also) = s.typed in
    no_plain (bare c.args.scope.now) V128 s.results s.framed.given tt (also ∙ ap (λ ts. values ts) has.1) s.framed.offered.below
    s.framed.offered.valid
    (λ h. false≢true (sym c.if-not-is_valid.true ∙ c.is_valid.ensures.1 h))
