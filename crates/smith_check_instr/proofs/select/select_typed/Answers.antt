use Rattle.smith_check_instr.proofs.Common.{[], All-cons, bare, false≢true, held, I32, in_range, IsValid, IsValInRange, one_in_range}
use Rattle.smith_check_instr.proofs.Common.{one_valid, refl, subst, sym, To, tried_values, ◌∙◌, ◌∷◌, ◌≡◌}
use Rattle.smith_instr.specs.declared.instr.Instr.TheVariants as instr
use Rattle.smith_check_instr.proofs.SelectLemmas.{one_item, item_same}
use Rattle.smith_check_instr.proofs.select.select_typed.Goals as goal

pub apply-requires-clause-expected : goal.apply-requires-clause-expected
apply-requires-clause-expected c =
    let types = c.args.scope.now.types.now.types in
    let value = c.index-value.result.now in
    let within = in_range (bare c.args.scope.now) value (c.is_valid.ensures.0 c.if-not-is_valid.false) in
    All-cons (IsValInRange types) value (value ∷ I32 ∷ []) within
    (All-cons (IsValInRange types) value (I32 ∷ []) within (one_in_range types I32 tt))

pub apply-requires-clause-valid : goal.apply-requires-clause-valid
apply-requires-clause-valid c = one_valid (bare c.args.scope.now) c.index-value.result.now (c.is_valid.ensures.0 c.if-not-is_valid.false)

pub returns-clause-ok : goal.returns-clause-ok
returns-clause-ok c = λ labels set.
    let value = c.index-value.result.now in
    let is : c.args.types.now ≡ value ∷ [] = one_item c.args.types.now value (cc) c.index-value.ensures in
    tried_values (bare c.args.scope.now) labels (instr.SelectTyped c.args.types.now) set (value ∷ value ∷ I32 ∷ []) (value ∷ [])
    (value ∷ value ∷ I32 ∷ []) (value ∷ []) (held c.args.operands.now) _ c.apply.result (λ os rs t. t) (λ os rs t. t)
    (value, is, c.is_valid.ensures.0 c.if-not-is_valid.false, (refl, refl))
    (λ os rs t. let (other, at, valid, fits) = t in subst (λ v. To os rs (v ∷ v ∷ I32 ∷ []) (v ∷ []))
    (item_same other value (sym at ∙ is)) fits)
    refl refl c.apply.ensures.ok

pub returns-then-not-is_valid-clause-ok : goal.returns-then-not-is_valid-clause-ok
returns-then-not-is_valid-clause-ok c = λ labels set before after covered s.
    let value = c.index-value.result.now in
    let is : c.args.types.now ≡ value ∷ [] = one_item c.args.types.now value (cc) c.index-value.ensures in
    let (these, those, has, same, also) = s.typed in
    let (other, at, valid, fits) = has in
    false≢true (sym c.if-not-is_valid.true
    ∙ c.is_valid.ensures.1 (subst (λ v. IsValid (bare c.args.scope.now) v) (item_same other value (sym at ∙ is)) valid))
