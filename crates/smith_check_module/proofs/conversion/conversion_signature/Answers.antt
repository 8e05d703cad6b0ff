use Rattle.smith_check_module.proofs.Common.{[], ap, ◌∙◌, ◌∷◌}
use Rattle.smith_check_module.specs.ConstScopes.{context_of}
use Rattle.smith_check_module.proofs.ConversionLemmas.{apart_last, best_last, no_value, number_last, same_conversion}
use Rattle.smith_check_module.proofs.StackLemmas.{is_none, is_some}
use Rattle.smith_check_module.proofs.conversion.conversion_signature.Goals as goal

pub returns-then-is_empty-clause-ok : goal.returns-then-is_empty-clause-ok
returns-then-is_empty-clause-ok c =
    no_value (context_of c.args.scope.now) c.args.from c.args.into c.args.before.now
    (is_none _ c.is_empty.result c.is_empty.ensures c.if-is_empty.true)

pub returns-in_default : goal.returns-in_default
returns-in_default c = record {
  ok = number_last (context_of c.args.scope.now) c.args.from c.args.into c.args.before.now _
      (is_some _ c.is_empty.result c.is_empty.ensures c.if-is_empty.false) c.in_default.not-Ref;
  memory = tt;
}

pub returns-in_ok-from_slice-in-Some-clause-ok : goal.returns-in_ok-from_slice-in-Some-clause-ok
returns-in_ok-from_slice-in-Some-clause-ok c =
    same_conversion (context_of c.args.scope.now) c.args.from c.args.into c.args.before.now _ _ _ _
    (c.in_ok-from_slice-in-Some.ensures.ok ∙ ap (λ v. v ∷ []) c.converted.ensures) c.converted-in-Some.ensures
    (best_last (context_of c.args.scope.now) c.args.from c.args.into c.args.before.now _ c.in-Ref.reference c.in-Some.shared
    c.requires.scope (is_some _ c.is_empty.result c.is_empty.ensures c.if-is_empty.false) c.in-Ref.is c.in-Some.ensures)

pub returns-in-None-clause-ok : goal.returns-in-None-clause-ok
returns-in-None-clause-ok c =
    apart_last (context_of c.args.scope.now) c.args.from c.args.into c.args.before.now _ c.in-Ref.reference
    (is_some _ c.is_empty.result c.is_empty.ensures c.if-is_empty.false) c.in-Ref.is c.in-None.ensures
