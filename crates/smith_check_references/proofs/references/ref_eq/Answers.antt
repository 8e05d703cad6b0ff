use Rattle.smith_check_references.proofs.Common.{bare, false≢true, held, I32, one_valid, sym, ◌∙◌}
use Rattle.smith_check_references.proofs.ChoiceLemmas.{top_in_range, eq_without_second, eq_without_first, eq_unfit, compared}
use Rattle.smith_check_references.proofs.references.ref_eq.Goals as goal

pub fits_either-requires : goal.fits_either-requires
fits_either-requires c = top_in_range (bare c.args.scope.now) c.in-Some-pop.first c.in-Some-pop.ensures.top_valid

pub fits_either-requires-2 : goal.fits_either-requires-2
fits_either-requires-2 c = top_in_range (bare c.args.scope.now) c.in-Some.second c.in-Some.ensures.top_valid

pub push_all-requires-clause-valid : goal.push_all-requires-clause-valid
push_all-requires-clause-valid c = one_valid (bare c.args.scope.now) I32 tt

pub returns-in_default-clause-ok : goal.returns-in_default-clause-ok
returns-in_default-clause-ok c = λ labels set. eq_without_second (bare c.args.scope.now) labels set (held c.args.operands.now)
    c.in_default.ensures

pub returns-in_default-pop-clause-ok : goal.returns-in_default-pop-clause-ok
returns-in_default-pop-clause-ok c = λ labels set.
    eq_without_first (bare c.args.scope.now) labels set (held c.args.operands.now) (held c.pop.new.self) c.in-Some.second c.in-Some.ensures
    c.in_default-pop.ensures

pub returns-then-not-fits_either-clause-ok : goal.returns-then-not-fits_either-clause-ok
returns-then-not-fits_either-clause-ok c = λ labels set.
    eq_unfit (bare c.args.scope.now) labels set (held c.args.operands.now) (held c.pop.new.self) (held c.pop-2.new.self) c.in-Some-pop.first
    c.in-Some.second
    c.in-Some.ensures c.in-Some-pop.ensures
    (λ first second. false≢true (sym c.if-not-fits_either.true ∙ c.fits_either.ensures.1 first))

pub returns-then-not-fits_either-2-clause-ok : goal.returns-then-not-fits_either-2-clause-ok
returns-then-not-fits_either-2-clause-ok c = λ labels set.
    eq_unfit (bare c.args.scope.now) labels set (held c.args.operands.now) (held c.pop.new.self) (held c.pop-2.new.self) c.in-Some-pop.first
    c.in-Some.second
    c.in-Some.ensures c.in-Some-pop.ensures
    (λ first second. false≢true (sym c.if-not-fits_either-2.true ∙ c.fits_either-2.ensures.1 second))

pub returns-clause-ok : goal.returns-clause-ok
returns-clause-ok c = λ labels set.
    compared (bare c.args.scope.now) labels set (held c.args.operands.now) (held c.pop.new.self) (held c.pop-2.new.self) _
    c.in-Some-pop.first c.in-Some.second
    c.in-Some.ensures c.in-Some-pop.ensures (c.fits_either.ensures.0 c.if-not-fits_either.false)
    (c.fits_either-2.ensures.0 c.if-not-fits_either-2.false) c.in_ok-push_all.ensures.ok
