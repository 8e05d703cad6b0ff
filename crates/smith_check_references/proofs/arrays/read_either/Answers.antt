use Rattle.smith_check_references.proofs.Common.{bare, false≢true, held, I32, one_valid, sym, Value, ◌∙◌}
use Rattle.smith_check_references.proofs.RowLemmas.{none_topped, none_fits, one_applied}
use Rattle.smith_check_references.proofs.ChoiceLemmas.{either_read, either_not_read, top_in_range}
use Rattle.smith_check_references.specs.Choices.{ReadsEither}
use Rattle.smith_check_references.proofs.arrays.read_either.Goals as goal

pub fits_either-requires : goal.fits_either-requires
fits_either-requires c = top_in_range (bare c.args.scope.now) c.in-Some.top c.in-Some.ensures.top_valid

pub returns-in_default-clause-ok : goal.returns-in_default-clause-ok
returns-in_default-clause-ok c = none_topped (bare c.args.scope.now) (ReadsEither c.args.ty) (held c.args.operands.now) c.in_default.ensures

pub returns-then-not-fits_either-clause-ok : goal.returns-then-not-fits_either-clause-ok
returns-then-not-fits_either-clause-ok c =
    none_fits (bare c.args.scope.now) (ReadsEither c.args.ty) c.in-Some.top (held c.args.operands.now) (held c.pop.new.self)
    c.in-Some.ensures
    (either_not_read (bare c.args.scope.now) c.args.ty c.in-Some.top
    (λ fits. false≢true (sym c.if-not-fits_either.true ∙ c.fits_either.ensures.1 fits)))

pub push_all-requires-clause-valid : goal.push_all-requires-clause-valid
push_all-requires-clause-valid c = one_valid (bare c.args.scope.now) I32 tt

pub returns-clause-ok : goal.returns-clause-ok
returns-clause-ok c =
    one_applied (bare c.args.scope.now) (ReadsEither c.args.ty) c.in-Some.top (Value I32) (held c.args.operands.now) (held c.pop.new.self) _
    c.in-Some.ensures
    (either_read (bare c.args.scope.now) c.args.ty c.in-Some.top (c.fits_either.ensures.0 c.if-not-fits_either.false))
    c.in_ok-push_all.ensures.ok
