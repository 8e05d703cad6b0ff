use Rattle.smith_check_branches.proofs.Common.{[], all_at, all_in_range, Applies, AreValid, bare, held, label_of, labels_of, MatchBool}
use Rattle.smith_check_branches.proofs.Common.{PopsNothing, reverse, subst, sym, values, ◌∷◌}
use Rattle.std.specs.Prelude.{MatchOption}
use Rattle.smith_check_instr.proofs.SelectLemmas.{pushed_one}
use Rattle.smith_check_branches.proofs.NullLemmas.{IsLeastNonNull, HasNoNonNull, least_found, null_unlabelled, null_without_top}
use Rattle.smith_check_branches.proofs.NullLemmas.{null_of_no_reference, null_apart, null_taken}
use Rattle.smith_check_branches.proofs.ResultLemmas.{applies_then}
use Rattle.smith_check_branches.proofs.null_branches.br_on_null.Goals as goal

pub apply-requires-clause-expected : goal.apply-requires-clause-expected
apply-requires-clause-expected c = all_in_range (bare c.args.scope.now) c.in-Some.taken.now
    (all_at (AreValid (bare c.args.scope.now)) (label_of c.args.shape.now ∷ labels_of (reverse c.args.outers.now)) c.args.index
    c.in-Some.taken.now c.requires.labels c.in-Some.ensures)

pub apply-requires-clause-valid : goal.apply-requires-clause-valid
apply-requires-clause-valid c = all_at (AreValid (bare c.args.scope.now))
    (label_of c.args.shape.now ∷ labels_of (reverse c.args.outers.now)) c.args.index c.in-Some.taken.now c.requires.labels c.in-Some.ensures

pub returns-in_default-clause-ok : goal.returns-in_default-clause-ok
returns-in_default-clause-ok c = λ set.
    null_unlabelled (bare c.args.scope.now) (label_of c.args.shape.now ∷ labels_of (reverse c.args.outers.now)) set c.args.index
    (held c.args.operands.now) c.in_default.ensures

pub returns-in_default-pop-clause-ok : goal.returns-in_default-pop-clause-ok
returns-in_default-pop-clause-ok c = λ set.
    null_without_top (bare c.args.scope.now) (label_of c.args.shape.now ∷ labels_of (reverse c.args.outers.now)) set c.args.index
    (held c.args.operands.now) c.in_default-pop.ensures

pub returns-in_default-least_non_null-clause-ok : goal.returns-in_default-least_non_null-clause-ok
returns-in_default-least_non_null-clause-ok c = λ set.
    let context = bare c.args.scope.now in
    let slot = c.in-Some-pop.slot in
    null_of_no_reference context (label_of c.args.shape.now ∷ labels_of (reverse c.args.outers.now)) set c.args.index slot
    (held c.args.operands.now) (held c.pop.new.self) c.in-Some-pop.ensures
    (subst (λ o. MatchOption o (HasNoNonNull context slot) (λ least. IsLeastNonNull context slot least))
    (sym c.in_default-least_non_null.ensures) (least_found context slot c.in-Some-pop.ensures.top_valid))

pub returns-then-not-there-clause-ok : goal.returns-then-not-there-clause-ok
returns-then-not-there-clause-ok c = λ set.
    let context = bare c.args.scope.now in
    let taken = c.in-Some.taken.now in
    null_apart context (label_of c.args.shape.now ∷ labels_of (reverse c.args.outers.now)) set c.args.index taken c.in-Some-pop.slot
    (held c.args.operands.now) (held c.pop.new.self) c.in-Some.ensures c.in-Some-pop.ensures
    (subst (λ b. MatchBool b (Applies context (values taken) (values taken) (held c.pop.new.self) (held c.apply.new.self))
    (PopsNothing context (values taken) (held c.pop.new.self))) c.if-not-there.true c.in_ok-there.ensures.ok)

pub returns-clause-ok : goal.returns-clause-ok
returns-clause-ok c = λ set.
    let context = bare c.args.scope.now in
    let taken = c.in-Some.taken.now in
    let slot = c.in-Some-pop.slot in
    let least = c.in-Some-least_non_null.least in
    let found = subst (λ o. MatchOption o (HasNoNonNull context slot) (λ x. IsLeastNonNull context slot x))
    (sym c.in-Some-least_non_null.ensures) (least_found context slot c.in-Some-pop.ensures.top_valid) in
    let applies = subst (λ b. MatchBool b (Applies context (values taken) (values taken) (held c.pop.new.self) (held c.apply.new.self))
    (PopsNothing context (values taken) (held c.pop.new.self))) c.if-not-there.false c.in_ok-there.ensures.ok in
    null_taken context (label_of c.args.shape.now ∷ labels_of (reverse c.args.outers.now)) set c.args.index taken slot least
    (held c.args.operands.now) (held c.pop.new.self) _ c.in-Some.ensures c.in-Some-pop.ensures found
    (applies_then context (values taken) (values taken) (least ∷ []) (held c.pop.new.self) (held c.apply.new.self) _ applies
    (pushed_one context c.apply.new.self.known.items _ least c.apply.new.self.dead applies.valid found.valid c.in_ok-push.ensures.items))
