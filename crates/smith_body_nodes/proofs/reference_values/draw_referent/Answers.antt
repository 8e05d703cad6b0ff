use Rattle.smith_body_nodes.proofs.Common.{Abstract, ap, arith, false, ◌-◌, ◌∷◌}
use Rattle.std.specs.Prelude.{slice_index_or}
use Rattle.smith_types.specs.Syntax.value_type.AbstractHeapType.TheVariants as abstract
use Rattle.smith_body_nodes.specs.Scopes.{bare}
use Rattle.smith_body_nodes.specs.ReferenceChoices.{externref, funcref, referent}
use Rattle.smith_body_nodes.proofs.ReferenceChoiceLemmas.{extern_valid, func_valid, local_referent_valid, referent_by, referent_local}
use Rattle.smith_body_nodes.proofs.reference_values.draw_referent.Goals as goal

pub returns-in-0-clause-exact : goal.returns-in-0-clause-exact
returns-in-0-clause-exact c =
    rw c.unshared_heap_type.ensures (referent_by c.args.scope.now.locals.now c.args.u.now _ c.int_in_range.result
    (Abstract false abstract.Func) (rw (c.new.ensures.start, c.new.ensures.end) at c.int_in_range.ensures.exact)
    (ap (λ n. referent (slice_index_or (funcref ∷ externref ∷ c.args.scope.now.locals.now) n funcref)) c.in-0.is))

pub returns-in-1-clause-exact : goal.returns-in-1-clause-exact
returns-in-1-clause-exact c =
    rw c.unshared_heap_type-in-1.ensures (referent_by c.args.scope.now.locals.now c.args.u.now _ c.int_in_range.result
    (Abstract false abstract.Extern) (rw (c.new.ensures.start, c.new.ensures.end) at c.int_in_range.ensures.exact)
    (ap (λ n. referent (slice_index_or (funcref ∷ externref ∷ c.args.scope.now.locals.now) n funcref)) c.in-1.is))

pub returns-then-place-count-clause-exact : goal.returns-then-place-count-clause-exact
returns-then-place-count-clause-exact c =
    rw c.referent.ensures (referent_by c.args.scope.now.locals.now c.args.u.now _ c.int_in_range.result _
    (rw (c.new.ensures.start, c.new.ensures.end) at c.int_in_range.ensures.exact)
    (ap referent (referent_local c.args.scope.now.locals.now c.int_in_range.result _ (omega arith) c.if-place-count.true)))

pub returns-in-0-clause-valid : goal.returns-in-0-clause-valid
returns-in-0-clause-valid c = rw c.unshared_heap_type.ensures (func_valid (bare c.args.scope.now))

pub returns-in-1-clause-valid : goal.returns-in-1-clause-valid
returns-in-1-clause-valid c = rw c.unshared_heap_type-in-1.ensures (extern_valid (bare c.args.scope.now))

pub returns-then-place-count-clause-valid : goal.returns-then-place-count-clause-valid
returns-then-place-count-clause-valid c = rw c.referent.ensures (local_referent_valid (bare c.args.scope.now) (c.int_in_range.result - 2) _
    c.requires.scope.locals c.if-place-count.true)
