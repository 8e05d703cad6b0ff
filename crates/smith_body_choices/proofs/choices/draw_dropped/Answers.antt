use Rattle.smith_body_choices.proofs.Common.{ap, arith, ◌∙◌}
use Rattle.std.proofs.Common.{Bool, if◌then◌else◌}
use Rattle.std.specs.Prelude.{slice_index_or}
use Rattle.smith_types.specs.Syntax.value_type.ValType.TheVariants.{I32, I64, F32, F64}
use Rattle.smith_body_choices.specs.Choices.{dropped_types}
use Rattle.smith_body_choices.proofs.ChoiceLemmas.{dropped_by, dropped_local}
use Rattle.smith_body_choices.proofs.choices.draw_dropped.Goals as goal

pub returns-in-0-clause-exact : goal.returns-in-0-clause-exact
returns-in-0-clause-exact c =
    dropped_by c.args.scope.now.config.now c.args.scope.now.locals.now c.args.u.now _ c.int_in_range.result I32
    (rw (c.new.ensures.start, c.new.ensures.end) at c.int_in_range.ensures.exact)
    (ap (λ n. slice_index_or (dropped_types c.args.scope.now.config.now c.args.scope.now.locals.now) n I32) c.in-0.is)

pub returns-in-1-clause-exact : goal.returns-in-1-clause-exact
returns-in-1-clause-exact c =
    dropped_by c.args.scope.now.config.now c.args.scope.now.locals.now c.args.u.now _ c.int_in_range.result I64
    (rw (c.new.ensures.start, c.new.ensures.end) at c.int_in_range.ensures.exact)
    (ap (λ n. slice_index_or (dropped_types c.args.scope.now.config.now c.args.scope.now.locals.now) n I32) c.in-1.is)

pub returns-in-2-clause-exact : goal.returns-in-2-clause-exact
returns-in-2-clause-exact c =
    dropped_by c.args.scope.now.config.now c.args.scope.now.locals.now c.args.u.now _ c.int_in_range.result F32
    (rw (c.new.ensures.start, c.new.ensures.end) at c.int_in_range.ensures.exact)
    (ap (λ n. slice_index_or (dropped_types c.args.scope.now.config.now c.args.scope.now.locals.now) n I32) c.in-2.is
    ∙ ap (λ (b : Bool). if b then F32 else I32) c.if-scope.true)

pub returns-in-2-2-clause-exact : goal.returns-in-2-2-clause-exact
returns-in-2-2-clause-exact c =
    dropped_by c.args.scope.now.config.now c.args.scope.now.locals.now c.args.u.now _ c.int_in_range.result I32
    (rw (c.new.ensures.start, c.new.ensures.end) at c.int_in_range.ensures.exact)
    (ap (λ n. slice_index_or (dropped_types c.args.scope.now.config.now c.args.scope.now.locals.now) n I32) c.in-2.is
    ∙ ap (λ (b : Bool). if b then F32 else I32) c.if-scope.false)

pub returns-in-3-clause-exact : goal.returns-in-3-clause-exact
returns-in-3-clause-exact c =
    dropped_by c.args.scope.now.config.now c.args.scope.now.locals.now c.args.u.now _ c.int_in_range.result F64
    (rw (c.new.ensures.start, c.new.ensures.end) at c.int_in_range.ensures.exact)
    (ap (λ n. slice_index_or (dropped_types c.args.scope.now.config.now c.args.scope.now.locals.now) n I32) c.in-3.is
    ∙ ap (λ (b : Bool). if b then F64 else I64) c.if-scope-2.true)

pub returns-in-3-2-clause-exact : goal.returns-in-3-2-clause-exact
returns-in-3-2-clause-exact c =
    dropped_by c.args.scope.now.config.now c.args.scope.now.locals.now c.args.u.now _ c.int_in_range.result I64
    (rw (c.new.ensures.start, c.new.ensures.end) at c.int_in_range.ensures.exact)
    (ap (λ n. slice_index_or (dropped_types c.args.scope.now.config.now c.args.scope.now.locals.now) n I32) c.in-3.is
    ∙ ap (λ (b : Bool). if b then F64 else I64) c.if-scope-2.false)

pub returns-then-place-count-clause-exact : goal.returns-then-place-count-clause-exact
returns-then-place-count-clause-exact c =
    dropped_by c.args.scope.now.config.now c.args.scope.now.locals.now c.args.u.now _ c.int_in_range.result _
    (rw (c.new.ensures.start, c.new.ensures.end) at c.int_in_range.ensures.exact)
    (dropped_local c.args.scope.now.config.now c.args.scope.now.locals.now c.int_in_range.result _ (omega arith) c.if-place-count.true)
