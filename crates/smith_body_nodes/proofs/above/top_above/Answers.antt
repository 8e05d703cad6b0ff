use Rattle.smith_body_nodes.proofs.Common.{sym, ◌∙◌}
use Rattle.smith_types.specs.Syntax.value_type.AbstractHeapType.TheVariants as abstract
use Rattle.smith_body_nodes.specs.Scopes.{bare}
use Rattle.smith_body_nodes.proofs.AboveLemmas.{any_above, any_ref_valid, extern_ref_valid, func_ref_valid, null_above, null_valid, top_any}
use Rattle.smith_body_nodes.proofs.AboveLemmas.{top_extern, top_func, top_none, under_below}
use Rattle.smith_body_nodes.proofs.above.top_above.Goals as goal

pub returns-then-is_internal-clause-exact : goal.returns-then-is_internal-clause-exact
returns-then-is_internal-clause-exact c =
    c.nullable_type.ensures ∙ sym (top_any (bare c.args.scope.now) c.args.to (sym c.is_internal.ensures ∙ c.if-is_internal.true))

pub returns-then-is_internal-clause-valid : goal.returns-then-is_internal-clause-valid
returns-then-is_internal-clause-valid c = rw c.nullable_type.ensures (any_ref_valid (bare c.args.scope.now) c.args.to c.requires.to
    (sym c.is_internal.ensures ∙ c.if-is_internal.true))

pub returns-then-is_internal-clause-above : goal.returns-then-is_internal-clause-above
returns-then-is_internal-clause-above c = rw c.nullable_type.ensures (any_above (bare c.args.scope.now) c.args.to c.requires.scope.orderly
    (sym c.is_internal.ensures ∙ c.if-is_internal.true))

pub returns-then-is_under-clause-exact : goal.returns-then-is_under-clause-exact
returns-then-is_under-clause-exact c =
    c.nullable_type-then-is_under.ensures
    ∙ sym (top_func (bare c.args.scope.now) c.args.to (sym c.is_internal.ensures ∙ c.if-is_internal.false)
    (sym c.is_under.ensures ∙ c.if-is_under.true))

pub returns-then-is_under-clause-valid : goal.returns-then-is_under-clause-valid
returns-then-is_under-clause-valid c = rw c.nullable_type-then-is_under.ensures
    (func_ref_valid (bare c.args.scope.now) c.args.to c.requires.to)

pub returns-then-is_under-clause-above : goal.returns-then-is_under-clause-above
returns-then-is_under-clause-above c =
    rw c.nullable_type-then-is_under.ensures (under_below (bare c.args.scope.now) c.args.to abstract.Func c.requires.scope.orderly
    (sym c.is_under.ensures ∙ c.if-is_under.true))

pub returns-then-is_under-2-clause-exact : goal.returns-then-is_under-2-clause-exact
returns-then-is_under-2-clause-exact c =
    c.nullable_type-then-is_under-2.ensures
    ∙ sym (top_extern (bare c.args.scope.now) c.args.to (sym c.is_internal.ensures ∙ c.if-is_internal.false)
    (sym c.is_under.ensures ∙ c.if-is_under.false)
    (sym c.is_under-2.ensures ∙ c.if-is_under-2.true))

pub returns-then-is_under-2-clause-valid : goal.returns-then-is_under-2-clause-valid
returns-then-is_under-2-clause-valid c = rw c.nullable_type-then-is_under-2.ensures
    (extern_ref_valid (bare c.args.scope.now) c.args.to c.requires.to)

pub returns-then-is_under-2-clause-above : goal.returns-then-is_under-2-clause-above
returns-then-is_under-2-clause-above c =
    rw c.nullable_type-then-is_under-2.ensures (under_below (bare c.args.scope.now) c.args.to abstract.Extern c.requires.scope.orderly
    (sym c.is_under-2.ensures ∙ c.if-is_under-2.true))

pub returns-clause-exact : goal.returns-clause-exact
returns-clause-exact c =
    c.with_null.ensures
    ∙ sym (top_none (bare c.args.scope.now) c.args.to (sym c.is_internal.ensures ∙ c.if-is_internal.false)
    (sym c.is_under.ensures ∙ c.if-is_under.false)
    (sym c.is_under-2.ensures ∙ c.if-is_under-2.false))

pub returns-clause-valid : goal.returns-clause-valid
returns-clause-valid c = rw c.with_null.ensures (null_valid (bare c.args.scope.now) c.args.to c.requires.to)

pub returns-clause-above : goal.returns-clause-above
returns-clause-above c = rw c.with_null.ensures (null_above (bare c.args.scope.now).types c.args.to)
