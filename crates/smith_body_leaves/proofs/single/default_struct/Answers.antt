use Rattle.smith_body_leaves.proofs.Common.{sym, where_stands, ◌∙◌}
use Rattle.smith_instr.specs.declared.aggregate.AggregateInstr.TheVariants as aggregate
use Rattle.smith_instr.specs.declared.instr.Instr.TheVariants as instr
use Rattle.smith_body_leaves.proofs.LeafChoiceLemmas.{made_none, made_some}
use Rattle.smith_body_leaves.proofs.single.default_struct.Goals as goal

pub returns-in_err-ty : goal.returns-in_err-ty
returns-in_err-ty c =
    rw c.from_residual.ensures
    (made_none c.args.scope.now.config.now (where_stands c.args.scope.now c.args.draft.now)
    (λ ty. instr.Aggregate (aggregate.StructNewDefault ty)) _ c.in_err-ty.ensures.exact)

pub returns-then-is_allowed : goal.returns-then-is_allowed
returns-then-is_allowed c =
    made_some c.args.scope.now.config.now (where_stands c.args.scope.now c.args.draft.now)
    (λ ty. instr.Aggregate (aggregate.StructNewDefault ty)) _ c.in_ok-ty.ty _ c.in_ok-ty.ensures.exact
    (sym c.is_allowed.ensures.exact ∙ c.if-is_allowed.true)

pub returns : goal.returns
returns c =
    made_some c.args.scope.now.config.now (where_stands c.args.scope.now c.args.draft.now)
    (λ ty. instr.Aggregate (aggregate.StructNewDefault ty)) _ c.in_ok-ty.ty _ c.in_ok-ty.ensures.exact
    (sym c.is_allowed.ensures.exact ∙ c.if-is_allowed.false)
