use Rattle.smith_body_leaves.proofs.Common.{[], bare, I32, IfSome, Instr, Option, subst, sym, where_stands, ◌∷◌}
use Rattle.smith_body_leaves.specs.Leaves.{IsTaking}
use Rattle.smith_body_leaves.proofs.PreferredLemmas.{i31_taking, over_brief}
use Rattle.smith_body_leaves.proofs.created_values.i31_with.Goals as goal

pub returns-clause-brief : goal.returns-clause-brief
returns-clause-brief c = λ draft.
    let place = where_stands c.args.scope.now draft in
    let taking : IsTaking place draft.set.items (I32 ∷ []) c.args.wanted c.in_ok-creation.creation =
    subst (λ (o : Option Instr). IfSome o (IsTaking place draft.set.items (I32 ∷ []) c.args.wanted)) (sym c.in_ok-creation.ensures)
    (i31_taking c.args.scope.now.config.now place draft.set.items c.args.wanted c.requires.scope.orderly) in
    rw c.over_number.ensures (over_brief c.args.scope.now.config.now (bare c.args.scope.now) place draft.set.items c.args.wanted
    c.in_ok-creation.creation _ taking)
