use Rattle.smith_body_control.proofs.Common.{sym, where_stands, ◌∙◌}
use Rattle.smith_body_control.proofs.ThrowLemmas.{throw_ref_gives}
use Rattle.smith_body_control.proofs.throws.choose_throw_ref.Goals as goal

pub returns-clause-offer : goal.returns-clause-offer
returns-clause-offer c = λ values valid.
    rw (c.in_ok-node.ensures.exact, c.nullable_to.ensures, c.exn.ensures)
    (throw_ref_gives (where_stands c.args.scope.now c.args.draft.now) c.args.draft.now.set.items values
    (sym c.refers_to_exceptions.ensures ∙ c.if-not-refers_to_exceptions.false) valid)
