use Rattle.smith_body_memory.proofs.Common.{ok_by, sym, where_stands, ◌∙◌}
use Rattle.smith_body_memory.proofs.VectorChoiceLemmas.{vector_off, vector_on}
use Rattle.smith_body_memory.proofs.vectors.choose_vector.Goals as goal

pub returns-then-not-has_vectors-clause-exact : goal.returns-then-not-has_vectors-clause-exact
returns-then-not-has_vectors-clause-exact c = vector_off c.args.scope.now.config.now (where_stands c.args.scope.now c.args.draft.now)
    c.args.wanted c.args.u.now (sym c.has_vectors.ensures ∙ c.if-not-has_vectors.true)

pub returns-clause-exact : goal.returns-clause-exact
returns-clause-exact c =
    ok_by c.choose_any_vector.result _ _ _ (vector_on c.args.scope.now.config.now (where_stands c.args.scope.now c.args.draft.now)
    c.args.wanted c.args.u.now (sym c.has_vectors.ensures ∙ c.if-not-has_vectors.false)) c.choose_any_vector.ensures.exact
