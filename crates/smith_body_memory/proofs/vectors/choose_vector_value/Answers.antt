use Rattle.smith_body_memory.specs.declared.vectors.VectorFamily.TheVariants as family
use Rattle.smith_body_memory.proofs.Common.{ok_by}
use Rattle.smith_body_memory.proofs.VectorChoiceLemmas.{vector_choice_by}
use Rattle.smith_body_memory.proofs.vectors.choose_vector_value.Goals as goal

pub returns-in-Instr-clause-exact : goal.returns-in-Instr-clause-exact
returns-in-Instr-clause-exact c =
    ok_by c.choose_row.result _ _ _ (vector_choice_by c.args.scope.now.config.now c.args.scope.now.memories.now c.args.u.now _
    c.vector_families.result.now c.choose.result family.Instr c.vector_families.ensures (c.choose.ensures.exact family.Instr) c.in-Instr.is)
    c.choose_row.ensures.exact

pub returns-in-Load-clause-exact : goal.returns-in-Load-clause-exact
returns-in-Load-clause-exact c = ok_by c.choose_vector_load.result _ _ _
    (vector_choice_by c.args.scope.now.config.now c.args.scope.now.memories.now c.args.u.now _ c.vector_families.result.now c.choose.result
    family.Load c.vector_families.ensures (c.choose.ensures.exact family.Instr) c.in-Load.is) c.choose_vector_load.ensures.exact

pub returns-in-LoadLane-clause-exact : goal.returns-in-LoadLane-clause-exact
returns-in-LoadLane-clause-exact c = ok_by c.choose_load_lane.result _ _ _
    (vector_choice_by c.args.scope.now.config.now c.args.scope.now.memories.now c.args.u.now _ c.vector_families.result.now c.choose.result
    family.LoadLane c.vector_families.ensures (c.choose.ensures.exact family.Instr) c.in-LoadLane.is) c.choose_load_lane.ensures.exact
