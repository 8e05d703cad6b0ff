use Rattle.smith_body.proofs.Common.{replicate, ◌++◌, ◌≡◌}
use Rattle.smith_instr.specs.declared.instr.Instr.TheVariants as instr
use Rattle.smith_body.proofs.writes.drop_values.Given as goal

abbrev pub invariant-loop : goal.invariant-loop
invariant-loop l = record {
  out : l.draft.out ≡ l.fn.draft.out ++ replicate l.counter instr.Drop;
  set : l.draft.set.items ≡ l.fn.draft.set.items;
  same : l.draft.labels.items ≡ l.fn.draft.labels.items;
  budget : l.draft.budget ≡ l.fn.draft.budget;
}
