use Rattle.smith_body_leaves.proofs.Common.{where_stands}
use Rattle.smith_instr.specs.declared.aggregate.AggregateInstr.TheVariants as aggregate
use Rattle.smith_instr.specs.declared.instr.Instr.TheVariants as instr
use Rattle.smith_body_leaves.proofs.LeafLemmas.{struct_leaf}
use Rattle.smith_body_leaves.proofs.PreferredLemmas.{only_brief}
use Rattle.smith_body_leaves.proofs.created_values.struct_of.Goals as goal

pub returns-then-is_allowed-clause-brief : goal.returns-then-is_allowed-clause-brief
returns-then-is_allowed-clause-brief c = λ draft.
    rw c.only.ensures
    (only_brief (where_stands c.args.scope.now draft) draft.set.items c.args.wanted
    (instr.Aggregate (aggregate.StructNewDefault c.in_ok-ty.ty))
    (struct_leaf (where_stands c.args.scope.now draft) draft.set.items c.args.wanted c.in_ok-ty.ty c.requires.scope.orderly
    c.in_ok-ty.ensures.offered))
