use Rattle.smith_body_leaves.proofs.Common.{ap, List, Option, refl, where_stands, ℕ}
use Rattle.smith_instr.specs.declared.instr.Instr.TheVariants as instr
use Rattle.smith_instr.specs.declared.reference.ReferenceInstr.TheVariants as reference
use Rattle.smith_body_leaves.specs.Leaves.{by_index, named_at}
use Rattle.smith_body_leaves.proofs.LeafLemmas.{local_leaf, global_leaf}
use Rattle.smith_body_leaves.proofs.single.leaf_of.Goals as goal

pub returns-in_ok-index-in-Global-clause-typed : goal.returns-in_ok-index-in-Global-clause-typed
returns-in_ok-index-in-Global-clause-typed c = global_leaf (where_stands c.args.scope.now c.args.draft.now) c.args.draft.now.set.items
    c.args.wanted c.in_ok-index-in-Global.index c.requires.scope.orderly c.in_ok-index-in-Global.ensures.offered

pub returns-in_ok-index-in-Local-clause-typed : goal.returns-in_ok-index-in-Local-clause-typed
returns-in_ok-index-in-Local-clause-typed c = local_leaf (where_stands c.args.scope.now c.args.draft.now) c.args.draft.now.set.items
    c.args.wanted c.in_ok-index-in-Local.index c.requires.scope.orderly c.in_ok-index-in-Local.ensures.offered

pub returns-in_err-index-in-Local-clause-exact : goal.returns-in_err-index-in-Local-clause-exact
returns-in_err-index-in-Local-clause-exact c = rw (c.from_residual.ensures, c.in-Local.is)
    (ap (λ (d : Option ℕ × List ℕ). by_index (λ index. instr.LocalGet index) d) c.in_err-index-in-Local.ensures.exact)

pub returns-in_ok-index-in-Local-clause-exact : goal.returns-in_ok-index-in-Local-clause-exact
returns-in_ok-index-in-Local-clause-exact c =
    rw c.in-Local.is (ap (λ (d : Option ℕ × List ℕ). by_index (λ index. instr.LocalGet index) d) c.in_ok-index-in-Local.ensures.exact)

pub returns-in_err-index-in-Global-clause-exact : goal.returns-in_err-index-in-Global-clause-exact
returns-in_err-index-in-Global-clause-exact c =
    rw (c.from_residual-in_err-index-in-Global.ensures, c.in-Global.is)
    (ap (λ (d : Option ℕ × List ℕ). by_index (λ index. instr.GlobalGet index) d) c.in_err-index-in-Global.ensures.exact)

pub returns-in_ok-index-in-Global-clause-exact : goal.returns-in_ok-index-in-Global-clause-exact
returns-in_ok-index-in-Global-clause-exact c =
    rw c.in-Global.is (ap (λ (d : Option ℕ × List ℕ). by_index (λ index. instr.GlobalGet index) d) c.in_ok-index-in-Global.ensures.exact)

pub returns-in_err-function-in-Reference-clause-exact : goal.returns-in_err-function-in-Reference-clause-exact
unfolding named_at
returns-in_err-function-in-Reference-clause-exact c =
    rw (c.from_residual-in_err-function-in-Reference.ensures, c.in-Reference.is)
    (ap (λ (d : Option ℕ × List ℕ). by_index (λ function. instr.Reference (reference.Func function)) d)
    c.in_err-function-in-Reference.ensures.exact)

pub returns-in_ok-function-in-Reference-clause-exact : goal.returns-in_ok-function-in-Reference-clause-exact
unfolding named_at
returns-in_ok-function-in-Reference-clause-exact c =
    rw c.in-Reference.is (ap (λ (d : Option ℕ × List ℕ). by_index (λ function. instr.Reference (reference.Func function)) d)
    c.in_ok-function-in-Reference.ensures.exact)

pub returns-in-Constant-clause-exact : goal.returns-in-Constant-clause-exact
returns-in-Constant-clause-exact c = rw c.in-Constant.is refl
