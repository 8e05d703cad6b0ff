use Rattle.std.proofs.Common.{[], ◌∷◌, ◌++◌, length, ap, arith, length-append}
use Rattle.smith_wrong_module.proofs.SpliceLemmas.{inserts, removes, replaces}
use Rattle.smith_wrong_module.proofs.examples.lists.Goals as goal

pub returns-clause-replaced : goal.returns-clause-replaced
returns-clause-replaced c = replaces (7 ∷ 8 ∷ 9 ∷ []) 1 5 (omega arith)

pub returns-clause-inserted : goal.returns-clause-inserted
returns-clause-inserted c = inserts (7 ∷ 8 ∷ []) 1 5 (omega arith)

pub returns-clause-removed : goal.returns-clause-removed
returns-clause-removed c = removes (7 ∷ 8 ∷ []) 0 0 (omega arith)

pub returns-clause-two_more : goal.returns-clause-two_more
returns-clause-two_more c differ = omega (
  arith,
  ap length differ.old_parts,
  ap length differ.new_parts,
  length-append differ.before (differ.piece ++ differ.after),
  length-append differ.before (differ.changed ++ differ.after),
  length-append differ.piece differ.after,
  length-append differ.changed differ.after,
  differ.differ.0,
  differ.differ.1,
)
