use Rattle.smith_types_examples.proofs.Common.{rules, arith, [], ◌∷◌, ℕ, zero, suc, ◌<◌, Some, None, refl, slice_index, HasDepth, root}
use Rattle.smith_types_examples.proofs.Common.{deeper, open_type, empty_struct, struct_and_below}
use Rattle.smith_types_examples.proofs.types.depths.Goals as goal

on_its_own : HasDepth struct_and_below 0 1
on_its_own = root {t = open_type None empty_struct} refl refl

one_deeper : HasDepth struct_and_below 1 2
one_deeper = deeper {t = open_type (Some 0) empty_struct} refl refl on_its_own

each_depth : (i : ℕ) → i < 2 → HasDepth struct_and_below i (slice_index (1 ∷ 2 ∷ []) i)
each_depth zero inside = on_its_own
each_depth (suc zero) inside = one_deeper
each_depth (suc (suc i)) inside = absurd (omega (arith, inside))

not_the_same : ¬ HasDepth struct_and_below 1 1
not_the_same = search rules

pub returns-clause-on_its_own : goal.returns-clause-on_its_own
returns-clause-on_its_own c = on_its_own

pub returns-clause-one_deeper : goal.returns-clause-one_deeper
returns-clause-one_deeper c = one_deeper

pub returns-clause-of_all : goal.returns-clause-of_all
returns-clause-of_all c = record { long = refl; each = each_depth }

pub returns-clause-of_another : goal.returns-clause-of_another
returns-clause-of_another c = λ depths. not_the_same (depths.each 1 (omega arith))
