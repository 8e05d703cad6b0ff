use Rattle.smith_instr_examples.proofs.Common.{[], ◌∷◌, refl, ap, length, All-from_recursion, I32, labelled, IsCatch, step, try_table, one}
use Rattle.smith_instr_examples.proofs.Common.{framed, finished, number, managed}
use Rattle.smith_instr.specs.declared.control.Catch.TheVariants as catch
use Rattle.smith_instr.specs.declared.instr.Instr.TheVariants as instr
use Rattle.smith_instr_examples.proofs.PartLemmas.{try_parts, is_inner}
use Rattle.smith_instr_examples.proofs.SequenceExamples.{is_plain, one_left, valid_none, valid_one}
use Rattle.smith_instr_examples.proofs.ManagedExamples.{takes_there}
use Rattle.smith_instr_examples.proofs.handlers.try_tables.Goals as goal

pub returns-clause-to_an_outer_label : goal.returns-clause-to_an_outer_label
returns-clause-to_an_outer_label c =
    let context = managed ((I32 ∷ []) ∷ []) [] in
    let inside = labelled context [] in
    let none = valid_none inside in
    try_table {body = number 1 ∷ instr.Throw 0 ∷ []} {more = []} {params = []} {results = []} refl (refl, refl)
    (All-from_recursion (IsCatch context) (catch.One 0 0 ∷ []) ((I32 ∷ [], (7, refl, takes_there), (I32 ∷ [], refl, (tt, tt))), tt))
    (step (one inside (number 1) [] (I32 ∷ []) [] [] [] (refl, refl) (valid_one inside I32 tt) refl)
    (step (one inside (instr.Throw 0) (I32 ∷ []) [] [] [] [] (I32 ∷ [], (7, refl, takes_there), ([], refl, none)) none refl)
    (finished inside [] [] none)))
    (framed context [] [] [] [] [] [] (valid_none context) refl) (finished context [] [] (valid_none context))

pub returns-clause-with_a_result : goal.returns-clause-with_a_result
returns-clause-with_a_result c =
    let context = managed ([] ∷ []) [] in
    let inside = labelled context (I32 ∷ []) in
    let valid = valid_one context I32 tt in
    try_table {body = number 1 ∷ []} {more = []} {params = []} {results = I32 ∷ []} refl (tt, refl, refl)
    (All-from_recursion (IsCatch context) (catch.All 0 ∷ []) (([], refl, tt), tt))
    (step (one inside (number 1) [] (I32 ∷ []) [] [] [] (refl, refl) (valid_one inside I32 tt) refl)
    (finished inside (I32 ∷ []) [] (valid_one inside I32 tt)))
    (framed context [] (I32 ∷ []) [] [] [] [] valid refl) (finished context (I32 ∷ []) [] valid)

pub returns-clause-body_with_a_value_left : goal.returns-clause-body_with_a_value_left
unfolding is_inner is_plain
returns-clause-body_with_a_value_left c = λ before after typed.
    let parts = try_parts (number 1 ∷ []) [] (refl, tt) tt typed in
    one_left (ap length parts.fits.0) (ap length parts.fits.1) parts.within
