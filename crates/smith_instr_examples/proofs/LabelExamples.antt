-- Branches to the label of the block that they are in.
use Rattle.smith_types.specs.Syntax.value_type.AbstractHeapType.TheVariants as heap
use Rattle.smith_instr.specs.declared.control.BlockType.TheVariants as blocks
use Rattle.smith_instr.specs.declared.instr.Instr.TheVariants as instr
use Rattle.smith_instr.specs.declared.reference.ReferenceInstr.TheVariants as reference
use Rattle.smith_instr_examples.proofs.Common.{◌≡◌, ℕ, List, [], ◌∷◌, ◌++◌, refl, sym, ap, ◌∙◌, same_Some, All-nil, plain, FuncType}
use Rattle.smith_instr_examples.proofs.Common.{ValType, I32, I64, Ref, funcref, IsValBelow, BodyContext, labelled, IsCatch, IsLabel}
use Rattle.smith_instr_examples.proofs.Common.{Stacked, stacked, AreTyped, step, block, loop, if_alone, if_else, try_table, one, framed}
use Rattle.smith_instr_examples.proofs.Common.{finished, function_of, number, some_func, weakens, wide_number}
use Rattle.smith_instr_examples.proofs.BlockExamples.{takes, takes_there, weakens_there}
use Rattle.smith_instr_examples.proofs.ManagedExamples.{func_alone}
use Rattle.smith_instr_examples.proofs.PartLemmas.{block_parts, loop_parts, if_parts, try_parts, arms, is_inner}
use Rattle.smith_instr_examples.proofs.PassedLemmas.{passed}
use Rattle.smith_instr_examples.proofs.SequenceExamples.{is_plain, step_of, funcref_valid, weakened, valid_none, valid_one}

abbrev context : BodyContext
context = function_of [] []

-- a wide number for a label of another type
wrong : {outer : BodyContext} {taken : List ValType} {a b : Stacked} (n label : ℕ) (wanted : ValType)
    → (IsValBelow outer.types I64 wanted → ⊥) → IsLabel outer label taken → taken ≡ wanted ∷ []
    → AreTyped outer (wide_number n ∷ instr.Br label ∷ []) a b → ⊥
unfolding is_plain
wrong {taken = taken} n label wanted apart there is typed =
    let (between, first, more) = step_of refl typed in
    let (after, second, rest) = step_of refl more in
    let (found, at, (below, operands, valid)) = second.typed in
    let same : found ≡ wanted ∷ [] = same_Some found taken (sym at ∙ there) ∙ is in
    apart (passed first.framed second.framed I64 wanted below first.typed.1 (operands ∙ ap (λ (xs : List ValType). below ++ xs) same))

module _ {a b : Stacked} where
  pub wrong_in_the_first_arm : AreTyped context (instr.If (blocks.Value I32) ∷ wide_number 1 ∷ instr.Br 0 ∷ instr.Else ∷ number 2
      ∷ instr.End ∷ []) a b → ⊥
  unfolding is_inner is_plain
  wrong_in_the_first_arm typed =
      let parts = (arms (wide_number 1 ∷ instr.Br 0 ∷ []) (number 2 ∷ []) [] (refl, (refl, tt)) (refl, tt) tt typed).first in
      wrong 1 0 I32 (λ never. never) refl parts.fits.2 parts.within

  pub wrong_in_the_second_arm : AreTyped context (instr.If (blocks.Value I32) ∷ number 1 ∷ instr.Else ∷ wide_number 2 ∷ instr.Br 0
      ∷ instr.End ∷ []) a b → ⊥
  unfolding is_inner is_plain
  wrong_in_the_second_arm typed =
      let parts = (arms (number 1 ∷ []) (wide_number 2 ∷ instr.Br 0 ∷ []) [] (refl, tt) (refl, (refl, tt)) tt typed).second in
      wrong 2 0 I32 (λ never. never) refl parts.fits.2 parts.within

  pub wrong_in_the_only_arm : AreTyped context (instr.If (blocks.Func 4) ∷ wide_number 1 ∷ instr.Br 0 ∷ instr.End ∷ []) a b → ⊥
  unfolding is_inner is_plain
  wrong_in_the_only_arm typed =
      let parts = if_parts (wide_number 1 ∷ instr.Br 0 ∷ []) [] (refl, (refl, tt)) tt typed in
      let (function, at, taken, given) = parts.fits in
      wrong 1 0 (Ref funcref) (λ never. never) refl
      (given ∙ ap (λ (f : FuncType). f.results) (func_alone context.types 4 weakens function (weakens_there [] []) at)) parts.within

  pub wrong_in_a_try_table : AreTyped context (instr.TryTable (blocks.Value I32) [] ∷ wide_number 1 ∷ instr.Br 0 ∷ instr.End ∷ []) a b → ⊥
  unfolding is_inner is_plain
  wrong_in_a_try_table typed =
      let parts = try_parts (wide_number 1 ∷ instr.Br 0 ∷ []) [] (refl, (refl, tt)) tt typed in
      wrong 1 0 I32 (λ never. never) refl parts.fits.2 parts.within

  pub wrong_in_a_block : AreTyped context (instr.Block (blocks.Value I32) ∷ wide_number 1 ∷ instr.Br 0 ∷ instr.End ∷ []) a b → ⊥
  unfolding is_inner is_plain
  wrong_in_a_block typed =
      let parts = block_parts (wide_number 1 ∷ instr.Br 0 ∷ []) [] (refl, (refl, tt)) tt typed in
      wrong 1 0 I32 (λ never. never) refl parts.fits.2 parts.within

  pub wrong_for_the_next : AreTyped (labelled context (I32 ∷ [])) (instr.Block (blocks.Value I64) ∷ wide_number 1 ∷ instr.Br 1 ∷ instr.End
      ∷ []) a b → ⊥
  unfolding is_inner is_plain
  wrong_for_the_next typed = wrong 1 1 I32 (λ never. never) refl refl (block_parts (wide_number 1 ∷ instr.Br 1 ∷ []) [] (refl, (refl, tt))
      tt typed).within

  pub wrong_in_a_loop : AreTyped context (instr.Loop (blocks.Func 1) ∷ wide_number 1 ∷ instr.Br 0 ∷ instr.End ∷ []) a b → ⊥
  unfolding is_inner is_plain
  wrong_in_a_loop typed =
      let parts = loop_parts (wide_number 1 ∷ instr.Br 0 ∷ []) [] (refl, (refl, tt)) tt typed in
      let (function, at, taken, given) = parts.fits in
      wrong 1 0 I32 (λ never. never) refl
      (taken ∙ ap (λ (f : FuncType). f.params) (func_alone context.types 1 takes function (takes_there [] []) at)) parts.within

-- a body that leaves a number, and one that branches with it
abbrev inside : BodyContext
inside = labelled context (I32 ∷ [])

leaves : (n : ℕ) → AreTyped inside (number n ∷ []) (stacked [] []) (stacked (I32 ∷ []) [])
leaves n = step (one inside (number n) [] (I32 ∷ []) [] [] [] (refl, refl) (valid_one inside I32 tt) refl)
    (finished inside (I32 ∷ []) [] (valid_one inside I32 tt))

branches : (n : ℕ) → AreTyped inside (number n ∷ instr.Br 0 ∷ []) (stacked [] []) (stacked (I32 ∷ []) [])
branches n =
    let valid = valid_one inside I32 tt in
    step (one inside (number n) [] (I32 ∷ []) [] [] [] (refl, refl) valid refl)
    (step (one inside (instr.Br 0) (I32 ∷ []) (I32 ∷ []) [] [] [] (I32 ∷ [], refl, ([], refl, valid)) valid refl)
    (finished inside (I32 ∷ []) [] valid))

ended : AreTyped context [] (stacked (I32 ∷ []) []) (stacked (I32 ∷ []) [])
ended = finished context (I32 ∷ []) [] (valid_one context I32 tt)

pub in_the_first_arm : AreTyped context (instr.If (blocks.Value I32) ∷ number 1 ∷ instr.Br 0 ∷ instr.Else ∷ number 2 ∷ instr.End ∷ [])
    (stacked (I32 ∷ []) []) (stacked (I32 ∷ []) [])
in_the_first_arm =
    if_else {body = number 1 ∷ instr.Br 0 ∷ []} {other = number 2 ∷ []} {more = []} {params = []} {results = I32 ∷ []} refl (tt, refl, refl)
    (branches 1) (leaves 2)
    (framed context (I32 ∷ []) (I32 ∷ []) [] [] [] [] (valid_one context I32 tt) refl) ended

pub in_the_second_arm : AreTyped context (instr.If (blocks.Value I32) ∷ number 1 ∷ instr.Else ∷ number 2 ∷ instr.Br 0 ∷ instr.End ∷ [])
    (stacked (I32 ∷ []) []) (stacked (I32 ∷ []) [])
in_the_second_arm =
    if_else {body = number 1 ∷ []} {other = number 2 ∷ instr.Br 0 ∷ []} {more = []} {params = []} {results = I32 ∷ []} refl (tt, refl, refl)
    (leaves 1) (branches 2)
    (framed context (I32 ∷ []) (I32 ∷ []) [] [] [] [] (valid_one context I32 tt) refl) ended

pub in_the_only_arm : AreTyped context (instr.If (blocks.Func 4) ∷ instr.Drop ∷ instr.Reference (reference.Null (plain heap.Func))
    ∷ instr.Br 0 ∷ instr.End ∷ []) (stacked (some_func ∷ I32 ∷ []) []) (stacked (Ref funcref ∷ []) [])
in_the_only_arm =
    let within = labelled context (Ref funcref ∷ []) in
    let valid = funcref_valid within refl in
    if_alone {body = instr.Drop ∷ instr.Reference (reference.Null (plain heap.Func)) ∷ instr.Br 0 ∷ []} {more = []}
    {params = some_func ∷ []} {results = Ref funcref ∷ []} refl (weakens, weakens_there [] [], refl, refl)
    (step (one within instr.Drop (some_func ∷ []) [] [] [] [] (some_func, (refl, refl)) (valid_none within) refl)
    (step (one within (instr.Reference (reference.Null (plain heap.Func))) [] (Ref funcref ∷ []) [] [] [] ((tt, λ never. cc), (refl, refl))
    valid refl)
    (step (one within (instr.Br 0) (Ref funcref ∷ []) (Ref funcref ∷ []) [] [] [] (Ref funcref ∷ [], refl, ([], refl, valid)) valid refl)
    (finished within (Ref funcref ∷ []) [] valid))))
    (weakened context refl) (framed context (some_func ∷ I32 ∷ []) (Ref funcref ∷ []) [] [] [] [] (funcref_valid context refl) refl)
    (finished context (Ref funcref ∷ []) [] (funcref_valid context refl))

pub in_a_try_table : AreTyped context (instr.TryTable (blocks.Value I32) [] ∷ number 1 ∷ instr.Br 0 ∷ instr.End ∷ []) (stacked [] [])
    (stacked (I32 ∷ []) [])
in_a_try_table =
    try_table {body = number 1 ∷ instr.Br 0 ∷ []} {more = []} {params = []} {results = I32 ∷ []} refl (tt, refl, refl)
    (All-nil (IsCatch context)) (branches 1)
    (framed context [] (I32 ∷ []) [] [] [] [] (valid_one context I32 tt) refl) ended

pub for_the_next : AreTyped (labelled context (I64 ∷ [])) (instr.Block (blocks.Value I32) ∷ wide_number 1 ∷ instr.Br 1 ∷ instr.End ∷ [])
    (stacked [] []) (stacked (I32 ∷ []) [])
for_the_next =
    let outer = labelled context (I64 ∷ []) in
    let within = labelled outer (I32 ∷ []) in
    let valid = valid_one within I32 tt in
    block {body = wide_number 1 ∷ instr.Br 1 ∷ []} {more = []} {params = []} {results = I32 ∷ []} refl (tt, refl, refl)
    (step (one within (wide_number 1) [] (I64 ∷ []) [] [] [] (refl, refl) (valid_one within I64 tt) refl)
    (step (one within (instr.Br 1) (I64 ∷ []) (I32 ∷ []) [] [] [] (I64 ∷ [], refl, ([], refl, valid)) valid refl)
    (finished within (I32 ∷ []) [] valid)))
    (framed outer [] (I32 ∷ []) [] [] [] [] (valid_one outer I32 tt) refl) (finished outer (I32 ∷ []) [] (valid_one outer I32 tt))

pub in_a_loop : AreTyped context (instr.Loop (blocks.Value I32) ∷ instr.Br 0 ∷ instr.End ∷ []) (stacked [] []) (stacked (I32 ∷ []) [])
in_a_loop =
    let within = labelled context [] in
    let valid = valid_one within I32 tt in
    loop {body = instr.Br 0 ∷ []} {more = []} {params = []} {results = I32 ∷ []} refl (tt, refl, refl)
    (step (one within (instr.Br 0) [] (I32 ∷ []) [] [] [] ([], refl, ([], refl, valid)) valid refl) (finished within (I32 ∷ []) [] valid))
    (framed context [] (I32 ∷ []) [] [] [] [] (valid_one context I32 tt) refl) ended
