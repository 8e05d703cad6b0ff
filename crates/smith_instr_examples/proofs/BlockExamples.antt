-- Loops, ifs with an else and blocks, taken apart.
use Rattle.smith_instr_examples.proofs.Common.{◌≡◌, ℕ, ◌+◌, List, [], ◌∷◌, ◌++◌, length, refl, ap, ◌∙◌, arith, length-append, same_Some}
use Rattle.smith_instr_examples.proofs.Common.{IsFuncAt, final_type, taking, Func, FuncType, ValType, I32, BodyContext, labelled, Stacked}
use Rattle.smith_instr_examples.proofs.Common.{stacked, AreTyped, IsBodyTyped, IsBlockType, step, block, loop, if_alone, if_else, try_table}
use Rattle.smith_instr_examples.proofs.Common.{BlockType, subst, one, framed, finished, function_of, number, weakens}
use Rattle.smith_instr.specs.declared.control.BlockType.TheVariants as blocks
use Rattle.smith_instr.specs.declared.instr.Instr.TheVariants as instr
use Rattle.smith_instr_examples.proofs.ManagedExamples.{func_alone}
use Rattle.smith_instr_examples.proofs.PartLemmas.{loop_parts, arms, no_else, is_inner}
use Rattle.smith_instr_examples.proofs.SequenceExamples.{is_plain, step_of, end_height, height, zip_length, valid_none, valid_one}

-- a function type that takes an i32
abbrev pub takes : FuncType
takes = record { params = I32 ∷ []; results = [] }

pub takes_there : (locals results : List ValType) → IsFuncAt (function_of locals results).types 1 takes
takes_there locals results = (final_type (taking (I32 ∷ [])), refl, refl)

-- the one from a reference that is not null to one that may be null
pub weakens_there : (locals results : List ValType) → IsFuncAt (function_of locals results).types 4 weakens
weakens_there locals results = (final_type (Func weakens), refl, refl)

pub back : AreTyped (function_of [] []) (instr.Loop (blocks.Func 1) ∷ instr.Br 0 ∷ instr.End ∷ []) (stacked (I32 ∷ []) []) (stacked [] [])
back =
    let context = function_of [] [] in
    let inside = labelled context (I32 ∷ []) in
    let none = valid_none inside in
    loop {body = instr.Br 0 ∷ []} {more = []} {params = I32 ∷ []} {results = []} refl (
      record { params = I32 ∷ []; results = [] },
      takes_there [] [],
      refl,
      refl,
    )
    (step (one inside (instr.Br 0) (I32 ∷ []) [] [] [] [] (I32 ∷ [], refl, ([], refl, none)) none refl) (finished inside [] [] none))
    (framed context (I32 ∷ []) [] [] [] [] [] (valid_none context) refl) (finished context [] [] (valid_none context))

pub onwards : AreTyped (function_of [] []) (instr.Block (blocks.Func 1) ∷ instr.Drop ∷ instr.Br 0 ∷ instr.End ∷ []) (stacked (I32 ∷ []) [])
    (stacked [] [])
onwards =
    let context = function_of [] [] in
    let inside = labelled context [] in
    let none = valid_none inside in
    block {body = instr.Drop ∷ instr.Br 0 ∷ []} {more = []} {params = I32 ∷ []} {results = []} refl
    (record { params = I32 ∷ []; results = [] }, takes_there [] [], refl, refl)
    (step (one inside instr.Drop (I32 ∷ []) [] [] [] [] (I32, (refl, refl)) none refl)
    (step (one inside (instr.Br 0) [] [] [] [] [] ([], refl, ([], refl, none)) none refl) (finished inside [] [] none)))
    (framed context (I32 ∷ []) [] [] [] [] [] (valid_none context) refl) (finished context [] [] (valid_none context))

-- a branch to a label that takes one value, after the only value was dropped
no_value : {context : BodyContext} {params : List ValType} {set : List ℕ} {after : Stacked} → length params ≡ 1
    → AreTyped (labelled context params) (instr.Drop ∷ instr.Br 0 ∷ []) (stacked params set) after → ⊥
unfolding is_plain
no_value {params = params} one typed =
    let (a, first, rest) = step_of refl typed in
    let (b, second, last) = step_of refl rest in
    let (enough, high) = height first in
    let (enough', high') = height second in
    let dropped : length first.operands ≡ 1 = ap length first.typed.1.0 in
    let left : length first.results ≡ 0 = ap length first.typed.1.1 in
    let (taken, at, (below, is, valid)) = second.typed in
    let same : length params ≡ length taken = ap length (same_Some params taken at) in
    let many : length second.operands ≡ length below + length taken = ap length is ∙ simp length-append refl in
    omega arith

pub not_back : {a b : Stacked} → AreTyped (function_of [] []) (instr.Loop (blocks.Func 1) ∷ instr.Drop ∷ instr.Br 0 ∷ instr.End ∷ []) a b
    → ⊥
unfolding is_inner is_plain
not_back typed =
    let parts = loop_parts (instr.Drop ∷ instr.Br 0 ∷ []) [] (refl, (refl, tt)) tt typed in
    let (function, at, taken, given) = parts.fits in
    no_value (ap length taken ∙ ap (λ (f : FuncType). length f.params) (func_alone (function_of [] []).types 1 takes function
    (takes_there [] []) at)) parts.within

pub either : AreTyped (function_of [] []) (instr.If (blocks.Value I32) ∷ number 1 ∷ instr.Else ∷ number 2 ∷ instr.End ∷ [])
    (stacked (I32 ∷ []) []) (stacked (I32 ∷ []) [])
either =
    let context = function_of [] [] in
    let inside = labelled context (I32 ∷ []) in
    let valid = valid_one inside I32 tt in
    if_else {body = number 1 ∷ []} {other = number 2 ∷ []} {more = []} {params = []} {results = I32 ∷ []} refl (tt, refl, refl)
    (step (one inside (number 1) [] (I32 ∷ []) [] [] [] (refl, refl) valid refl) (finished inside (I32 ∷ []) [] valid))
    (step (one inside (number 2) [] (I32 ∷ []) [] [] [] (refl, refl) valid refl) (finished inside (I32 ∷ []) [] valid))
    (framed context (I32 ∷ []) (I32 ∷ []) [] [] [] [] (valid_one context I32 tt) refl)
    (finished context (I32 ∷ []) [] (valid_one context I32 tt))

pub no_result : {context : BodyContext} {a b : Stacked}
    → AreTyped context (instr.If (blocks.Value I32) ∷ number 1 ∷ instr.Else ∷ instr.End ∷ []) a b → ⊥
unfolding is_inner is_plain
no_result typed =
    let parts = (arms (number 1 ∷ []) [] [] (refl, tt) tt tt typed).second in
    let high = end_height parts.within in
    let low : length parts.params ≡ 0 = ap length parts.fits.1 in
    let top : length parts.results ≡ 1 = ap length parts.fits.2 in
    omega arith

-- an if for a result, without an else
no_if : {context : BodyContext} {a b : Stacked} → AreTyped context (instr.If (blocks.Value I32) ∷ number 2 ∷ instr.End ∷ []) a b → ⊥
unfolding is_inner is_plain
no_if (step s rest) = s.typed
no_if (block is fits inner framed rest) = cc
no_if (loop is fits inner framed rest) = cc
no_if {context = context} (if_alone {ty = ty} {params = params} {results = results} is fits inner same framed rest) =
    let of : ty ≡ blocks.Value I32 = cc in
    let (valid, none, one) = subst (λ (t : BlockType). IsBlockType context t params results) of fits in
    let high = zip_length _ params results same.below in
    let low : length params ≡ 0 = ap length none in
    let top : length results ≡ 1 = ap length one in
    omega arith
no_if (if_else {body = body} {other = other} {more = more} is fits inner last framed rest) =
    absurd (no_else (number 2 ∷ []) [] (refl, tt) tt body (other ++ instr.End ∷ more) cc)
no_if (try_table is fits caught inner framed rest) = cc

pub if_for_a_result : IsBodyTyped (function_of [] (I32 ∷ [])) (number 1 ∷ instr.If (blocks.Value I32) ∷ number 2 ∷ instr.End ∷ []) → ⊥
unfolding is_plain
if_for_a_result body = let (a, first, rest) = step_of refl body.typed in no_if rest
