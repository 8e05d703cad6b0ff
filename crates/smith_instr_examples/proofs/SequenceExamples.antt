-- Sequences of one instruction after another, taken apart.
use Rattle.smith_instr_examples.proofs.Common.{◌≡◌, ℕ, suc, ◌+◌, ◌<◌, ◌≤◌, Bool, true, false, inl, inr, List, [], ◌∷◌, ◌++◌, length, refl}
use Rattle.smith_instr_examples.proofs.Common.{sym, subst, ap, ◌∙◌, arith, length-append, AllZip, same_Some, All-nil, All-push}
use Rattle.smith_instr_examples.proofs.Common.{IsDefaultable, IsValBelow, itself, ValType, I32, I64, Ref, funcref, usual_features}
use Rattle.smith_instr_examples.proofs.Common.{final_type, Func, BodyContext, labelled, IsValid, AreValid, HasInstrType, Stacked, stacked}
use Rattle.smith_instr_examples.proofs.Common.{CountsAs, IsStep, AreTyped, IsBodyTyped, nothing, step, block, loop, if_alone, if_else}
use Rattle.smith_instr_examples.proofs.Common.{try_table, Instr, one, framed, finished, count_as_themselves, weakens, function_of}
use Rattle.smith_instr_examples.proofs.Common.{some_func, number, add}
use Rattle.smith_instr.specs.declared.control.BlockType.TheVariants as blocks
use Rattle.smith_instr.specs.declared.instr.Instr.TheVariants as instr

-- whether an instruction opens no block
unfoldable pub is_plain : Instr → Bool
is_plain (instr.Block ty) = false
is_plain (instr.Loop ty) = false
is_plain (instr.If ty) = false
is_plain (instr.TryTable ty clauses) = false
is_plain _ = true

opens_not : {A : Type 0} (first other : Instr) (xs ys : List Instr) → first ∷ xs ≡ other ∷ ys → is_plain first ≡ true
    → is_plain other ≡ false → A
opens_not first other xs ys is plain opens = let same : first ≡ other = cc in let never : is_plain other ≡ true = rw same at plain in cc

-- the first step of a sequence that begins with an instruction that opens no block
pub step_of : {context : BodyContext} {instruction : Instr} {more : List Instr} {a b : Stacked} → is_plain instruction ≡ true
    → AreTyped context (instruction ∷ more) a b → (between : Stacked) × IsStep context instruction a between
    × AreTyped context more between b
unfolding is_plain
step_of plain (step {between = between} first rest) = (between, first, rest)
step_of {instruction = i} {more = more} plain (block {ty = ty} is fits inner framed rest) = opens_not i (instr.Block ty) _ _ is plain refl
step_of {instruction = i} {more = more} plain (loop {ty = ty} is fits inner framed rest) = opens_not i (instr.Loop ty) _ _ is plain refl
step_of {instruction = i} {more = more} plain (if_alone {ty = ty} is fits inner same framed rest) =
    opens_not i (instr.If ty) _ _ is plain refl
step_of {instruction = i} {more = more} plain (if_else {ty = ty} is fits inner last framed rest) =
    opens_not i (instr.If ty) _ _ is plain refl
step_of {instruction = i} {more = more} plain (try_table {ty = ty} {clauses = clauses} is fits caught inner framed rest) =
    opens_not i (instr.TryTable ty clauses) _ _ is plain refl

pub zip_length : {A B : Type 0} (R : A → B → Type 0) (xs : List A) (ys : List B) → AllZip R xs ys → length xs ≡ length ys
zip_length R [] [] h = refl
zip_length R [] (y ∷ ys) h = absurd h
zip_length R (x ∷ xs) [] h = absurd h
zip_length R (x ∷ xs) (y ∷ ys) (p, h) = ap suc (zip_length R xs ys h)

-- after the last instruction, the stack counts as the stack at the end, and has its height
pub end_of : {context : BodyContext} {a b : Stacked} → AreTyped context [] a b → CountsAs context a.stack b.stack
end_of (nothing counts same) = counts
end_of (block is fits inner framed rest) = cc
end_of (loop is fits inner framed rest) = cc
end_of (if_alone is fits inner same framed rest) = cc
end_of (if_else is fits inner last framed rest) = cc
end_of (try_table is fits caught inner framed rest) = cc

pub end_height : {context : BodyContext} {a b : Stacked} → AreTyped context [] a b → length a.stack ≡ length b.stack
end_height {context = context} {a = a} {b = b} end = zip_length (IsValBelow context.types) a.stack b.stack (end_of end).below

-- the height of the stack after a step
pub height : {context : BodyContext} {instruction : Instr} {a b : Stacked} (s : IsStep context instruction a b)
    → (length s.operands ≤ length a.stack) × (length b.stack + length s.operands ≡ length a.stack + length s.results)
height {context = context} {a = a} {b = b} s =
    let f = s.framed in
    let taken = zip_length _ f.taken s.operands f.accepted in
    let given = zip_length _ s.results f.given f.offered.below in
    let under : length a.stack ≡ length f.rest + length f.taken = rw f.under (simp length-append refl) in
    let over : length b.stack ≡ length f.rest + length f.given = rw f.over (simp length-append refl) in
    (omega arith, omega arith)

pub valid_none : (context : BodyContext) → AreValid context []
valid_none context = All-nil (IsValid context)

pub valid_one : (context : BodyContext) (value : ValType) → IsValid context value → AreValid context (value ∷ [])
valid_one context value valid = All-push (IsValid context) [] value (All-nil (IsValid context)) valid

pub sum_of_two : IsBodyTyped (function_of [] (I32 ∷ [])) (number 1 ∷ number 2 ∷ add ∷ [])
sum_of_two =
    let context = labelled (function_of [] (I32 ∷ [])) (I32 ∷ []) in
    let valid = valid_one context I32 tt in
    record {
      set = [];
      typed = step (one context (number 1) [] (I32 ∷ []) [] [] [] (refl, refl) valid refl)
          (step (one context (number 2) [] (I32 ∷ []) (I32 ∷ []) [] [] (refl, refl) valid refl)
          (step (one context add (I32 ∷ I32 ∷ []) (I32 ∷ []) [] [] [] (refl, refl) valid refl) (finished context (I32 ∷ []) [] valid)));
    }

pub sum_of_one : IsBodyTyped (function_of [] (I32 ∷ [])) (number 1 ∷ add ∷ []) → ⊥
unfolding is_plain
sum_of_one body =
    let (a, first, rest) = step_of refl body.typed in
    let (b, second, last) = step_of refl rest in
    let (enough, high) = height first in
    let (enough', high') = height second in
    let none : length first.operands ≡ 0 = ap length first.typed.0 in
    let one : length first.results ≡ 1 = ap length first.typed.1 in
    let two : length second.operands ≡ 2 = ap length second.typed.0 in
    omega arith

-- a value is left where none is wanted
pub one_left : {context : BodyContext} {a b : Stacked} → length a.stack ≡ 0 → length b.stack ≡ 0 → AreTyped context (number 1 ∷ []) a b → ⊥
unfolding is_plain
one_left empty wanted typed =
    let (between, first, rest) = step_of refl typed in
    let (enough, high) = height first in
    let none : length first.operands ≡ 0 = ap length first.typed.0 in
    let one : length first.results ≡ 1 = ap length first.typed.1 in
    let end : length between.stack ≡ 0 = end_height rest ∙ wanted in
    omega arith

pub left_over : IsBodyTyped (function_of [] []) (number 1 ∷ []) → ⊥
left_over body = one_left refl refl body.typed

pub missing : IsBodyTyped (function_of [] (I32 ∷ [])) [] → ⊥
missing body = let end : ◌≡◌ {A = ℕ} 0 1 = end_height body.typed in omega arith

-- a block that has no end
no_end : {context : BodyContext} {a b : Stacked} → AreTyped context (instr.Block blocks.Empty ∷ []) a b → ⊥
no_end (step s rest) = s.typed
no_end (block {body = body} {more = more} is fits inner framed rest) =
    let rest : [] ≡ body ++ instr.End ∷ more = cc in
    let never : 0 ≡ length body + length (instr.End ∷ more) = ap length rest ∙ simp length-append refl in
    omega arith
no_end (loop is fits inner framed rest) = cc
no_end (if_alone is fits inner same framed rest) = cc
no_end (if_else is fits inner last framed rest) = cc
no_end (try_table is fits caught inner framed rest) = cc

pub forgotten : IsBodyTyped (function_of [] []) (instr.Block blocks.Empty ∷ []) → ⊥
forgotten body = no_end body.typed

pub nowhere : IsBodyTyped (function_of [] (I32 ∷ [])) (instr.Unreachable ∷ [])
nowhere =
    let context = labelled (function_of [] (I32 ∷ [])) (I32 ∷ []) in
    let valid = valid_one context I32 tt in
    record {
      set = [];
      typed = step (one context instr.Unreachable [] (I32 ∷ []) [] [] [] ([], refl, valid) valid refl)
          (finished context (I32 ∷ []) [] valid);
    }

pub unset : IsBodyTyped (function_of (some_func ∷ []) []) (instr.LocalGet 0 ∷ instr.Drop ∷ []) → ⊥
unfolding is_plain
unset body =
    let (a, first, rest) = step_of refl body.typed in
    let (value, (at, set), is) = first.typed in
    let same : value ≡ some_func = sym (same_Some some_func value at) in
    elim set [
      | inl early ↦ let never : 0 < 0 = early in omega arith
      | inr later ↦ elim later [
        | inl defaultable ↦ let never : IsDefaultable some_func = subst IsDefaultable same defaultable in cc
        | inr contained ↦ let inside : contained.0 < 0 = contained.1 in omega arith
      ]
    ]

pub defaultable : IsBodyTyped (function_of (I32 ∷ []) (I32 ∷ [])) (instr.LocalGet 0 ∷ [])
defaultable =
    let context = labelled (function_of (I32 ∷ []) (I32 ∷ [])) (I32 ∷ []) in
    let valid = valid_one context I32 tt in
    record {
      set = [];
      typed = step (one context (instr.LocalGet 0) [] (I32 ∷ []) [] [] [] (I32, (refl, inr (inl tt)), (refl, refl)) valid
          refl) (finished context (I32 ∷ []) [] valid);
    }

pub to_a_block : IsBodyTyped (function_of [] (I32 ∷ [])) (instr.Block (blocks.Value I32) ∷ number 1 ∷ instr.Br 0 ∷ instr.End ∷ [])
to_a_block =
    let context = labelled (function_of [] (I32 ∷ [])) (I32 ∷ []) in
    let inside = labelled context (I32 ∷ []) in
    let valid = valid_one context I32 tt in
    let valid_inside = valid_one inside I32 tt in
    record {
      set = [];
      typed = block {body = number 1 ∷ instr.Br 0 ∷ []} {more = []} refl (tt, refl, refl)
          (step (one inside (number 1) [] (I32 ∷ []) [] [] [] (refl, refl) valid_inside refl)
          (step (one inside (instr.Br 0) (I32 ∷ []) (I32 ∷ []) [] [] [] (I32 ∷ [], refl, ([], refl, valid_inside)) valid_inside refl)
          (finished inside (I32 ∷ []) [] valid_inside)))
          (framed context [] (I32 ∷ []) [] [] [] [] valid refl) (finished context (I32 ∷ []) [] valid);
    }

pub without_value : IsBodyTyped (function_of [] (I32 ∷ [])) (instr.Br 0 ∷ []) → ⊥
unfolding is_plain
without_value body =
    let (a, first, rest) = step_of refl body.typed in
    let (enough, high) = height first in
    let (taken, at, (below, is, valid)) = first.typed in
    let one : length taken ≡ 1 = ap length (sym (same_Some (I32 ∷ []) taken at)) in
    let many : length first.operands ≡ length below + length taken = ap length is ∙ simp length-append refl in
    omega arith

-- a stack of one value does not end in a value of another type
other_end : (below : List ValType) → I32 ∷ [] ≡ below ++ I64 ∷ [] → ⊥
other_end [] is = cc
other_end (x ∷ []) is = cc
other_end (x ∷ y ∷ below) is = cc

pub to_another_label : (context : BodyContext) (results : List ValType) → HasInstrType (labelled context (I64 ∷ [])) [] (instr.Br 0)
    (I32 ∷ []) results → ⊥
to_another_label context results typed =
    let (taken, at, (below, is, valid)) = typed in
    let same : taken ≡ I64 ∷ [] = sym (same_Some (I64 ∷ []) taken at) in
    other_end below (subst (λ (t : List ValType). I32 ∷ [] ≡ below ++ t) same is)

pub if_without_else : IsBodyTyped (function_of [] []) (number 1 ∷ instr.If blocks.Empty ∷ instr.End ∷ [])
if_without_else =
    let context = labelled (function_of [] []) [] in
    let inside = labelled context [] in
    let valid = valid_none context in
    record {
      set = [];
      typed = step (one context (number 1) [] (I32 ∷ []) [] [] [] (refl, refl) (valid_one context I32 tt) refl)
          (if_alone {body = []} {more = []} {params = []} {results = []} refl (refl, refl) (finished inside [] [] (valid_none inside))
          (count_as_themselves context [] valid)
          (framed context (I32 ∷ []) [] [] [] [] [] valid refl) (finished context [] [] valid));
    }

pub funcref_valid : (context : BodyContext) → context.features ≡ usual_features → AreValid context (Ref funcref ∷ [])
funcref_valid context is =
    valid_one context (Ref funcref) (rw is refl, record { heap_type = (tt, λ never. cc); nullable = λ is. cc })

pub weakened : (context : BodyContext) → context.features ≡ usual_features → CountsAs context (some_func ∷ []) (Ref funcref ∷ [])
weakened context is = record { below = (record { heap = itself; nullable = λ is. refl }, tt); valid = funcref_valid context is }

pub to_above : AreTyped (function_of [] []) [] (stacked (some_func ∷ []) []) (stacked (Ref funcref ∷ []) [])
to_above = nothing (weakened (function_of [] []) refl) refl

pub by_a_block : AreTyped (function_of [] []) (instr.Block (blocks.Func 4) ∷ instr.End ∷ []) (stacked (some_func ∷ []) [])
    (stacked (Ref funcref ∷ []) [])
by_a_block =
    let context = function_of [] [] in
    let valid = funcref_valid context refl in
    block {body = []} {more = []} {params = some_func ∷ []} {results = Ref funcref ∷ []} refl
    (weakens, (final_type (Func weakens), refl, refl), refl, refl)
    (nothing (weakened (labelled context (Ref funcref ∷ [])) refl) refl) (framed context (some_func ∷ []) (Ref funcref ∷ []) [] [] [] []
    valid refl) (finished context (Ref funcref ∷ []) [] valid)

pub by_an_if : AreTyped (function_of [] []) (instr.If (blocks.Func 4) ∷ instr.End ∷ []) (stacked (some_func ∷ I32 ∷ []) [])
    (stacked (Ref funcref ∷ []) [])
by_an_if =
    let context = function_of [] [] in
    let valid = funcref_valid context refl in
    if_alone {body = []} {more = []} {params = some_func ∷ []} {results = Ref funcref ∷ []} refl
    (weakens, (final_type (Func weakens), refl, refl), refl, refl)
    (nothing (weakened (labelled context (Ref funcref ∷ [])) refl) refl) (weakened context refl)
    (framed context (some_func ∷ I32 ∷ []) (Ref funcref ∷ []) [] [] [] [] valid refl) (finished context (Ref funcref ∷ []) [] valid)

pub to_below : AreTyped (function_of [] []) [] (stacked (Ref funcref ∷ []) []) (stacked (some_func ∷ []) []) → ⊥
to_below typed = let never : ◌≡◌ {A = Bool} false true = (end_of typed).below.0.nullable refl in cc

pub set_before : IsBodyTyped (function_of (some_func ∷ []) []) (instr.Unreachable ∷ instr.LocalSet 0 ∷ instr.LocalGet 0 ∷ instr.Drop ∷ [])
set_before =
    let context = labelled (function_of (some_func ∷ []) []) [] in
    let valid = valid_one context some_func (refl, record { heap_type = (tt, λ never. cc); nullable = λ is. refl }) in
    let none = valid_none context in
    record {
      set = 0 ∷ [];
      typed = step (one context instr.Unreachable [] (some_func ∷ []) [] [] [] ([], refl, valid) valid refl)
          (step (one context (instr.LocalSet 0) (some_func ∷ []) [] [] [] (0 ∷ []) (some_func, refl, (refl, refl)) none refl)
          (step (one context (instr.LocalGet 0) [] (some_func ∷ []) [] (0 ∷ []) (0 ∷ [])
          (some_func, (refl, inr (inr (0, omega arith, refl))), (refl, refl)) valid refl)
          (step (one context instr.Drop (some_func ∷ []) [] [] (0 ∷ []) (0 ∷ []) (some_func, (refl, refl)) none refl)
          (finished context [] (0 ∷ []) none))));
    }
