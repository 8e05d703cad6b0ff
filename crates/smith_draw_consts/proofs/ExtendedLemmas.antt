-- Extended constants, drawn from the last instruction to the first.
use Rattle.smith_draw_consts.proofs.Common.{[], All, All-nil, ap, append-nil, append_assoc, arith, Bool, ConstInstr, Context, HasType, I32}
use Rattle.smith_draw_consts.proofs.Common.{I64, inl, inr, IsInstrEnabled, IsTrue, KeepsPieces, length, length-append, List, None, refl}
use Rattle.smith_draw_consts.proofs.Common.{reverse, Some, subst, suc, sym, ValType, zero, ℕ, ◌++◌, ◌+◌, ◌-◌, ◌<◌, ◌∙◌, ◌∷◌, ◌≡◌, ◌≤◌, ◌⊎◌}
use Rattle.std.proofs.Common.{rules}
use Rattle.std.specs.Prelude.{replicate}
use Rattle.std.proofs.lemmas.List.{length-reverse, replicate_more, reverse-append}
use Rattle.std.proofs.lemmas.List.Elements.{All-cons}
use Rattle.smith_types.specs.Expressions.{AreStackSteps}
use Rattle.smith_types.proofs.ConstStepLemmas.{one_step}
use Rattle.smith_types.proofs.ValidityLemmas.{before_or_not}
use Rattle.smith_draw_consts.specs.Constants.{constant_at, is_wide, operation, operator_at, extended_within, extended_at}
use Rattle.smith_draw_consts.specs.declared.extended_constant.Operator.{Operator}
use Rattle.smith_draw_consts.specs.Putting.{Adds}
use Rattle.smith_draw_consts.proofs.PuttingLemmas.{below_itself}

-- instructions that take `needed` values of the type and push one, on top of any others
pub record Ends (context : Context) (wanted : ValType) (needed : ℕ) (made : List ConstInstr) : Type 0 where
  pub steps : (base : List ValType) → AreStackSteps context made (base ++ replicate needed wanted) (base ++ wanted ∷ [])
  pub enabled : All (IsInstrEnabled context.features context.imported_globals) made

pub ends_none : (context : Context) (wanted : ValType) → Ends context wanted 1 []
ends_none context wanted = record { steps = λ base. refl; enabled = All-nil (IsInstrEnabled context.features context.imported_globals) }

pub ends_adds : (context : Context) (wanted : ValType) (made : List ConstInstr) → Ends context wanted 0 made → Adds context wanted made
ends_adds context wanted made ends =
    record {
      steps = λ base. subst (λ (b : List ValType). AreStackSteps context made b (base ++ wanted ∷ [])) (append-nil base)
          (ends.steps base);
      enabled = ends.enabled;
    }

-- a constant is prepended
pub ends_constant : (context : Context) (wanted : ValType) (needed : ℕ) (made : List ConstInstr) (constant : ConstInstr)
    → HasType context constant [] wanted → IsInstrEnabled context.features context.imported_globals constant
    → Ends context wanted (needed + 1) made
    → Ends context wanted needed (constant ∷ made)
ends_constant context wanted needed made constant typed enabled ends = record {
  steps = λ base.
      let under = base ++ replicate needed wanted in
      let step = one_step context constant [] wanted under [] typed tt in
      let same : under ++ wanted ∷ [] ≡ base ++ replicate (needed + 1) wanted = append_assoc base (replicate needed wanted) (wanted ∷ [])
      ∙ ap (λ (ys : List ValType). base ++ ys) (replicate_more needed wanted) in
      (base ++ replicate (needed + 1) wanted, rw (← same) (rw (append-nil under) at step), ends.steps base);
  enabled = All-cons (IsInstrEnabled context.features context.imported_globals) constant made enabled ends.enabled;
}

-- an operator is prepended
pub ends_operator : (context : Context) (wanted : ValType) (needed : ℕ) (made : List ConstInstr) (operator : ConstInstr)
    → HasType context operator (wanted ∷ wanted ∷ []) wanted → IsInstrEnabled context.features context.imported_globals operator
    → Ends context wanted (needed + 1) made
    → Ends context wanted (needed + 2) (operator ∷ made)
ends_operator context wanted needed made operator typed enabled ends = record {
  steps = λ base.
      let under = base ++ replicate needed wanted in
      let step = one_step context operator (wanted ∷ wanted ∷ []) wanted under (wanted ∷ wanted ∷ []) typed (
        below_itself context wanted,
        (below_itself context wanted, tt),
      ) in
      let one : under ++ wanted ∷ [] ≡ base ++ replicate (needed + 1) wanted = append_assoc base (replicate needed wanted) (wanted ∷ [])
      ∙ ap (λ (ys : List ValType). base ++ ys) (replicate_more needed wanted) in
      let more : needed + 1 + 1 ≡ needed + 2 = omega arith in
      let both : replicate needed wanted ++ wanted ∷ wanted ∷ [] ≡ replicate (needed + 2) wanted =
      sym (append_assoc (replicate needed wanted) (wanted ∷ []) (wanted ∷ [])) ∙ ap (λ (ys : List ValType). ys ++ wanted ∷ [])
      (replicate_more needed wanted) ∙ replicate_more (needed + 1) wanted ∙ ap (λ (n : ℕ). replicate n wanted) more in
      let two : under ++ wanted ∷ wanted ∷ [] ≡ base ++ replicate (needed + 2) wanted = append_assoc base (replicate needed wanted)
      (wanted ∷ wanted ∷ []) ∙ ap (λ (ys : List ValType). base ++ ys) both in
      (base ++ replicate (needed + 1) wanted, rw (← one, ← two) step, ends.steps base);
  enabled = All-cons (IsInstrEnabled context.features context.imported_globals) operator made enabled ends.enabled;
}

-- instructions are drawn from the last to the first, and `needed` values are needed before them
pub record IsExtending (wanted : ValType) (wide : Bool) (needed : ℕ) (drawn : List ConstInstr) (start bytes : List ℕ) : Type 0 where
  pub number : (wanted ≡ I32) ⊎ (wanted ≡ I64)
  pub width : wide ≡ is_wide wanted
  pub few : needed ≤ length drawn + 1
  pub most : length drawn + needed ≤ 23
  pub ends : (context : Context) → IsTrue context.features.extended_const → Ends context wanted needed (reverse drawn)
  pub so_far : extended_within (23 - length drawn) wanted needed (reverse drawn) bytes ≡ extended_at wanted start
  pub left : KeepsPieces start bytes

pub extending_none : (wanted : ValType) (wide : Bool) (bytes : List ℕ) → (wanted ≡ I32) ⊎ (wanted ≡ I64) → wide ≡ is_wide wanted
    → IsExtending wanted wide 1 [] bytes bytes
unfolding extended_at
extending_none wanted wide bytes number width = record {
  number = number;
  width = width;
  few = omega arith;
  most = omega arith;
  ends = λ context on. ends_none context wanted;
  so_far = refl;
  left = λ whole h. h;
}

-- a constant has the type
constant_typed : (context : Context) (wanted : ValType) (bytes : List ℕ) → (wanted ≡ I32) ⊎ (wanted ≡ I64)
    → HasType context (constant_at wanted bytes).0 [] wanted × IsInstrEnabled context.features context.imported_globals
    (constant_at wanted bytes).0
unfolding constant_at
constant_typed context wanted bytes (inl is) = rw is ((refl, refl), tt)
constant_typed context wanted bytes (inr is) = rw is ((refl, refl), tt)

operator_typed : (context : Context) (wanted : ValType) (wide : Bool) (operator : Operator) → IsTrue context.features.extended_const
    → wide ≡ is_wide wanted → (wanted ≡ I32) ⊎ (wanted ≡ I64)
    → HasType context (operation wide operator) (wanted ∷ wanted ∷ []) wanted × IsInstrEnabled context.features context.imported_globals
    (operation wide operator)
operator_typed context wanted wide operator on width number = search rules

turn_constant : (most needed : ℕ) (wanted : ValType) (made : List ConstInstr) (bytes middle after : List ℕ) (constant : ConstInstr)
    → operator_at (length made) bytes ≡ (None, middle) → constant_at wanted middle ≡ (constant, after)
    → extended_within (suc most) wanted (suc needed) made bytes ≡ extended_within most wanted needed (constant ∷ made) after
unfolding extended_within
turn_constant most needed wanted made bytes middle after constant none draws = rw (none, draws) refl

turn_operator : (most needed : ℕ) (wanted : ValType) (made : List ConstInstr) (bytes : List ℕ) (operator : Operator) (middle : List ℕ)
    → operator_at (length made) bytes ≡ (Some operator, middle)
    → extended_within (suc most) wanted (suc needed) made bytes ≡ extended_within most wanted (suc (suc needed))
    (operation (is_wide wanted) operator ∷ made) middle
unfolding extended_within
turn_operator most needed wanted made bytes operator middle some = rw some refl

stopped : (most : ℕ) (wanted : ValType) (made : List ConstInstr) (bytes : List ℕ) → extended_within most wanted 0 made bytes ≡ (made, bytes)
unfolding extended_within
stopped zero wanted made bytes = refl
stopped (suc most) wanted made bytes = refl

-- one turn that draws a constant
pub extending_constant : {wanted : ValType} {wide : Bool} {needed less : ℕ} {drawn more : List ConstInstr}
    {start bytes middle after : List ℕ} {constant : ConstInstr}
    → IsExtending wanted wide needed drawn start bytes → less + 1 ≡ needed → operator_at (length drawn) bytes ≡ (None, middle)
    → constant_at wanted middle ≡ (constant, after) → more ≡ drawn ++ constant ∷ [] → KeepsPieces bytes middle
    → KeepsPieces middle after
    → IsExtending wanted wide less more start after
extending_constant {wanted = wanted} {wide = wide} {needed = needed} {less = less} {drawn = drawn} {more = more} {start = start}
    {bytes = bytes} {middle = middle} {after = after} {constant = constant} now one none draws longer p q =
    let back : reverse more ≡ constant ∷ reverse drawn = ap reverse longer ∙ reverse-append drawn (constant ∷ []) in
    let len : length more ≡ length drawn + 1 = rw longer (simp length-append refl) in
    let few = now.few in
    let most = now.most in
    let fuel : 23 - length drawn ≡ suc (23 - length more) = omega arith in
    let need : needed ≡ suc less = omega arith in
    let none' : operator_at (length (reverse drawn)) bytes ≡ (None, middle) = rw (length-reverse drawn) none in
    let turn = turn_constant (23 - length more) less wanted (reverse drawn) bytes middle after constant none' draws in
    record {
      number = now.number;
      width = now.width;
      few = omega arith;
      most = omega arith;
      ends = λ context on.
          let typed = constant_typed context wanted middle now.number in
          let is : (constant_at wanted middle).0 ≡ constant = ap (λ (d : ConstInstr × List ℕ). d.0) draws in
          rw back (ends_constant context wanted less (reverse drawn) constant (rw is at typed.0) (rw is at typed.1)
          (rw one (now.ends context on)));
      so_far = rw back (sym turn ∙ (rw (fuel, need) at now.so_far));
      left = λ whole h. q whole (p whole (now.left whole h));
    }

-- one turn that draws an operator
pub extending_operator : {wanted : ValType} {wide : Bool} {needed : ℕ} {operator : Operator} {drawn more : List ConstInstr}
    {start bytes middle : List ℕ} {instruction : ConstInstr}
    → IsExtending wanted wide needed drawn start bytes → 0 < needed → operator_at (length drawn) bytes ≡ (Some operator, middle)
    → (10 < length drawn → Some operator ≡ None) → instruction ≡ operation wide operator → more ≡ drawn ++ instruction ∷ []
    → KeepsPieces bytes middle
    → IsExtending wanted wide (needed + 1) more start middle
extending_operator {wanted = wanted} {wide = wide} {needed = needed} {operator = operator} {drawn = drawn} {more = more} {start = start}
    {bytes = bytes} {middle = middle} {instruction = instruction} now some found limit is longer p =
    let never : Some operator ≡ None → ⊥ = λ same. cc same in
    let back : reverse more ≡ instruction ∷ reverse drawn = ap reverse longer ∙ reverse-append drawn (instruction ∷ []) in
    let len : length more ≡ length drawn + 1 = rw longer (simp length-append refl) in
    let few = now.few in
    let most = now.most in
    let less = needed - 1 in
    let short : length drawn ≤ 10 = elim (before_or_not 10 (length drawn)) [ inl above ↦ absurd (never (limit above)) | inr below ↦ below ]
    in
    let fuel : 23 - length drawn ≡ suc (23 - length more) = omega arith in
    let need : needed ≡ suc less = omega arith in
    let up : suc (suc less) ≡ needed + 1 = omega arith in
    let two : less + 2 ≡ needed + 1 = omega arith in
    let down : less + 1 ≡ needed = omega arith in
    let found' : operator_at (length (reverse drawn)) bytes ≡ (Some operator, middle) = rw (length-reverse drawn) found in
    let named : instruction ≡ operation (is_wide wanted) operator = is ∙ ap (λ (b : Bool). operation b operator) now.width in
    let turn = turn_operator (23 - length more) less wanted (reverse drawn) bytes operator middle found' in
    record {
      number = now.number;
      width = now.width;
      few = omega arith;
      most = omega arith;
      ends = λ context on.
          let typed = operator_typed context wanted wide operator on now.width now.number in
          rw (back, ← two) (ends_operator context wanted less (reverse drawn) instruction (rw is typed.0) (rw is typed.1)
          (rw down (now.ends context on)));
      so_far = rw (back, named, ← up) (sym turn ∙ (rw (fuel, need) at now.so_far));
      left = λ whole h. p whole (now.left whole h);
    }

-- no further value is needed
pub extending_done : {wanted : ValType} {wide : Bool} {needed : ℕ} {drawn : List ConstInstr} {start bytes : List ℕ}
    → IsExtending wanted wide needed drawn start bytes → needed ≡ 0 → extended_at wanted start ≡ (reverse drawn, bytes)
extending_done {wanted = wanted} {needed = needed} {drawn = drawn} {start = start} {bytes = bytes} now done =
    sym now.so_far ∙ ap (λ (n : ℕ). extended_within (23 - length drawn) wanted n (reverse drawn) bytes) done ∙ stopped (23 - length drawn)
    wanted (reverse drawn) bytes

pub extending_adds : {wanted : ValType} {wide : Bool} {needed : ℕ} {drawn : List ConstInstr} {start bytes : List ℕ}
    → IsExtending wanted wide needed drawn start bytes → needed ≡ 0 → (context : Context) → IsTrue context.features.extended_const
    → Adds context wanted (reverse drawn)
extending_adds {wanted = wanted} {needed = needed} {drawn = drawn} now done context on = ends_adds context wanted (reverse drawn)
    (rw (← done) (now.ends context on))
