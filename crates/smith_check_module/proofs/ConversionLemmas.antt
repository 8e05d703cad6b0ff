-- Conversions between internal and external references.
use Rattle.smith_check_module.proofs.Common.{[], All-cons, All-nil, AllZip, ap, arith, Bool, Context, get_or, I32, IsValBelow, IsValInRange}
use Rattle.smith_check_module.proofs.Common.{length, length-append, length_all_zip, List, Ref, refl, RefType, same_Some, subst, SubType}
use Rattle.smith_check_module.proofs.Common.{sym, take, ValType, ◌++◌, ◌-◌, ◌<◌, ◌∙◌, ◌∷◌, ◌≡◌}
use Rattle.smith_types.specs.Syntax.Kinds.{shared}
use Rattle.smith_types.specs.Syntax.value_type.AbstractHeapType.{AbstractHeapType}
use Rattle.smith_types.specs.Syntax.value_type.HeapType.{HeapType}
use Rattle.smith_types.specs.Syntax.value_type.HeapType.TheVariants.{Abstract, Concrete, Exact}
use Rattle.smith_types.specs.Syntax.value_type.ValType.TheVariants.{F32, F64, I64, V128}
use Rattle.smith_types.specs.Subtyping.{IsBelow, IsRefBelow, itself}
use Rattle.smith_types.specs.Types.{IsOrderly}
use Rattle.smith_types.proofs.WalkLemmas.{by_cases_from_below}
use Rattle.smith_check_module.specs.ConstScopes.{IsScope}
use Rattle.smith_check_module.proofs.StackLemmas.{ends_in, right_part}
use Rattle.smith_check_module.specs.Typings.{Converts, IsBestConversion, TakesNoConversion, converted}

-- a heap type is below abstract types of one sharedness
one_sharedness : (types : List SubType) → IsOrderly types → (a : HeapType) (s r : Bool) (x : AbstractHeapType)
    → IsBelow types a (Abstract s x) → IsBelow types a (Abstract r x) → s ≡ r
one_sharedness types o (Abstract q y) s r x first second =
    sym (by_cases_from_below types o (Abstract q y) (Abstract s x) first).0
    ∙ (by_cases_from_below types o (Abstract q y) (Abstract r x) second).0
one_sharedness types o (Concrete i) s r x first second =
    let (t, at, is, below) = by_cases_from_below types o (Concrete i) (Abstract s x) first in
    let (u, there, are, under) = by_cases_from_below types o (Concrete i) (Abstract r x) second in
    sym is ∙ ap shared (same_Some t u (sym at ∙ there)) ∙ are
one_sharedness types o (Exact i) s r x first second =
    let (t, at, is, below) = by_cases_from_below types o (Exact i) (Abstract s x) first in
    let (u, there, are, under) = by_cases_from_below types o (Exact i) (Abstract r x) second in
    sym is ∙ ap shared (same_Some t u (sym at ∙ there)) ∙ are

module _ (context : Context) (from into : AbstractHeapType) (before : List ValType) where
  -- one value is taken, which is the last of the stack
  taken_is : (front rest taken others : List ValType) (top other : ValType) → before ≡ front ++ top ∷ [] → before ≡ rest ++ taken
      → AllZip (IsValBelow context.types) taken others → Converts from into others other → taken ≡ top ∷ []
  taken_is front rest taken others top other is at accepted converts =
      let count = length_all_zip (IsValBelow context.types) taken others accepted in
      let one : length others ≡ 1 = ap (λ (vs : List ValType). length vs) converts.taken in
      right_part rest front taken (top ∷ []) (sym at ∙ is) (count ∙ one)

  fits : (front rest taken others : List ValType) (top other : ValType) → before ≡ front ++ top ∷ [] → before ≡ rest ++ taken
      → AllZip (IsValBelow context.types) taken others → (converts : Converts from into others other)
      → IsValBelow context.types top (converted converts.nullable converts.shared from)
  fits front rest taken others top other is at accepted converts =
      let both : AllZip (IsValBelow context.types) (top ∷ []) (converted converts.nullable converts.shared from ∷ []) =
      subst (λ (vs : List ValType). AllZip (IsValBelow context.types) vs (converted converts.nullable converts.shared from ∷ []))
      (taken_is front rest taken others top other is at accepted converts)
      (subst (λ (vs : List ValType). AllZip (IsValBelow context.types) taken vs) converts.taken accepted) in both.0

  best_conversion : (front : List ValType) (reference : RefType) (s : Bool) → IsScope context → before ≡ front ++ Ref reference ∷ []
      → IsBelow context.types reference.heap_type (Abstract s from)
      → IsBestConversion context from into before (converted reference.nullable s from ∷ []) (converted reference.nullable s into)
  best_conversion front reference s scope is below = record {
    typed = record { shared = s; nullable = reference.nullable; taken = refl; given = refl };
    least = λ rest taken others other at accepted converts.
        let fit : IsRefBelow context.types reference
        (record { nullable = converts.nullable; heap_type = Abstract converts.shared from }) =
        fits front rest taken others (Ref reference) other is at accepted converts in
        let same : s ≡ converts.shared =
        one_sharedness context.types scope.orderly reference.heap_type s converts.shared from below fit.heap in (
          subst (λ (vs : List ValType). AllZip (IsValBelow context.types) vs (converted reference.nullable s from ∷ []))
              (sym (taken_is front rest taken others (Ref reference) other is at accepted converts))
              (record { heap = below; nullable = λ yes. yes }, tt),
          subst (λ (v : ValType). IsValBelow context.types (converted reference.nullable s into) v) (sym converts.given)
              (record {
                heap = subst (λ (r : Bool). IsBelow context.types (Abstract s into) (Abstract r into)) same itself;
                nullable = fit.nullable;
              }),
        );
    operands_stand = All-cons (IsValInRange context.types) (converted reference.nullable s from) [] tt
        (All-nil (IsValInRange context.types));
    result_stands = tt;
  }

  no_conversion : (front : List ValType) (reference : RefType) → before ≡ front ++ Ref reference ∷ []
      → ((s : Bool) → IsBelow context.types reference.heap_type (Abstract s from) → ⊥)
      → TakesNoConversion context from into before
  no_conversion front reference is apart = λ rest taken others other at accepted converts.
      let fit : IsRefBelow context.types reference
      (record { nullable = converts.nullable; heap_type = Abstract converts.shared from }) =
      fits front rest taken others (Ref reference) other is at accepted converts in
      apart converts.shared fit.heap

  no_number : (top : ValType) (reference : RefType) → ((r : RefType) → top ≡ Ref r → ⊥) → IsValBelow context.types top (Ref reference) → ⊥
  no_number (Ref r) reference none below = none r refl
  no_number I32 reference none below = below
  no_number I64 reference none below = below
  no_number F32 reference none below = below
  no_number F64 reference none below = below
  no_number V128 reference none below = below

  no_reference : (front : List ValType) (top : ValType) → before ≡ front ++ top ∷ [] → ((r : RefType) → top ≡ Ref r → ⊥)
      → TakesNoConversion context from into before
  no_reference front top is none = λ rest taken others other at accepted converts.
      no_number top (record { nullable = converts.nullable; heap_type = Abstract converts.shared from }) none
      (fits front rest taken others top other is at accepted converts)

  pub no_value : length before ≡ 0 → TakesNoConversion context from into before
  no_value none = λ rest taken others other at accepted converts.
      let count = length_all_zip (IsValBelow context.types) taken others accepted in
      let one : length others ≡ 1 = ap (λ (vs : List ValType). length vs) converts.taken in
      let whole : length before ≡ length (rest ++ taken) = ap (λ (vs : List ValType). length vs) at in
      absurd (omega (arith, length-append rest taken))

  pub best_last : (d : ValType) (reference : RefType) (s : Bool) → IsScope context → 0 < length before
      → get_or before (length before - 1) d ≡ Ref reference → IsBelow context.types reference.heap_type (Abstract s from)
      → IsBestConversion context from into before (converted reference.nullable s from ∷ []) (converted reference.nullable s into)
  best_last d reference s scope some is below =
      best_conversion (take (length before - 1) before) reference s scope (ends_in before (Ref reference) d some is) below

  pub same_conversion : (operands o : List ValType) (result r : ValType) → o ≡ operands → r ≡ result
      → IsBestConversion context from into before operands result → IsBestConversion context from into before o r
  same_conversion operands o result r same is best =
      subst (λ (vs : List ValType). IsBestConversion context from into before vs r) (sym same)
      (subst (λ (v : ValType). IsBestConversion context from into before operands v) (sym is) best)

  pub apart_last : (d : ValType) (reference : RefType) → 0 < length before → get_or before (length before - 1) d ≡ Ref reference
      → ((s : Bool) → IsBelow context.types reference.heap_type (Abstract s from) → ⊥)
      → TakesNoConversion context from into before
  apart_last d reference some is apart =
      no_conversion (take (length before - 1) before) reference (ends_in before (Ref reference) d some is) apart

  pub number_last : (d : ValType) → 0 < length before → ((r : RefType) → get_or before (length before - 1) d ≡ Ref r → ⊥)
      → TakesNoConversion context from into before
  number_last d some none =
      no_reference (take (length before - 1) before) (get_or before (length before - 1) d)
      (ends_in before (get_or before (length before - 1) d) d some refl) none
