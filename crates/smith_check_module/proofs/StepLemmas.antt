-- Steps to the stacks of the least types.
use Rattle.smith_check_module.proofs.Common.{[], All, AllZip, ap, arith, ConstInstr, Context, drop, Err, Error, IfOk, IsValBelow}
use Rattle.smith_check_module.proofs.Common.{IsValBelow-refl, IsValInRange, length, length-append, length_all_zip, List, MatchBool}
use Rattle.smith_check_module.proofs.Common.{MatchOption, None, Ok, refl, Result, Some, subst, sym, take, ValType, ℕ, ◌++◌, ◌+◌, ◌-◌, ◌<◌}
use Rattle.smith_check_module.proofs.Common.{◌∙◌, ◌∷◌, ◌≡◌}
use Rattle.std.specs.Prelude.{Bool, false, Option, true}
use Rattle.std.proofs.lemmas.List.{take-append-drop, take_rest}
use Rattle.std.proofs.Math.Seq.{take-append_seam, drop-append_seam}
use Rattle.std.proofs.lemmas.List.Elements.{All-drop, All-push, All-take, AllZip-push}
use Rattle.smith_types.specs.Syntax.const_instr.ConstInstr.TheVariants as constant
use Rattle.smith_types.specs.Syntax.value_type.AbstractHeapType.TheVariants as abstract
use Rattle.smith_types.specs.Syntax.value_type.HeapType.{HeapType}
use Rattle.smith_check_operands.specs.Fits.{AreMatched}
use Rattle.smith_check_module.specs.Typings.{HasMore, HasNoStep, HasNoType, IsApart, IsApplied, IsBest, IsBestConversion, IsBestStep}
use Rattle.smith_check_module.specs.Typings.{IsOnly}
use Rattle.smith_check_module.specs.Typings.{TakesNoConversion, TakesNothing, fixed_signature}
use Rattle.smith_check_module.proofs.SignatureLemmas.{best_from_only, nothing_from_more, nothing_from_none}
use Rattle.smith_check_module.specs.declared.signature.Signature.{Signature}
use Rattle.smith_check_module.proofs.StackLemmas.{left_part, zip_itself}

module _ (context : Context) where
  pub best_step : (instruction : ConstInstr) (before after : List ValType) (signature : Signature)
      → All (IsValInRange context.types) before
      → IsBest context instruction before signature.operands signature.result → IsApplied context signature before after
      → IsBestStep context instruction before after
  best_step instruction before after signature stand best applied = record {
    step = record {
      operands = signature.operands;
      result = signature.result;
      typed = best.typed;
      rest = applied.rest;
      taken = applied.taken;
      on_top = applied.on_top;
      accepted = applied.accepted;
      pushed = applied.pushed;
    };
    least = λ other s.
        let (fit, below) = best.least s.rest s.taken s.operands s.result s.on_top s.accepted s.typed in
        let mine = length_all_zip (IsValBelow context.types) applied.taken signature.operands applied.accepted in
        let yours = length_all_zip (IsValBelow context.types) s.taken signature.operands fit in
        let same : applied.rest ≡ s.rest =
        left_part applied.rest s.rest applied.taken s.taken (sym applied.on_top ∙ s.on_top) (mine ∙ sym yours) in
        let front : AllZip (IsValBelow context.types) applied.rest s.rest =
        subst (λ (vs : List ValType). AllZip (IsValBelow context.types) applied.rest vs) same
        (zip_itself (IsValBelow context.types) (IsValBelow-refl context.types) applied.rest) in
        subst (λ (vs : List ValType). AllZip (IsValBelow context.types) vs other) (sym applied.pushed)
        (subst (λ (vs : List ValType). AllZip (IsValBelow context.types) (applied.rest ++ signature.result ∷ []) vs) (sym s.pushed)
        (AllZip-push (IsValBelow context.types) applied.rest s.rest signature.result s.result front below));
    stand =
        let rest : All (IsValInRange context.types) applied.rest =
        subst (λ (vs : List ValType). All (IsValInRange context.types) vs) (take-append_seam applied.rest applied.taken)
        (All-take (IsValInRange context.types) (length applied.rest) (applied.rest ++ applied.taken)
        (subst (λ (vs : List ValType). All (IsValInRange context.types) vs) applied.on_top stand)) in
        subst (λ (vs : List ValType). All (IsValInRange context.types) vs) (sym applied.pushed)
        (All-push (IsValInRange context.types) applied.rest signature.result rest best.result_stands);
  }

  pub apart_step : (instruction : ConstInstr) (before : List ValType) (signature : Signature)
      → IsBest context instruction before signature.operands signature.result → IsApart context signature before
      → HasNoStep context instruction before
  apart_step instruction before signature best apart = λ after s.
      let (fit, below) = best.least s.rest s.taken s.operands s.result s.on_top s.accepted s.typed in
      apart s.rest s.taken s.on_top fit

  pub no_step : (instruction : ConstInstr) (before : List ValType) → TakesNothing context instruction before
      → HasNoStep context instruction before
  no_step instruction before nothing = λ after s. nothing s.rest s.taken s.operands s.result s.on_top s.accepted s.typed

  zip_from : (xs ys : List ValType) → AreMatched context.types xs ys → AllZip (IsValBelow context.types) xs ys
  zip_from [] [] fit = tt
  zip_from [] (y ∷ ys) fit = absurd fit
  zip_from (x ∷ xs) [] fit = absurd fit
  zip_from (x ∷ xs) (y ∷ ys) (first, fit) = (first, zip_from xs ys fit)

  matched_from : (xs ys : List ValType) → AllZip (IsValBelow context.types) xs ys → AreMatched context.types xs ys
  matched_from [] [] fit = tt
  matched_from [] (y ∷ ys) fit = absurd fit
  matched_from (x ∷ xs) [] fit = absurd fit
  matched_from (x ∷ xs) (y ∷ ys) (first, fit) = (first, matched_from xs ys fit)

  -- the top of a stack, as a slice is read
  pub applied : (signature : Signature) (before whole after : List ValType) (n : ℕ) → whole ≡ before
      → AreMatched context.types (take (length whole - n) (drop n whole)) signature.operands
      → after ≡ take n before ++ signature.result ∷ []
      → IsApplied context signature before after
  applied signature before whole after n same fit is = record {
    rest = take n before;
    taken = drop n before;
    on_top = sym (take-append-drop n before);
    accepted = subst (λ (vs : List ValType). AllZip (IsValBelow context.types) (drop n vs) signature.operands) same
        (subst (λ (vs : List ValType). AllZip (IsValBelow context.types) vs signature.operands) (take_rest whole n)
        (zip_from (take (length whole - n) (drop n whole)) signature.operands fit));
    pushed = is;
  }

  pub apart : (signature : Signature) (before whole : List ValType) (n : ℕ) → whole ≡ before
      → n + length signature.operands ≡ length before
      → (AreMatched context.types (take (length whole - n) (drop n whole)) signature.operands → ⊥)
      → IsApart context signature before
  apart signature before whole n same count none = λ rest taken at fit.
      let long = length_all_zip (IsValBelow context.types) taken signature.operands fit in
      let whole_count : length before ≡ length (rest ++ taken) = ap (λ (vs : List ValType). length vs) at in
      let place : length rest ≡ n = omega (arith, length-append rest taken) in
      let top : drop n whole ≡ taken = ap (λ (vs : List ValType). drop n vs) (same ∙ at) ∙ ap (λ k. drop k (rest ++ taken)) (sym place)
      ∙ drop-append_seam rest taken in
      none (matched_from (take (length whole - n) (drop n whole)) signature.operands
      (subst (λ (vs : List ValType). AllZip (IsValBelow context.types) vs signature.operands) (sym (take_rest whole n ∙ top)) fit))

  pub short : (signature : Signature) (before : List ValType) → length before < length signature.operands
      → IsApart context signature before
  short signature before few = λ rest taken at fit.
      let long = length_all_zip (IsValBelow context.types) taken signature.operands fit in
      let whole_count : length before ≡ length (rest ++ taken) = ap (λ (vs : List ValType). length vs) at in
      absurd (omega (arith, length-append rest taken))

  -- a part of a stack, as a slice is read
  pub part_stands : (before whole : List ValType) (n m : ℕ) → whole ≡ before → All (IsValInRange context.types) before
      → All (IsValInRange context.types) (take n (drop m whole))
  part_stands before whole n m same stand =
      All-take (IsValInRange context.types) n (drop m whole) (All-drop (IsValInRange context.types) m whole
      (subst (λ (vs : List ValType). All (IsValInRange context.types) vs) (sym same) stand))

  -- what is returned once a signature is applied
  pub stepped : (instruction : ConstInstr) (before after : List ValType) (signature : Signature) (done : Result Bool Error)
      → All (IsValInRange context.types) before → IsBest context instruction before signature.operands signature.result
      → IfOk done (λ d. MatchBool d (IsApplied context signature before after) (IsApart context signature before))
      → IfOk done (λ d. MatchBool d (IsBestStep context instruction before after) (HasNoStep context instruction before))
  stepped instruction before after signature (Ok true) stand best applied = best_step instruction before after signature stand best applied
  stepped instruction before after signature (Ok false) stand best apart = apart_step instruction before signature best apart
  stepped instruction before after signature (Err e) stand best answer = tt

  -- the signature of an instruction with one type
  pub answered : (instruction c : ConstInstr) (before : List ValType) (found : Option Signature) → instruction ≡ c
      → MatchOption found (HasNoType context c) (λ s. IsOnly context c s.operands s.result)
      → MatchOption found (TakesNothing context instruction before) (λ s. IsBest context instruction before s.operands s.result)
  answered instruction c before None is none =
      subst (λ (d : ConstInstr). TakesNothing context d before) (sym is) (nothing_from_none context c before none)
  answered instruction c before (Some s) is only =
      subst (λ (d : ConstInstr). IsBest context d before s.operands s.result) (sym is)
      (best_from_only context c before s.operands s.result only)

  pub answered_result : (instruction c : ConstInstr) (before : List ValType) (found : Result (Option Signature) Error) → instruction ≡ c
      → IfOk found (λ f. MatchOption f (HasNoType context c) (λ s. IsOnly context c s.operands s.result))
      → IfOk found (λ f. MatchOption f (TakesNothing context instruction before)
      (λ s. IsBest context instruction before s.operands s.result))
  answered_result instruction c before (Ok found) is answer = answered instruction c before found is answer
  answered_result instruction c before (Err e) is answer = tt

  pub answered_more : (instruction c : ConstInstr) (before : List ValType) (most : ℕ) (found : Result (Option Signature) Error)
      → instruction ≡ c → most ≡ length before
      → IfOk found (λ f. MatchOption f (HasMore context c most) (λ s. IsOnly context c s.operands s.result))
      → IfOk found (λ f. MatchOption f (TakesNothing context instruction before)
      (λ s. IsBest context instruction before s.operands s.result))
  answered_more instruction c before most (Ok None) is count more =
      subst (λ (d : ConstInstr). TakesNothing context d before) (sym is) (nothing_from_more context c before most count more)
  answered_more instruction c before most (Ok (Some s)) is count only = answered instruction c before (Some s) is only
  answered_more instruction c before most (Err e) is count answer = tt

  -- the signature of a conversion
  pub converts_extern : (instruction : ConstInstr) (before : List ValType) (found : Result (Option Signature) Error)
      → instruction ≡ constant.AnyConvertExtern
      → IfOk found (λ f. MatchOption f (TakesNoConversion context abstract.Extern abstract.Any before)
      (λ s. IsBestConversion context abstract.Extern abstract.Any before s.operands s.result))
      → IfOk found (λ f. MatchOption f (TakesNothing context instruction before)
      (λ s. IsBest context instruction before s.operands s.result))
  converts_extern instruction before (Ok None) is none =
      subst (λ (d : ConstInstr). TakesNothing context d before) (sym is) none
  converts_extern instruction before (Ok (Some s)) is best =
      subst (λ (d : ConstInstr). IsBest context d before s.operands s.result) (sym is) (record {
        typed = best.typed;
        least = best.least;
        operands_stand = best.operands_stand;
        result_stands = best.result_stands;
      })
  converts_extern instruction before (Err e) is answer = tt

  pub converts_any : (instruction : ConstInstr) (before : List ValType) (found : Result (Option Signature) Error)
      → instruction ≡ constant.ExternConvertAny
      → IfOk found (λ f. MatchOption f (TakesNoConversion context abstract.Any abstract.Extern before)
      (λ s. IsBestConversion context abstract.Any abstract.Extern before s.operands s.result))
      → IfOk found (λ f. MatchOption f (TakesNothing context instruction before)
      (λ s. IsBest context instruction before s.operands s.result))
  converts_any instruction before (Ok None) is none =
      subst (λ (d : ConstInstr). TakesNothing context d before) (sym is) none
  converts_any instruction before (Ok (Some s)) is best =
      subst (λ (d : ConstInstr). IsBest context d before s.operands s.result) (sym is) (record {
        typed = best.typed;
        least = best.least;
        operands_stand = best.operands_stand;
        result_stands = best.result_stands;
      })
  converts_any instruction before (Err e) is answer = tt

  -- every instruction depends on nothing, or is one of ten
  pub nothing_else : (instruction : ConstInstr) (before : List ValType) → fixed_signature instruction ≡ None
      → ((i : ℕ) → instruction ≡ constant.GlobalGet i → ⊥) → ((h : HeapType) → instruction ≡ constant.RefNull h → ⊥)
      → ((i : ℕ) → instruction ≡ constant.RefFunc i → ⊥) → ((i : ℕ) → instruction ≡ constant.StructNew i → ⊥)
      → ((i : ℕ) → instruction ≡ constant.StructNewDefault i → ⊥) → ((i : ℕ) → instruction ≡ constant.ArrayNew i → ⊥)
      → ((i : ℕ) → instruction ≡ constant.ArrayNewDefault i → ⊥) → ((i n : ℕ) → instruction ≡ constant.ArrayNewFixed i n → ⊥)
      → (instruction ≡ constant.AnyConvertExtern → ⊥) → (instruction ≡ constant.ExternConvertAny → ⊥)
      → TakesNothing context instruction before
  nothing_else (constant.GlobalGet i) before none a b c d e f g h j k = absurd (a i refl)
  nothing_else (constant.RefNull heap) before none a b c d e f g h j k = absurd (b heap refl)
  nothing_else (constant.RefFunc i) before none a b c d e f g h j k = absurd (c i refl)
  nothing_else (constant.StructNew i) before none a b c d e f g h j k = absurd (d i refl)
  nothing_else (constant.StructNewDefault i) before none a b c d e f g h j k = absurd (e i refl)
  nothing_else (constant.ArrayNew i) before none a b c d e f g h j k = absurd (f i refl)
  nothing_else (constant.ArrayNewDefault i) before none a b c d e f g h j k = absurd (g i refl)
  nothing_else (constant.ArrayNewFixed i n) before none a b c d e f g h j k = absurd (h i n refl)
  nothing_else constant.AnyConvertExtern before none a b c d e f g h j k = absurd (j refl)
  nothing_else constant.ExternConvertAny before none a b c d e f g h j k = absurd (k refl)
  nothing_else _ before none a b c d e f g h j k = absurd cc
