-- The signatures of instructions of constant expressions.
use Rattle.smith_check_module.proofs.Common.{[], All, All-cons, All-nil, AllZip, ap, arith, Bool, cond, ConstInstr, Context, false}
use Rattle.smith_check_module.proofs.Common.{GlobalType, I32, IsValBelow, IsValBelow-refl, IsValInRange, length, length-append}
use Rattle.smith_check_module.proofs.Common.{length_all_zip, List, None, Ref, refl, same_Some, slice_get, slice_get_within, Some, subst}
use Rattle.smith_check_module.proofs.Common.{SubType, sym, true, ValType, ℕ, ◌++◌, ◌<◌, ◌∙◌, ◌∷◌, ◌≡◌, ◌≤◌}
use Rattle.std.proofs.lemmas.Option.{get_or_from_slice_get}
use Rattle.smith_types.specs.Syntax.const_instr.ConstInstr.TheVariants as constant
use Rattle.smith_types.specs.Syntax.value_type.HeapType.TheVariants.{Concrete, Exact}
use Rattle.smith_types.specs.Syntax.value_type.ValType.TheVariants.{F32, F64, I64, V128}
use Rattle.smith_types.specs.Expressions.{created, HasType}
use Rattle.smith_types.specs.Expressions.{function_reference}
use Rattle.smith_types.specs.Subtyping.{IsInRange}
use Rattle.smith_types.specs.Types.{IsOrderly}
use Rattle.smith_types.proofs.RangeLemmas.{above_stands}
use Rattle.smith_check_module.specs.ConstScopes.{IsScope}
use Rattle.smith_check_module.specs.Typings.{HasMore, HasNoType, IsBest, IsOnly, TakesNothing, fixed_signature}
use Rattle.smith_check_module.specs.declared.signature.Signature.{Signature}

pub all_at : {A : Type 0} (P : A → Type 0) (xs : List A) (i : ℕ) (x : A) → All P xs → slice_get xs i ≡ Some x → P x
all_at P xs i x all at = subst P (get_or_from_slice_get xs i x x at) (all i x (slice_get_within xs i x at))

-- a supertype of a value type that stands does so
pub above_value : (types : List SubType) → IsOrderly types → (a b : ValType) → IsValBelow types a b → IsValInRange types a
    → IsValInRange types b
above_value types orderly (Ref a) (Ref b) below stands = above_stands types orderly a.heap_type b.heap_type below.heap stands
above_value types orderly I32 (Ref b) below stands = absurd below
above_value types orderly I64 (Ref b) below stands = absurd below
above_value types orderly F32 (Ref b) below stands = absurd below
above_value types orderly F64 (Ref b) below stands = absurd below
above_value types orderly V128 (Ref b) below stands = absurd below
above_value types orderly _ _ below stands = tt

module _ (context : Context) where
  no_range : All (IsValInRange context.types) []
  no_range = All-nil (IsValInRange context.types)

  one_range : (value : ValType) → IsValInRange context.types value → All (IsValInRange context.types) (value ∷ [])
  one_range value stands = All-cons (IsValInRange context.types) value [] stands no_range

  two_range : (a b : ValType) → IsValInRange context.types a → IsValInRange context.types b
      → All (IsValInRange context.types) (a ∷ b ∷ [])
  two_range a b first second = All-cons (IsValInRange context.types) a (b ∷ []) first (one_range b second)

  -- an instruction that depends on nothing
  fixed : (instruction : ConstInstr) (operands : List ValType) (result : ValType)
      → ((others : List ValType) (other : ValType) → HasType context instruction others other → (others ≡ operands) × (other ≡ result))
      → HasType context instruction operands result → All (IsValInRange context.types) operands → IsValInRange context.types result
      → (signature : Signature) → Some (record { operands = operands; result = result }) ≡ Some signature
      → IsOnly context instruction signature.operands signature.result
  fixed instruction operands result only typed stand stands signature is =
      subst (λ (s : Signature). IsOnly context instruction s.operands s.result) (same_Some _ signature is)
      (record { typed = typed; only = only; operands_stand = stand; result_stands = stands })

  pub fixed_only : (instruction : ConstInstr) (signature : Signature) → fixed_signature instruction ≡ Some signature
      → IsOnly context instruction signature.operands signature.result
  fixed_only (constant.I32Const value) s is = fixed (constant.I32Const value) _ _ (λ o r h. h) (refl, refl) no_range tt s is
  fixed_only (constant.I64Const value) s is = fixed (constant.I64Const value) _ _ (λ o r h. h) (refl, refl) no_range tt s is
  fixed_only (constant.F32Const bits) s is = fixed (constant.F32Const bits) _ _ (λ o r h. h) (refl, refl) no_range tt s is
  fixed_only (constant.F64Const bits) s is = fixed (constant.F64Const bits) _ _ (λ o r h. h) (refl, refl) no_range tt s is
  fixed_only (constant.V128Const bits) s is = fixed (constant.V128Const bits) _ _ (λ o r h. h) (refl, refl) no_range tt s is
  fixed_only constant.I32Add s is = fixed constant.I32Add _ _ (λ o r h. h) (refl, refl) (two_range I32 I32 tt tt) tt s is
  fixed_only constant.I32Sub s is = fixed constant.I32Sub _ _ (λ o r h. h) (refl, refl) (two_range I32 I32 tt tt) tt s is
  fixed_only constant.I32Mul s is = fixed constant.I32Mul _ _ (λ o r h. h) (refl, refl) (two_range I32 I32 tt tt) tt s is
  fixed_only constant.I64Add s is = fixed constant.I64Add _ _ (λ o r h. h) (refl, refl) (two_range I64 I64 tt tt) tt s is
  fixed_only constant.I64Sub s is = fixed constant.I64Sub _ _ (λ o r h. h) (refl, refl) (two_range I64 I64 tt tt) tt s is
  fixed_only constant.I64Mul s is = fixed constant.I64Mul _ _ (λ o r h. h) (refl, refl) (two_range I64 I64 tt tt) tt s is
  fixed_only constant.RefI31 s is = fixed constant.RefI31 _ _ (λ o r h. h) (refl, refl) (one_range I32 tt) tt s is
  fixed_only constant.RefI31Shared s is = fixed constant.RefI31Shared _ _ (λ o r h. h) (refl, refl) (one_range I32 tt) tt s is
  fixed_only _ s is = cc

  pub same_only : (instruction : ConstInstr) (operands o : List ValType) (result r : ValType) → o ≡ operands → r ≡ result
      → IsOnly context instruction operands result → IsOnly context instruction o r
  same_only instruction operands o result r same is only =
      subst (λ (vs : List ValType). IsOnly context instruction vs r) (sym same)
      (subst (λ (v : ValType). IsOnly context instruction operands v) (sym is) only)

  -- an instruction with one type takes any values that its operands accept
  pub best_from_only : (instruction : ConstInstr) (before operands : List ValType) (result : ValType)
      → IsOnly context instruction operands result → IsBest context instruction before operands result
  best_from_only instruction before operands result only = record {
    typed = only.typed;
    least = λ rest taken others other at accepted typed.
        let (same, is) = only.only others other typed in (
          subst (λ (xs : List ValType). AllZip (IsValBelow context.types) taken xs) same accepted,
          subst (λ (v : ValType). IsValBelow context.types result v) (sym is) (IsValBelow-refl context.types result),
        );
    operands_stand = only.operands_stand;
    result_stands = only.result_stands;
  }

  pub nothing_from_none : (instruction : ConstInstr) (before : List ValType) → HasNoType context instruction
      → TakesNothing context instruction before
  nothing_from_none instruction before none = λ rest taken operands result at accepted typed. none operands result typed

  pub nothing_from_more : (instruction : ConstInstr) (before : List ValType) (most : ℕ) → most ≡ length before
      → HasMore context instruction most → TakesNothing context instruction before
  nothing_from_more instruction before most is more = λ rest taken operands result at accepted typed.
      let longer = more operands result typed in
      let same = length_all_zip (IsValBelow context.types) taken operands accepted in
      let whole : length before ≡ length (rest ++ taken) = ap (λ (xs : List ValType). length xs) at in
      omega (arith, longer, length-append rest taken)

  pub global_only : (index : ℕ) (global : GlobalType) → IsScope context → slice_get context.globals index ≡ Some global
      → index < context.visible → global.mutable ≡ false
      → IsOnly context (constant.GlobalGet index) [] global.val_type
  global_only index global scope at seen fixed = record {
    typed = (refl, (global, at, seen, fixed, refl));
    only = λ others other (none, (found, there, below, kept, is)).
        (none, sym is ∙ ap (λ (g : GlobalType). g.val_type) (same_Some found global (sym there ∙ at)));
    operands_stand = no_range;
    result_stands = all_at (λ (g : GlobalType). IsValInRange context.types g.val_type) context.globals index global scope.globals_stand at;
  }

  pub global_none : (index : ℕ) (global : GlobalType) → slice_get context.globals index ≡ Some global → global.mutable ≡ true
      → HasNoType context (constant.GlobalGet index)
  global_none index global at changes = λ others other (none, (found, there, below, kept, is)).
      let same = same_Some found global (sym there ∙ at) in
      let both : true ≡ false = sym changes ∙ sym (ap (λ (g : GlobalType). g.mutable) same) ∙ kept in
      absurd cc

  pub global_unseen : (index : ℕ) → context.visible ≤ index → HasNoType context (constant.GlobalGet index)
  global_unseen index unseen = λ others other (none, (found, there, below, kept, is)). omega arith

  pub global_missing : (index : ℕ) → slice_get context.globals index ≡ None → HasNoType context (constant.GlobalGet index)
  global_missing index missing = λ others other (none, (found, there, below, kept, is)). cc

  pub func_none : (function : ℕ) → slice_get context.funcs function ≡ None → HasNoType context (constant.RefFunc function)
  func_none function missing = λ others other (found, there, none, is). cc

  pub created_in_range : (index : ℕ) → index < length context.types → IsValInRange context.types (created context index)
  created_in_range index inside =
      elim context.features.custom_descriptors as (λ b. IsInRange context.types (cond b (Exact index) (Concrete index))) [
        | true ↦ inside
        | false ↦ inside
      ]

  function_in_range : (function index : ℕ) (b : Bool) → index < length context.types
      → IsValInRange context.types (cond b (created context index) (Ref (record { nullable = false; heap_type = Concrete index })))
  function_in_range function index true inside = created_in_range index inside
  function_in_range function index false inside = inside

  pub func_only : (function index : ℕ) → IsScope context → slice_get context.funcs function ≡ Some index
      → IsOnly context (constant.RefFunc function) [] (function_reference context function index)
  func_only function index scope at = record {
    typed = (index, at, refl, refl);
    only = λ others other (found, there, none, is).
        (none, is ∙ ap (function_reference context function) (same_Some found index (sym there ∙ at)));
    operands_stand = no_range;
    result_stands = function_in_range function index _ (all_at (λ (i : ℕ). i < length context.types) context.funcs function index
        scope.funcs_stand at);
  }
