-- Items of element segments.
use Rattle.smith_check_module.proofs.Common.{[], All, All-cons, All-head, All-nil, ap, arith, as_instr, Bool, canonical_index, ConstInstr}
use Rattle.smith_check_module.proofs.Common.{Context, false, get_or, inl, inr, Instr, IsInstrEnabled, IsItem, IsTrue, IsValBelow, length}
use Rattle.smith_check_module.proofs.Common.{List, map, Ref, refl, RefType, subst, sym, true, ValType, ℕ, ◌++◌, ◌<◌, ◌↔◌, ◌∙◌, ◌∷◌, ◌≡◌}
use Rattle.smith_check_module.proofs.Common.{◌≤◌}
use Rattle.std.proofs.lemmas.List.Elements.{All-map, All-tail, All-weaker}
use Rattle.smith_types.specs.Syntax.const_instr.ConstInstr.TheVariants as constant
use Rattle.smith_instr.specs.declared.instr.Instr.TheVariants.{Reference}
use Rattle.smith_instr.specs.declared.reference.ReferenceInstr.TheVariants.{Func}
use Rattle.smith_types.specs.Expressions.{AreStackSteps, function_reference, IsStackStep}
use Rattle.smith_decode.specs.Constants.{as_expr}
use Rattle.smith_decode.specs.Elements.{func_items}
use Rattle.smith_check_module.specs.CanonicalModules.{renamed_const}
use Rattle.smith_check_module.specs.Items.{IsItemValid}
use Rattle.smith_check_module.specs.ValidModules.{AreFunctions, AreItemsValid, IsConstant}
use Rattle.smith_check_module.proofs.ConstantLemmas.{one_constant}

no_rest : {A : Type 0} (rest taken : List A) → [] ≡ rest ++ taken → rest ≡ []
no_rest [] taken is = refl
no_rest (x ∷ rest) taken is = absurd cc

same_functions : (fs gs : List ℕ) → func_items fs ≡ func_items gs → fs ≡ gs
same_functions [] [] is = refl
same_functions [] (g ∷ gs) is = absurd cc
same_functions (f ∷ fs) [] is = absurd cc
same_functions (f ∷ fs) (g ∷ gs) is =
    let first : f ≡ g = cc in
    let others : func_items fs ≡ func_items gs = cc in
    let rest = same_functions fs gs others in cc

-- an expression of one instruction
pub only_item : (item : List Instr) (x : Instr) → 1 ≤ length item → length item < 2 → x ≡ get_or item 0 x → item ≡ x ∷ []
only_item [] x some few read = absurd (omega arith)
only_item (y ∷ []) x some few read = ap (λ (z : Instr). z ∷ []) (sym read)
only_item (y ∷ z ∷ ys) x some few read = absurd (omega arith)

module _ (context : Context) (indices : List ℕ) (ty : RefType) where
  pub item_constant : (function : ℕ) → IsTrue context.features.reference_types → IsItem context ty function
      → IsConstant context indices (Ref ty) (Reference (Func function) ∷ [])
  item_constant function enabled (index, at, below) = record {
    constants = constant.RefFunc function ∷ [];
    spelled = refl;
    typed = record {
      value = function_reference context function index;
      steps = (
        function_reference context function index ∷ [],
        record {
          operands = [];
          result = function_reference context function index;
          typed = (index, at, refl, refl);
          rest = [];
          taken = [];
          on_top = refl;
          accepted = tt;
          pushed = refl;
        },
        refl,
      );
      below = below;
      enabled = All-cons (IsInstrEnabled context.features context.imported_globals) (constant.RefFunc function) [] enabled
          (All-nil (IsInstrEnabled context.features context.imported_globals));
    };
  }

  taken_item : (function : ℕ) (value : ValType) (between : List ValType)
      → IsStackStep context (constant.RefFunc function) [] between → between ≡ value ∷ [] → IsValBelow context.types value (Ref ty)
      → IsItem context ty function
  taken_item function value between s same below =
      let (index, at, none, is) = s.typed in
      let empty : s.rest ≡ [] = no_rest s.rest s.taken s.on_top in
      let all : value ∷ [] ≡ s.result ∷ [] = sym same ∙ s.pushed ∙ ap (λ (r : List ValType). r ++ s.result ∷ []) empty in
      let one : value ≡ s.result = cc in
      (index, at, subst (λ (v : ValType). IsValBelow context.types v (Ref ty)) (one ∙ is) below)

  spelled_item : (function : ℕ) (constants : List ConstInstr) (value : ValType) → Reference (Func function) ∷ [] ≡ as_expr constants
      → AreStackSteps context (map (renamed_const (canonical_index indices)) constants) [] (value ∷ [])
      → IsValBelow context.types value (Ref ty) → IsItem context ty function
  spelled_item function [] value is steps below = absurd cc
  spelled_item function (c ∷ []) value is (between, step, same) below =
      let first : Reference (Func function) ≡ as_instr c = cc in
      let which : c ≡ constant.RefFunc function = sym (one_constant (constant.RefFunc function) c first) in
      taken_item function value between
      (subst (λ (d : ConstInstr). IsStackStep context (renamed_const (canonical_index indices) d) [] between) which step) same below
  spelled_item function (c ∷ d ∷ cs) value is steps below = absurd cc

  pub constant_item : (function : ℕ) → IsConstant context indices (Ref ty) (Reference (Func function) ∷ []) → IsItem context ty function
  constant_item function e = spelled_item function e.constants e.typed.value e.spelled e.typed.steps e.typed.below

  constant_items : (functions : List ℕ) → All (IsConstant context indices (Ref ty)) (func_items functions)
      → All (IsItem context ty) functions
  constant_items [] all = All-nil (IsItem context ty)
  constant_items (f ∷ fs) all =
      All-cons (IsItem context ty) f fs
      (constant_item f (All-head (IsConstant context indices (Ref ty)) (Reference (Func f) ∷ []) (func_items fs) all))
      (constant_items fs (All-tail (IsConstant context indices (Ref ty)) (Reference (Func f) ∷ []) (func_items fs) all))

  functions_from : (functions : List ℕ) → AreItemsValid context indices ty (func_items functions) → All (IsItem context ty) functions
  functions_from functions (inl r) = subst (λ (fs : List ℕ). All (IsItem context ty) fs)
      (sym (same_functions functions r.functions r.spelled)) r.typed
  functions_from functions (inr valid) = constant_items functions valid.1

  pub functions_valid : (functions : List ℕ) → All (IsItem context ty) functions
      ↔ AreItemsValid context indices ty (func_items functions)
  functions_valid functions =
      (λ all. inl (record { functions = functions; spelled = refl; typed = all }), functions_from functions)

  constant_from : (item : List Instr) → IsTrue context.features.reference_types → IsItemValid context indices ty item
      → IsConstant context indices (Ref ty) item
  constant_from item enabled (inl (function, is, valid)) = subst (λ (e : List Instr). IsConstant context indices (Ref ty) e) (sym is)
      (item_constant function enabled valid)
  constant_from item enabled (inr valid) = valid.1

  more_functions : (item : List Instr) (items : List (List Instr)) → context.features.reference_types ≡ false
      → IsItemValid context indices ty item → AreFunctions context ty items → AreFunctions context ty (item ∷ items)
  more_functions item items off (inl (function, is, valid)) r = record {
    functions = function ∷ r.functions;
    spelled = λ i. is i ∷ r.spelled i;
    typed = All-cons (IsItem context ty) function r.functions valid r.typed;
  }
  more_functions item items off (inr valid) r = let on = valid.0 in absurd cc

  all_functions : (items : List (List Instr)) → context.features.reference_types ≡ false → All (IsItemValid context indices ty) items
      → AreFunctions context ty items
  all_functions [] off all = record { functions = []; spelled = refl; typed = All-nil (IsItem context ty) }
  all_functions (item ∷ items) off all =
      more_functions item items off (All-head (IsItemValid context indices ty) item items all)
      (all_functions items off (All-tail (IsItemValid context indices ty) item items all))

  valid_items : (items : List (List Instr)) (b : Bool) → context.features.reference_types ≡ b → All (IsItemValid context indices ty) items
      → AreItemsValid context indices ty items
  valid_items items true on all =
      inr (on, All-weaker (IsItemValid context indices ty) (IsConstant context indices (Ref ty)) (λ item. constant_from item on) items all)
  valid_items items false off all = inl (all_functions items off all)

  items_from : (items : List (List Instr)) → AreItemsValid context indices ty items → All (IsItemValid context indices ty) items
  items_from items (inl r) = subst (λ (es : List (List Instr)). All (IsItemValid context indices ty) es) (sym r.spelled)
      (All-map (IsItemValid context indices ty) (λ (index : ℕ). Reference (Func index) ∷ []) r.functions
      (All-weaker (IsItem context ty) (λ (f : ℕ). IsItemValid context indices ty (Reference (Func f) ∷ []))
      (λ f valid. inl (f, refl, valid)) r.functions r.typed))
  items_from items (inr valid) =
      All-weaker (IsConstant context indices (Ref ty)) (IsItemValid context indices ty) (λ item e. inr (valid.0, e)) items valid.1

  pub expressions_valid : (items : List (List Instr)) → All (IsItemValid context indices ty) items
      ↔ AreItemsValid context indices ty items
  expressions_valid items = (valid_items items context.features.reference_types refl, items_from items)

  -- an item where references to functions are no constant expressions
  only_function : (item : List Instr) → context.features.reference_types ≡ false → IsItemValid context indices ty item
      → (function : ℕ) × (item ≡ Reference (Func function) ∷ []) × IsItem context ty function
  only_function item off (inl found) = found
  only_function item off (inr valid) = let on = valid.0 in absurd cc

  pub item_decided : (item : List Instr) → IsTrue context.features.reference_types → IsConstant context indices (Ref ty) item
      ↔ IsItemValid context indices ty item
  item_decided item on = (λ e. inr (on, e), constant_from item on)

  pub function_decided : (item : List Instr) (function : ℕ) → item ≡ Reference (Func function) ∷ []
      → context.features.reference_types ≡ false → (b : Bool) → IsTrue b ↔ IsItem context ty function
      → IsTrue b ↔ IsItemValid context indices ty item
  function_decided item function is off b decides = (
    λ yes. inl (function, is, decides.0 yes),
    λ valid.
        let (other, same, typed) = only_function item off valid in
        let both : Reference (Func other) ∷ [] ≡ Reference (Func function) ∷ [] = sym same ∙ is in
        let one : other ≡ function = cc in
        decides.1 (subst (λ (f : ℕ). IsItem context ty f) one typed),
  )
