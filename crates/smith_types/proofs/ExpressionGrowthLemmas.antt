-- Valid constant expressions stay valid when types, functions and globals are added.
use Rattle.smith_types.proofs.Common.{[], arith, FieldType, GlobalType, length, List, subst, SubType, sym, ValType, ℕ, ◌++◌, ◌∷◌, ◌≡◌, ◌≤◌}
use Rattle.smith_syntax.specs.declared.const_instr.ConstInstr.{ConstInstr}
use Rattle.smith_syntax.specs.declared.const_instr.ConstInstr.TheVariants as instr
use Rattle.smith_types.specs.Subtyping.{IsValBelow}
use Rattle.smith_types.specs.Expressions.{Context, IsVisible, IsStructAt, IsArrayAt, HasType, IsStackStep, AreStackSteps, IsConstExpr}
use Rattle.smith_types.specs.Grown.{IsContextGrown}
use Rattle.smith_types.proofs.ListLemmas.{slice_get-grown, AllZip-weaker}
use Rattle.smith_types.proofs.GrowthLemmas.{IsValBelow-grown}
use Rattle.smith_types.proofs.EntityGrowthLemmas.{IsHeapTypeValid-later, no_fewer}

-- a context with items appended to its lists
abbrev pub grown : Context → List SubType → List ℕ → List GlobalType → ℕ → Context
grown context types funcs globals visible = record {
  features = context.features;
  types = context.types ++ types;
  funcs = context.funcs ++ funcs;
  globals = context.globals ++ globals;
  imported_funcs = context.imported_funcs;
  imported_globals = context.imported_globals;
  visible = visible;
}

-- each grown context is a context with items appended
pub grown_is : (old new : Context) (h : IsContextGrown old new) → grown old h.types.more h.funcs.more h.globals.more new.visible ≡ new
grown_is old new h = sym (λ i. record {
  features = h.features i;
  types = h.types.parts i;
  funcs = h.funcs.parts i;
  globals = h.globals.parts i;
  imported_funcs = h.imported_funcs i;
  imported_globals = h.imported_globals i;
  visible = new.visible;
})

module _ (context : Context) (types : List SubType) (funcs : List ℕ) (globals : List GlobalType) (visible : ℕ)
    (wider : context.visible ≤ visible) where
  pub IsVisible-grown : (index : ℕ) (value : ValType) → IsVisible context index value
      → IsVisible (grown context types funcs globals visible) index value
  IsVisible-grown index value (global, at, seen, constant, is) = (
    global,
    slice_get-grown context.globals globals index global at,
    omega (arith, seen, wider),
    constant,
    is,
  )

  IsStructAt-grown : (index : ℕ) (fields : List FieldType) → IsStructAt context.types index fields
      → IsStructAt (context.types ++ types) index fields
  IsStructAt-grown index fields (t, at, is) = (t, slice_get-grown context.types types index t at, is)

  IsArrayAt-grown : (index : ℕ) (element : FieldType) → IsArrayAt context.types index element
      → IsArrayAt (context.types ++ types) index element
  IsArrayAt-grown index element (t, at, is) = (t, slice_get-grown context.types types index t at, is)

  HasType-more : (instruction : ConstInstr) (operands : List ValType) (result : ValType) → HasType context instruction operands result
      → HasType (grown context types funcs globals visible) instruction operands result
  HasType-more (instr.I32Const value) operands result h = h
  HasType-more (instr.I64Const value) operands result h = h
  HasType-more (instr.F32Const bits) operands result h = h
  HasType-more (instr.F64Const bits) operands result h = h
  HasType-more (instr.V128Const bits) operands result h = h
  HasType-more (instr.GlobalGet index) operands result (none, seen) = (none, IsVisible-grown index result seen)
  HasType-more (instr.RefNull heap_type) operands result (valid, none, is) = (
    IsHeapTypeValid-later context.features (length context.types) (length (context.types ++ types)) (no_fewer context.types types)
        heap_type valid,
    none,
    is,
  )
  HasType-more (instr.RefFunc function) operands result (index, at, none, is) =
      (index, slice_get-grown context.funcs funcs function index at, none, is)
  HasType-more instr.I32Add operands result h = h
  HasType-more instr.I32Sub operands result h = h
  HasType-more instr.I32Mul operands result h = h
  HasType-more instr.I64Add operands result h = h
  HasType-more instr.I64Sub operands result h = h
  HasType-more instr.I64Mul operands result h = h
  HasType-more instr.RefI31 operands result h = h
  HasType-more instr.RefI31Shared operands result h = h
  HasType-more (instr.StructNew index) operands result (fields, at, taken, given) = (fields, IsStructAt-grown index fields at, taken, given)
  HasType-more (instr.StructNewDefault index) operands result (fields, at, defaults, taken, given) =
      (fields, IsStructAt-grown index fields at, defaults, taken, given)
  HasType-more (instr.ArrayNew index) operands result (element, at, taken, given) =
      (element, IsArrayAt-grown index element at, taken, given)
  HasType-more (instr.ArrayNewDefault index) operands result (element, at, default, taken, given) =
      (element, IsArrayAt-grown index element at, default, taken, given)
  HasType-more (instr.ArrayNewFixed index size) operands result (element, at, taken, given) =
      (element, IsArrayAt-grown index element at, taken, given)
  HasType-more instr.AnyConvertExtern operands result h = h
  HasType-more instr.ExternConvertAny operands result h = h

  IsStackStep-more : (instruction : ConstInstr) (before after : List ValType) → IsStackStep context instruction before after
      → IsStackStep (grown context types funcs globals visible) instruction before after
  IsStackStep-more instruction before after h = record {
    operands = h.operands;
    result = h.result;
    typed = HasType-more instruction h.operands h.result h.typed;
    rest = h.rest;
    taken = h.taken;
    on_top = h.on_top;
    accepted = AllZip-weaker (IsValBelow context.types) (IsValBelow (context.types ++ types)) (IsValBelow-grown context.types types) h.taken
        h.operands h.accepted;
    pushed = h.pushed;
  }

  AreStackSteps-more : (instructions : List ConstInstr) (before after : List ValType) → AreStackSteps context instructions before after
      → AreStackSteps (grown context types funcs globals visible) instructions before after
  AreStackSteps-more [] before after h = h
  AreStackSteps-more (instruction ∷ instructions) before after (between, step, steps) =
      (between, IsStackStep-more instruction before between step, AreStackSteps-more instructions between after steps)

  pub IsConstExpr-more : (wanted : ValType) (expression : List ConstInstr) → IsConstExpr context wanted expression
      → IsConstExpr (grown context types funcs globals visible) wanted expression
  IsConstExpr-more wanted expression h = record {
    value = h.value;
    steps = AreStackSteps-more expression [] (h.value ∷ []) h.steps;
    below = IsValBelow-grown context.types types h.value wanted h.below;
    enabled = h.enabled;
  }

module _ (old new : Context) (growth : IsContextGrown old new) where
  pub HasType-grown : (instruction : ConstInstr) (operands : List ValType) (result : ValType) → HasType old instruction operands result
      → HasType new instruction operands result
  HasType-grown instruction operands result h =
      subst (λ c. HasType c instruction operands result) (grown_is old new growth)
      (HasType-more old growth.types.more growth.funcs.more growth.globals.more new.visible growth.visible instruction operands result h)

  pub IsStackStep-grown : (instruction : ConstInstr) (before after : List ValType) → IsStackStep old instruction before after
      → IsStackStep new instruction before after
  IsStackStep-grown instruction before after h =
      subst (λ c. IsStackStep c instruction before after) (grown_is old new growth)
      (IsStackStep-more old growth.types.more growth.funcs.more growth.globals.more new.visible growth.visible instruction before after
      h)

  pub AreStackSteps-grown : (instructions : List ConstInstr) (before after : List ValType) → AreStackSteps old instructions before after
      → AreStackSteps new instructions before after
  AreStackSteps-grown instructions before after h =
      subst (λ c. AreStackSteps c instructions before after) (grown_is old new growth)
      (AreStackSteps-more old growth.types.more growth.funcs.more growth.globals.more new.visible growth.visible instructions before
      after h)

  pub IsConstExpr-grown : (wanted : ValType) (expression : List ConstInstr) → IsConstExpr old wanted expression
      → IsConstExpr new wanted expression
  IsConstExpr-grown wanted expression h =
      subst (λ c. IsConstExpr c wanted expression) (grown_is old new growth)
      (IsConstExpr-more old growth.types.more growth.funcs.more growth.globals.more new.visible growth.visible wanted expression h)
