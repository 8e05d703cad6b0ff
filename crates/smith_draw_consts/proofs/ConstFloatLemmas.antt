-- No drawn constant expression has a float constant if the wanted type is not a float and no
-- existing type contains one.
use Rattle.smith_draw_consts.proofs.Common.{[], All, All-from_recursion, All-nil, All-push, ap, Bool, choose_at, CompositeInnerType, Config}
use Rattle.smith_draw_consts.proofs.Common.{ConstInstr, Context, F32, F64, false, field_values, fields_of, FieldType, I32, I64, IfSome}
use Rattle.smith_draw_consts.proofs.Common.{length, List, map, option_map, range_at, recursion_from_All, Ref, refl, same_Some, slice_get}
use Rattle.smith_draw_consts.proofs.Common.{subst, SubType, suc, true, unpacked, V128, ValType, zero, ℕ, ◌++◌, ◌-◌, ◌∷◌, ◌≡◌}
use Rattle.std.proofs.Common.{None, Option, Some}
use Rattle.std.specs.Prelude.{option_and_then}
use Rattle.std.specs.List.{AllByRecursion as Each}
use Rattle.std.specs.Int.{cast_signed, w32}
use Rattle.std.proofs.lemmas.List.Elements.{All-append}
use Rattle.smith_bytes.proofs.GrownLemmas.{cond_both}
use Rattle.smith_types.specs.Floats.{IsNoFloat, HasNoFloat, GivesNoFloat}
use Rattle.smith_types.specs.ValidTypes.{values_of, values_of_storage}
use Rattle.smith_types.specs.Syntax.value_type.AbstractHeapType.{AbstractHeapType}
use Rattle.smith_types.specs.Syntax.value_type.AbstractHeapType.TheVariants as heap
use Rattle.smith_types.specs.Syntax.composite_type.StorageType.{StorageType}
use Rattle.smith_types.specs.Syntax.composite_type.StorageType.TheVariants.{I8, I16, Val}
use Rattle.smith_types.specs.Syntax.composite_type.CompositeInnerType.TheVariants.{Array, Func, Struct}
use Rattle.smith_types.specs.Syntax.const_instr.ConstInstr.TheVariants as instr
use Rattle.smith_draw_consts.specs.Constants.{constant_at, is_wide, operation, operator_at, extended_by, extended_within, extended_at}
use Rattle.smith_draw_consts.specs.ConstOffers.{offers}
use Rattle.smith_draw_consts.specs.ConstNodes.{fields_there, field_operands, repeated, converted, is_extended, node_at}
use Rattle.smith_draw_consts.specs.ConstExprs.{State, state_of, add_instruction, length_at, operand_at, operands_at, after_choice}
use Rattle.smith_draw_consts.specs.ConstExprs.{expression_at, expression_alone_at}
use Rattle.smith_draw_consts.specs.ConstSteps.{operand_type}
use Rattle.smith_draw_consts.specs.declared.node_choice.Choice.{Choice}
use Rattle.smith_draw_consts.specs.declared.node_choice.Choice.TheVariants as choice
use Rattle.smith_draw_consts.specs.declared.extended_constant.Operator.{Operator}
use Rattle.smith_draw_consts.specs.declared.extended_constant.Operator.TheVariants.{Add, Sub, Mul}
use Rattle.smith_draw_consts.specs.declared.node.Node.{Node}
use Rattle.smith_draw_consts.specs.declared.node.Operand.{Operand}
use Rattle.smith_draw_consts.specs.declared.node.Operand.TheVariants.{Value, Length}
use Rattle.smith_draw_types.proofs.SharedLemmas.{each_join}
use Rattle.smith_draw_types.proofs.FloatLemmas.{stands_in}
use Rattle.smith_draw_types.proofs.MatchingCompositeLemmas.{fields_of_values}

-- an operand whose type is not a float
abbrev IsNoFloatOperand : Operand → Type 0
IsNoFloatOperand operand = IsNoFloat (operand_type operand)

-- an instruction other than a float constant, whose operands are not floats
record HasNoFloatOperands (node : Node) : Type 0 where
  instruction : GivesNoFloat node.instruction
  operands : Each IsNoFloatOperand node.operands

constant : (wanted : ValType) (bytes : List ℕ) → IsNoFloat wanted → GivesNoFloat (constant_at wanted bytes).0
unfolding constant_at
constant I32 bytes h = tt
constant I64 bytes h = tt
constant V128 bytes h = tt
constant (Ref reference) bytes h = tt
constant F32 bytes h = absurd h
constant F64 bytes h = absurd h

conversion : (wanted : ValType) (ty : AbstractHeapType) → IsNoFloat wanted → IsNoFloat (converted wanted ty)
conversion I32 ty h = tt
conversion I64 ty h = tt
conversion V128 ty h = tt
conversion (Ref reference) ty h = tt
conversion F32 ty h = absurd h
conversion F64 ty h = absurd h

storage : (ty : StorageType) → Each IsNoFloat (values_of_storage ty) → IsNoFloat (unpacked ty)
storage I8 h = tt
storage I16 h = tt
storage (Val value) h = h.0

fields : (items : List FieldType) → Each (λ (field : FieldType). All IsNoFloat (values_of_storage field.element_type)) items
    → Each IsNoFloat (field_values items)
fields [] h = tt
fields (field ∷ items) h = (
  storage field.element_type (recursion_from_All IsNoFloat (values_of_storage field.element_type) h.0),
  fields items h.1,
)

fields_inside : (inner : CompositeInnerType) → All IsNoFloat (values_of inner) → Each IsNoFloat (field_values (fields_of inner))
fields_inside (Array array) h = fields (array.0 ∷ []) (h, tt)
fields_inside (Func function) h = tt
fields_inside (Struct structure) h =
    fields structure.fields (fields_of_values IsNoFloat structure.fields (recursion_from_All IsNoFloat (values_of (Struct structure)) h))

as_operands : (values : List ValType) → Each IsNoFloat values → Each IsNoFloatOperand (map Value values)
as_operands [] h = tt
as_operands (value ∷ values) h = (h.0, as_operands values h.1)

operands_there : (types : List SubType) (index : ℕ) → All HasNoFloat types → Each IsNoFloatOperand (field_operands types index)
operands_there types index calm = of (slice_get types index) (λ t at. stands_in HasNoFloat types index t at calm)
  where
    of : (at : Option SubType) → ((t : SubType) → at ≡ Some t → HasNoFloat t)
        → Each IsNoFloatOperand (map Value (field_values (fields_there at)))
    of None h = tt
    of (Some t) h = as_operands (field_values (fields_of t.composite_type.inner)) (fields_inside t.composite_type.inner (h t refl))

repeatedly : (n : ℕ) (operands : List Operand) → Each IsNoFloatOperand operands → Each IsNoFloatOperand (repeated n operands)
repeatedly zero operands h = tt
repeatedly (suc n) operands h = (each_join IsNoFloatOperand operands (repeated n operands)).1 (h, repeatedly n operands h)

node : (types : List SubType) (wanted : ValType) (choice : Choice) (bytes : List ℕ) → All HasNoFloat types → IsNoFloat wanted
    → HasNoFloatOperands (node_at types wanted choice bytes).0
unfolding node_at
node types wanted (choice.Global index) bytes calm h = record { instruction = tt; operands = tt }
node types wanted choice.Constant bytes calm h = record { instruction = constant wanted bytes h; operands = tt }
node types wanted choice.Extended bytes calm h = record { instruction = constant wanted bytes h; operands = tt }
node types wanted (choice.Function index) bytes calm h = record { instruction = tt; operands = tt }
node types wanted (choice.Struct index) bytes calm h = record { instruction = tt; operands = operands_there types index calm }
node types wanted (choice.StructDefault index) bytes calm h = record { instruction = tt; operands = tt }
node types wanted (choice.Array index) bytes calm h =
    record {
      instruction = tt;
      operands = (each_join IsNoFloatOperand (field_operands types index) (Length ∷ [])).1
          (operands_there types index calm, (tt, tt));
    }
node types wanted (choice.FixedArray index) bytes calm h =
    record { instruction = tt; operands = repeatedly (range_at 0 3 bytes).0 (field_operands types index) (operands_there types index calm) }
node types wanted (choice.ArrayDefault index) bytes calm h = record { instruction = tt; operands = (tt, tt) }
node types wanted choice.I31 bytes calm h = record { instruction = tt; operands = (tt, tt) }
node types wanted choice.SharedI31 bytes calm h = record { instruction = tt; operands = (tt, tt) }
node types wanted choice.FromExtern bytes calm h = record { instruction = tt; operands = (conversion wanted heap.Extern h, tt) }
node types wanted choice.FromAny bytes calm h = record { instruction = tt; operands = (conversion wanted heap.Any h, tt) }

operation_alone : (wide : Bool) (operator : Operator) → GivesNoFloat (operation wide operator)
operation_alone false Add = tt
operation_alone false Sub = tt
operation_alone false Mul = tt
operation_alone true Add = tt
operation_alone true Sub = tt
operation_alone true Mul = tt

extended_more : (rest : ℕ → List ConstInstr → List ℕ → List ConstInstr × List ℕ) → ((needed : ℕ) (made : List ConstInstr) (bytes : List ℕ)
    → Each GivesNoFloat made → Each GivesNoFloat (rest needed made bytes).0)
    → (wanted : ValType) (needed : ℕ) (made : List ConstInstr) (operator : Option Operator) (bytes : List ℕ) → IsNoFloat wanted
    → Each GivesNoFloat made → Each GivesNoFloat (extended_by rest wanted needed made operator bytes).0
extended_more rest each wanted needed made None bytes h so_far =
    let drawn = constant_at wanted bytes in
    each needed (drawn.0 ∷ made) drawn.1 (constant wanted bytes h, so_far)
extended_more rest each wanted needed made (Some operator) bytes h so_far =
    each (suc (suc needed)) (operation (is_wide wanted) operator ∷ made) bytes (operation_alone (is_wide wanted) operator, so_far)

extended : (most : ℕ) (wanted : ValType) (needed : ℕ) (made : List ConstInstr) (bytes : List ℕ) → IsNoFloat wanted → Each GivesNoFloat made
    → Each GivesNoFloat (extended_within most wanted needed made bytes).0
unfolding extended_within
extended zero wanted needed made bytes h so_far = so_far
extended (suc most) wanted zero made bytes h so_far = so_far
extended (suc most) wanted (suc needed) made bytes h so_far =
    let operator = operator_at (length made) bytes in
    extended_more (extended_within most wanted) (λ n more after. extended most wanted n more after h) wanted needed made operator.0
    operator.1 h so_far

extended_whole : (wanted : ValType) (bytes : List ℕ) → IsNoFloat wanted → All GivesNoFloat (extended_at wanted bytes).0
unfolding extended_at
extended_whole wanted bytes h = All-from_recursion GivesNoFloat (extended_within 23 wanted 1 [] bytes).0
    (extended 23 wanted 1 [] bytes h tt)

-- a state, if there is one, whose instructions are not float constants
abbrev Stays : Option State → Type 0
Stays drawn = IfSome drawn (λ (s : State). All GivesNoFloat s.made)

then_stays : (f : State → Option State) (drawn : Option State) → ((s : State) → All GivesNoFloat s.made → Stays (f s)) → Stays drawn
    → Stays (option_and_then f drawn)
then_stays f None each h = tt
then_stays f (Some s) each h = each s h

after_stays : (instruction : ConstInstr) (drawn : Option State) → GivesNoFloat instruction → Stays drawn
    → Stays (option_map (add_instruction instruction) drawn)
after_stays instruction None gives h = tt
after_stays instruction (Some s) gives h = All-push GivesNoFloat s.made instruction h gives

operands_stay : (draw : Operand → State → Option State) → ((operand : Operand) (s : State) → IsNoFloatOperand operand
    → All GivesNoFloat s.made → Stays (draw operand s)) → (operands : List Operand) (s : State) → Each IsNoFloatOperand operands
    → All GivesNoFloat s.made
    → Stays (operands_at draw operands s)
operands_stay draw each [] s h so_far = so_far
operands_stay draw each (operand ∷ operands) s h so_far =
    then_stays (operands_at draw operands) (draw operand s) (λ t now. operands_stay draw each operands t h.1 now)
    (each operand s h.0 so_far)

module _ (context : Context) (config : Config) (calm : All HasNoFloat context.types) where
  operand_stays : (draw : ValType → State → Option State) → ((value : ValType) (s : State) → IsNoFloat value → All GivesNoFloat s.made
      → Stays (draw value s)) → (operand : Operand) (s : State) → IsNoFloatOperand operand → All GivesNoFloat s.made
      → Stays (operand_at config draw operand s)
  operand_stays draw each (Value value) s h so_far = each value s h so_far
  operand_stays draw each Length s h so_far =
      cond_both Stays config.limit_arrays_in_const_exprs (Some (length_at s)) (draw I32 s)
      (All-push GivesNoFloat s.made (instr.I32Const (cast_signed w32 (range_at 0 s.fuel s.bytes).0)) so_far tt) (each I32 s tt so_far)

  made_stays : (draw : ValType → State → Option State) → ((value : ValType) (s : State) → IsNoFloat value → All GivesNoFloat s.made
      → Stays (draw value s)) → (wanted : ValType) (s : State) (choice : Option Choice) → IsNoFloat wanted → All GivesNoFloat s.made
      → Stays (after_choice context config draw wanted s choice)
  made_stays draw each wanted s None h so_far = tt
  made_stays draw each wanted s (Some choice) h so_far =
      let drawn = node_at context.types wanted choice s.bytes in
      let whole = extended_at wanted s.bytes in
      let before = operands_at (operand_at config draw) drawn.0.operands (state_of s.made (s.fuel - 1) drawn.1) in
      let calm_node = node context.types wanted choice s.bytes calm h in
      cond_both Stays (is_extended choice) (Some (state_of (s.made ++ whole.0) (s.fuel - 1) whole.1))
      (option_map (add_instruction drawn.0.instruction) before)
      (All-append GivesNoFloat s.made whole.0 so_far (extended_whole wanted s.bytes h))
      (after_stays drawn.0.instruction before calm_node.instruction (operands_stay (operand_at config draw) (operand_stays draw each)
      drawn.0.operands (state_of s.made (s.fuel - 1) drawn.1) calm_node.operands so_far))

  expression_stays : (depth : ℕ) (wanted : ValType) (s : State) → IsNoFloat wanted → All GivesNoFloat s.made
      → Stays (expression_at context config depth wanted s)
  unfolding expression_at
  expression_stays zero wanted s h so_far = tt
  expression_stays (suc depth) wanted s h so_far =
      let chosen = choose_at (offers config context wanted s.fuel) s.bytes in
      made_stays (expression_at context config depth) (expression_stays depth) wanted (state_of s.made s.fuel chosen.1) chosen.0 h so_far

  pub const_expr_no_float : (fuel : ℕ) (wanted : ValType) (bytes : List ℕ) (drawn : List ConstInstr) (after : List ℕ) → IsNoFloat wanted
      → expression_alone_at context config fuel wanted bytes ≡ Some (drawn, after) → All GivesNoFloat drawn
  unfolding expression_alone_at
  const_expr_no_float fuel wanted bytes drawn after h reads =
      of (expression_at context config (suc fuel) wanted (state_of [] fuel bytes))
      (expression_stays (suc fuel) wanted (state_of [] fuel bytes) h (All-nil GivesNoFloat)) reads
    where
      of : (made : Option State) → Stays made → option_map {U = List ConstInstr × List ℕ} (λ (s : State). (s.made, s.bytes)) made
          ≡ Some (drawn, after) → All GivesNoFloat drawn
      of None stays is = cc
      of (Some s) stays is =
          subst (All GivesNoFloat) (ap (λ (d : List ConstInstr × List ℕ). d.0) (same_Some {A = List ConstInstr × List ℕ} (s.made, s.bytes)
          (drawn, after) is)) stays
