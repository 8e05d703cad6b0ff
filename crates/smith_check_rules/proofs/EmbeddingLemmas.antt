-- Bodies that are typed by the rules without bottom types.
use Rattle.std.proofs.Common.{◌≡◌, ℕ, List, [], ◌∷◌, ◌++◌, refl, ap, ◌∙◌, inl}
use Rattle.std.proofs.lemmas.List.Elements.{All-map, All-weaker}
use Rattle.smith_types.specs.Syntax.value_type.ValType.{ValType}
use Rattle.smith_types.specs.Syntax.value_type.ValType.TheVariants.{I32, I64, F32, F64, V128, Ref}
use Rattle.smith_instr.specs.Contexts.{BodyContext, AreValid, AreBelow as AreValuesBelow}
use Rattle.smith_instr.specs.InstrTypes.{HasInstrType, IsNumberOrVector, IsTaken as IsValueTaken}
use Rattle.smith_instr.specs.Sequences.{Stacked as ValueStacked, CountsAs as CountsAsValues, IsFramed as IsValueFramed}
use Rattle.smith_instr.specs.Sequences.{IsStep as IsValueStep, AreTyped as AreValuesTyped, nothing as value_nothing, step as value_step}
use Rattle.smith_instr.specs.Sequences.{block as value_block, loop as value_loop, if_alone as value_if_alone, if_else as value_if_else}
use Rattle.smith_instr.specs.Sequences.{try_table as value_try_table, IsBodyTyped as IsBodyValueTyped}
use Rattle.smith_instr.specs.declared.aggregate.AggregateInstr.TheVariants as aggregate
use Rattle.smith_instr.specs.declared.instr.Instr.{Instr}
use Rattle.smith_instr.specs.declared.instr.Instr.TheVariants as instr
use Rattle.smith_instr.specs.declared.reference.ReferenceInstr.TheVariants as reference
use Rattle.smith_check_rules.specs.Slots.{AreBelow, values, IsSlotValid, AreSlotsValid}
use Rattle.smith_check_rules.specs.StackTypes.{IsNumeric, IsTaken, HasStackType}
use Rattle.smith_check_rules.specs.Sequences.{stacked, CountsAs, IsFramed, IsStep, AreTyped, nothing, step, block, loop, if_alone, if_else}
use Rattle.smith_check_rules.specs.Sequences.{try_table, IsBodyTyped}
use Rattle.smith_check_rules.specs.declared.slot.Slot.TheVariants.{Value}

pub values_append : (xs ys : List ValType) → values (xs ++ ys) ≡ values xs ++ values ys
values_append [] ys = refl
values_append (x ∷ xs) ys = ap (λ zs. Value x ∷ zs) (values_append xs ys)

pub values_below : (context : BodyContext) (xs ys : List ValType) → AreValuesBelow context xs ys → AreBelow context.types (values xs)
    (values ys)
values_below context [] [] below = tt
values_below context [] (y ∷ ys) below = absurd below
values_below context (x ∷ xs) [] below = absurd below
values_below context (x ∷ xs) (y ∷ ys) (first, below) = (first, values_below context xs ys below)

pub values_valid : (context : BodyContext) (types : List ValType) → AreValid context types → AreSlotsValid context (values types)
values_valid context types valid = All-map (IsSlotValid context) Value types valid

counts : {context : BodyContext} {xs ys : List ValType} → CountsAsValues context xs ys → CountsAs context (values xs) (values ys)
counts {context = context} {xs = xs} {ys = ys} c =
    record { below = values_below context xs ys c.below; valid = values_valid context ys c.valid }

framed : {context : BodyContext} {operands results : List ValType} {set : List ℕ} {before after : ValueStacked}
    → IsValueFramed context operands results set before after
    → IsFramed context (values operands) (values results) set (stacked (values before.stack) before.set)
    (stacked (values after.stack) after.set)
framed {context = context} {operands = operands} f = record {
  rest = values f.rest;
  taken = values f.taken;
  given = values f.given;
  under = ap (λ xs. values xs) f.under ∙ values_append f.rest f.taken;
  accepted = values_below context f.taken operands f.accepted;
  offered = counts f.offered;
  over = ap (λ xs. values xs) f.over ∙ values_append f.rest f.given;
  set_then = f.set_then;
}

numeric_value : (value : ValType) → IsNumberOrVector value → IsNumeric (Value value)
numeric_value I32 n = tt
numeric_value I64 n = tt
numeric_value F32 n = tt
numeric_value F64 n = tt
numeric_value V128 n = tt
numeric_value (Ref reference) n = absurd n

value_taken : (context : BodyContext) (given : List ValType) (label : ℕ) → IsValueTaken context given label
    → IsTaken context (values given) label
value_taken context given label (taken, there, below) = (taken, there, values_below context given taken below)

-- the type of an instruction, in values
stack_type : (context : BodyContext) (set : List ℕ) (x : Instr) (operands results : List ValType)
    → HasInstrType context set x operands results
    → HasStackType context set x (values operands) (values results)
stack_type context set instr.Unreachable operands results (below, is, valid) =
    (values below, ap (λ xs. values xs) is ∙ values_append below [], values_valid context results valid)
stack_type context set (instr.Throw tag) operands results (taken, of, (below, is, valid)) =
    (taken, of, (values below, ap (λ xs. values xs) is ∙ values_append below taken, values_valid context results valid))
stack_type context set instr.ThrowRef operands results (below, is, valid) =
    (values below, ap (λ xs. values xs) is ∙ values_append below _, values_valid context results valid)
stack_type context set (instr.Br label) operands results (taken, at, (below, is, valid)) =
    (taken, at, (values below, ap (λ xs. values xs) is ∙ values_append below taken, values_valid context results valid))
stack_type context set (instr.BrTable labels other) operands results (taken, each, last, (below, is, valid)) = (
  values taken,
  All-weaker (IsValueTaken context taken) (IsTaken context (values taken)) (value_taken context taken) labels each,
  value_taken context taken other last,
  (
    values below,
    ap (λ xs. values xs) is ∙ values_append below (taken ++ I32 ∷ []) ∙ ap (λ xs. values below ++ xs)
        (values_append taken (I32 ∷ [])),
    values_valid context results valid,
  ),
)
stack_type context set (instr.BrOnNull label) operands results (taken, heap_type, at, valid, (is, also)) = (
  taken,
  _,
  _,
  at,
  inl (heap_type, valid, refl, refl),
  ap (λ xs. values xs) is ∙ values_append taken _,
  ap (λ xs. values xs) also
      ∙ values_append taken _,
)
stack_type context set instr.Return operands results (below, is, valid) =
    (values below, ap (λ xs. values xs) is ∙ values_append below context.results, values_valid context results valid)
stack_type context set (instr.ReturnCall index) operands results (function, of, returns, (below, is, valid)) = (
  function,
  of,
  returns,
  (
    values below,
    ap (λ xs. values xs) is ∙ values_append below function.params,
    values_valid context results valid,
  ),
)
stack_type context set (instr.ReturnCallIndirect table ty) operands results (function, wide, there, of, returns, (below, is, valid)) = (
  function,
  wide,
  there,
  of,
  returns,
  (
    values below,
    ap (λ xs. values xs) is ∙ values_append below _,
    values_valid context results valid,
  ),
)
stack_type context set (instr.ReturnCallRef ty) operands results (function, of, returns, (below, is, valid)) =
    (function, of, returns, (values below, ap (λ xs. values xs) is ∙ values_append below _, values_valid context results valid))
stack_type context set instr.Drop operands results (value, (is, also)) = (Value value, ap (λ xs. values xs) is, ap (λ xs. values xs) also)
stack_type context set instr.Select operands results (value, number, (is, also)) =
    (Value value, numeric_value value number, ap (λ xs. values xs) is, ap (λ xs. values xs) also)
stack_type context set (instr.Reference reference.AsNonNull) operands results (heap_type, valid, (is, also)) =
    (_, _, inl (heap_type, valid, refl, refl), ap (λ xs. values xs) is, ap (λ xs. values xs) also)
stack_type context set (instr.Aggregate aggregate.AnyConvertExtern) operands results (shared, (nullable, (is, also))) =
    (_, _, inl (shared, nullable, refl, refl), ap (λ xs. values xs) is, ap (λ xs. values xs) also)
stack_type context set (instr.Aggregate aggregate.ExternConvertAny) operands results (shared, (nullable, (is, also))) =
    (_, _, inl (shared, nullable, refl, refl), ap (λ xs. values xs) is, ap (λ xs. values xs) also)
stack_type context set x operands results typed = (operands, results, typed, refl, refl)

stepped : {context : BodyContext} {x : Instr} {before after : ValueStacked} → IsValueStep context x before after
    → IsStep context x (stacked (values before.stack) before.set) (stacked (values after.stack) after.set)
stepped {context = context} {x = x} {before = before} s = record {
  operands = values s.operands;
  results = values s.results;
  typed = stack_type context before.set x s.operands s.results s.typed;
  framed = framed s.framed;
}

pub typed : {context : BodyContext} {xs : List Instr} {before after : ValueStacked} → AreValuesTyped context xs before after
    → AreTyped context xs (stacked (values before.stack) before.set) (stacked (values after.stack) after.set)
typed (value_nothing others same) = nothing (counts others) same
typed (value_step s more) = step (stepped s) (typed more)
typed (value_block {params = params} {results = results} is fits inner f more) = block params results is fits (typed inner) (framed f)
    (typed more)
typed (value_loop {params = params} {results = results} is fits inner f more) = loop params results is fits (typed inner) (framed f)
    (typed more)
typed (value_if_alone {params = params} {results = results} is fits inner same f more) = if_alone params results is fits (typed inner)
    (counts same) (framed f) (typed more)
typed (value_if_else {params = params} {results = results} is fits inner other f more) = if_else params results is fits (typed inner)
    (typed other) (framed f) (typed more)
typed (value_try_table {params = params} {results = results} is fits caught inner f more) = try_table params results is fits caught
    (typed inner) (framed f) (typed more)

pub body_typed : (context : BodyContext) (body : List Instr) → IsBodyValueTyped context body → IsBodyTyped context body
body_typed context body b = record { set = b.set; typed = typed b.typed }
