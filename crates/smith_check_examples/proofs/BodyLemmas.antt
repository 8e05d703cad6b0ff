-- Bodies of the examples.
use Rattle.std.proofs.Common.{◌≡◌, ◌∙◌, ◌++◌, ℕ, List, [], ◌∷◌, length, length-append, ap, arith, refl, sym, subst, take}
use Rattle.std.specs.Prelude.{map}
use Rattle.std.proofs.lemmas.List.Elements.{All-nil}
use Rattle.std.proofs.lemmas.Option.{same_Some}
use Rattle.smith_types.specs.Syntax.composite_type.FuncType.{FuncType}
use Rattle.smith_types.specs.Syntax.composite_type.SubType.{SubType}
use Rattle.smith_types.specs.Syntax.value_type.ValType.{ValType}
use Rattle.smith_types.specs.ExampleFeatures.{usual_features}
use Rattle.smith_instr.specs.Contexts.{BodyContext}
use Rattle.smith_instr.specs.declared.instr.Instr.{Instr}
use Rattle.smith_instr.specs.declared.instr.Instr.TheVariants as instr
use Rattle.smith_check_renamed.specs.RenamedInstructions.{renamed_body}
use Rattle.smith_check_types.specs.Renamed.{renamed_val}
use Rattle.smith_check_types.specs.TypeSections.{canonical_index}
use Rattle.smith_check_rules.specs.StackTypes.{HasStackType}
use Rattle.smith_check_rules.specs.Sequences.{AreTyped, CountsAs, IsBodyTyped, Stacked, block, if_alone, if_else, loop}
use Rattle.smith_check_rules.specs.Sequences.{nothing, step, try_table}
use Rattle.smith_check_rules.specs.Slots.{AreBelow, values}
use Rattle.smith_check_rules.specs.declared.slot.Slot.{Slot}
use Rattle.smith_check.specs.ExamplePrograms.{does_nothing}
use Rattle.smith_check.specs.Faults.{IsBodyRefused, IsRightBefore}
use Rattle.smith_check.specs.ValidPrograms.{IsFunctionAt, IsFunctionValid, IsValidProgram}
use Rattle.smith_check.proofs.ExampleLemmas.{does_nothing_valid}
use Rattle.smith_check_examples.proofs.TypeLemmas.{function_types, plain_at}

-- no operand is taken from an empty stack
none_taken : (types : List SubType) (rest taken operands : List Slot) (given : Slot) → [] ≡ rest ++ taken → operands ≡ given ∷ []
    → AreBelow types taken operands → ⊥
none_taken types rest [] operands given empty is below = subst (AreBelow types []) is below
none_taken types rest (slot ∷ taken) operands given empty is below =
    omega (arith, ap length empty, length-append rest (slot ∷ taken))

-- a body that begins with a drop is not typed
drop_first : {context : BodyContext} {all : List Instr} {before after : Stacked} (more : List Instr) → AreTyped context all before after
    → all ≡ instr.Drop ∷ more → before.stack ≡ [] → ⊥
drop_first more (nothing counts same) e empty = cc e
drop_first more (step {context} {instruction} {before} s t) e empty =
    let is : instruction ≡ instr.Drop = cc e in
    let typed = subst (λ (i : Instr). HasStackType context before.set i s.operands s.results) is s.typed in
    let (given, one, none) = typed in
    none_taken context.types s.framed.rest s.framed.taken s.operands given (sym empty ∙ s.framed.under) one s.framed.accepted
drop_first more (block params results is fits inner framed t) e empty = absurd (cc (sym e ∙ is))
drop_first more (loop params results is fits inner framed t) e empty = absurd (cc (sym e ∙ is))
drop_first more (if_alone params results is fits inner same framed t) e empty = absurd (cc (sym e ∙ is))
drop_first more (if_else params results is fits inner last framed t) e empty = absurd (cc (sym e ∙ is))
drop_first more (try_table params results is fits caught inner framed t) e empty = absurd (cc (sym e ∙ is))

pub drop_untyped : (context : BodyContext) (body more : List Instr) → body ≡ instr.Drop ∷ more → IsBodyTyped context body → ⊥
drop_untyped context body more is typed = drop_first more typed.typed is refl

-- no instructions are a body that returns nothing
pub nothing_typed : (context : BodyContext) (body : List Instr) → body ≡ [] → [] ≡ context.results → IsBodyTyped context body
nothing_typed context body empty none =
    subst (IsBodyTyped context) (sym empty) (record {
      set = [];
      typed = nothing (subst (λ (rs : List ValType). CountsAs (record context { labels = context.results ∷ [] }) [] (values rs)) none
          (record { below = tt; valid = All-nil _ })) refl;
    })

-- all that is before the first body is valid in a module that does nothing, whatever its bodies
pub before_bodies : (bodies : List (List ValType × List Instr))
    → IsRightBefore usual_features does_nothing_valid.indices (record does_nothing { bodies = bodies }) 0
before_bodies bodies =
    let sections = does_nothing_valid.sections in
    record {
      types = record { supertypes = refl; canonical = does_nothing_valid.canonical; valid = function_types };
      sections = record {
        entities = sections.entities;
        counts = sections.counts;
        definitions = record { tables = sections.definitions.tables; globals = sections.definitions.globals };
        exports = sections.exports;
        start = sections.start;
        segments = record { elements = sections.segments.elements; datas = sections.segments.datas };
      };
      functions = λ earlier low. absurd (omega (arith, low));
    }

-- the function of such a module, with another body
abbrev pub own : IsFunctionValid usual_features does_nothing_valid.indices does_nothing 0
own = does_nothing_valid.functions 0 (omega arith)

own_function : record { params = []; results = [] } ≡ own.function
own_function = plain_at does_nothing_valid.indices _ own.function own.there.typed

abbrev pub renamed_locals : List ValType → List ValType
renamed_locals locals = map (renamed_val (canonical_index does_nothing_valid.indices)) locals

pub function_at : (locals : List ValType) (body : List Instr)
    → IsFunctionAt does_nothing_valid.indices (record does_nothing { bodies = (locals, body) ∷ [] }) 0 own.function (renamed_locals locals)
    (renamed_body (canonical_index does_nothing_valid.indices) body)
function_at locals body = record {
  index = own.there.index;
  typed_by = own.there.typed_by;
  typed = own.there.typed;
  code = (locals, body);
  held = refl;
  locals_are = refl;
  body_is = refl;
}

-- a body that is a drop is refused at it
pub drop_refused : IsBodyRefused usual_features does_nothing_valid.indices (record does_nothing { bodies = ([], instr.Drop ∷ []) ∷ [] }) 0 0
drop_refused = record {
  function = own.function;
  locals = [];
  body = instr.Drop ∷ [];
  there = function_at [] (instr.Drop ∷ []);
  locals_valid = All-nil _;
  refused = record {
    inside = omega arith;
    untyped = drop_untyped _ _ [] refl;
    begun = ([], nothing_typed _ [] refl (ap (λ (f : FuncType). f.results) own_function));
    earliest = λ low rest. drop_untyped _ _ rest refl;
  };
}

-- and not past it
pub drop_not_refused_past : (indices : List ℕ)
    → IsBodyRefused usual_features indices (record does_nothing { bodies = ([], instr.Drop ∷ []) ∷ [] }) 0 1 → ⊥
drop_not_refused_past indices wrong =
    let code : ([], instr.Drop ∷ []) ≡ wrong.there.code = same_Some ([], instr.Drop ∷ []) wrong.there.code wrong.there.held in
    let renamed_code : List ValType × List Instr → List Instr = λ c. renamed_body (canonical_index indices) c.1 in
    let body : wrong.body ≡ instr.Drop ∷ [] = wrong.there.body_is ∙ sym (ap renamed_code code) in
    let (rest, typed) = wrong.refused.begun in
    drop_untyped _ (take 1 wrong.body ++ rest) rest (ap (λ (xs : List Instr). take 1 xs ++ rest) body) typed

pub drop_not_valid : IsValidProgram usual_features (record does_nothing { bodies = ([], instr.Drop ∷ []) ∷ [] }) → ⊥
drop_not_valid program =
    let valid = program.functions 0 (omega arith) in
    let code : ([], instr.Drop ∷ []) ≡ valid.there.code = same_Some ([], instr.Drop ∷ []) valid.there.code valid.there.held in
    let renamed_code : List ValType × List Instr → List Instr = λ c. renamed_body (canonical_index program.indices) c.1 in
    let body = valid.there.body_is ∙ sym (ap renamed_code code) in
    drop_untyped _ valid.body [] body valid.body_typed

-- no instructions are not refused where a function returns nothing
pub nothing_not_refused : (indices : List ℕ) → IsBodyRefused usual_features indices does_nothing 0 0 → ⊥
nothing_not_refused indices wrong =
    let code : ([], []) ≡ wrong.there.code = same_Some ([], []) wrong.there.code wrong.there.held in
    let body = wrong.there.body_is ∙ sym (ap (λ (c : List ValType × List Instr). renamed_body (canonical_index indices) c.1) code) in
    let function = plain_at indices _ wrong.function wrong.there.typed in
    wrong.refused.untyped (nothing_typed _ wrong.body body (ap (λ (f : FuncType). f.results) function))
