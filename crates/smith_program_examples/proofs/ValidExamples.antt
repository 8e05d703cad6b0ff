-- Programs that are valid, and others that aren't.
use Rattle.smith_program_examples.proofs.Common.{[], All-cons, All-nil, arith, Body, default_config, empty_module, HasDefinedType, Instr}
use Rattle.smith_program_examples.proofs.Common.{List, number, refl, subst, sym, trapping, ◌∷◌}
use Rattle.std.proofs.Common.{rules}
use Rattle.std.specs.Prelude.{All, Any, IsTrue}
use Rattle.std.specs.List.{AllByRecursion as Each}
use Rattle.std.proofs.lemmas.Grind.{common_steps}
use Rattle.std.proofs.lemmas.List.Elements.{All-from_recursion}
use Rattle.smith_module_rules.specs.Module.{IsValid}
use Rattle.smith_module_rules_examples.specs.ExampleModules.{one_function}
use Rattle.smith_module_rules_examples.proofs.PartExamples.{function_at, one_function_valid}
use Rattle.smith_instr.specs.Contexts.{labelled}
use Rattle.smith_instr.specs.Enabled.{names_data}
use Rattle.smith_instr.proofs.SequenceLemmas.{finished}
use Rattle.smith_instr_examples.proofs.SequenceExamples.{one_left}
use Rattle.smith_body_nodes.proofs.NodeLemmas.{no_valid}
use Rattle.smith_program.specs.Bodies.{AreBodiesOf, function_context, IsBodyAt}
use Rattle.smith_program.specs.References.{references_of}
use Rattle.smith_program.specs.Valid.{HaveAll, HasOne, IsDeclared, IsValidProgram, NameData}
use Rattle.smith_program.specs.declared.program.Body.TheVariants as body
use Rattle.smith_program.proofs.ValidLemmas.{Enabled}
use Rattle.smith_program_examples.specs.ExamplePrograms.{gives_nothing}
use Rattle.smith_program_examples.proofs.BodyExamples.{all_bodies, typed_as}

-- no item has a property
pub none_of : {X : Type 0} (P : X → Type 0) (xs : List X) → Each (λ (x : X). P x → ⊥) xs → Any P xs → ⊥
none_of P xs each (k, x, within, is, holds) = All-from_recursion (λ y. P y → ⊥) xs each k x within (subst P (sym is) holds)

-- no instruction of a body names a data segment
pub no_data : (instructions : List Instr) → Each (λ (x : Instr). IsTrue (names_data x) → ⊥) instructions
    → NameData (body.Drawn instructions ∷ []) → ⊥
no_data instructions each named =
    none_of (HasOne (λ (x : Instr). IsTrue (names_data x))) (body.Drawn instructions ∷ [])
    (none_of (λ (x : Instr). IsTrue (names_data x)) instructions each, tt) named

no_body : (P : Body → Type 0) → Any P [] → ⊥
no_body P (k, x, within, is, holds) = omega arith

-- the instructions of no body, and of an empty one, have each property
none_have : (P : Instr → Type 0) → All (HaveAll P) []
none_have P = All-nil (HaveAll P)

empty_has : (P : Instr → Type 0) → All (HaveAll P) (body.Drawn [] ∷ [])
empty_has P = All-cons (HaveAll P) (body.Drawn []) [] (All-nil P) (none_have P)

-- a module without functions, and no body
pub empty_valid : IsValidProgram (empty_module default_config) []
empty_valid =
    let valid : IsValid (empty_module default_config) = first_of (search rules, grind (arith, common_steps)) in
    let typed : AreBodiesOf (empty_module default_config) [] = all_bodies (empty_module default_config) [] refl tt in
    record {
      valid = valid;
      typed = typed;
      counted = typed;
      enabled = none_have (Enabled (empty_module default_config));
      declared = none_have (IsDeclared (references_of (empty_module default_config)));
      data_count = λ named. absurd (no_body (HasOne (λ (x : Instr). IsTrue (names_data x))) named);
    }

-- a function without results, and an empty body
only_function : HasDefinedType one_function 0 gives_nothing
only_function = (0, refl, function_at)

nothing_at : IsBodyAt one_function 0 trapping []
nothing_at =
    let context = labelled (function_context one_function gives_nothing []) [] in
    record {
      function = gives_nothing;
      there = only_function;
      typed = record { set = []; typed = finished context [] [] (no_valid context) };
    }

pub function_valid : IsValidProgram one_function (body.Drawn [] ∷ [])
function_valid =
    let typed : AreBodiesOf one_function (body.Drawn [] ∷ []) = all_bodies one_function (body.Drawn [] ∷ []) refl
    ((λ never. never, nothing_at), tt) in
    record {
      valid = one_function_valid;
      typed = typed;
      counted = typed;
      enabled = empty_has (Enabled one_function);
      declared = empty_has (IsDeclared (references_of one_function));
      data_count = λ named. absurd (no_data [] tt named);
    }

-- a value is left
pub value_left : IsBodyAt one_function 0 trapping (number 1 ∷ []) → ⊥
value_left given = one_left refl refl (typed_as one_function 0 trapping (number 1 ∷ []) gives_nothing only_function given).typed
