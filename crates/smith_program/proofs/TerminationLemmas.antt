-- The bodies of a module to which a counter of fuel is added.
use Rattle.smith_program.proofs.Common.{[], All-weaker, ap, Code, Err, Error, FuncType, length, List, map, ModuleParts, Ok}
use Rattle.smith_program.proofs.Common.{recursion_from_All, refl, Result, ValType, ℕ, ◌++◌, ◌∷◌, ◌≡◌}
use Rattle.std.specs.List.{AllByRecursion as Each}
use Rattle.std.specs.Int.{cast_signed, w32}
use Rattle.smith_types.specs.Bodies.{IsCounterGlobal}
use Rattle.smith_types.specs.Syntax.const_instr.ConstInstr.TheVariants.{I32Const}
use Rattle.smith_module_rules.specs.Module.{IsValid, module_imports}
use Rattle.wasm_smith.specs.Termination.{AddsCounter, AnswersCounter, counter}
use Rattle.smith_program.specs.Bodies.{AreBodiesOf, IsBodyAt, IsOfBody, function_context}
use Rattle.smith_program.specs.Counted.{counted_body}
use Rattle.smith_program.specs.declared.program.Body.{Body}
use Rattle.smith_program.specs.declared.program.Body.TheVariants as body
use Rattle.smith_program.proofs.CountedLemmas.{IsCounter, counted_typed}
use Rattle.smith_program.proofs.GlobalLemmas.{still_of_added}
use Rattle.smith_program.proofs.MappedLemmas.{mapped_bodies}

pub still_bodies : (fuel index : ℕ) (old new : ModuleParts) (bodies : List Body) → AddsCounter fuel index old new → AreBodiesOf old bodies
    → AreBodiesOf new bodies
still_bodies fuel index old new bodies adds are =
    still_of_added (record {
      globals = counter ∷ [];
      definitions = (index, I32Const (cast_signed w32 fuel) ∷ []) ∷ [];
      counters = old.fuel_globals ++ index ∷ [];
    }) old new bodies refl adds.added are

-- the bodies after an attempt to add a counter
pub answered_bodies : (fuel : ℕ) (old new : ModuleParts) (result : Result ℕ Error) (bodies : List Body) → AnswersCounter fuel old new result
    → AreBodiesOf old bodies → AreBodiesOf new bodies
answered_bodies fuel old new (Ok index) bodies (none, adds) are = still_bodies fuel index old new bodies adds are
answered_bodies fuel old new (Err error) bodies (may, kept) are = rw kept are

-- the module's own bodies after such an attempt
pub code_kept : (fuel : ℕ) (old new : ModuleParts) (result : Result ℕ Error) → AnswersCounter fuel old new result → new.code ≡ old.code
code_kept fuel old new (Ok index) (none, adds) = ap (λ (m : ModuleParts). m.code) adds.added
code_kept fuel old new (Err error) (may, kept) = ap (λ (m : ModuleParts). m.code) kept

-- each counter of a valid module is a counter in the context of its bodies
counters_count : (m : ModuleParts) → IsValid m → (function : FuncType) (locals : List ValType)
    → Each (IsCounter (function_context m function locals)) m.fuel_globals
counters_count m valid function locals =
    recursion_from_All (IsCounter (function_context m function locals)) m.fuel_globals
    (All-weaker (IsCounterGlobal m.globals (length (module_imports m).globals)) (IsCounter (function_context m function locals))
    (λ (index : ℕ) (fuel : IsCounterGlobal m.globals (length (module_imports m).globals) index). fuel.stands) m.fuel_globals
    valid.bodies.counters)

counted_at : (m : ModuleParts) → IsValid m → (place : ℕ) (code : Code) (given : Body) → IsOfBody (IsBodyAt m place code) code given
    → IsOfBody (IsBodyAt m place code) code (counted_body m.fuel_globals given)
counted_at m valid place code body.Raw raw = raw
counted_at m valid place code (body.Drawn instructions) (not_raw, is) = (
  not_raw,
  record {
    function = is.function;
    there = is.there;
    typed = counted_typed (function_context m is.function code.locals) m.fuel_globals instructions
        (counters_count m valid is.function code.locals) is.typed;
  },
)

-- bodies with the checks of the counters of their module
pub counted_bodies : (m : ModuleParts) (bodies : List Body) → IsValid m → AreBodiesOf m bodies
    → AreBodiesOf m (map (counted_body m.fuel_globals) bodies)
counted_bodies m bodies valid are = mapped_bodies m m (counted_body m.fuel_globals) bodies refl (counted_at m valid) are
