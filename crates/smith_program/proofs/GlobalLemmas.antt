-- The bodies of a module to which globals are added whose definitions name no function.
use Rattle.smith_program.proofs.Common.{[], ap, append-nil, arith, Code, flat_map, flat_map-append, FuncType, GlobalType, Instr}
use Rattle.smith_program.proofs.Common.{IsBodyTyped, length, List, ModuleParts, refl, slice_get, Some, subst, sym, ValType, ℕ, ◌++◌, ◌+◌}
use Rattle.smith_program.proofs.Common.{◌∙◌, ◌≡◌}
use Rattle.smith_types.proofs.ListLemmas.{slice_get-after}
use Rattle.smith_types.specs.Syntax.const_instr.ConstInstr.{ConstInstr}
use Rattle.smith_program.specs.Bodies.{AreBodiesOf, IsBodyAt, IsOfBody, function_context}
use Rattle.smith_program.specs.References.{named_in, references_of}
use Rattle.smith_program.specs.declared.program.Body.{Body}
use Rattle.smith_program.specs.declared.program.Body.TheVariants as body
use Rattle.smith_program.proofs.WiderLemmas.{wider, wider_body}

-- globals, their definitions, and the indices of all counters of fuel
pub record Added : Type 0 where
  pub globals : List GlobalType
  pub definitions : List (ℕ × List ConstInstr)
  pub counters : List ℕ

-- a module with such globals
abbrev pub with_added : Added → ModuleParts → ModuleParts
with_added added old = record old {
  globals = old.globals ++ added.globals;
  defined_globals = old.defined_globals ++ added.definitions;
  fuel_globals = added.counters;
}

-- an added global, after the others
pub after_others : (others added : List GlobalType) (first place index : ℕ) (global : GlobalType) → first ≡ length others
    → index ≡ first + place → slice_get added place ≡ Some global → slice_get (others ++ added) index ≡ Some global
after_others others added first place index global next at there =
    let here : length others + place ≡ index = omega arith in
    subst (λ (n : ℕ). slice_get (others ++ added) n ≡ Some global) here (slice_get-after others added place ∙ there)

-- the functions that a definition names
abbrev pub named_in_global : ℕ × List ConstInstr → List ℕ
named_in_global global = named_in global.1

same_references : (added : Added) (old : ModuleParts) → flat_map named_in_global added.definitions ≡ []
    → references_of (with_added added old) ≡ references_of old
same_references added old none =
    let kept : flat_map named_in_global (old.defined_globals ++ added.definitions) ≡ flat_map named_in_global old.defined_globals =
    flat_map-append named_in_global old.defined_globals added.definitions
    ∙ (ap (λ (zs : List ℕ). flat_map named_in_global old.defined_globals ++ zs) none
    ∙ append-nil (flat_map named_in_global old.defined_globals)) in
    rw kept refl

pub still_typed : (added : Added) (old : ModuleParts) (function : FuncType) (locals : List ValType) (instructions : List Instr)
    → flat_map named_in_global added.definitions ≡ [] → IsBodyTyped (function_context old function locals) instructions
    → IsBodyTyped (function_context (with_added added old) function locals) instructions
still_typed added old function locals instructions none typed =
    subst (λ (references : List ℕ). IsBodyTyped (record (wider (function_context old function locals) added.globals)
    { references = references }) instructions)
    (sym (same_references added old none)) (wider_body (function_context old function locals) added.globals instructions typed)

still_at : (added : Added) (old : ModuleParts) (place : ℕ) (code : Code) (given : Body) → flat_map named_in_global added.definitions ≡ []
    → IsOfBody (IsBodyAt old place code) code given → IsOfBody (IsBodyAt (with_added added old) place code) code given
still_at added old place code body.Raw none raw = raw
still_at added old place code (body.Drawn instructions) none (not_raw, is) = (
  not_raw,
  record {
    function = is.function;
    there = is.there;
    typed = still_typed added old is.function code.locals instructions none is.typed;
  },
)

pub still_of_added : (added : Added) (old new : ModuleParts) (bodies : List Body) → flat_map named_in_global added.definitions ≡ []
    → new ≡ with_added added old → AreBodiesOf old bodies → AreBodiesOf new bodies
still_of_added added old new bodies none is are =
    subst (λ (m : ModuleParts). AreBodiesOf m bodies) (sym is) (record {
      each = are.each;
      in_place = λ place code given at there. still_at added old place code given none (are.in_place place code given at there);
    })
