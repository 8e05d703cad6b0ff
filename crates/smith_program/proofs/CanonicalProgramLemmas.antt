-- The bodies of a module with canonical NaNs.
use Rattle.smith_program.proofs.Common.{[], All, All-append, All-cons, All-from_recursion, All-nil, All-weaker, arith, Bool, Code, Err}
use Rattle.smith_program.proofs.Common.{Error, false, false≢true, FuncType, Instr, IsTrue, length, List, map, ModuleParts, Ok, Option}
use Rattle.smith_program.proofs.Common.{recursion_from_All, refl, Result, sink, slice_get, Some, subst, sym, true, ValType, ℕ, ◌+◌, ◌∷◌}
use Rattle.smith_program.proofs.Common.{◌≡◌}
use Rattle.std.proofs.Common.{None}
use Rattle.std.specs.List.{flat_map, AllByRecursion as Each}
use Rattle.std.proofs.lemmas.List.Elements.{All-map}
use Rattle.smith_types.specs.Syntax.value_type.ValType.TheVariants as value_type
use Rattle.wasm_smith.specs.Scratch.{AddsScratch, has_vectors, scratch, scratch_definitions}
use Rattle.wasm_smith.proofs.ScratchLemmas.{adds_scratch_valid}
use Rattle.smith_program.specs.Bodies.{AreBodiesOf, IsBodyAt, IsOfBody, function_context}
use Rattle.smith_program.specs.Canonical.{AnswersCanonical, canonical, canonical_body, canonical_if, followed}
use Rattle.smith_program.specs.Nans.{nan_of}
use Rattle.smith_program.specs.Parts.{ProgramParts}
use Rattle.smith_program.specs.Valid.{HaveAll, IsValidProgram}
use Rattle.smith_program.specs.declared.nans.Float.{Float}
use Rattle.smith_program.specs.declared.nans.Float.TheVariants.{F32, F64, F32x4, F64x2}
use Rattle.smith_program.specs.declared.program.Body.{Body}
use Rattle.smith_program.specs.declared.program.Body.TheVariants as body
use Rattle.smith_program.proofs.CanonicalLemmas.{HasScratch, canonical_typed}
use Rattle.smith_program.proofs.GlobalLemmas.{Added, after_others, named_in_global, still_typed, with_added}
use Rattle.smith_program.proofs.MappedLemmas.{mapped_bodies}
use Rattle.smith_program.proofs.NanLemmas.{Needs, float_needs}
use Rattle.smith_program.proofs.ValidLemmas.{Enabled, program_valid}

-- the scratch globals as added globals, and a module with them
abbrev added_scratch : ℕ → ModuleParts → Added
added_scratch first old = record {
  globals = scratch (has_vectors old);
  definitions = scratch_definitions (has_vectors old) first;
  counters = old.fuel_globals;
}

abbrev with_scratch : ℕ → ModuleParts → ModuleParts
with_scratch first old = with_added (added_scratch first old) old

none_named : (vectors : Bool) (first : ℕ) → flat_map named_in_global (scratch_definitions vectors first) ≡ []
none_named true first = refl
none_named false first = refl

vector_there : (vectors : Bool) → IsTrue vectors → slice_get (scratch vectors) 2 ≡ Some (sink value_type.V128)
vector_there true on = refl
vector_there false on = absurd (false≢true on)

scratch_there : (first : ℕ) (old : ModuleParts) (function : FuncType) (locals : List ValType) → first ≡ length old.globals
    → HasScratch (function_context (with_scratch first old) function locals) (has_vectors old) first
scratch_there first old function locals next =
    let added = scratch (has_vectors old) in (
      after_others old.globals added first 0 first (sink value_type.F32) next (omega arith) refl,
      after_others old.globals added first 1 (first + 1) (sink value_type.F64) next refl refl,
      λ on. after_others old.globals added first 2 (first + 2) (sink value_type.V128) next refl (vector_there (has_vectors old) on),
    )

-- the body of a function
canonical_at : (first : ℕ) (old : ModuleParts) → first ≡ length old.globals → (place : ℕ) (code : Code) (given : Body)
    → IsOfBody (IsBodyAt old place code) code given
    → IsOfBody (IsBodyAt (with_scratch first old) place code) code (canonical_body (has_vectors old) first given)
canonical_at first old next place code body.Raw raw = raw
canonical_at first old next place code (body.Drawn instructions) (not_raw, is) = (
  not_raw,
  record {
    function = is.function;
    there = is.there;
    typed = canonical_typed (function_context (with_scratch first old) is.function code.locals) (has_vectors old) first instructions
        (scratch_there first old is.function code.locals next)
        (still_typed (added_scratch first old) old is.function code.locals instructions (none_named (has_vectors old) first) is.typed);
  },
)

-- the bodies of a module that is changed so
pub canonical_bodies : (first : ℕ) (old new : ModuleParts) (before after : List Body) → AddsScratch first old new
    → after ≡ map (canonical_body (has_vectors old) first) before → AreBodiesOf old before → AreBodiesOf new after
canonical_bodies first old new before after adds same are =
    subst (λ (m : ModuleParts). AreBodiesOf m after) (sym adds.added)
    (subst (AreBodiesOf (with_scratch first old)) (sym same)
    (mapped_bodies old (with_scratch first old) (canonical_body (has_vectors old) first) before refl (canonical_at first old adds.next)
    are))

pub answered_canonical : (old new : ProgramParts) (result : Result (Unit {0}) Error) → AnswersCanonical old new result
    → AreBodiesOf old.«module» old.bodies → AreBodiesOf new.«module» new.bodies
answered_canonical old new (Ok u) (first, adds, same) are =
    canonical_bodies first old.«module» new.«module» old.bodies new.bodies adds same are
answered_canonical old new (Err error) (memory, kept) are = rw kept are

-- the placed instructions are enabled
canonical_on : (m : ModuleParts) (first : ℕ) (float : Float) → Needs (has_vectors m) float → All (Enabled m) (canonical first float)
canonical_on m first F32 needs =
    All-from_recursion (Enabled m) (canonical first F32) (refl, (refl, (refl, (refl, (refl, (refl, (refl, tt)))))))
canonical_on m first F64 needs =
    All-from_recursion (Enabled m) (canonical first F64) (refl, (refl, (refl, (refl, (refl, (refl, (refl, tt)))))))
canonical_on m first F32x4 simd =
    All-from_recursion (Enabled m) (canonical first F32x4) (refl, (refl, (simd, (refl, (refl, (simd, (simd, tt)))))))
canonical_on m first F64x2 simd =
    All-from_recursion (Enabled m) (canonical first F64x2) (refl, (refl, (simd, (refl, (refl, (simd, (simd, tt)))))))

followed_on : (m : ModuleParts) (first : ℕ) (instruction : Instr) (float : Option Float) → nan_of (has_vectors m) instruction ≡ float
    → All (Enabled m) (canonical_if first float)
followed_on m first instruction None found = All-nil (Enabled m)
followed_on m first instruction (Some float) found = canonical_on m first float (float_needs (has_vectors m) instruction float found)

instructions_on : (m : ModuleParts) (first : ℕ) (instructions : List Instr) → Each (Enabled m) instructions
    → All (Enabled m) (flat_map (followed (has_vectors m) first) instructions)
instructions_on m first [] each = All-nil (Enabled m)
instructions_on m first (instruction ∷ more) (this, others) =
    let f = followed (has_vectors m) first in
    let found = nan_of (has_vectors m) instruction in
    All-append (Enabled m) (f instruction) (flat_map f more)
    (All-cons (Enabled m) instruction (canonical_if first found) this (followed_on m first instruction found refl))
    (instructions_on m first more others)

body_on : (m : ModuleParts) (first : ℕ) (given : Body) → HaveAll (Enabled m) given
    → HaveAll (Enabled m) (canonical_body (has_vectors m) first given)
body_on m first (body.Drawn instructions) each =
    instructions_on m first instructions (recursion_from_All (Enabled m) instructions each)
body_on m first body.Raw each = tt

bodies_on : (m : ModuleParts) (first : ℕ) (bodies : List Body) → All (HaveAll (Enabled m)) bodies
    → All (HaveAll (Enabled m)) (map (canonical_body (has_vectors m) first) bodies)
bodies_on m first bodies each =
    let P : Body → Type 0 = HaveAll (Enabled m) in
    let f : Body → Body = canonical_body (has_vectors m) first in
    All-map P f bodies (All-weaker P (λ (given : Body). P (f given)) (body_on m first) bodies each)

-- a valid program stays valid with canonical NaNs
pub canonical_program_valid : (old new : ProgramParts) → AnswersCanonical old new (Ok tt) → IsValidProgram old.«module» old.bodies
    → IsValidProgram new.«module» new.bodies
canonical_program_valid old new (first, adds, same) program =
    program_valid new.«module» new.bodies (adds_scratch_valid first old.«module» new.«module» adds program.valid)
    (canonical_bodies first old.«module» new.«module» old.bodies new.bodies adds same program.typed)
    (subst (λ (m : ModuleParts). All (HaveAll (Enabled m)) new.bodies) (sym adds.added)
    (subst (All (HaveAll (Enabled old.«module»))) (sym same) (bodies_on old.«module» first old.bodies program.enabled)))
