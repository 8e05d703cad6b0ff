-- The bodies of a module whose locals are mixed into sinks.
use Rattle.smith_program.proofs.Common.{[], All, All-append, All-cons, All-from_recursion, All-nil, arith, Bool, Code, Err, Error, false}
use Rattle.smith_program.proofs.Common.{Features, FuncType, get_or, get_or_from_slice_get, I32, if◌then◌else◌, Instr, IsTrue, length, List}
use Rattle.smith_program.proofs.Common.{module_features, ModuleParts, Ok, recursion_from_All, refl, Result, same_Some, sink, slice_get}
use Rattle.smith_program.proofs.Common.{slice_get-get_or, slice_get_within, Some, subst, suc, sym, take, true, ValType, ℕ, ◌++◌, ◌+◌, ◌<◌}
use Rattle.smith_program.proofs.Common.{◌∙◌, ◌∷◌, ◌≡◌}
use Rattle.std.specs.List.{flat_map, AllByRecursion as Each}
use Rattle.std.proofs.lemmas.List.Elements.{All-take}
use Rattle.smith_types.specs.Bodies.{IsBodyValid}
use Rattle.smith_types.specs.ValidTypes.{IsValTypeValid}
use Rattle.smith_types.specs.Syntax.value_type.ValType.TheVariants.{F32, F64, I64, Ref, V128}
use Rattle.smith_module_rules.specs.Module.{IsValid}
use Rattle.smith_instr.specs.Enabled.{has_features}
use Rattle.smith_body_nodes.specs.Scopes.{IsScope}
use Rattle.wasm_smith.specs.Sinks.{AddsSinks, sink_definitions, sinks}
use Rattle.wasm_smith.specs.SinkExports.{with_sink_exports}
use Rattle.wasm_smith.proofs.SinkExportLemmas.{sinks_exported_valid}
use Rattle.wasm_smith.proofs.SinkLemmas.{adds_sinks_valid}
use Rattle.smith_program.specs.Bodies.{AreBodiesOf, HasDefinedType, IsBodyAt, IsOfBody, function_context}
use Rattle.smith_program.specs.Observed.{AnswersObserved, AreObserved, after_mixes, half, leaves, mix, mix64, mixes, mixes_from}
use Rattle.smith_program.specs.Observed.{observed, observed_body}
use Rattle.smith_program.specs.Parts.{ProgramParts}
use Rattle.smith_program.specs.Valid.{HaveAll, IsValidProgram}
use Rattle.smith_program.specs.declared.program.Body.{Body}
use Rattle.smith_program.specs.declared.program.Body.TheVariants as body
use Rattle.smith_program.proofs.DrawnBodiesLemmas.{code_there}
use Rattle.smith_program.proofs.GlobalExportLemmas.{sink_exporting_bodies}
use Rattle.smith_program.proofs.GlobalLemmas.{Added, after_others, still_typed, with_added}
use Rattle.smith_program.proofs.MixLemmas.{AreSinks}
use Rattle.smith_program.proofs.ObservedLemmas.{observed_typed}
use Rattle.smith_program.proofs.ScopeLemmas.{defined_there, module_scope, type_index}
use Rattle.smith_program.proofs.ValidLemmas.{Enabled, program_valid}

-- the sinks as added globals, and a module with them
abbrev added_sinks : ℕ → ModuleParts → Added
added_sinks first old = record { globals = sinks; definitions = sink_definitions first; counters = old.fuel_globals }

abbrev with_sinks : ℕ → ModuleParts → ModuleParts
with_sinks first old = with_added (added_sinks first old) old

sinks_there : (first : ℕ) (old : ModuleParts) (function : FuncType) (locals : List ValType) → first ≡ length old.globals
    → AreSinks (function_context (with_sinks first old) function locals) first
sinks_there first old function locals next = (
  after_others old.globals sinks first 0 first (sink I32) next (omega arith) refl,
  after_others old.globals sinks first 1 (first + 1) (sink I64) next refl refl,
  after_others old.globals sinks first 2 (first + 2) (sink I64) next refl refl,
)

-- the declared locals of a defined function of a valid module
locals_valid : (m : ModuleParts) (place : ℕ) (code : Code) → IsValid m → slice_get m.code place ≡ Some code
    → All (IsValTypeValid (module_features m) (length m.types)) code.locals
locals_valid m place code valid at =
    let P = IsBodyValid (module_features m) (length m.types) m.config.allow_invalid_funcs in
    let fits : P code = subst P (get_or_from_slice_get m.code place code code at)
    (valid.bodies.bodies place code (slice_get_within m.code place code at)) in
    fits.locals

-- the context of a defined function of a valid module
function_scope : (m : ModuleParts) (place : ℕ) (code : Code) (function : FuncType) → IsValid m → slice_get m.code place ≡ Some code
    → HasDefinedType m place function → IsScope (function_context m function code.locals)
function_scope m place code function valid at (index, here, there) =
    module_scope m valid index function there code.locals (locals_valid m place code valid at)

-- the type of a defined function of a valid module
function_there : (m : ModuleParts) (place : ℕ) (code : Code) → IsValid m → slice_get m.code place ≡ Some code
    → (function : FuncType) × HasDefinedType m place function
function_there m place code valid at =
    let (here, (function, there)) = defined_there m valid place (slice_get_within m.code place code at) in
    (function, (type_index m place, here, there))

-- the instructions of a function, with its locals mixed into the sinks
observed_at : (first : ℕ) (old : ModuleParts) (place : ℕ) (code : Code) (instructions : List Instr) → first ≡ length old.globals
    → IsValid old → slice_get old.code place ≡ Some code → (is : IsBodyAt old place code instructions)
    → IsBodyAt (with_sinks first old) place code (observed (mixes first (is.function.params ++ code.locals)) instructions)
observed_at first old place code instructions next valid at is =
    let scope = function_scope old place code is.function valid at is.there in
    record {
      function = is.function;
      there = is.there;
      typed = observed_typed (function_context (with_sinks first old) is.function code.locals) first instructions
          (sinks_there first old is.function code.locals next) scope.locals scope.results
          (still_typed (added_sinks first old) old is.function code.locals instructions refl is.typed);
    }

-- a body that is observed is one of its function
body_observed : (first : ℕ) (old : ModuleParts) (place : ℕ) (code : Code) (before after : Body) → first ≡ length old.globals → IsValid old
    → slice_get old.code place ≡ Some code
    → ((function : FuncType) → HasDefinedType old place function → after ≡ observed_body first (function.params ++ code.locals) before)
    → IsOfBody (IsBodyAt old place code) code before → IsOfBody (IsBodyAt (with_sinks first old) place code) code after
body_observed first old place code (body.Drawn instructions) after next valid at exact (not_raw, is) =
    subst (IsOfBody (IsBodyAt (with_sinks first old) place code) code) (sym (exact is.function is.there))
    (not_raw, observed_at first old place code instructions next valid at is)
body_observed first old place code body.Raw after next valid at exact raw =
    let (function, there) = function_there old place code valid at in
    subst (IsOfBody (IsBodyAt (with_sinks first old) place code) code) (sym (exact function there)) raw

-- the body before a body at the same place
pub before_observed : (first : ℕ) (m : ModuleParts) (old new : List Body) (place : ℕ) (code : Code) (after : Body)
    → AreObserved first m old new → slice_get m.code place ≡ Some code → slice_get new place ≡ Some after
    → (before : Body) × (slice_get old place ≡ Some before)
    × ((function : FuncType) → HasDefinedType m place function → after ≡ observed_body first (function.params ++ code.locals) before)
before_observed first m old new place code after are at there =
    let within : place < length new = slice_get_within new place after there in
    let each : length new ≡ length old = are.each in
    let was : slice_get old place ≡ Some (get_or old place after) = slice_get-get_or old place after (omega arith) in (
      get_or old place after,
      was,
      λ function typed. same_Some after (observed_body first (function.params ++ code.locals) (get_or old place after))
          (sym there ∙ are.in_place place code function (get_or old place after) at typed was),
    )

-- the bodies of a module that is changed so
pub observed_bodies : (first : ℕ) (old new : ModuleParts) (before after : List Body) → IsValid old → AddsSinks first old new
    → AreObserved first old before after → AreBodiesOf old before → AreBodiesOf new after
observed_bodies first old new before after valid adds observes are =
    subst (λ (m : ModuleParts). AreBodiesOf m after) (sym adds.added) (record {
      each = observes.each ∙ are.each;
      in_place = λ place code given at there.
          let (was, here, exact) = before_observed first old before after place code given observes at there in
          body_observed first old place code was given adds.next valid at exact (are.in_place place code was at here);
    })

pub answered_observed : (old new : ProgramParts) (result : Result ℕ Error) → IsValid old.«module» → AnswersObserved old new result
    → AreBodiesOf old.«module» old.bodies → AreBodiesOf new.«module» new.bodies
answered_observed old new (Ok first) valid ((none, adds), observes) are =
    observed_bodies first old.«module» new.«module» old.bodies new.bodies valid adds observes are
answered_observed old new (Err error) valid ((may, kept), same) are = rw (kept, same) are

-- the instructions that mix a local are enabled, if its type is valid
abbrev On : Features → Instr → Type 0
On features instruction = IsTrue (has_features features instruction)

half_on : (features : Features) (sink index lane : ℕ) → IsTrue features.simd → All (On features) (mix64 sink (half index lane))
half_on features sink index lane simd =
    All-from_recursion (On features) (mix64 sink (half index lane))
    (refl, (refl, (refl, (refl, (refl, (refl, (simd, (simd, (simd, (simd, (simd, (refl, (refl, tt)))))))))))))

mix_on : (features : Features) (types first index : ℕ) (value : ValType) → IsValTypeValid features types value
    → All (On features) (mix first index value)
mix_on features types first index I32 valid =
    All-from_recursion (On features) (mix first index I32) (refl, (refl, (refl, (refl, (refl, (refl, tt))))))
mix_on features types first index I64 valid =
    All-from_recursion (On features) (mix first index I64) (refl, (refl, (refl, (refl, (refl, (refl, tt))))))
mix_on features types first index F32 valid =
    All-from_recursion (On features) (mix first index F32)
    (refl, (refl, (refl, (refl, (refl, (refl, (refl, (refl, (refl, (refl, (refl, (refl, tt))))))))))))
mix_on features types first index F64 valid =
    All-from_recursion (On features) (mix first index F64)
    (refl, (refl, (refl, (refl, (refl, (refl, (refl, (refl, (refl, (refl, (refl, (refl, tt))))))))))))
mix_on features types first index V128 valid =
    All-append (On features) (mix64 (first + 1) (half index 0)) (mix64 (first + 2) (half index 1))
    (half_on features (first + 1) index 0 valid) (half_on features (first + 2) index 1 valid)
mix_on features types first index (Ref reference) valid = All-nil (On features)

mixes_on : (features : Features) (types first index : ℕ) (values : List ValType) → Each (IsValTypeValid features types) values
    → All (On features) (mixes_from first index values)
mixes_on features types first index [] valid = All-nil (On features)
mixes_on features types first index (value ∷ values) (this, others) =
    All-append (On features) (mix first index value) (mixes_from first (suc index) values) (mix_on features types first index value this)
    (mixes_on features types first (suc index) values others)

-- what holds of instructions, and of those that are placed among them
some_hold : (P : Instr → Type 0) (mixed : List Instr) (some : Bool) → All P mixed → All P (if some then mixed else [])
some_hold P mixed true all = all
some_hold P mixed false all = All-nil P

placed_hold : (P : Instr → Type 0) (mixed instructions : List Instr) → All P mixed → Each P instructions
    → All P (flat_map (after_mixes mixed) instructions)
placed_hold P mixed [] all each = All-nil P
placed_hold P mixed (first ∷ more) all (this, others) =
    All-append P (after_mixes mixed first) (flat_map (after_mixes mixed) more)
    (All-append P (if leaves first then mixed else []) (first ∷ []) (some_hold P mixed (leaves first) all)
    (All-cons P first [] this (All-nil P)))
    (placed_hold P mixed more all others)

body_holds : (P : Instr → Type 0) (first : ℕ) (locals : List ValType) (given : Body) → All P (mixes first locals) → HaveAll P given
    → HaveAll P (observed_body first locals given)
body_holds P first locals (body.Drawn instructions) all each =
    All-append P (flat_map (after_mixes (mixes first locals)) instructions) (mixes first locals)
    (placed_hold P (mixes first locals) instructions all (recursion_from_All P instructions each)) all
body_holds P first locals body.Raw all each = tt

-- the mixed locals of a function of a valid module
function_on : (first : ℕ) (m : ModuleParts) (place : ℕ) (code : Code) (function : FuncType) → IsValid m → slice_get m.code place ≡ Some code
    → HasDefinedType m place function → All (On (module_features m)) (mixes first (function.params ++ code.locals))
function_on first m place code function valid at there =
    let locals : List ValType = function.params ++ code.locals in
    let P = IsValTypeValid (module_features m) (length m.types) in
    let scope = function_scope m place code function valid at there in
    mixes_on (module_features m) (length m.types) first 0 (take 1000 locals)
    (recursion_from_All P (take 1000 locals) (All-take P 1000 locals scope.locals))

-- the instructions of the bodies
bodies_on : (first : ℕ) (m : ModuleParts) (before after : List Body) → IsValid m → length before ≡ length m.code
    → AreObserved first m before after → All (HaveAll (On (module_features m))) before → All (HaveAll (On (module_features m))) after
bodies_on first m before after valid each observes on = λ place other within.
    let P = On (module_features m) in
    let new : length after ≡ length before = observes.each in
    let given = get_or after place other in
    let there : slice_get after place ≡ Some given = slice_get-get_or after place other within in
    let (code, at) = code_there m.code place (omega arith) in
    let (function, typed) = function_there m place code valid at in
    let (was, here, exact) = before_observed first m before after place code given observes at there in
    let held : HaveAll P was = subst (HaveAll P) (get_or_from_slice_get before place was was here)
    (on place was (slice_get_within before place was here)) in
    subst (HaveAll P) (sym (exact function typed))
    (body_holds P first (function.params ++ code.locals) was (function_on first m place code function valid at typed) held)

-- a valid program stays valid, with its locals mixed into sinks
pub observed_program_valid : (first : ℕ) (old new : ProgramParts) → AnswersObserved old new (Ok first)
    → IsValidProgram old.«module» old.bodies → IsValidProgram new.«module» new.bodies
observed_program_valid first old new ((none, adds), observes) program =
    program_valid new.«module» new.bodies (adds_sinks_valid first old.«module» new.«module» adds program.valid)
    (observed_bodies first old.«module» new.«module» old.bodies new.bodies program.valid adds observes program.typed)
    (subst (λ (m : ModuleParts). All (HaveAll (Enabled m)) new.bodies) (sym adds.added)
    (bodies_on first old.«module» old.bodies new.bodies program.valid program.typed.each observes program.enabled))

-- a valid program stays valid with the exports of the sinks
pub sinks_exported_program_valid : (first : ℕ) (m : ModuleParts) (bodies : List Body) → first + 2 < length m.globals
    → IsValidProgram m bodies → IsValidProgram (with_sink_exports first m) bodies
sinks_exported_program_valid first m bodies within program =
    let new = with_sink_exports first m in
    program_valid new bodies (sinks_exported_valid first m new (Ok tt) refl within program.valid)
    (sink_exporting_bodies first m new (Ok tt) bodies refl program.typed) program.enabled
