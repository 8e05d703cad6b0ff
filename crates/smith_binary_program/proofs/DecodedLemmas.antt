-- What is written for a program is its module, for the decoder.
use Rattle.smith_binary_program.proofs.Common.{[], All, All-head, All-tail, ap, AreBodiesOf, arith, Body, Bool, check_of, checked_after}
use Rattle.smith_binary_program.proofs.Common.{checks_of, Code, Contains, counted, false, flat_map, get_or, get_or_from_slice_get, Instr}
use Rattle.smith_binary_program.proofs.Common.{IsBodyValid, IsTrue, IsValidProgram, length, List, map, module_features, ModuleParts, refl}
use Rattle.smith_binary_program.proofs.Common.{slice_get-get_or, Some, subst, suc, sym, true, zero, zip, ℕ, ◌<◌, ◌∙◌, ◌∷◌, ◌≡◌}
use Rattle.std.proofs.Common.{◌||◌}
use Rattle.std.specs.List.{list_any}
use Rattle.std.proofs.lemmas.Bool.{false≢true}
use Rattle.std.proofs.lemmas.List.Folds.{Any-from_list_any, list_any-append}
use Rattle.smith_types.specs.Syntax.code.Instructions.{Instructions}
use Rattle.smith_types.specs.Syntax.code.Instructions.TheVariants.{Unreachable, Arbitrary}
use Rattle.smith_types.specs.Bodies.{AreInstructionsValid}
use Rattle.smith_instr.specs.Enabled.{names_data}
use Rattle.smith_instr.specs.declared.instr.Instr.TheVariants as instr
use Rattle.smith_module_rules.specs.Held.{IsRaw}
use Rattle.smith_binary_instr.specs.Nesting.{AreNested}
use Rattle.smith_binary_law.proofs.NestingLemmas.{body_nested}
use Rattle.smith_binary_module.specs.Layout.{section_ids}
use Rattle.smith_decode.specs.Constants.{StatesCount}
use Rattle.smith_decode.specs.Modules.{AreBodiesOf as AreModuleBodies, body_names_data}
use Rattle.smith_decode.proofs.EncoderLemmas.{encoder_form}
use Rattle.smith_program.specs.Bodies.{function_context, IsBodyAt, IsOfBody}
use Rattle.smith_program.specs.Counted.{counted_body}
use Rattle.smith_program.specs.Valid.{NameData}
use Rattle.smith_program.specs.declared.program.Body.TheVariants as body
use Rattle.smith_program.proofs.DrawnBodiesLemmas.{code_there}
use Rattle.smith_binary_program.specs.Decoded.{EncodedProgramsAreDecoded, function_of}
use Rattle.smith_binary_program.specs.Programs.{AreExpressionsOf, program_contents, with_expressions}
use Rattle.smith_binary_program.proofs.DataCountLemmas.{count_stated}
use Rattle.smith_binary_program.proofs.ValidLemmas.{count_written}

-- the blocks of a body are nested
abbrev IsNested : Body → Type 0
IsNested (body.Drawn instructions) = AreNested [] instructions
IsNested body.Raw = Unit {0}

typed_nested : (m : ModuleParts) (place : ℕ) (code : Code) (given : Body) → IsOfBody (IsBodyAt m place code) code given → IsNested given
typed_nested m place code (body.Drawn instructions) h =
    body_nested (function_context m h.1.function code.locals) instructions h.1.typed
typed_nested m place code body.Raw h = tt

bodies_nested : (m : ModuleParts) (bodies : List Body) → AreBodiesOf m bodies → All IsNested bodies
bodies_nested m bodies are = λ place d within.
    let given = get_or bodies place d in
    let (code, at) = code_there m.code place (omega (arith, are.each)) in
    typed_nested m place code given (are.in_place place code given at (slice_get-get_or bodies place d within))

-- the functions have these expressions
functions_form : (counters : List ℕ) (codes : List Code) (bodies : List Body) (expressions : List (List ℕ))
    → AreExpressionsOf counters (zip codes bodies) expressions → All IsNested (map (counted_body counters) bodies)
    → (Contains bodies body.Raw → ⊥) → AreModuleBodies (map (function_of counters) (zip codes bodies)) (with_expressions codes expressions)
functions_form counters [] bodies [] h nested drawn = tt
functions_form counters [] bodies (piece ∷ expressions) h nested drawn = absurd h
functions_form counters (code ∷ codes) [] [] h nested drawn = tt
functions_form counters (code ∷ codes) [] (piece ∷ expressions) h nested drawn = absurd h
functions_form counters (code ∷ codes) (given ∷ bodies) [] h nested drawn = absurd h
functions_form counters (code ∷ codes) (body.Raw ∷ bodies) (piece ∷ expressions) h nested drawn =
    absurd (drawn (zero, omega arith, refl))
functions_form counters (code ∷ codes) (body.Drawn instructions ∷ bodies) (piece ∷ expressions) (h, each) nested drawn =
    let one = body.Drawn (counted counters instructions) in
    let more = map (counted_body counters) bodies in (
      refl,
      (All-head IsNested one more nested, h),
      functions_form counters codes bodies expressions each (All-tail IsNested one more nested)
          (λ raw. drawn (suc raw.0, let within = raw.1 in omega arith, raw.2)),
    )

-- no check names a data segment
checks_name_none : (counters : List ℕ) → list_any names_data (checks_of counters) ≡ false
checks_name_none [] = refl
checks_name_none (counter ∷ counters) =
    list_any-append names_data (checks_of counters) (check_of counter)
    ∙ ap (λ (b : Bool). b || list_any names_data (check_of counter)) (checks_name_none counters)

or_none : (b : Bool) → (b || false) ≡ b
or_none true = refl
or_none false = refl

checked_names : (counters : List ℕ) (x : Instr) → list_any names_data (checked_after counters x) ≡ names_data x
checked_names counters (instr.Loop ty) = checks_name_none counters
checked_names counters x = or_none (names_data x)

all_checked_names : (counters : List ℕ) (xs : List Instr)
    → list_any names_data (flat_map (checked_after counters) xs) ≡ list_any names_data xs
all_checked_names counters [] = refl
all_checked_names counters (x ∷ xs) =
    list_any-append names_data (checked_after counters x) (flat_map (checked_after counters) xs)
    ∙ rw (checked_names counters x, all_checked_names counters xs) refl

counted_names : (counters : List ℕ) (xs : List Instr) → list_any names_data (counted counters xs) ≡ list_any names_data xs
counted_names counters xs =
    list_any-append names_data (checks_of counters) (flat_map (checked_after counters) xs)
    ∙ rw (checks_name_none counters, all_checked_names counters xs) refl

-- the body that names a data segment
named_there : (counters : List ℕ) (code : Code) (given : Body) (bodies : List Body)
    → body_names_data (function_of counters (code, given)) ≡ true → NameData (given ∷ bodies)
named_there counters code (body.Drawn instructions) bodies e = (
  zero,
  body.Drawn instructions,
  omega arith,
  refl,
  Any-from_list_any names_data instructions (sym (counted_names counters instructions) ∙ e),
)
named_there counters code body.Raw bodies e = absurd (false≢true e)

named_or : (first rest : Bool) {P : Type 0} → (first ≡ true → P) → (rest ≡ true → P) → (first || rest) ≡ true → P
named_or true rest one more e = one refl
named_or false rest one more e = more e

functions_name : (counters : List ℕ) (codes : List Code) (bodies : List Body)
    → list_any body_names_data (map (function_of counters) (zip codes bodies)) ≡ true → NameData bodies
functions_name counters [] bodies e = absurd (false≢true e)
functions_name counters (code ∷ codes) [] e = absurd (false≢true e)
functions_name counters (code ∷ codes) (given ∷ bodies) e =
    let functions = map (function_of counters) (zip codes bodies) in
    let later : list_any body_names_data functions ≡ true → NameData (given ∷ bodies) = λ more.
    let (k, x, within, is, one) = functions_name counters codes bodies more in
    (suc k, x, omega (arith, within), is, one) in
    named_or (body_names_data (function_of counters (code, given))) (list_any body_names_data functions)
    (named_there counters code given bodies) later e

pub encoded_decoded : EncodedProgramsAreDecoded
encoded_decoded m bodies bytes encoded valid drawn =
    let counters = m.fuel_globals in
    let spelled = encoded.spelled in
    let contents = program_contents m spelled.expressions in
    let functions = map (function_of counters) (zip m.code bodies) in
    let same : AreModuleBodies functions contents.bodies =
    functions_form counters m.code bodies spelled.expressions spelled.each
    (bodies_nested m (map (counted_body counters) bodies) valid.counted) drawn in
    let needed : list_any body_names_data functions ≡ true → StatesCount spelled.spelled = λ named.
    count_stated contents bytes spelled.spelled (record {
      ids = section_ids m;
      sections = encoded.sections;
      there = count_written m (valid.data_count (functions_name counters m.code bodies named));
    }) in
    encoder_form contents functions bytes spelled.spelled same needed

-- raw bytes are valid only where they are permitted
raw_permitted : (permitted : Bool) (instructions : Instructions) → IsRaw instructions → AreInstructionsValid permitted instructions
    → IsTrue permitted
raw_permitted permitted Unreachable raw valid = absurd raw
raw_permitted permitted (Arbitrary bytes) raw valid = valid

pub raw_allowed : (m : ModuleParts) (bodies : List Body) → IsValidProgram m bodies → Contains bodies body.Raw
    → IsTrue m.config.allow_invalid_funcs
raw_allowed m bodies valid (place, within, is) =
    let inside : place < length m.code = omega (arith, within, valid.typed.each) in
    let (code, at) = code_there m.code place inside in
    let raw : IsRaw code.instructions =
    valid.typed.in_place place code body.Raw at (slice_get-get_or bodies place body.Raw within ∙ ap Some is) in
    let IsPermitted = IsBodyValid (module_features m) (length m.types) m.config.allow_invalid_funcs in
    let one : IsPermitted code =
    subst IsPermitted (get_or_from_slice_get m.code place code code at) (valid.valid.bodies.bodies place code inside) in
    raw_permitted m.config.allow_invalid_funcs code.instructions raw one.instructions
