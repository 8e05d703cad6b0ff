-- The body of a function of a valid program is read as one with the forms of enabled features alone.
use Rattle.smith_binary_program.proofs.Common.{[], All, All-cons, All-from_recursion, All-head, All-map, All-nil, All-tail, All-weaker, ap}
use Rattle.smith_binary_program.proofs.Common.{arith, Body, BodyContext, check_of, checked_after, checks_of, Code, Contains, counted}
use Rattle.smith_binary_program.proofs.Common.{Features, flat_map, get_or_from_slice_get, Instr, IsBodyValid, IsTrue, IsValidProgram}
use Rattle.smith_binary_program.proofs.Common.{IsValTypeEnabled, IsValTypeValid, length, List, map, module_features, ModuleParts, refl}
use Rattle.smith_binary_program.proofs.Common.{slice_get, slice_get_within, Some, suc, ValType, zero, zip, ℕ, ◌<◌, ◌∙◌, ◌∷◌, ◌≡◌}
use Rattle.std.proofs.Common.{◌^◌}
use Rattle.std.specs.Prelude.{option_map}
use Rattle.std.proofs.lemmas.List.Elements.{All-append}
use Rattle.std.proofs.lemmas.Option.{slice_get-map}
use Rattle.smith_binary.specs.Spelling.Spelling.{any}
use Rattle.smith_binary_sections.proofs.ListLemmas.{list_mapped}
use Rattle.smith_instr.specs.Enabled.{has_features}
use Rattle.smith_instr.specs.declared.instr.Instr.TheVariants as instr
use Rattle.smith_binary_instr.specs.Nesting.{AreNested}
use Rattle.smith_binary_instr.proofs.FormLemmas.{expr_is}
use Rattle.smith_binary_law.proofs.NestingLemmas.{body_nested}
use Rattle.smith_decode.specs.declared.bodies.LocalRun.{LocalRun}
use Rattle.smith_decode.specs.BodyReadings.{IsLocalRun, IsRunBody, body_of, local_run, total}
use Rattle.smith_decode.specs.Forms.{IsBodyEnabled, IsInstrEnabled}
use Rattle.smith_program.specs.Bodies.{function_context}
use Rattle.smith_program.specs.Counted.{counted_body}
use Rattle.smith_program.specs.Valid.{HaveAll}
use Rattle.smith_program.specs.declared.program.Body.TheVariants as body
use Rattle.smith_binary_program.specs.Bodies.{IsBodyOf}
use Rattle.smith_binary_program.proofs.FindsLemmas.{Finds}
use Rattle.smith_binary_program.proofs.InstructionsOnLemmas.{AreSpacesOn, IsFormOn, form_kept}
use Rattle.smith_binary_program.proofs.ModuleOnLemmas.{spaces_on}
use Rattle.smith_binary_program.proofs.TypesOnLemmas.{at_index, val_on}
use Rattle.smith_binary_program.proofs.WalkLemmas.{typed_keep}

-- what is known of a body
pub record IsBodyOn (features : Features) (counters : List ℕ) (code : Code) (instructions : List Instr) : Type 0 where
  pub few : length code.locals < 2 ^ 32
  pub nested : AreNested [] (counted counters instructions)
  pub locals : All (IsValTypeEnabled features) code.locals
  pub each : All (IsInstrEnabled features) (counted counters instructions)

abbrev pub IsFunctionOn : Features → List ℕ → Code × Body → Type 0
IsFunctionOn features counters (code, body.Drawn instructions) = IsBodyOn features counters code instructions
IsFunctionOn features counters (code, body.Raw) = ⊥

-- each local is a run of its own
total_runs : (locals : List ValType) → total (map (local_run 1) locals) ≡ length locals
total_runs [] = refl
total_runs (t ∷ locals) = omega (arith, total_runs locals)

pub body_found : (features : Features) (counters : List ℕ) (given : Code × Body) (piece : List ℕ) → IsFunctionOn features counters given
    → IsBodyOf counters given piece → Finds (IsBodyEnabled features) IsRunBody piece
body_found features counters (code, body.Drawn instructions) piece on h =
    let inner = h.is_content in
    record {
      item = body_of (map (local_run 1) code.locals) (counted counters instructions);
      good = record {
        locals = All-map (λ (run : LocalRun). IsValTypeEnabled features run.ty) (local_run 1) code.locals on.locals;
        instructions = on.each;
      };
      form = record {
        content = h.content;
        is_content = (
          omega (arith, total_runs code.locals, on.few),
          record {
            first = inner.first;
            second = inner.second;
            is_first = list_mapped IsLocalRun (local_run 1) code.locals inner.first inner.is_first;
            is_second = (on.nested, expr_is any (counted counters instructions) inner.second inner.is_second);
            whole = inner.whole;
          },
        );
        form = h.form;
      };
    }
body_found features counters (code, body.Raw) piece on h = absurd on

-- the checks of counters have features of every module
abbrev IsOwnOn : Features → Instr → Type 0
IsOwnOn features x = IsTrue (has_features features x)

check_on : (features : Features) (counter : ℕ) → All (IsOwnOn features) (check_of counter)
check_on features counter =
    All-from_recursion (IsOwnOn features) (check_of counter) (refl, (refl, (refl, (refl, (refl, (refl, (refl, (refl, (refl, tt)))))))))

checks_on : (features : Features) (counters : List ℕ) → All (IsOwnOn features) (checks_of counters)
checks_on features [] = All-nil (IsOwnOn features)
checks_on features (counter ∷ counters) =
    All-append (IsOwnOn features) (checks_of counters) (check_of counter) (checks_on features counters) (check_on features counter)

checked_on : (features : Features) (counters : List ℕ) (x : Instr) → IsOwnOn features x
    → All (IsOwnOn features) (checked_after counters x)
checked_on features counters (instr.Loop ty) on =
    All-cons (IsOwnOn features) (instr.Loop ty) (checks_of counters) on (checks_on features counters)
checked_on features counters x on = All-cons (IsOwnOn features) x [] on (All-nil (IsOwnOn features))

each_checked_on : (features : Features) (counters : List ℕ) (xs : List Instr) → All (IsOwnOn features) xs
    → All (IsOwnOn features) (flat_map (checked_after counters) xs)
each_checked_on features counters [] on = All-nil (IsOwnOn features)
each_checked_on features counters (x ∷ xs) on =
    let IsOn = IsOwnOn features in
    All-append IsOn (checked_after counters x) (flat_map (checked_after counters) xs)
    (checked_on features counters x (All-head IsOn x xs on)) (each_checked_on features counters xs (All-tail IsOn x xs on))

counted_on : (features : Features) (counters : List ℕ) (xs : List Instr) → All (IsOwnOn features) xs
    → All (IsOwnOn features) (counted counters xs)
counted_on features counters xs on = All-append (IsOwnOn features) (checks_of counters) (flat_map (checked_after counters) xs)
    (checks_on features counters) (each_checked_on features counters xs on)

-- instructions with their own features, and their immediates
instrs_on : (context : BodyContext) → AreSpacesOn context.features context.tables context.memories → (xs : List Instr)
    → All (IsOwnOn context.features) xs → All (IsFormOn context) xs → All (IsInstrEnabled context.features) xs
instrs_on context on xs own forms =
    λ k d within. let form = forms k d within on in record { own = own k d within; stated = form.0; named = form.1 }

function_on : (m : ModuleParts) (bodies : List Body) → IsValidProgram m bodies → (Contains bodies body.Raw → ⊥) → (place : ℕ)
    (code : Code) (given : Body)
    → slice_get m.code place ≡ Some code → slice_get bodies place ≡ Some given
    → IsFunctionOn (module_features m) m.fuel_globals (code, given)
function_on m bodies valid drawn place code (body.Drawn instructions) here there =
    let counters = m.fuel_globals in
    let features = module_features m in
    let again : slice_get (map (counted_body counters) bodies) place ≡ Some (body.Drawn (counted counters instructions)) =
    slice_get-map (counted_body counters) bodies place ∙ ap (option_map (counted_body counters)) there in
    let typed = (valid.counted.in_place place code (body.Drawn (counted counters instructions)) here again).1 in
    let context = function_context m typed.function code.locals in
    let one = at_index (IsBodyValid features (length m.types) m.config.allow_invalid_funcs) m.code place code valid.valid.bodies.bodies here
    in
    let own = at_index (HaveAll (IsOwnOn features)) bodies place (body.Drawn instructions) valid.enabled there in
    record {
      few = omega (arith, one.few);
      nested = body_nested context (counted counters instructions) typed.typed;
      locals = All-weaker (IsValTypeValid features (length m.types)) (IsValTypeEnabled features) (val_on features (length m.types))
          code.locals one.locals;
      each = instrs_on context (spaces_on m valid.valid) (counted counters instructions) (counted_on features counters instructions own)
          (typed_keep form_kept typed.typed.typed);
    }
function_on m bodies valid drawn place code body.Raw here there =
    absurd (drawn (place, slice_get_within bodies place body.Raw there, get_or_from_slice_get bodies place body.Raw body.Raw there))

-- pairs of items at the same place
pairs_at : {A B : Type 0} (P : A × B → Type 0) (xs : List A) (ys : List B)
    → ((k : ℕ) (x : A) (y : B) → slice_get xs k ≡ Some x → slice_get ys k ≡ Some y → P (x, y)) → All P (zip xs ys)
pairs_at P [] ys each = All-nil P
pairs_at P (x ∷ xs) [] each = All-nil P
pairs_at P (x ∷ xs) (y ∷ ys) each =
    All-cons P (x, y) (zip xs ys) (each zero x y refl refl) (pairs_at P xs ys (λ k a b here there. each (suc k) a b here there))

pub functions_on : (m : ModuleParts) (bodies : List Body) → IsValidProgram m bodies → (Contains bodies body.Raw → ⊥)
    → All (IsFunctionOn (module_features m) m.fuel_globals) (zip m.code bodies)
functions_on m bodies valid drawn =
    pairs_at (IsFunctionOn (module_features m) m.fuel_globals) m.code bodies (function_on m bodies valid drawn)
