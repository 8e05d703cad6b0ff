-- What is added to a program, and the program before and after it.
use Rattle.std.proofs.Common.{◌≡◌, ℕ, ◌+◌, ◌<◌, ◌^◌, Bool, true, false, Option, Some, None, Result, Ok, Err, length}
use Rattle.std.proofs.Common.{length-append, refl, sym}
use Rattle.std.proofs.Common.{subst, ap, ◌∙◌, arith}
use Rattle.std.specs.Prelude.{OnOk, IfErr, if◌then◌else◌, is_some, option_map}
use Rattle.std.specs.List.{Any}
use Rattle.smith_bytes.specs.declared.error.Error.{Error}
use Rattle.smith_bytes.specs.declared.error.Error.TheVariants as errors
use Rattle.smith_bytes.specs.declared.error.Why.TheVariants.{RawBody}
use Rattle.smith_types.specs.Syntax.code.Code.{Code}
use Rattle.smith_module_rules.specs.Held.{IsRaw}
use Rattle.smith_module_rules.specs.Module.{ModuleParts}
use Rattle.wasm_smith.specs.FuelExport.{AnswersFuelExport}
use Rattle.wasm_smith.specs.SinkExports.{AnswersSinkExports}
use Rattle.wasm_smith.specs.Sinks.{sinks}
use Rattle.wasm_smith.specs.Termination.{MayAddNone}
use Rattle.smith_program.specs.Observed.{AnswersObserved}
use Rattle.smith_program.specs.Parts.{ProgramParts}
use Rattle.smith_request.specs.Additions.{HasCounter, HasSinks, IsCounted, IsExtended, IsFuelled, IsObserved, added_globals}
use Rattle.smith_request.specs.declared.additions.Additions.{Additions}
use Rattle.smith_request.specs.declared.additions.Fuel.{Fuel}

-- the result of the export of a counter that is to be exported
pub exporting : (fuel : Fuel) (program counted fuelled : ProgramParts) (result : Result (Unit {0}) Error)
    (has_counter : IsCounted fuel.amount program counted) → fuel.is_exported ≡ true
    → AnswersFuelExport has_counter.index counted.«module» fuelled.«module» result → fuelled.bodies ≡ counted.bodies
    → OnOk result (IsFuelled fuel program fuelled)
exporting fuel program counted fuelled (Ok u) has_counter is answer bodies = record {
  counted = counted;
  has_counter = has_counter;
  exporting = record { exported = rw is answer; bodies = bodies };
}
exporting fuel program counted fuelled (Err error) has_counter is answer bodies = tt

-- the result of the export of sinks
pub exporting_sinks : (first : ℕ) (program mixing observed : ProgramParts) (result : Result (Unit {0}) Error)
    → AnswersObserved program mixing (Ok first) → AnswersSinkExports first mixing.«module» observed.«module» result
    → observed.bodies ≡ mixing.bodies → OnOk result (IsObserved program observed)
exporting_sinks first program mixing observed (Ok u) mixes answer bodies =
    record { first = first; mixing = mixing; mixes = mixes; exported = answer; bodies = bodies }
exporting_sinks first program mixing observed (Err error) mixes answer bodies = tt

-- an error of the export of sinks
pub refused_sinks : (first : ℕ) (program mixing observed : ProgramParts) (result : Result (Unit {0}) Error)
    → AnswersObserved program mixing (Ok first) → AnswersSinkExports first mixing.«module» observed.«module» result
    → IfErr result (MayAddNone program.«module»)
refused_sinks first program mixing observed (Ok u) mixes answer = tt
refused_sinks first program mixing observed (Err error) mixes answer = subst (MayAddNone program.«module») (sym answer.0) mixes.0.0

-- the globals of a program with sinks
mixing_globals : (first : ℕ) (program mixing : ProgramParts) → AnswersObserved program mixing (Ok first)
    → length mixing.«module».globals ≡ length program.«module».globals + 3
mixing_globals first program mixing mixes =
    ap (λ (m : ModuleParts). length m.globals) mixes.0.1.added ∙ length-append program.«module».globals sinks

-- the sinks are globals
pub sinks_there : (first : ℕ) (program mixing : ProgramParts) → AnswersObserved program mixing (Ok first)
    → first + 2 < length mixing.«module».globals
sinks_there first program mixing mixes =
    let more = mixing_globals first program mixing mixes in
    let next : first ≡ length program.«module».globals = mixes.0.1.next in omega (arith, more, next)

-- the first sink follows the other globals
pub sinks_next : (first : ℕ) (program mixing : ProgramParts) → AnswersObserved program mixing (Ok first)
    → length program.«module».globals + 3 < 2 ^ 32 → first + 2 < 2 ^ 32
sinks_next first program mixing mixes room =
    let next : first ≡ length program.«module».globals = mixes.0.1.next in omega (arith, next, room)

-- the globals of a program that is observed
observed_globals : (program observed : ProgramParts) → IsObserved program observed
    → length observed.«module».globals ≡ length program.«module».globals + 3
observed_globals program observed h =
    ap (λ (m : ModuleParts). length m.globals) h.exported ∙ mixing_globals h.first program h.mixing h.mixes

-- there is an index for each sink
pub sinks_room : (is_observed : Bool) (fuel : Option Fuel) (globals : ℕ)
    → globals + ((if is_observed then 3 else 0) + (if is_some fuel then 1 else 0)) < 2 ^ 32 → is_observed ≡ true → globals + 3 < 2 ^ 32
sinks_room true fuel globals room is = omega (arith, room)
sinks_room false fuel globals room is = absurd cc

-- there is an index for the counter
pub counter_room : (is_observed : Bool) (fuel : Option Fuel) (f : Fuel → Fuel) (program observed : ProgramParts)
    → HasSinks is_observed program observed
    → length program.«module».globals + ((if is_observed then 3 else 0) + (if is_some fuel then 1 else 0)) < 2 ^ 32 → (some : Fuel)
    → option_map f fuel ≡ Some some → length observed.«module».globals + 1 < 2 ^ 32
counter_room is_observed None f program observed has room some is = absurd cc
counter_room true (Some fuel) f program observed has room some is =
    let more = observed_globals program observed has in omega (arith, more, room)
counter_room false (Some fuel) f program observed has room some is =
    let same = ap (λ (p : ProgramParts). length p.«module».globals) has in omega (arith, same, room)

-- the reasons why no global is added to a module with the same bodies
may_add_none : (old new : ModuleParts) → new.code ≡ old.code → (e : Error) → MayAddNone new e → MayAddNone old e
may_add_none old new same (errors.IncorrectFormat RawBody) may = subst (Any (λ (body : Code). IsRaw body.instructions)) same may
may_add_none old new same errors.Memory may = λ raw. may (subst (Any (λ (body : Code). IsRaw body.instructions)) (sym same) raw)
may_add_none old new same _ may = may

observed_code : (program observed : ProgramParts) → IsObserved program observed → observed.«module».code ≡ program.«module».code
observed_code program observed h =
    ap (λ (m : ModuleParts). m.code) h.exported ∙ ap (λ (m : ModuleParts). m.code) h.mixes.0.1.added

code_kept : (is_observed : Bool) (program observed : ProgramParts) → HasSinks is_observed program observed
    → observed.«module».code ≡ program.«module».code
code_kept true program observed has = observed_code program observed has
code_kept false program observed has = ap (λ (p : ProgramParts). p.«module».code) has

-- the reasons why no counter is added beside sinks
pub none_before : (is_observed : Bool) (program observed : ProgramParts) → HasSinks is_observed program observed → (e : Error)
    → MayAddNone observed.«module» e → MayAddNone program.«module» e
none_before is_observed program observed has =
    may_add_none program.«module» observed.«module» (code_kept is_observed program observed has)

-- a program to which nothing is added
no_sinks : (is_observed : Bool) (others : ℕ) (program : ProgramParts) → (if is_observed then 3 else 0) + others ≡ 0
    → HasSinks is_observed program program
no_sinks true others program none = absurd (omega (arith, none))
no_sinks false others program none = refl

no_counter : (fuel : Option Fuel) (f : Fuel → Fuel) (others : ℕ) (program : ProgramParts)
    → others + (if is_some fuel then 1 else 0) ≡ 0 → HasCounter (option_map f fuel) program program
no_counter (Some fuel) f others program none = absurd (omega (arith, none))
no_counter None f others program none = refl

pub nothing_added : (additions : Additions) (program : ProgramParts) → added_globals additions ≡ 0 → IsExtended additions program program
nothing_added additions program none = record {
  observed = program;
  sinks = no_sinks additions.is_observed (if is_some additions.fuel then 1 else 0) program none;
  counter = no_counter additions.fuel _ (if additions.is_observed then 3 else 0) program none;
}
