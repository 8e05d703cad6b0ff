-- What is written is a valid program.
use Rattle.std.proofs.Common.{◌≡◌, ℕ, ◌<◌, Bool, true, false, Option, Some, None, List, [], ◌∷◌, length, length-append, ap, arith}
use Rattle.std.proofs.Common.{sym, subst}
use Rattle.smith_config.specs.declared.config.Config.{Config}
use Rattle.smith_module_rules.specs.Module.{ModuleParts}
use Rattle.wasm_smith.specs.FuelExport.{with_fuel_export}
use Rattle.wasm_smith.specs.SinkExports.{with_sink_exports}
use Rattle.wasm_smith.specs.Termination.{AddsCounter, counter}
use Rattle.smith_program.specs.Valid.{IsValidProgram}
use Rattle.smith_program.specs.Parts.{ProgramParts}
use Rattle.smith_program.proofs.CanonicalProgramLemmas.{canonical_program_valid}
use Rattle.smith_program.proofs.ObservedProgramLemmas.{observed_program_valid, sinks_exported_program_valid}
use Rattle.smith_program.proofs.ValidLemmas.{counted_valid, exported_program_valid}
use Rattle.smith_binary_program.specs.Valid.{IsValidBinary}
use Rattle.smith_binary_program.proofs.ValidLemmas.{encoded_valid}
use Rattle.smith_custom_sections.specs.CustomSections.{IsPlain}
use Rattle.smith_custom_sections.specs.WithoutCustoms.{IsWithoutCustoms}
use Rattle.smith_custom_sections.proofs.LeftLemmas.{plain_left}
use Rattle.smith_request.specs.Additions.{HasCounter, HasSinks, IsCounted, IsExporting, IsFuelled, IsObserved, counted_fuel}
use Rattle.smith_request.specs.CanonicalNans.{HasCanonicalNans, has_canonical_nans}
use Rattle.smith_request.specs.Output.{IsBinaryOf, IsBinaryWith, IsExtendedBinary, IsFileOf, IsFinished}
use Rattle.smith_request.specs.ValidFiles.{IsValidFile}
use Rattle.smith_request.specs.declared.additions.Additions.{Additions}
use Rattle.smith_request.specs.declared.additions.Fuel.{Fuel}
use Rattle.smith_request.proofs.AdditionLemmas.{sinks_there}
use Rattle.smith_request.proofs.PlainLemmas.{binary_plain}

-- a valid program is valid with a counter
with_counter : (fuel : ℕ) (program counted : ProgramParts) → IsCounted fuel program counted → IsValidProgram program.«module» program.bodies
    → IsValidProgram counted.«module» counted.bodies
with_counter fuel program counted has valid =
    subst (IsValidProgram counted.«module») (sym has.bodies) (counted_valid fuel has.index program.«module» counted.«module» program.bodies
    has.added.1 valid)

-- the counter is a global
counter_there : (fuel index : ℕ) (old new : ModuleParts) → AddsCounter fuel index old new → index < length new.globals
counter_there fuel index old new adds =
    let more = ap (λ (m : ModuleParts). length m.globals) adds.added in
    let appended = length-append old.globals (counter ∷ []) in
    omega (arith, more, appended, adds.last)

-- a valid program is valid with the export of its counter
with_export : (is_exported : Bool) (index : ℕ) (counted fuelled : ProgramParts) → IsExporting is_exported index counted fuelled
    → index < length counted.«module».globals
    → IsValidProgram counted.«module» counted.bodies → IsValidProgram fuelled.«module» fuelled.bodies
with_export true index counted fuelled has within valid =
    subst (λ (m : ModuleParts). IsValidProgram m fuelled.bodies) (sym has.exported)
    (subst (IsValidProgram (with_fuel_export index counted.«module»)) (sym has.bodies)
    (exported_program_valid index counted.«module» counted.bodies within valid))
with_export false index counted fuelled has within valid =
    subst (λ (m : ModuleParts). IsValidProgram m fuelled.bodies) (sym has.exported)
    (subst (IsValidProgram counted.«module») (sym has.bodies) valid)

with_fuel : (fuel : Fuel) (program fuelled : ProgramParts) → IsFuelled fuel program fuelled → IsValidProgram program.«module» program.bodies
    → IsValidProgram fuelled.«module» fuelled.bodies
with_fuel fuel program fuelled has valid =
    with_export fuel.is_exported has.has_counter.index has.counted fuelled has.exporting
    (counter_there fuel.amount has.has_counter.index program.«module» has.counted.«module» has.has_counter.added.1)
    (with_counter fuel.amount program has.counted has.has_counter valid)

with_counter_if : (fuel : Option Fuel) (program fuelled : ProgramParts) → HasCounter fuel program fuelled
    → IsValidProgram program.«module» program.bodies → IsValidProgram fuelled.«module» fuelled.bodies
with_counter_if (Some fuel) program fuelled has valid = with_fuel fuel program fuelled has valid
with_counter_if None program fuelled has valid = subst (λ (p : ProgramParts). IsValidProgram p.«module» p.bodies) (sym has) valid

-- a valid program is valid with its locals mixed into exported sinks
with_sinks : (program observed : ProgramParts) → IsObserved program observed → IsValidProgram program.«module» program.bodies
    → IsValidProgram observed.«module» observed.bodies
with_sinks program observed h valid =
    subst (λ (m : ModuleParts). IsValidProgram m observed.bodies) (sym h.exported)
    (subst (IsValidProgram (with_sink_exports h.first h.mixing.«module»)) (sym h.bodies)
    (sinks_exported_program_valid h.first h.mixing.«module» h.mixing.bodies (sinks_there h.first program h.mixing h.mixes)
    (observed_program_valid h.first program h.mixing h.mixes valid)))

with_sinks_if : (is_observed : Bool) (program observed : ProgramParts) → HasSinks is_observed program observed
    → IsValidProgram program.«module» program.bodies → IsValidProgram observed.«module» observed.bodies
with_sinks_if true program observed has valid = with_sinks program observed has valid
with_sinks_if false program observed has valid = subst (λ (p : ProgramParts). IsValidProgram p.«module» p.bodies) (sym has) valid

extended_valid : (additions : Additions) (program : ProgramParts) (bytes : List ℕ) → IsExtendedBinary additions program bytes
    → IsValidProgram program.«module» program.bodies → IsValidBinary bytes
extended_valid additions program bytes h valid =
    let has = h.is_extended in
    encoded_valid h.extended.«module» h.extended.bodies bytes h.encoded
    (with_counter_if (counted_fuel additions) has.observed h.extended has.counter
    (with_sinks_if additions.is_observed program has.observed has.sinks valid))

-- a valid program is valid with canonical NaNs
with_canonical_if : (b : Bool) (program canonical : ProgramParts) → HasCanonicalNans b program canonical
    → IsValidProgram program.«module» program.bodies → IsValidProgram canonical.«module» canonical.bodies
with_canonical_if true program canonical has valid = canonical_program_valid program canonical has valid
with_canonical_if false program canonical has valid = subst (λ (p : ProgramParts). IsValidProgram p.«module» p.bodies) (sym has) valid

written_valid : (additions : Additions) (program : ProgramParts) (bytes : List ℕ) → IsBinaryWith additions program bytes
    → IsValidProgram program.«module» program.bodies → IsValidBinary bytes
written_valid additions program bytes h valid =
    extended_valid additions h.canonical bytes h.encoded
    (with_canonical_if (has_canonical_nans program.«module».config) program h.canonical h.nans valid)

-- a file without custom sections is left as it is
finished_without : (b : Bool) (least : ℕ) (left file bytes : List ℕ) → IsPlain file → IsFinished b least left file bytes
    → IsWithoutCustoms bytes file
finished_without true least left file bytes plain h = h.without
finished_without false least left file bytes plain h = subst (λ (whole : List ℕ). IsWithoutCustoms whole file) (sym h) (plain_left plain)

-- the file of a program is valid
file_valid : {config : Config} {additions : Additions} {input bytes left : List ℕ} (h : IsBinaryOf config additions input bytes left)
    → IsValidBinary h.written.file
file_valid {additions = additions} h = written_valid additions h.program h.written.file h.written.encoded h.drawn.valid

-- what is left of it without its custom sections
without : {config : Config} {additions : Additions} {program : ProgramParts} {left bytes : List ℕ}
    (h : IsFileOf config additions program left bytes) → IsWithoutCustoms bytes h.file
without {config = config} {additions = additions} {program = program} {left = left} {bytes = bytes} h =
    finished_without config.generate_custom_sections config.min_uleb_size left h.file bytes
    (binary_plain additions program h.file h.encoded) h.finished

pub binary_valid : (config : Config) (additions : Additions) (input bytes left : List ℕ) → IsBinaryOf config additions input bytes left
    → IsValidFile bytes
binary_valid config additions input bytes left h = record { file = h.written.file; without = without h.written; valid = file_valid h }

-- a file is what is written without custom sections
same_file : (b : Bool) (least : ℕ) (left file bytes : List ℕ) → b ≡ false → IsFinished b least left file bytes → bytes ≡ file
same_file false least left file bytes off h = h
same_file true least left file bytes off h = absurd cc

pub plain_valid : (config : Config) (additions : Additions) (input bytes left : List ℕ) → config.generate_custom_sections ≡ false
    → IsBinaryOf config additions input bytes left → IsValidBinary bytes
plain_valid config additions input bytes left off h =
    subst IsValidBinary (sym (same_file config.generate_custom_sections config.min_uleb_size left h.written.file bytes off
    h.written.finished)) (file_valid h)
