-- The bytes that are written for a configuration, additions and an input.
use Rattle.std.specs.Prelude.{◌≡◌, ◌<◌, ◌≤◌, ◌+◌, ◌^◌, ℕ, Bool, true, false, List, Ok, Err, length}
use Rattle.std.specs.Str.{IsUtf8}
use Rattle.smith_binary.specs.Faults.{IsFault}
use Rattle.smith_binary.specs.declared.error.EncodeError.TheVariants.{Memory, TooLong}
use Rattle.smith_bytes.specs.declared.error.Error.{Error}
use Rattle.smith_config.specs.declared.config.Config.{Config}
use Rattle.wasm_smith.specs.Termination.{MayAddNone}
use Rattle.smith_program.specs.Generated.{IsProgram}
use Rattle.smith_program.specs.Parts.{ProgramParts as Program}
use Rattle.smith_binary_program.specs.Long.{IsLongProgram}
use Rattle.smith_binary_program.specs.Programs.{IsEncoded}
use Rattle.smith_custom_sections.specs.Additions.{IsAdded}
use Rattle.smith_custom_sections.specs.CustomDraws.{custom_sections_at}
use Rattle.smith_request.specs.Additions.{IsExtended, added_globals}
use Rattle.smith_request.specs.CanonicalNans.{HasCanonicalNans, IsNotCanonical, has_canonical_nans}
use Rattle.smith_request.specs.declared.additions.Additions.{Additions}
use Rattle.smith_request.specs.declared.manner.Form.{Form}
use Rattle.smith_request.specs.declared.manner.Form.TheVariants.{Binary, Text}
use Rattle.smith_request.specs.declared.refusal.Refusal.{Refusal}
use Rattle.smith_request.specs.declared.refusal.Refusal.TheVariants.{NotUtf8, Config as of_config, Module, Encoding}
use Rattle.smith_request.specs.declared.refusal.Refusal.TheVariants.{Shape, NoChange, NoFamily}

-- the bytes are the encoding of the program with additions
pub record IsExtendedBinary (additions : Additions) (program : Program) (bytes : List ℕ) : Type 0 where
  pub extended : Program
  pub is_extended : IsExtended additions program extended
  pub encoded : IsEncoded extended.«module» extended.bodies bytes

-- the bytes are the encoding of the program with additions, and with canonical NaNs before them if
-- its configuration requests these
pub record IsBinaryWith (additions : Additions) (program : Program) (bytes : List ℕ) : Type 0 where
  pub canonical : Program
  pub nans : HasCanonicalNans (has_canonical_nans program.«module».config) program canonical
  pub encoded : IsExtendedBinary additions canonical bytes

-- the bytes are a file, with custom sections if there are to be any: those that are drawn from the
-- bytes of the input that the program left
abbrev pub IsFinished : Bool → ℕ → List ℕ → List ℕ → List ℕ → Type 0
IsFinished true least left file bytes = IsAdded least (custom_sections_at left).0 file bytes
IsFinished false least left file bytes = bytes ≡ file

-- the bytes are the file of a program, with drawn custom sections if its configuration requests
-- them
pub record IsFileOf (config : Config) (additions : Additions) (program : Program) (left bytes : List ℕ) : Type 0 where
  pub file : List ℕ
  pub encoded : IsBinaryWith additions program file
  pub finished : IsFinished config.generate_custom_sections config.min_uleb_size left file bytes

-- the program is not written, because memory runs out or it is too long for the binary format
abbrev pub IsUnwritten : Form → Program → Refusal → Type 0
IsUnwritten Binary program (Encoding e) = IsFault (IsLongProgram program.«module» program.bodies) e
IsUnwritten (Text layout) program (Encoding e) = e ≡ Memory
IsUnwritten form program NotUtf8 = ⊥
IsUnwritten form program (of_config _) = ⊥
IsUnwritten form program (Module _) = ⊥
IsUnwritten form program (Shape _ _) = ⊥
IsUnwritten form program NoChange = ⊥
IsUnwritten form program NoFamily = ⊥

-- the program is not written with additions: globals are to be added, but none can be, because a body is
-- raw bytes or memory runs out, or not each of them has an index; or the program with its additions is
-- not written
pub data IsUnextended (form : Form) (additions : Additions) (program : Program) (refusal : Refusal) : Type 0 where
  not_added : {e : Error} → 0 < added_globals additions → MayAddNone program.«module» e → refusal ≡ Module e →
      IsUnextended form additions program refusal
  no_index : 0 < added_globals additions → 2 ^ 32 ≤ length program.«module».globals + added_globals additions →
      refusal ≡ Encoding TooLong →
      IsUnextended form additions program refusal
  not_written : {extended : Program} → IsExtended additions program extended → IsUnwritten form extended refusal →
      IsUnextended form additions program refusal

-- the program is not written with additions, and with canonical NaNs before them if its configuration
-- requests these
pub data IsUnwrittenWith (form : Form) (additions : Additions) (program : Program) (refusal : Refusal) : Type 0 where
  not_canonical : IsNotCanonical program refusal → IsUnwrittenWith form additions program refusal
  not_extended : {canonical : Program} → HasCanonicalNans (has_canonical_nans program.«module».config) program canonical →
      IsUnextended form additions canonical refusal →
      IsUnwrittenWith form additions program refusal

-- the bytes are the file of the program that the generator draws for the configuration and the
-- input; custom sections are drawn from `left`, the unread bytes of the input
pub record IsBinaryOf (config : Config) (additions : Additions) (input bytes left : List ℕ) : Type 0 where
  pub program : Program
  pub drawn : IsProgram config input (Ok program) left
  pub written : IsFileOf config additions program left bytes

-- an error is the generator's for the configuration and the input, or the drawn program is not
-- written
pub data IsRefusedFor (form : Form) (config : Config) (additions : Additions) (input left : List ℕ) (refusal : Refusal) : Type 0 where
  not_drawn : {e : Error} → IsProgram config input (Err e) left → refusal ≡ Module e → IsRefusedFor form config additions input left refusal
  not_written : {program : Program} → IsProgram config input (Ok program) left → IsUnwrittenWith form additions program refusal →
      IsRefusedFor form config additions input left refusal

-- the bytes are UTF-8, and not empty
pub record IsText (bytes : List ℕ) : Type 0 where
  pub utf8 : IsUtf8 bytes
  pub some : 1 ≤ length bytes

-- the generator draws a program for the configuration and the input, of which `left` are the unread
-- bytes, and the bytes are a text
pub record IsWrittenText (config : Config) (input bytes left : List ℕ) : Type 0 where
  pub program : Program
  pub drawn : IsProgram config input (Ok program) left
  pub is_text : IsText bytes
