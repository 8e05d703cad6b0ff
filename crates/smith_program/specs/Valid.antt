-- Valid programs: the sections Validation, Modules, and Binary Format, Modules, of the WebAssembly
-- Core Specification 3.0.
use Rattle.std.specs.Prelude.{ℕ, ◌<◌, IsTrue, List, length, map, All, Any}
use Rattle.std.specs.List.{Contains}
use Rattle.smith_module_rules.specs.Module.{ModuleParts, IsValid, module_features}
use Rattle.smith_instr.specs.Enabled.{has_features, names_data}
use Rattle.smith_instr.specs.declared.instr.Instr.{Instr}
use Rattle.smith_instr.specs.declared.instr.Instr.TheVariants as instr
use Rattle.smith_instr.specs.declared.reference.ReferenceInstr.TheVariants as reference
use Rattle.smith_program.specs.Bodies.{AreBodiesOf}
use Rattle.smith_program.specs.Counted.{counted_body}
use Rattle.smith_program.specs.References.{references_of}
use Rattle.smith_program.specs.declared.program.Body.{Body}
use Rattle.smith_program.specs.declared.program.Body.TheVariants as body

-- each instruction of a body has a property; raw bytes have no instructions (own rule)
abbrev pub HaveAll : (Instr → Type 0) → Body → Type 0
HaveAll Is (body.Drawn instructions) = All Is instructions
HaveAll Is body.Raw = Unit {0}

-- some instruction of a body has a property; raw bytes have no instructions (own rule)
abbrev pub HasOne : (Instr → Type 0) → Body → Type 0
HasOne Is (body.Drawn instructions) = Any Is instructions
HasOne Is body.Raw = ⊥

-- if an instruction is `ref.func`, its function is among `references` (Validation, Reference
-- Instructions, ref.func; Modules, C.refs)
abbrev pub IsDeclared : List ℕ → Instr → Type 0
IsDeclared references (instr.Reference (reference.Func function)) = Contains references function
IsDeclared references _ = Unit {0}

-- some body names a data segment, so that the module has a data count section (Binary Format,
-- Modules, Data Count Section)
abbrev pub NameData : List Body → Type 0
NameData bodies = Any (HasOne (λ (instruction : Instr). IsTrue (names_data instruction))) bodies

-- the module has a data count section: it has data segments, and bulk memory is enabled (own rule)
pub record CountsData (m : ModuleParts) : Type 0 where
  pub bulk_memory : IsTrue (module_features m).bulk_memory
  pub some : 0 < length m.datas

-- A valid program: a valid module, and a valid body for each function that it defines, except that
-- raw bytes are not typed (Validation, Modules). The features of each instruction are enabled, and
-- bodies are valid with the checks of the fuel counters too (own rules).
pub record IsValidProgram (m : ModuleParts) (bodies : List Body) : Type 0 where
  pub valid : IsValid m
  pub typed : AreBodiesOf m bodies
  pub counted : AreBodiesOf m (map (counted_body m.fuel_globals) bodies)
  pub enabled : All (HaveAll (λ (instruction : Instr). IsTrue (has_features (module_features m) instruction))) bodies
  pub declared : All (HaveAll (IsDeclared (references_of m))) bodies
  pub data_count : NameData bodies → CountsData m
