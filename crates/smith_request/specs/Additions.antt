-- What is added to a program before it is written: globals that observe the values of its locals, and a
-- counter of its calls and of its iterations of loops.
use Rattle.std.specs.Prelude.{◌≡◌, ℕ, ◌+◌, Bool, true, false, ◌||◌, Option, Some, None, option_map, Ok, if◌then◌else◌, is_some}
use Rattle.wasm_smith.specs.FuelExport.{with_fuel_export}
use Rattle.wasm_smith.specs.SinkExports.{AnswersSinkExports}
use Rattle.wasm_smith.specs.Termination.{AnswersCounter}
use Rattle.smith_program.specs.Observed.{AnswersObserved}
use Rattle.smith_program.specs.Parts.{ProgramParts as Program}
use Rattle.smith_request.specs.declared.additions.Additions.{Additions}
use Rattle.smith_request.specs.declared.additions.Fuel.{Fuel}

-- a program whose bodies mix the values of their locals into sinks, which are exported
pub record IsObserved (program observed : Program) : Type 0 where
  pub first : ℕ
  pub mixing : Program
  pub mixes : AnswersObserved program mixing (Ok first)
  pub exported : AnswersSinkExports first mixing.«module» observed.«module» (Ok tt)
  pub bodies : observed.bodies ≡ mixing.bodies

-- a program with a fuel counter of this amount, and the same bodies
pub record IsCounted (fuel : ℕ) (program counted : Program) : Type 0 where
  pub index : ℕ
  pub added : AnswersCounter fuel program.«module» counted.«module» (Ok index)
  pub bodies : counted.bodies ≡ program.bodies

-- a program with an export of the global at `index`, if requested, and the same bodies
pub record IsExporting (is_exported : Bool) (index : ℕ) (program exporting : Program) : Type 0 where
  pub exported : exporting.«module» ≡ (if is_exported then with_fuel_export index program.«module» else program.«module»)
  pub bodies : exporting.bodies ≡ program.bodies

-- a program with a fuel counter, which is exported if requested
pub record IsFuelled (fuel : Fuel) (program fuelled : Program) : Type 0 where
  pub counted : Program
  pub has_counter : IsCounted fuel.amount program counted
  pub exporting : IsExporting fuel.is_exported has_counter.index counted fuelled

-- a program that is observed, if that is requested
abbrev pub HasSinks : Bool → Program → Program → Type 0
HasSinks true program observed = IsObserved program observed
HasSinks false program observed = observed ≡ program

-- a program with a fuel counter, if fuel is given
abbrev pub HasCounter : Option Fuel → Program → Program → Type 0
HasCounter (Some fuel) program fuelled = IsFuelled fuel program fuelled
HasCounter None program fuelled = fuelled ≡ program

-- the fuel whose counter is added: it is exported beside sinks, too
abbrev pub counted_fuel : Additions → Option Fuel
counted_fuel additions =
    option_map (λ fuel. record { amount = fuel.amount; is_exported = fuel.is_exported || additions.is_observed }) additions.fuel

-- a program with additions: the sinks first, and then the counter
pub record IsExtended (additions : Additions) (program extended : Program) : Type 0 where
  pub observed : Program
  pub sinks : HasSinks additions.is_observed program observed
  pub counter : HasCounter (counted_fuel additions) observed extended

-- the number of globals that are added
abbrev pub added_globals : Additions → ℕ
added_globals additions = (if additions.is_observed then 3 else 0) + (if is_some additions.fuel then 1 else 0)
