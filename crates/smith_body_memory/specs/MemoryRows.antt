-- The loads by the type of their value, and the stores.
use Rattle.std.specs.Prelude.{List, [], ◌∷◌}
use Rattle.smith_body_memory.specs.Common.{ValType}
use Rattle.smith_types.specs.Syntax.value_type.ValType.TheVariants as value
use Rattle.smith_instr.specs.declared.memory.Load.{Load}
use Rattle.smith_instr.specs.declared.memory.Load.TheVariants as load
use Rattle.smith_instr.specs.declared.memory.Store.{Store}
use Rattle.smith_instr.specs.declared.memory.Store.TheVariants as store

-- the loads that produce a value of this type
abbrev pub loads_of : ValType → List Load
loads_of value.I32 = load.I32 ∷ load.I32From8S ∷ load.I32From8U ∷ load.I32From16S ∷ load.I32From16U ∷ []
loads_of value.I64 =
    load.I64 ∷ load.I64From8S ∷ load.I64From8U ∷ load.I64From16S ∷ load.I64From16U ∷ load.I64From32S ∷ load.I64From32U ∷ []
loads_of value.F32 = load.F32 ∷ []
loads_of value.F64 = load.F64 ∷ []
loads_of _ = []

abbrev pub stores : List Store
stores =
    store.I32 ∷
    store.I64 ∷
    store.F32 ∷
    store.F64 ∷
    store.I32To8 ∷
    store.I32To16 ∷
    store.I64To8 ∷
    store.I64To16 ∷
    store.I64To32 ∷
    []
