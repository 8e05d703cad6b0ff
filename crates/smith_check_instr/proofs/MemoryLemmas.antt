-- Accesses to memories.
use Rattle.smith_check_instr.proofs.Common.{address, ap, BodyContext, Bool, false, IsValid, IsValInRange, List, MemoryType, some_same}
use Rattle.smith_check_instr.proofs.Common.{SubType, sym, ◌∙◌, ◌≡◌}
use Rattle.std.proofs.Common.{true}
use Rattle.smith_instr.specs.MemoryTypes.{IsAccess, loaded, stored}
use Rattle.smith_instr.specs.declared.memory.Load.{Load}
use Rattle.smith_instr.specs.declared.memory.Load.TheVariants as load
use Rattle.smith_instr.specs.declared.memory.MemArg.{MemArg}
use Rattle.smith_instr.specs.declared.memory.Store.{Store}
use Rattle.smith_instr.specs.declared.memory.Store.TheVariants as store

pub access_same : (memories : List MemoryType) (at : MemArg) (one other : Bool) → IsAccess memories at one → IsAccess memories at other
    → one ≡ other
access_same memories at one other a b =
    let same : a.memory ≡ b.memory = some_same a.memory b.memory (sym a.there ∙ b.there) in
    a.addressed ∙ ap (λ (m : MemoryType). m.memory64) same ∙ sym b.addressed

pub address_in_range : (types : List SubType) (wide : Bool) → IsValInRange types (address wide)
address_in_range types true = tt
address_in_range types false = tt

pub address_valid : (context : BodyContext) (wide : Bool) → IsValid context (address wide)
address_valid context true = tt
address_valid context false = tt

pub loaded_valid : (context : BodyContext) (op : Load) → IsValid context (loaded op).0
loaded_valid context load.I32 = tt
loaded_valid context load.I64 = tt
loaded_valid context load.F32 = tt
loaded_valid context load.F64 = tt
loaded_valid context load.I32From8S = tt
loaded_valid context load.I32From8U = tt
loaded_valid context load.I32From16S = tt
loaded_valid context load.I32From16U = tt
loaded_valid context load.I64From8S = tt
loaded_valid context load.I64From8U = tt
loaded_valid context load.I64From16S = tt
loaded_valid context load.I64From16U = tt
loaded_valid context load.I64From32S = tt
loaded_valid context load.I64From32U = tt

pub stored_in_range : (types : List SubType) (op : Store) → IsValInRange types (stored op).0
stored_in_range types store.I32 = tt
stored_in_range types store.I64 = tt
stored_in_range types store.F32 = tt
stored_in_range types store.F64 = tt
stored_in_range types store.I32To8 = tt
stored_in_range types store.I32To16 = tt
stored_in_range types store.I64To8 = tt
stored_in_range types store.I64To16 = tt
stored_in_range types store.I64To32 = tt
