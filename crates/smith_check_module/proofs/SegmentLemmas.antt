-- Modes of segments, and their items.
use Rattle.smith_check_module.proofs.Common.{Bool, Context, EntitySpaces, Err, Error, get_or, IfOk, Instr, IsTrue, length, List, None, Ok}
use Rattle.smith_check_module.proofs.Common.{refl, RefType, Result, same_Some, slice_get, Some, subst, sym, TableType, ValType, ℕ, ◌<◌, ◌↔◌}
use Rattle.smith_check_module.proofs.Common.{◌∙◌, ◌≡◌}
use Rattle.std.proofs.lemmas.Option.{slice_get_read}
use Rattle.smith_types.specs.Syntax.entity_type.MemoryType.{MemoryType}
use Rattle.smith_types.specs.Segments.{address_type}
use Rattle.smith_types.specs.Subtyping.{IsRefBelow}
use Rattle.smith_decode.specs.DataReadings.{mode_view as data_mode_view}
use Rattle.smith_decode.specs.ElementReadings.{mode_view}
use Rattle.smith_decode.specs.declared.data.DataMode.{DataMode}
use Rattle.smith_decode.specs.declared.data.DataMode.TheVariants as data_mode
use Rattle.smith_decode.specs.declared.elements.ElementMode.{ElementMode}
use Rattle.smith_decode.specs.declared.elements.ElementMode.TheVariants as element_mode
use Rattle.smith_check_module.specs.ValidModules.{IsConstant, IsCopiedToTable, IsDataModeValid, IsElementModeValid}

module _ (context : Context) (indices : List ℕ) (spaces : EntitySpaces) where
  -- an active data segment
  module _ (mode : DataMode) (index : ℕ) (offset : List Instr) (is : mode ≡ data_mode.Active index offset) where
    pub data_decided : (list : List MemoryType) (memory : MemoryType) → list ≡ spaces.memories → index < length list
        → memory ≡ get_or list index memory → (wanted : ValType) (expression : List Instr) → wanted ≡ address_type memory.memory64
        → expression ≡ offset → (found : Result Bool Error) → IfOk found (λ yes. IsTrue yes ↔ IsConstant context indices wanted expression)
        → IfOk found (λ yes. IsTrue yes ↔ IsDataModeValid context indices spaces (data_mode_view mode))
    data_decided list memory same inside read wanted expression typed spelled (Ok b) decides =
        let at : slice_get spaces.memories index ≡ Some memory = subst (λ (ms : List MemoryType). slice_get ms index ≡ Some memory) same
        (slice_get_read list (length list) index memory refl inside read) in (
          λ yes. subst (λ (m : DataMode). IsDataModeValid context indices spaces (data_mode_view m)) (sym is) (
            memory,
            at,
            subst (λ (e : List Instr). IsConstant context indices (address_type memory.memory64) e) spelled
                (subst (λ (w : ValType). IsConstant context indices w expression) typed (decides.0 yes)),
          ),
          λ valid.
              let (other, there, constant) = subst (λ (m : DataMode). IsDataModeValid context indices spaces (data_mode_view m)) is valid in
              let one : other ≡ memory = same_Some other memory (sym there ∙ at) in
              decides.1 (subst (λ (w : ValType). IsConstant context indices w expression) (sym typed)
              (subst (λ (e : List Instr). IsConstant context indices (address_type memory.memory64) e) (sym spelled)
              (subst (λ (m : MemoryType). IsConstant context indices (address_type m.memory64) offset) one constant))),
        )
    data_decided list memory same inside read wanted expression typed spelled (Err e) decides = tt

    pub no_memory : (list : List MemoryType) → list ≡ spaces.memories → slice_get list index ≡ None
        → IsDataModeValid context indices spaces (data_mode_view mode) → ⊥
    no_memory list same past valid =
        let (memory, there, constant) = subst (λ (m : DataMode). IsDataModeValid context indices spaces (data_mode_view m)) is valid in
        let none : slice_get spaces.memories index ≡ None = subst (λ (ms : List MemoryType). slice_get ms index ≡ None) same past in
        absurd cc

  -- an active element segment
  module _ (ty : RefType) (mode : ElementMode) (index : ℕ) (offset : List Instr) (is : mode ≡ element_mode.Active index offset) where
    copied : IsElementModeValid context indices spaces ty (mode_view mode) → IsCopiedToTable context indices spaces ty index offset
    copied valid = subst (λ (m : ElementMode). IsElementModeValid context indices spaces ty (mode_view m)) is valid

    pub element_decided : (list : List TableType) (table : TableType) → list ≡ spaces.tables → index < length list
        → table ≡ get_or list index table → IsRefBelow context.types ty table.element_type → (wanted : ValType) (expression : List Instr)
        → wanted ≡ address_type table.table64 → expression ≡ offset → (found : Result Bool Error)
        → IfOk found (λ yes. IsTrue yes ↔ IsConstant context indices wanted expression)
        → IfOk found (λ yes. IsTrue yes ↔ IsElementModeValid context indices spaces ty (mode_view mode))
    element_decided list table same inside read below wanted expression typed spelled (Ok b) decides =
        let at : slice_get spaces.tables index ≡ Some table = subst (λ (ts : List TableType). slice_get ts index ≡ Some table) same
        (slice_get_read list (length list) index table refl inside read) in (
          λ yes. subst (λ (m : ElementMode). IsElementModeValid context indices spaces ty (mode_view m)) (sym is)
              (record {
                table = table;
                stands = at;
                below = below;
                offset_typed = subst (λ (e : List Instr). IsConstant context indices (address_type table.table64) e) spelled
                    (subst (λ (w : ValType). IsConstant context indices w expression) typed (decides.0 yes));
              }),
          λ valid.
              let all = copied valid in
              let one : all.table ≡ table = same_Some all.table table (sym all.stands ∙ at) in
              decides.1 (subst (λ (w : ValType). IsConstant context indices w expression) (sym typed)
              (subst (λ (e : List Instr). IsConstant context indices (address_type table.table64) e) (sym spelled)
              (subst (λ (t : TableType). IsConstant context indices (address_type t.table64) offset) one all.offset_typed))),
        )
    element_decided list table same inside read below wanted expression typed spelled (Err e) decides = tt

    pub no_table : (list : List TableType) → list ≡ spaces.tables → slice_get list index ≡ None
        → IsElementModeValid context indices spaces ty (mode_view mode) → ⊥
    no_table list same past valid =
        let all = copied valid in
        let there = all.stands in
        let none : slice_get spaces.tables index ≡ None = subst (λ (ts : List TableType). slice_get ts index ≡ None) same past in
        absurd cc
