-- The end of exports, their refusals, and the bytes that no export takes.
use Rattle.smith_draw_contents.proofs.Common.{[], All, ap, arith, Bool, bool_read, Config, EntitySpaces, Error, Export, exported_size}
use Rattle.smith_draw_contents.proofs.Common.{ExportKind, false, IfOk, if◌then◌else◌, inl, inr, item_size, length, List, lt-ltb, ltb-false}
use Rattle.smith_draw_contents.proofs.Common.{ltb-true, nat_lt, Ok, places_from, refl, Result, slice_get, SpellsBool, SubType, suc, Takes}
use Rattle.smith_draw_contents.proofs.Common.{true, zero, ℕ, ◌++◌, ◌+◌, ◌-◌, ◌<◌, ◌∙◌, ◌∷◌, ◌≡◌, ◌≤◌}
use Rattle.std.proofs.Common.{◌*◌}
use Rattle.std.specs.Prelude.{None, Option, Some}
use Rattle.std.specs.Option.{option_map, unwrap_or}
use Rattle.std.proofs.lemmas.List.Sums.{sum_by-cons}
use Rattle.smith_bytes.specs.Spelling.{SpellsNone}
use Rattle.smith_types.specs.Sizes.{size_in}
use Rattle.smith_types.specs.Syntax.entity_type.EntityType.TheVariants as entity
use Rattle.smith_types.specs.Syntax.entity_type.ExportKind.TheVariants as kind
use Rattle.smith_config.specs.InUse.{HasNoShapes}
use Rattle.smith_draw_types.specs.FuncSizes.{IsSmall}
use Rattle.smith_draw_types.specs.Choices.{enabled}
use Rattle.smith_bytes.specs.Steps.{ReturnsWhy}
use Rattle.smith_bytes.specs.Spelling.{SpellsEmpty}
use Rattle.smith_draw_contents.specs.Exporting.{candidates, candidate_row, offered_kinds, exports_from, free_exports_at}
use Rattle.smith_draw_contents.specs.Exported.{MayExportFreely, AreExported, MayRunOut}
use Rattle.smith_draw_contents.specs.AllExports.{everything_at, exports_at}
use Rattle.smith_draw_contents.specs.declared.exports_so_far.Exports.{Exports}
use Rattle.smith_draw_contents.proofs.CandidateLemmas.{length_alike}
use Rattle.smith_bytes.proofs.StepLemmas.{given_takes}
use Rattle.smith_draw_types.proofs.FuncSizeLemmas.{small_at}

-- if no item is enabled, neither the first nor a later one is
off_by : {A : Type 0} (x : A) (b : Bool) (rest : List (A × Bool)) → length (enabled ((x, b) ∷ rest)) ≡ 0 → (b ≡ false)
    × (length (enabled rest) ≡ 0)
off_by x true rest none = absurd (omega arith)
off_by x false rest none = (refl, none)

-- if more than 42 of the type size is left, a kind without candidates has no item
none_of_kind : {A : Type 0} (left : ℕ) (xs : List A) → 42 < left → nat_lt 0 (length (places_from (λ x. nat_lt 2 left) 0 xs)) ≡ false
    → length xs ≡ 0
none_of_kind left xs much none =
    let on : nat_lt 2 left ≡ true = lt-ltb 2 left (omega arith) in
    let all : length (places_from (λ x. nat_lt 2 left) 0 xs) ≡ length xs = length_alike (nat_lt 2 left) 0 xs ∙ rw on refl in
    let few = ltb-false 0 (length (places_from (λ x. nat_lt 2 left) 0 xs)) none in
    omega (arith, few, all)

-- a function of a small type has a size of at most 41, and one whose type does not exist a size of
-- 1
small_size : (types : List SubType) (func : ℕ) (found : Option SubType) → All IsSmall types → slice_get types func ≡ found
    → size_in types (entity.Func func) ≤ 41
small_size types func (Some t) small at = small_at types small func t at
small_size types func None small at = rw at (omega arith)

small_func : (types : List SubType) → All IsSmall types → (found : Option ℕ)
    → unwrap_or (option_map (λ func. size_in types (entity.Func func)) found) 1 ≤ 41
small_func types small (Some func) = small_size types func (slice_get types func) small refl
small_func types small None = omega arith

-- over small types an export adds at most 42 to the type size
small_item : (types : List SubType) (spaces : EntitySpaces) (of_kind : ExportKind) (index : ℕ) → All IsSmall types
    → item_size types spaces of_kind index ≤ 41
small_item types spaces kind.Func index small = small_func types small (slice_get spaces.funcs index)
small_item types spaces kind.Table index small = omega arith
small_item types spaces kind.Memory index small = omega arith
small_item types spaces kind.Global index small = omega arith
small_item types spaces kind.Tag index small = omega arith

small_exports : (types : List SubType) (spaces : EntitySpaces) (exports : List Export) → All IsSmall types
    → exported_size types spaces exports ≤ 42 * length exports
small_exports types spaces [] small = omega arith
small_exports types spaces (one ∷ exports) small =
    let parts = sum_by-cons (λ (each : Export). item_size types spaces each.1 each.2 + 1) one exports in
    omega (arith, parts, small_item types spaces one.1 one.2 small, small_exports types spaces exports small)

run_out_by : (config : Config) (types : List SubType) (spaces : EntitySpaces) (imports : ℕ) (exports : List Export) (size : ℕ) (much : Bool)
    → nat_lt 42 (config.max_type_size - size) ≡ much → MayExportFreely config types spaces imports
    → AreExported config types spaces imports exports size → HasNoShapes config → length exports < config.min_exports
    → nat_lt 0 (length (offered_kinds types spaces (config.max_type_size - size))) ≡ false → MayRunOut config
run_out_by config types spaces imports exports size false much may kept no_shapes few none =
    let little = ltb-false 42 (config.max_type_size - size) much in
    inl (omega (arith, little, kept.fit.type_size, small_exports types spaces exports (may.small no_shapes), may.small_imports no_shapes))
run_out_by config types spaces imports exports size true much may kept no_shapes few none =
    let left = config.max_type_size - size in
    let more = ltb-true 42 left much in
    let nothing = ltb-false 0 (length (offered_kinds types spaces left)) none in
    let row = candidate_row types spaces left in
    let has = λ (of_kind : ExportKind). nat_lt 0 (length (candidates types spaces left of_kind)) in
    let globals : List (ExportKind × Bool) = row kind.Global ∷ [] in
    let memories : List (ExportKind × Bool) = row kind.Memory ∷ globals in
    let tables : List (ExportKind × Bool) = row kind.Table ∷ memories in
    let all : length (enabled (row kind.Func ∷ tables)) ≡ 0 = omega (arith, nothing) in
    let func = off_by kind.Func (has kind.Func) tables all in
    let table = off_by kind.Table (has kind.Table) memories func.1 in
    let memory = off_by kind.Memory (has kind.Memory) globals table.1 in
    let global = off_by kind.Global (has kind.Global) [] memory.1 in
    inr (record {
      tables = omega (arith, none_of_kind left spaces.tables more table.0, may.tables);
      memories = omega (arith, none_of_kind left spaces.memories more memory.0, may.memories);
      globals = omega (arith, none_of_kind left spaces.globals more global.0, may.globals);
    })

-- if exports end without a candidate and without shapes, they are too large together, or there may
-- be no item
pub run_out : (config : Config) (types : List SubType) (spaces : EntitySpaces) (imports : ℕ) (exports : List Export) (size : ℕ)
    → MayExportFreely config types spaces imports → AreExported config types spaces imports exports size → HasNoShapes config
    → length exports < config.min_exports
    → nat_lt 0 (length (offered_kinds types spaces (config.max_type_size - size))) ≡ false → MayRunOut config
run_out config types spaces imports exports size may kept no_shapes few none = run_out_by config types spaces imports exports size
    (nat_lt 42 (config.max_type_size - size)) refl may kept no_shapes few none

no_exports_by : (config : Config) (types : List SubType) (spaces : EntitySpaces) (imports most : ℕ) (piece after : List ℕ)
    → config.min_exports ≡ 0 → SpellsNone most piece → exports_from config types spaces imports most [] (piece ++ after) ≡ ([], after)
unfolding exports_from
no_exports_by config types spaces imports zero piece after none spelled = rw spelled refl
no_exports_by config types spaces imports (suc most) piece after none spelled =
    let stop : SpellsBool false piece = rw (lt-ltb 0 (suc most) (omega arith)) at spelled in
    rw (none, bool_read false piece after stop) refl

pub no_export_read : (config : Config) (types : List SubType) (spaces : EntitySpaces) (imports : ℕ) (exports : List Export)
    (piece after : List ℕ) → config.min_exports ≡ 0 → SpellsEmpty (SpellsNone config.max_exports) exports piece
    → free_exports_at config types spaces imports (piece ++ after) ≡ Ok (exports, after)
unfolding free_exports_at
no_export_read config types spaces imports exports piece after none h =
    rw (no_exports_by config types spaces imports config.max_exports piece after none h.spelled, none, h.none) refl

-- a piece that spells that there is no export is taken
pub no_export_taken : (config : Config) (types : List SubType) (spaces : EntitySpaces) (imports : ℕ) (old new : List ℕ)
    (result : Result Exports Error) → config.min_exports ≡ 0 → ReturnsWhy (λ (made : Exports). (made.exports, new)) result
    (free_exports_at config types spaces imports old)
    → IfOk result (λ made. Takes (SpellsEmpty (SpellsNone config.max_exports)) old made.exports new)
no_export_taken config types spaces imports old new result none given =
    given_takes (SpellsEmpty (SpellsNone config.max_exports)) (λ (made : Exports). made.exports)
    (free_exports_at config types spaces imports) old new result
    (λ exports piece after h. no_export_read config types spaces imports exports piece after none h) given

-- every item is exported if the configuration exports everything
pub exports_all : (config : Config) (types : List SubType) (spaces : EntitySpaces) (imports : ℕ) (bytes : List ℕ) → config.export_everything
    ≡ true → exports_at config types spaces imports bytes ≡ everything_at config types spaces imports bytes
unfolding exports_at
exports_all config types spaces imports bytes on =
    ap (λ (all : Bool). if all then everything_at config types spaces imports bytes else free_exports_at config types spaces imports bytes)
    on

-- exports are drawn freely unless the configuration exports everything
pub exports_free : (config : Config) (types : List SubType) (spaces : EntitySpaces) (imports : ℕ) (bytes : List ℕ)
    → config.export_everything ≡ false → exports_at config types spaces imports bytes ≡ free_exports_at config types spaces imports bytes
unfolding exports_at
exports_free config types spaces imports bytes off =
    ap (λ (all : Bool). if all then everything_at config types spaces imports bytes else free_exports_at config types spaces imports bytes)
    off
