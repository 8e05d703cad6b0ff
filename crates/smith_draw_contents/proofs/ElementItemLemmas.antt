-- Properties of the items of element segments.
use Rattle.smith_draw_contents.proofs.Common.{[], All, ap, arith, Bool, chosen_at, Config, Context, Error, false, features_of}
use Rattle.smith_draw_contents.proofs.Common.{get_or_from_slice_get, grow_most, IfOk, inl, inr, IsOrderly, IsUngrounded, length, List, Ref}
use Rattle.smith_draw_contents.proofs.Common.{refl, RefType, slice_get-get_or, slice_get_within, standing_in, TableType, true, ℕ, ◌∙◌, ◌≡◌}
use Rattle.smith_draw_contents.proofs.Common.{◌≤◌}
use Rattle.std.specs.Prelude.{slice_index_or}
use Rattle.smith_types.specs.Flags.{IsElementTypeEnabled}
use Rattle.smith_types.specs.Segments.{table_index}
use Rattle.smith_types.proofs.GroupGrowthLemmas.{AreTypesOpen-at, AreTypesOpen-start}
use Rattle.smith_config.specs.Sanitized.{IsSanitized}
use Rattle.smith_draw_consts.proofs.TriedListLemmas.{try_grow_most}
use Rattle.smith_draw_types.specs.Kept.{IsSharingEnabled}
use Rattle.smith_draw_types.specs.MatchingTypes.{matching_ref_type_at}
use Rattle.smith_draw_types.specs.declared.spaces.Spaces.{Spaces}
use Rattle.smith_draw_types.proofs.ChosenLemmas.{references_without_gc}
use Rattle.smith_draw_types.proofs.FilledLemmas.{ref_type_filled, matching_ref_ungrounded}
use Rattle.smith_draw_types.proofs.MatchingLemmas.{matching_ref_below, matching_ref_valid}
use Rattle.smith_draw_types.proofs.TableTypeLemmas.{element_enabled}
use Rattle.smith_draw_types.proofs.ValueTypeLemmas.{ref_type_drawn}
use Rattle.smith_draw_contents.specs.DrawnElements.{IsKindOffered, FitsAddresses, FitsTable, HasUngroundedElements, MayDrawElements}
use Rattle.smith_draw_contents.specs.DrawnElements.{MayHoldItems, MayRefuseItems, MayRefuseElementSegment}
use Rattle.smith_draw_contents.specs.ElementSegments.{KindChoice, item_type_at, chosen_functions_at, expression_item_at}
use Rattle.smith_draw_contents.specs.ElementSegments.{drawn_expressions_at}
use Rattle.smith_draw_contents.specs.declared.element_kinds.KindChoice.TheVariants as choice

-- existing types are shared only if that is enabled
sharing : (config : Config) (spaces : Spaces) → MayDrawElements config spaces
    → All (IsSharingEnabled (features_of config)) spaces.types.now.types
sharing config spaces may k d inside =
    let space = spaces.types.now in
    let open_types = AreTypesOpen-start (features_of config) (length space.types) space (omega arith) may.standing.types in
    (AreTypesOpen-at (features_of config) (length space.types) space open_types k (slice_index_or space.types k d)
    (slice_get-get_or space.types k d inside)).enabled.shared

matching_same : (config : Config) (context : Context) (element : RefType) (bytes : List ℕ) → config.gc_enabled ≡ false
    → (matching_ref_type_at config context element bytes).0 ≡ element
matching_same config context element bytes off = ap (λ (drawn : RefType × List ℕ). drawn.0)
    (references_without_gc config context element bytes off)

-- a type that matches an element type is enabled if the element type is
matching_enabled : (config : Config) (context : Context) (element : RefType) (bytes : List ℕ) (gc : Bool) → config.gc_enabled ≡ gc
    → IsSanitized config → IsElementTypeEnabled (features_of config) element → IsElementTypeEnabled (features_of config)
    (matching_ref_type_at config context element bytes).0
matching_enabled config context element bytes true is sanitized enabled other = sanitized.gc is
matching_enabled config context element bytes false is sanitized enabled other =
    enabled (λ same. other (matching_same config context element bytes is ∙ same))

-- a segment may hold items of the drawn type
pub item_type_may : (config : Config) (spaces : Spaces) (kind : KindChoice) (bytes : List ℕ) → MayDrawElements config spaces
    → IsKindOffered config spaces.types.now.types spaces.entities.tables.now kind
    → MayHoldItems config spaces (item_type_at config (standing_in config spaces) kind bytes).0
unfolding item_type_at
item_type_may config spaces choice.Passive bytes may offered = record {
  standing = may.standing;
  valid = (ref_type_drawn config (standing_in config spaces) false (length spaces.types.now.types) bytes may.sanitized (λ never. cc)).valid;
  enabled = element_enabled config (standing_in config spaces) false (length spaces.types.now.types) bytes;
}
item_type_may config spaces choice.Declared bytes may offered = record {
  standing = may.standing;
  valid = (ref_type_drawn config (standing_in config spaces) false (length spaces.types.now.types) bytes may.sanitized (λ never. cc)).valid;
  enabled = element_enabled config (standing_in config spaces) false (length spaces.types.now.types) bytes;
}
item_type_may config spaces (choice.Active index table) bytes may offered =
    let types = spaces.types.now.types in
    record {
      standing = may.standing;
      valid = (matching_ref_valid config (standing_in config spaces) table.element_type bytes).against (length types) (omega arith)
          (sharing config spaces may) offered.valid.element;
      enabled = matching_enabled config (standing_in config spaces) table.element_type bytes config.gc_enabled refl may.sanitized
          offered.valid.element_enabled;
    }

-- a required non-nullable reference that is not grounded is an element of a table
pub item_type_needed : (config : Config) (context : Context) (tables : List TableType) (kind : KindChoice) (bytes : List ℕ)
    → IsOrderly context.types → IsKindOffered config context.types tables kind
    → IsUngrounded config context (Ref (item_type_at config context kind bytes).0)
    → HasUngroundedElements config context tables
unfolding item_type_at
item_type_needed config context tables choice.Passive bytes orderly offered needed =
    absurd (ref_type_filled config context orderly false (length context.types) bytes needed)
item_type_needed config context tables choice.Declared bytes orderly offered needed =
    absurd (ref_type_filled config context orderly false (length context.types) bytes needed)
item_type_needed config context tables (choice.Active index table) bytes orderly offered needed =
    let place = table_index index in (
      place,
      table,
      slice_get_within tables place table offered.stands,
      get_or_from_slice_get tables place table table offered.stands,
      matching_ref_ungrounded config context orderly table.element_type bytes needed,
    )

-- a segment is refused if its items are
pub segment_refused : (config : Config) (context : Context) (tables : List TableType) (ty : RefType) (e : Error)
    → (IsUngrounded config context (Ref ty) → HasUngroundedElements config context tables) → MayRefuseItems config context ty e
    → MayRefuseElementSegment config context tables e
segment_refused config context tables ty e from_table (inl unmet) = inl unmet
segment_refused config context tables ty e from_table (inr (empty, inl needed)) = inr (empty, inr (from_table needed))
segment_refused config context tables ty e from_table (inr (empty, inr field)) = inr (empty, inl field)

-- the drawn type fits the table
pub item_type_fits : (config : Config) (context : Context) (kind : KindChoice) (bytes : List ℕ)
    → FitsTable context.types kind (item_type_at config context kind bytes).0
unfolding item_type_at
item_type_fits config context choice.Passive bytes = tt
item_type_fits config context choice.Declared bytes = tt
item_type_fits config context (choice.Active index table) bytes = matching_ref_below config context table.element_type bytes

-- the table of an offered kind
pub fits_addresses : (config : Config) (spaces : Spaces) (kind : KindChoice)
    → IsKindOffered config spaces.types.now.types spaces.entities.tables.now kind → FitsAddresses kind
fits_addresses config spaces choice.Passive offered = tt
fits_addresses config spaces choice.Declared offered = tt
fits_addresses config spaces (choice.Active index table) offered = offered.valid.limits.minimum_fits

-- at most the maximum number of items
pub functions_few : (config : Config) (funcs : List ℕ) (most : ℕ) (bytes : List ℕ) → length (chosen_functions_at config funcs most bytes).0
    ≤ most
unfolding chosen_functions_at
functions_few config funcs most bytes = grow_most (λ _. chosen_at 0 funcs) config.min_elements most most [] bytes (omega arith)

pub expressions_few : (config : Config) (context : Context) (ty : RefType) (most : ℕ) (bytes : List ℕ)
    → IfOk (drawn_expressions_at config context ty most bytes) (λ drawn. length drawn.0 ≤ most)
unfolding drawn_expressions_at
expressions_few config context ty most bytes = try_grow_most (λ _. expression_item_at config context ty) config.min_elements most most []
    bytes (omega arith)
