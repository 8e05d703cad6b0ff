-- Drawn subtypes, and the types that may have subtypes.
use Rattle.std.specs.Prelude.{◌≡◌, ℕ, suc, ◌<◌, ◌+◌, Bool, true, false, not, ◌&&◌, nat_lt, Option, Some, None, List, [], ◌∷◌, length}
use Rattle.std.specs.Prelude.{slice_get, if◌then◌else◌}
use Rattle.smith_draw_types.specs.Common.{bool_at, Config, Context, ratio_at, SubType}
use Rattle.smith_types.specs.Types.{IsAlike}
use Rattle.smith_types.specs.GroupedTypes.{HasDepth}
use Rattle.smith_draw_types.specs.Choices.{chosen_at}
use Rattle.smith_draw_types.specs.Offered.{ancestors}
use Rattle.smith_draw_types.specs.CompositeTypes.{composite_type_at}
use Rattle.smith_draw_types.specs.MatchingComposites.{matching_composite_type_at}

-- the number of types on the path along declared supertypes of the type at this index, including
-- the type itself (own rule)
abbrev pub depth_at : List SubType → ℕ → ℕ
depth_at types index = suc (length (ancestors types index))

-- whether the type at this index may have subtypes: it is not final, and its depth is below 60 (own
-- rule)
abbrev pub may_have_subtypes : List SubType → ℕ → SubType → Bool
may_have_subtypes types index t = not t.is_final && nat_lt (depth_at types index) 60

-- the declared supertype, if any, exists, has the same kind and sharedness (Validation, Recursive
-- Types), and may have subtypes (own rule)
pub record HasSuperType (types : List SubType) (t : SubType) : Type 0 where
  pub below : (s : ℕ) → t.supertype ≡ Some s → (u : SubType) × (slice_get types s ≡ Some u) × IsAlike t u
  pub allowed : (s : ℕ) (u : SubType) → t.supertype ≡ Some s → slice_get types s ≡ Some u → may_have_subtypes types s u ≡ true

-- some type may have subtypes: it is not final, and its depth is below 60 (own rule)
pub record SomeMayHaveSubtypes (types : List SubType) : Type 0 where
  pub index : ℕ
  pub ty : SubType
  pub depth : ℕ
  pub stands : slice_get types index ≡ Some ty
  pub not_final : ty.is_final ≡ false
  pub deep : HasDepth types index depth
  pub above : depth < 60

-- the indices, starting at `start`, of the types that may have subtypes (own rule)
abbrev pub supertypes_from : List SubType → ℕ → List SubType → List ℕ
supertypes_from types start [] = []
supertypes_from types start (t ∷ more) =
    if may_have_subtypes types start t then start ∷ supertypes_from types (start + 1) more
    else supertypes_from types (start + 1) more

-- the indices of the types that may have subtypes (own rule)
unfoldable pub supertypes : List SubType → List ℕ
supertypes types = supertypes_from types 0 types

-- whether a type without a supertype is final; without garbage collection, always (own rule)
abbrev pub is_final_at : Config → List ℕ → Bool × List ℕ
is_final_at config bytes = if config.gc_enabled then bool_at bytes else (true, bytes)

-- a type without a supertype: whether it is final, then the composite type (own rule)
unfoldable pub root_type_at : Config → Context → ℕ → List ℕ → SubType × List ℕ
root_type_at config context limit bytes =
    let is_final = is_final_at config bytes in
    let composite = composite_type_at config context limit is_final.1 in
    (record { is_final = is_final.0; supertype = None; composite_type = composite.0 }, composite.1)

-- a subtype of this type, if it exists: a matching composite type, then whether it is final (own
-- rule)
abbrev pub sub_type_below_at : Config → Context → ℕ → ℕ → Option SubType → List ℕ → SubType × List ℕ
sub_type_below_at config context limit index None bytes = root_type_at config context limit bytes
sub_type_below_at config context limit index (Some supertype) bytes =
    let composite = matching_composite_type_at config context limit supertype.composite_type bytes in
    let is_final = bool_at composite.1 in
    (record { is_final = is_final.0; supertype = Some index; composite_type = composite.0 }, is_final.1)

-- a subtype of a type whose index is drawn among these (own rule)
unfoldable pub sub_type_of_at : Config → Context → ℕ → List ℕ → List ℕ → SubType × List ℕ
sub_type_of_at config context limit indices bytes =
    let index = chosen_at 0 indices bytes in
    sub_type_below_at config context limit index.0 (slice_get context.types index.0) index.1

-- whether to draw a supertype, given the number of types that may have subtypes: with garbage
-- collection, if there are any, in one of 32 cases (own rule)
abbrev pub supertype_wanted_at : Config → ℕ → List ℕ → Bool × List ℕ
supertype_wanted_at config count bytes =
    if config.gc_enabled && nat_lt 0 count then ratio_at 1 32 bytes else (false, bytes)

-- a subtype of a type that may have subtypes, or a type without a supertype (own rule)
unfoldable pub sub_type_at : Config → Context → ℕ → List ℕ → SubType × List ℕ
sub_type_at config context limit bytes =
    let wanted = supertype_wanted_at config (length (supertypes context.types)) bytes in
    if wanted.0 then sub_type_of_at config context limit (supertypes context.types) wanted.1
    else root_type_at config context limit wanted.1
