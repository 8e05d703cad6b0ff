-- Drawn recursive groups: new groups, and clones of existing groups.
use Rattle.std.specs.Prelude.{ℕ, zero, suc, ◌-◌, ◌+◌, Bool, true, false, ◌&&◌, ◌||◌, nat_lt, nat_le, List, [], ◌∷◌, ◌++◌, length, take}
use Rattle.std.specs.Prelude.{drop, if◌then◌else◌}
use Rattle.std.specs.declared.ops.Range.{Range}
use Rattle.smith_draw_types.specs.Common.{bool_at, Config, Context, grow_at, range_at, ratio_at, SubType}
use Rattle.smith_types.specs.GroupedTypes.{GroupedTypes}
use Rattle.smith_types.specs.Types.{next_group}
use Rattle.smith_draw_types.specs.Choices.{chosen_at}
use Rattle.smith_draw_types.specs.Grounding.{over}
use Rattle.smith_draw_types.specs.SubTypes.{sub_type_at}

-- the number of types that may still be added (own rule)
abbrev pub types_left : Config → GroupedTypes → ℕ
types_left config space = config.max_types - length space.types

-- the space with a group of the types after the last group (own rule)
abbrev pub with_group : List SubType → List (Range ℕ) → GroupedTypes
with_group types groups = record { types = types; groups = groups ++ next_group types groups ∷ [] }

-- types, extended to `limit` types, each drawn over the types before it (own rule)
unfoldable pub types_until_at : Config → Context → ℕ → List SubType → List ℕ → List SubType × List ℕ
types_until_at config context limit types bytes =
    grow_at (λ made. sub_type_at config (over context made) limit) limit (limit - length types) types bytes

-- the size of a new group; 1 without garbage collection (own rule)
abbrev pub group_size_at : Config → Bool → ℕ → List ℕ → ℕ × List ℕ
group_size_at config allow_empty most bytes =
    if config.gc_enabled then range_at (if allow_empty then 0 else 1) most bytes else (1, bytes)

-- the size of a new group, then its types (own rule)
unfoldable pub new_group_at : Config → Context → Bool → GroupedTypes → List ℕ → GroupedTypes × List ℕ
new_group_at config context allow_empty space bytes =
    let size = group_size_at config allow_empty (types_left config space) bytes in
    let types = types_until_at config context (length space.types + size.0) space.types size.1 in
    (with_group types.0 space.groups, types.1)

-- the types of a group (own rule)
abbrev pub members : List SubType → Range ℕ → List SubType
members types group = take (group.end - group.start) (drop group.start types)

-- whether a group may be cloned: it has no more types than may still be added, and is not empty
-- unless that is allowed (own rule)
abbrev pub may_be_cloned : Config → Bool → GroupedTypes → Range ℕ → Bool
may_be_cloned config allow_empty space group =
    (allow_empty || nat_lt group.start group.end) && nat_le (group.end - group.start) (types_left config space)

-- the space with a clone of the group (own rule)
abbrev pub with_clone : GroupedTypes → Range ℕ → GroupedTypes
with_clone space group = with_group (space.types ++ members space.types group) space.groups

-- whether a drawn group is cloned, and the space after it (own rule)
unfoldable pub clone_rec_group_at : Config → Bool → GroupedTypes → List ℕ → Bool × (GroupedTypes × List ℕ)
clone_rec_group_at config allow_empty space bytes =
    let group = chosen_at (record { start = 0; end = 0 }) space.groups bytes in
    let cloned = may_be_cloned config allow_empty space group.0 in
    (cloned, ((if cloned then with_clone space group.0 else space), group.1))

-- whether to clone a group: with garbage collection, if there is a group, in one of 255 cases (own
-- rule)
abbrev pub clone_wanted_at : Config → GroupedTypes → List ℕ → Bool × List ℕ
clone_wanted_at config space bytes =
    if config.gc_enabled && nat_lt 0 (length space.groups) then ratio_at 1 255 bytes else (false, bytes)

-- the space after a clone, or after a new group if no group is cloned and an empty group is not
-- allowed (own rule)
abbrev pub cloned_or_new_at : Config → Context → Bool → GroupedTypes → List ℕ → GroupedTypes × List ℕ
cloned_or_new_at config context allow_empty space bytes =
    let clone = clone_rec_group_at config allow_empty space bytes in
    if clone.0 || allow_empty then clone.1 else new_group_at config context allow_empty clone.1.0 clone.1.1

-- the space after a clone or a new group (own rule)
unfoldable pub rec_group_at : Config → Context → Bool → GroupedTypes → List ℕ → GroupedTypes × List ℕ
rec_group_at config context allow_empty space bytes =
    let wanted = clone_wanted_at config space bytes in
    if wanted.0 then cloned_or_new_at config context allow_empty space wanted.1 else new_group_at config context allow_empty space wanted.1

-- the space after at most `most` groups, none of them empty, until there are enough types (own
-- rule)
unfoldable pub least_types_at : Config → Context → ℕ → GroupedTypes → List ℕ → GroupedTypes × List ℕ
least_types_at config context zero space bytes = (space, bytes)
least_types_at config context (suc most) space bytes =
    let grown = rec_group_at config context false space bytes in
    if nat_lt (length space.types) config.min_types then least_types_at config context most grown.0 grown.1 else (space, bytes)

-- the space after at most `most` groups, while there may be more types and a drawn bool is true
-- (own rule)
unfoldable pub more_types_at : Config → Context → ℕ → GroupedTypes → List ℕ → GroupedTypes × List ℕ
more_types_at config context zero space bytes = (space, bytes)
more_types_at config context (suc most) space bytes =
    let go = bool_at bytes in
    let grown = rec_group_at config context true space go.1 in
    if nat_lt (length space.types) config.max_types
    then (if go.0 then more_types_at config context most grown.0 grown.1 else (space, go.1))
    else (space, bytes)

-- the space after groups up to the minimum number of types, then further groups; each group but the
-- last takes a byte (own rule)
unfoldable pub types_at : Config → Context → GroupedTypes → List ℕ → GroupedTypes × List ℕ
types_at config context space bytes =
    let least = least_types_at config context config.min_types space bytes in
    more_types_at config context (length least.1 + 1) least.0 least.1
