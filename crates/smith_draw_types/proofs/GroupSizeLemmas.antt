-- The number of types in a drawn group.
use Rattle.smith_draw_types.proofs.Common.{arith, Bool, cond, Config, Context, drop, false, GroupedTypes, grow_most, IsTrue, length}
use Rattle.smith_draw_types.proofs.Common.{length-append, length-drop, List, ltb-true, nat_le, nat_lt, next_start, Range, range_at}
use Rattle.smith_draw_types.proofs.Common.{range_within, ratio_at, refl, SubType, true, ℕ, ◌&&◌, ◌+◌, ◌-◌, ◌<◌, ◌||◌, ◌≡◌, ◌≤◌}
use Rattle.std.proofs.lemmas.List.{length-take}
use Rattle.std.proofs.lemmas.Bool.{leb-true}
use Rattle.smith_bytes.proofs.GrownLemmas.{grow_least}
use Rattle.smith_types.specs.Types.{AreConsecutive}
use Rattle.smith_draw_types.specs.Grounding.{over}
use Rattle.smith_draw_types.specs.Choices.{chosen_at}
use Rattle.smith_draw_types.specs.SubTypes.{sub_type_at}
use Rattle.smith_draw_types.specs.RecGroups.{types_left, types_until_at, group_size_at, new_group_at, members, may_be_cloned, with_clone}
use Rattle.smith_draw_types.specs.RecGroups.{clone_rec_group_at, clone_wanted_at, cloned_or_new_at, rec_group_at}
use Rattle.smith_draw_types.proofs.ValueTypeLemmas.{wanted_by}
use Rattle.smith_draw_types.proofs.SubTypeLemmas.{cond_where}
use Rattle.smith_draw_types.proofs.SupertypeLemmas.{chosen_of}
use Rattle.smith_draw_types.proofs.CopiesLoop.{IsWithin, group_within}

range_above : (lo hi : ℕ) (bytes : List ℕ) → lo ≤ (range_at lo hi bytes).0
unfolding range_at
range_above lo hi bytes = omega arith

-- a group adds at most as many types as fit, and at least one if it must not be empty
pub record HasMore (config : Config) (allow_empty : Bool) (space more : GroupedTypes) : Type 0 where
  pub most : length more.types ≤ config.max_types
  pub kept : length space.types ≤ length more.types
  pub some : allow_empty ≡ false → length space.types < length more.types

size_by : (gc allow_empty : Bool) (most : ℕ) (bytes : List ℕ) → 0 < most
    → ((cond {A = ℕ × List ℕ} gc (range_at (cond allow_empty 0 1) most bytes) (1, bytes)).0 ≤ most)
    × (allow_empty ≡ false → 1 ≤ (cond {A = ℕ × List ℕ} gc (range_at (cond allow_empty 0 1) most bytes) (1, bytes)).0)
size_by true true most bytes some = (range_within 0 most bytes (omega arith), λ e. cc)
size_by true false most bytes some = (range_within 1 most bytes (omega arith), λ e. range_above 1 most bytes)
size_by false allow_empty most bytes some = (omega arith, λ e. omega arith)

-- extending types to `limit` types makes `limit` types
pub types_until_length : (config : Config) (context : Context) (limit : ℕ) (types : List SubType) (bytes : List ℕ) → length types ≤ limit
    → length (types_until_at config context limit types bytes).0 ≡ limit
unfolding types_until_at
types_until_length config context limit types bytes le =
    let draw = λ (made : List SubType). sub_type_at config (over context made) limit in
    let most = grow_most draw limit (limit - length types) limit types bytes (omega arith) in
    let least = grow_least draw limit (limit - length types) types bytes (omega arith) in
    omega (arith, most, least)

pub new_group_more : (config : Config) (context : Context) (allow_empty : Bool) (space : GroupedTypes) (bytes : List ℕ)
    → length space.types < config.max_types → HasMore config allow_empty space (new_group_at config context allow_empty space bytes).0
unfolding new_group_at
new_group_more config context allow_empty space bytes room =
    let size = group_size_at config allow_empty (types_left config space) bytes in
    let (most, some) = size_by config.gc_enabled allow_empty (types_left config space) bytes (omega arith) in
    let len = types_until_length config context (length space.types + size.0) space.types size.1 (omega arith) in
    record { most = omega (arith, len, most); kept = omega (arith, len); some = λ e. let one = some e in omega (arith, len, one) }

both_true : (a b : Bool) → (a && b) ≡ true → IsTrue a × IsTrue b
both_true true true e = (refl, refl)
both_true true false e = cc
both_true false b e = cc

either_false : (a b : Bool) → IsTrue (a || b) → a ≡ false → IsTrue b
either_false true b h e = cc
either_false false b h e = h

-- the properties of a group that may be cloned
pub record IsClonable (config : Config) (allow_empty : Bool) (space : GroupedTypes) (group : Range ℕ) : Type 0 where
  pub room : group.end - group.start ≤ types_left config space
  pub some : allow_empty ≡ false → group.start < group.end

pub clonable : (config : Config) (allow_empty : Bool) (space : GroupedTypes) (group : Range ℕ)
    → may_be_cloned config allow_empty space group ≡ true → IsClonable config allow_empty space group
clonable config allow_empty space group may =
    let (kind, room) = both_true (allow_empty || nat_lt group.start group.end) (nat_le (group.end - group.start) (types_left config space))
    may in
    record {
      room = leb-true (group.end - group.start) (types_left config space) room;
      some = λ e. ltb-true group.start group.end (either_false allow_empty (nat_lt group.start group.end) kind e);
    }

-- the number of types of a group
pub members_length : (types : List SubType) (group : Range ℕ) → group.start ≤ group.end → group.end ≤ length types
    → length (members types group) ≡ group.end - group.start
members_length types group ordered inside =
    let few = length-take (group.end - group.start) (drop group.start types) in
    let rest = length-drop group.start types in
    omega (arith, few, rest)

with_clone_more : (config : Config) (allow_empty : Bool) (space : GroupedTypes) (group : Range ℕ) → IsWithin space group
    → length space.types < config.max_types → IsClonable config allow_empty space group
    → HasMore config allow_empty space (with_clone space group)
with_clone_more config allow_empty space group within room may =
    let len = members_length space.types group within.ordered within.inside in
    let longer = length-append space.types (members space.types group) in
    let fits = may.room in
    record {
      most = omega (arith, len, longer, fits);
      kept = omega (arith, longer);
      some = λ e. let one = may.some e in
          omega (arith, len, longer, one);
    }

-- a clone is drawn only if there is a group
pub clone_wanted : (config : Config) (space : GroupedTypes) (bytes : List ℕ) → IsTrue (clone_wanted_at config space bytes).0
    → IsTrue config.gc_enabled × (0 < length space.groups)
clone_wanted config space bytes h =
    let (gc, some) = wanted_by config.gc_enabled (nat_lt 0 (length space.groups)) (ratio_at 1 255 bytes) bytes h in
    (gc, ltb-true 0 (length space.groups) some)

-- the groups of a space follow one another, within its types
pub record AreWithin (space : GroupedTypes) : Type 0 where
  pub consecutive : AreConsecutive 0 space.groups
  pub within : next_start space.groups ≤ length space.types

pub chosen_within : (space : GroupedTypes) (bytes : List ℕ) → AreWithin space → 0 < length space.groups
    → IsWithin space (chosen_at (record { start = 0; end = 0 }) space.groups bytes).0
chosen_within space bytes within some = chosen_of (IsWithin space) (record { start = 0; end = 0 }) space.groups bytes some
    (λ k d inside. group_within space k d within.consecutive within.within inside)

clone_most : (config : Config) (allow_empty : Bool) (space : GroupedTypes) (group : Range ℕ) (cloned : Bool)
    → may_be_cloned config allow_empty space group ≡ cloned → IsWithin space group → length space.types < config.max_types
    → length (cond cloned (with_clone space group) space).types ≤ config.max_types
clone_most config allow_empty space group true may within room =
    (with_clone_more config allow_empty space group within room (clonable config allow_empty space group may)).most
clone_most config allow_empty space group false may within room = omega arith

pub clone_rec_group_most : (config : Config) (allow_empty : Bool) (space : GroupedTypes) (bytes : List ℕ) → AreWithin space
    → 0 < length space.groups → length space.types < config.max_types → length (clone_rec_group_at config allow_empty space bytes).1.0.types
    ≤ config.max_types
unfolding clone_rec_group_at
clone_rec_group_most config allow_empty space bytes within some room =
    let group = chosen_at (record { start = 0; end = 0 }) space.groups bytes in
    clone_most config allow_empty space group.0 (may_be_cloned config allow_empty space group.0) refl
    (chosen_within space bytes within some) room

clone_or : (config : Config) (context : Context) (space : GroupedTypes) (group : Range ℕ) (left : List ℕ) (cloned : Bool)
    → may_be_cloned config false space group ≡ cloned → IsWithin space group → length space.types < config.max_types
    → HasMore config false space (cond {A = GroupedTypes × List ℕ} (cloned || false) ((cond cloned (with_clone space group) space), left)
    (new_group_at config context false (cond cloned (with_clone space group) space) left)).0
clone_or config context space group left true may within room = with_clone_more config false space group within room
    (clonable config false space group may)
clone_or config context space group left false may within room = new_group_more config context false space left room

clone_if : (config : Config) (context : Context) (space : GroupedTypes) (group : Range ℕ) (left : List ℕ) (cloned : Bool)
    → may_be_cloned config true space group ≡ cloned → IsWithin space group → length space.types < config.max_types
    → HasMore config true space (cond {A = GroupedTypes × List ℕ} (cloned || true) ((cond cloned (with_clone space group) space), left)
    (new_group_at config context true (cond cloned (with_clone space group) space) left)).0
clone_if config context space group left true may within room = with_clone_more config true space group within room
    (clonable config true space group may)
clone_if config context space group left false may within room = record { most = omega arith; kept = omega arith; some = λ e. cc }

cloned_or_new_more : (config : Config) (context : Context) (allow_empty : Bool) (space : GroupedTypes) (bytes : List ℕ) → AreWithin space
    → 0 < length space.groups → length space.types < config.max_types
    → HasMore config allow_empty space (cloned_or_new_at config context allow_empty space bytes).0
unfolding clone_rec_group_at
cloned_or_new_more config context true space bytes within some room =
    let group = chosen_at (record { start = 0; end = 0 }) space.groups bytes in
    clone_if config context space group.0 group.1 (may_be_cloned config true space group.0) refl (chosen_within space bytes within some)
    room
cloned_or_new_more config context false space bytes within some room =
    let group = chosen_at (record { start = 0; end = 0 }) space.groups bytes in
    clone_or config context space group.0 group.1 (may_be_cloned config false space group.0) refl (chosen_within space bytes within some)
    room

pub rec_group_more : (config : Config) (context : Context) (allow_empty : Bool) (space : GroupedTypes) (bytes : List ℕ) → AreWithin space
    → length space.types < config.max_types → HasMore config allow_empty space (rec_group_at config context allow_empty space bytes).0
unfolding rec_group_at
rec_group_more config context allow_empty space bytes within room =
    let wanted = clone_wanted_at config space bytes in
    cond_where (λ (r : GroupedTypes × List ℕ). HasMore config allow_empty space r.0) wanted.0
    (cloned_or_new_at config context allow_empty space wanted.1) (new_group_at config context allow_empty space wanted.1)
    (λ on. cloned_or_new_more config context allow_empty space wanted.1 within (clone_wanted config space bytes on).1 room)
    (new_group_more config context allow_empty space wanted.1 room)
