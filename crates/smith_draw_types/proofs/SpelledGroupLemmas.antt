-- From a source that starts with a piece that spells groups, these groups are drawn, and the bytes
-- after the piece remain.
use Rattle.smith_draw_types.proofs.Common.{[], All-nil, ap, append-nil, append_assoc, arith, Bool, bool_at, bool_read, cond, Config}
use Rattle.smith_draw_types.proofs.Common.{Context, false, GroupedTypes, IsSanitized, joined_parts, length, length-append, List, lt-ltb}
use Rattle.smith_draw_types.proofs.Common.{nat_lt, next_start, number_read, range_at, ratio_at, refl, SpellsRefusal, subst, SubType, suc}
use Rattle.smith_draw_types.proofs.Common.{sym, true, Where, zero, ℕ, ◌&&◌, ◌++◌, ◌+◌, ◌-◌, ◌<◌, ◌∙◌, ◌∷◌, ◌≡◌, ◌≤◌}
use Rattle.std.specs.List.{All, flat_map}
use Rattle.smith_bytes.specs.Spelling.{SpellsBool}
use Rattle.smith_types.proofs.SpaceLemmas.{next_start-push}
use Rattle.smith_config.specs.Shapes.{ranges_from, space_of}
use Rattle.smith_draw_types.specs.RecGroups.{types_left, with_group, types_until_at, group_size_at, new_group_at, clone_wanted_at}
use Rattle.smith_draw_types.specs.RecGroups.{rec_group_at, least_types_at, more_types_at, types_at}
use Rattle.smith_draw_types.specs.Spelling.{IsRoot, ReferBack, GroupsFit, SpellsSize, SpellsGroup, SpellsGroups}
use Rattle.smith_draw_types.proofs.SpelledValueLemmas.{refused_where}
use Rattle.smith_draw_types.proofs.SpelledSubTypeLemmas.{and_on, and_off, none_asked, sub_types_read}

size_with : (on : Bool) (drawn : ℕ × List ℕ) (bytes : List ℕ) → on ≡ true → cond on drawn (1, bytes) ≡ drawn
size_with true drawn bytes e = refl
size_with false drawn bytes e = cc

size_without : (on : Bool) (drawn : ℕ × List ℕ) (bytes : List ℕ) → on ≡ false → cond on drawn (1, bytes) ≡ (1, bytes)
size_without true drawn bytes e = cc
size_without false drawn bytes e = refl

-- no clone is drawn, and a size is drawn
record IsSized (config : Config) (space : GroupedTypes) (size : ℕ) (bytes after : List ℕ) : Type 0 where
  pub following : List ℕ
  pub new : clone_wanted_at config space bytes ≡ (false, following)
  pub sized : group_size_at config true (types_left config space) following ≡ (size, after)

size_read : (gc : Bool) (config : Config) (space : GroupedTypes) (size : ℕ) (piece after : List ℕ) → config.gc_enabled ≡ gc
    → SpellsSize gc config (nat_lt 0 (length space.groups)) (types_left config space) size piece
    → IsSized config space size (piece ++ after) after
size_read true config space size piece after e h =
    let some = nat_lt 0 (length space.groups) in
    let rest = h.second ++ after in
    let refusal = subst (λ (asked : Bool). Where asked (SpellsRefusal 255) h.first) (sym (and_on config.gc_enabled some e)) h.is_first in
    record {
      following = rest;
      new = rw (joined_parts h after) (refused_where (config.gc_enabled && some) 255 h.first rest refusal);
      sized = size_with config.gc_enabled (range_at 0 (types_left config space) rest) rest e ∙ number_read size 0 (types_left config space)
          h.second after h.is_second;
    }
size_read false config space size piece after e h =
    let some = nat_lt 0 (length space.groups) in
    let bytes = piece ++ after in
    let none : bytes ≡ after = ap (λ (front : List ℕ). front ++ after) h.1 in
    record {
      following = bytes;
      new = none_asked (config.gc_enabled && some) (ratio_at 1 255 bytes) bytes (and_off config.gc_enabled some e);
      sized = size_without config.gc_enabled (range_at 0 (types_left config space) bytes) bytes e ∙ rw (none, h.0) refl;
    }

group_of : (config : Config) (context : Context) (space : GroupedTypes) (group : List SubType) (bytes following mid after : List ℕ)
    → clone_wanted_at config space bytes ≡ (false, following) → group_size_at config true (types_left config space) following
    ≡ (length group, mid)
    → types_until_at config context (length space.types + length group) space.types mid ≡ (space.types ++ group, after)
    → rec_group_at config context true space bytes ≡ (with_group (space.types ++ group) space.groups, after)
unfolding rec_group_at new_group_at
group_of config context space group bytes following mid after new sized types = rw (new, sized, types) refl

-- a group is drawn, and no type has a supertype afterwards
pub record IsAdded (config : Config) (context : Context) (space : GroupedTypes) (group : List SubType) (bytes after : List ℕ) : Type 0 where
  pub made : rec_group_at config context true space bytes ≡ (with_group (space.types ++ group) space.groups, after)
  pub roots : All IsRoot (space.types ++ group)

pub group_read : (config : Config) (context : Context) (same : context.features.custom_descriptors ≡ config.custom_descriptors_enabled)
    (space : GroupedTypes) (group : List SubType) (piece after : List ℕ) → IsSanitized config → All IsRoot space.types
    → ReferBack config space.types group
    → SpellsGroup config space.types (nat_lt 0 (length space.groups)) group piece → IsAdded config context space group (piece ++ after)
    after
unfolding types_until_at SpellsGroup
group_read config context same space group piece after sanitized roots back h =
    let rest = h.second ++ after in
    let limit = length space.types + length group in
    let sized = size_read config.gc_enabled config space (length group) h.first rest refl h.is_first in
    let following = sub_types_read config context same limit space.types group h.second after sanitized roots back refl h.is_second in
    let count : limit - length space.types ≡ length group = omega arith in
    let types : types_until_at config context limit space.types rest ≡ (space.types ++ group, after) = rw count following.made in
    record {
      made = rw (joined_parts h after) (group_of config context space group (h.first ++ rest) sized.following rest after sized.new
          sized.sized types);
      roots = following.roots;
    }

-- a space with groups appended
abbrev pub with_groups : GroupedTypes → List (List SubType) → GroupedTypes
with_groups space [] = space
with_groups space (group ∷ groups) = with_groups (with_group (space.types ++ group) space.groups) groups

ended : (room : Bool) (space : GroupedTypes) (piece after : List ℕ) (more : GroupedTypes × List ℕ) → Where room (SpellsBool false) piece
    → cond room (cond (bool_at (piece ++ after)).0 more (space, (bool_at (piece ++ after)).1)) (space, piece ++ after) ≡ (space, after)
ended true space piece after more h = rw (bool_read false piece after h) refl
ended false space piece after more h = rw h refl

groups_read : (config : Config) (context : Context) (same : context.features.custom_descriptors ≡ config.custom_descriptors_enabled)
    (turns : ℕ) (space : GroupedTypes) (stands : Bool) (groups : List (List SubType)) (piece after : List ℕ) → IsSanitized config
    → stands ≡ nat_lt 0 (length space.groups) → length groups < turns → All IsRoot space.types
    → GroupsFit config space.types groups → SpellsGroups config space.types stands groups piece → more_types_at config context turns space
    (piece ++ after) ≡ (with_groups space groups, after)
unfolding more_types_at SpellsGroups
groups_read config context same zero space stands groups piece after sanitized some enough roots fit h = absurd (omega arith)
groups_read config context same (suc turns) space stands [] piece after sanitized some enough roots fit h =
    let bytes = piece ++ after in
    let grown = rec_group_at config context true space (bool_at bytes).1 in
    ended (nat_lt (length space.types) config.max_types) space piece after (more_types_at config context turns grown.0 grown.1) h
groups_read config context same (suc turns) space stands (group ∷ groups) piece after sanitized some enough roots fit h =
    let rest = h.is_second in
    let later = rest.second ++ after in
    let (filled, room, back, others) = fit in
    let next = with_group (space.types ++ group) space.groups in
    let spelled = subst (λ (one : Bool). SpellsGroup config space.types one group rest.first) some rest.is_first in
    let added = group_read config context same space group rest.first later sanitized roots back spelled in
    let stand : true ≡ nat_lt 0 (length next.groups) = sym (lt-ltb 0 (length next.groups) (simp length-append (omega arith))) in
    let below : length space.types < config.max_types = omega arith in
    let again = groups_read config context same turns next true groups rest.second after sanitized stand (omega arith) added.roots others
    rest.is_second in
    rw (
      joined_parts h after,
      joined_parts rest after,
      lt-ltb (length space.types) config.max_types below,
      bool_read true h.first (rest.first ++ later) h.is_first,
      added.made,
    ) again

-- each group takes at least a byte
groups_short : (config : Config) (before : List SubType) (stands : Bool) (groups : List (List SubType)) (piece : List ℕ)
    → SpellsGroups config before stands groups piece → length groups ≤ length piece
unfolding SpellsGroups
groups_short config before stands [] piece h = omega arith
groups_short config before stands (group ∷ groups) piece h =
    let rest = h.is_second in
    let fewer = groups_short config (before ++ group) true groups rest.second rest.is_second in
    let asks : length h.first ≡ 1 = ap length h.is_first.whole in
    let whole : length piece ≡ length h.first + length h.second = ap length h.whole ∙ length-append h.first h.second in
    let inner : length h.second ≡ length rest.first + length rest.second = ap length rest.whole ∙ length-append rest.first rest.second in
    omega arith

-- groups appended to a space whose groups cover its types
with_groups_is : (space : GroupedTypes) (groups : List (List SubType)) → next_start space.groups ≡ length space.types
    → with_groups space groups ≡ record {
      types = space.types ++ flat_map (λ group. group) groups;
      groups = space.groups ++ ranges_from
          (length space.types) groups;
    }
with_groups_is space [] covered = rw (append-nil, append-nil) refl
with_groups_is space (group ∷ groups) covered =
    let types = space.types ++ group in
    let again = with_groups_is (with_group types space.groups) groups (next_start-push types space.groups) in
    again ∙ simp (append_assoc, length-append, covered)

least_none : (config : Config) (context : Context) (least : ℕ) (space : GroupedTypes) (bytes : List ℕ) → least ≡ 0
    → least_types_at config context least space bytes ≡ (space, bytes)
unfolding least_types_at
least_none config context zero space bytes e = refl
least_none config context (suc least) space bytes e = absurd (omega arith)

pub types_read : (config : Config) (context : Context) (same : context.features.custom_descriptors ≡ config.custom_descriptors_enabled)
    (groups : List (List SubType)) (piece after : List ℕ) → IsSanitized config → config.min_types ≡ 0 → GroupsFit config [] groups
    → SpellsGroups config [] false groups piece
    → types_at config context (space_of []) (piece ++ after) ≡ (space_of groups, after)
unfolding types_at
types_read config context same groups piece after sanitized least fit h =
    let bytes = piece ++ after in
    let short = groups_short config [] false groups piece h in
    let long = length-append piece after in
    let enough : length groups < length bytes + 1 = omega arith in
    rw (least_none config context config.min_types (space_of []) bytes least)
    (groups_read config context same (length bytes + 1) (space_of []) false groups piece after sanitized refl enough (All-nil IsRoot) fit h
    ∙ ap (λ (space : GroupedTypes). (space, after)) (with_groups_is (space_of []) groups refl))
