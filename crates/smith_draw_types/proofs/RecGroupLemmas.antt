-- Drawn groups are valid, and respect the bounds on the number of types.
use Rattle.smith_draw_types.proofs.Common.{[], append-nil, append_assoc, AreTypesValid, arith, Bool, bool_at, cond, cond_both, Config}
use Rattle.smith_draw_types.proofs.Common.{Context, false, features_of, get_or, goes_at, GroupedTypes, grow_at, IsSanitized, length}
use Rattle.smith_draw_types.proofs.Common.{length-append, List, ltb-true, nat_lt, Range, range_at, recursion_from_All, refl, slice_get}
use Rattle.smith_draw_types.proofs.Common.{slice_get-get_or, slice_get-grown, slice_get_within, Some, subst, SubType, suc, sym, true, zero}
use Rattle.smith_draw_types.proofs.Common.{ℕ, ◌++◌, ◌+◌, ◌-◌, ◌<◌, ◌||◌, ◌∷◌, ◌≡◌, ◌≤◌}
use Rattle.std.specs.List.{AllByRecursion as Each}
use Rattle.std.proofs.lemmas.Bool.{ltb-false}
use Rattle.std.proofs.lemmas.List.Elements.{All-drop, All-take}
use Rattle.smith_types.specs.Syntax.Features.{Features}
use Rattle.smith_types.specs.GroupedTypes.{IsSound}
use Rattle.smith_types.specs.OpenTypes.{AreTypesOpen}
use Rattle.smith_types.specs.ValidTypes.{IsGroupValid}
use Rattle.smith_types.proofs.GroupGrowthLemmas.{AreTypesOpen-at, AreTypesOpen-start, AreTypesOpen-push, AreTypesOpen-close}
use Rattle.smith_draw_types.specs.Grounding.{over}
use Rattle.smith_draw_types.specs.Choices.{chosen_at}
use Rattle.smith_draw_types.specs.SubTypes.{sub_type_at}
use Rattle.smith_draw_types.specs.RecGroups.{types_left, types_until_at, group_size_at, new_group_at, members, may_be_cloned, with_clone}
use Rattle.smith_draw_types.specs.RecGroups.{clone_rec_group_at, clone_wanted_at, cloned_or_new_at, rec_group_at, least_types_at}
use Rattle.smith_draw_types.specs.RecGroups.{more_types_at, types_at}
use Rattle.smith_draw_types.proofs.SubTypeLemmas.{cond_where, sub_type_valid, sub_type_follows}
use Rattle.smith_draw_types.proofs.SupertypeLemmas.{chosen_of}
use Rattle.smith_draw_types.proofs.CopiesLoop.{IsWithin}
use Rattle.smith_draw_types.proofs.GroupSizeLemmas.{AreWithin, types_until_length, members_length, clone_wanted, chosen_within}
use Rattle.smith_draw_types.proofs.GroupSizeLemmas.{rec_group_more}

-- types drawn in order are valid in the group under construction
grown_open : (config : Config) (context : Context) (space : GroupedTypes) (limit least most : ℕ) (types : List SubType) (bytes : List ℕ)
    → IsSanitized config → length types + most ≤ limit → AreTypesOpen (features_of config) limit
    (record { types = types; groups = space.groups })
    → AreTypesOpen (features_of config) limit
    (record {
      types = (grow_at (λ made. sub_type_at config (over context made) limit) least most types bytes).0;
      groups = space.groups;
    })
unfolding grow_at
grown_open config context space limit least zero types bytes sanitized le now = now
grown_open config context space limit least (suc most) types bytes sanitized le now =
    let draw = λ (made : List SubType). sub_type_at config (over context made) limit in
    let go = goes_at (nat_lt (length types) least) bytes in
    let x = draw types go.1 in
    let open_types : GroupedTypes = record { types = types; groups = space.groups } in
    let pushed = AreTypesOpen-push (features_of config) limit types space.groups x.0 now (omega arith)
    (sub_type_follows config (over context types) limit go.1).below (sub_type_valid config context open_types limit go.1 sanitized now)
    in
    cond_both (λ (r : List SubType × List ℕ). AreTypesOpen (features_of config) limit (record { types = r.0; groups = space.groups })) go.0
    (grow_at draw least most (types ++ x.0 ∷ []) x.1) (types, go.1)
    (grown_open config context space limit least most (types ++ x.0 ∷ []) x.1 sanitized (omega (arith, length-append types (x.0 ∷ [])))
    pushed) now

size_alone : (gc : Bool) (drawn : ℕ × List ℕ) (bytes : List ℕ) → gc ≡ false → (cond gc drawn (1, bytes)).0 ≡ 1
size_alone true drawn bytes e = cc
size_alone false drawn bytes e = refl

new_group_valid : (config : Config) (context : Context) (allow_empty : Bool) (space : GroupedTypes) (bytes : List ℕ) → IsSanitized config
    → AreTypesValid (features_of config) space → AreTypesValid (features_of config) (new_group_at config context allow_empty space bytes).0
unfolding new_group_at types_until_at
new_group_valid config context allow_empty space bytes sanitized valid =
    let size = group_size_at config allow_empty (types_left config space) bytes in
    let limit = length space.types + size.0 in
    let types = types_until_at config context limit space.types size.1 in
    let len = types_until_length config context limit space.types size.1 (omega arith) in
    let whole = valid.covered.whole in
    let start = AreTypesOpen-start (features_of config) limit space (omega arith) valid in
    let made = grown_open config context space limit limit (limit - length space.types) space.types size.1 sanitized (omega arith) start in
    AreTypesOpen-close (features_of config) types.0 space.groups
    (subst (λ (n : ℕ). AreTypesOpen (features_of config) n (record { types = types.0; groups = space.groups })) (sym len) made)
    (λ off. let one = size_alone config.gc_enabled (range_at (cond allow_empty 0 1) (types_left config space) bytes) bytes off in
    omega (arith, len, one, whole))

-- a type is among the types
pub record IsStanding (types : List SubType) (t : SubType) : Type 0 where
  pub place : ℕ
  pub at : slice_get types place ≡ Some t

pub each_grown : (types : List SubType) (t : SubType) (more : List SubType) → Each (IsStanding types) more
    → Each (IsStanding (types ++ t ∷ [])) more
each_grown types t [] h = tt
each_grown types t (u ∷ more) h = (
  record { place = h.0.place; at = slice_get-grown types (t ∷ []) h.0.place u h.0.at },
  each_grown types t more h.1,
)

i_inside : (types : List SubType) (i : ℕ) (t : SubType) → slice_get types i ≡ Some t → i < length types
i_inside types i t at = slice_get_within types i t at

-- existing types may be added again to the group under construction
copies_open : (features : Features) (end : ℕ) (space : GroupedTypes) (types more : List SubType)
    → AreTypesOpen features end (record { types = types; groups = space.groups }) → length types + length more ≤ end
    → Each (IsStanding types) more
    → AreTypesOpen features end (record { types = types ++ more; groups = space.groups })
copies_open features end space types [] now le h =
    subst (λ (ts : List SubType). AreTypesOpen features end (record { types = ts; groups = space.groups })) (sym (append-nil types)) now
copies_open features end space types (t ∷ more) now le h =
    let i = h.0.place in
    let stands = h.0.at in
    let pushed =
    AreTypesOpen-push features end types space.groups t now (omega arith)
    (λ s up.
    let (before, alike) = now.orderly.under i s t stands up in
    let inside = i_inside types i t stands in
    let above = slice_get-get_or types s t (omega arith) in
    (get_or types s t, above, alike (get_or types s t) above))
    (AreTypesOpen-at features end (record { types = types; groups = space.groups }) now i t stands) in
    subst (λ (ts : List SubType). AreTypesOpen features end (record { types = ts; groups = space.groups }))
    (append_assoc types (t ∷ []) more)
    (copies_open features end space (types ++ t ∷ []) more pushed (omega (arith, length-append types (t ∷ [])))
    (each_grown types t more h.1))

pub members_stand : (types : List SubType) (group : Range ℕ) → Each (IsStanding types) (members types group)
members_stand types group =
    recursion_from_All (IsStanding types) (members types group) (All-take (IsStanding types) (group.end - group.start) _
    (All-drop (IsStanding types) group.start types (λ k d inside. record { place = k; at = slice_get-get_or types k d inside })))

with_clone_valid : (features : Features) (space : GroupedTypes) (group : Range ℕ) → AreTypesValid features space → IsWithin space group
    → (features.gc ≡ false → group.end ≡ group.start + 1) → AreTypesValid features (with_clone space group)
with_clone_valid features space group valid within single =
    let more = members space.types group in
    let longer = length-append space.types more in
    let whole = valid.covered.whole in
    let len = members_length space.types group within.ordered within.inside in
    let start = AreTypesOpen-start features (length space.types + length more) space (omega arith) valid in
    let made = copies_open features (length space.types + length more) space space.types more start (omega arith)
    (members_stand space.types group) in
    AreTypesOpen-close features (space.types ++ more) space.groups
    (subst (λ (n : ℕ). AreTypesOpen features n (record { types = space.types ++ more; groups = space.groups })) (sym longer) made)
    (λ off. let one = single off in omega (arith, longer, len, one, whole))

-- the groups of every type space are within its types
pub sound_within : (space : GroupedTypes) → IsSound space → AreWithin space
sound_within space sound = record { consecutive = sound.consecutive; within = sound.within }

pub within_of : (features : Features) (space : GroupedTypes) → AreTypesValid features space → AreWithin space
within_of features space valid = record { consecutive = valid.covered.consecutive; within = let whole = valid.covered.whole in omega arith }

chosen_clone_valid : (config : Config) (space : GroupedTypes) (bytes : List ℕ) → AreTypesValid (features_of config) space
    → 0 < length space.groups → AreTypesValid (features_of config)
    (with_clone space (chosen_at (record { start = 0; end = 0 }) space.groups bytes).0)
chosen_clone_valid config space bytes valid some =
    let group = chosen_at (record { start = 0; end = 0 }) space.groups bytes in
    let h = chosen_of (IsGroupValid (features_of config) space.types) (record { start = 0; end = 0 }) space.groups bytes some
    valid.groups in
    with_clone_valid (features_of config) space group.0 valid (chosen_within space bytes (within_of (features_of config) space valid) some)
    h.single

pub clone_rec_group_valid : (config : Config) (allow_empty : Bool) (space : GroupedTypes) (bytes : List ℕ)
    → AreTypesValid (features_of config) space → 0 < length space.groups → AreTypesValid (features_of config)
    (clone_rec_group_at config allow_empty space bytes).1.0
unfolding clone_rec_group_at
clone_rec_group_valid config allow_empty space bytes valid some =
    let group = chosen_at (record { start = 0; end = 0 }) space.groups bytes in
    cond_both (AreTypesValid (features_of config)) (may_be_cloned config allow_empty space group.0) (with_clone space group.0) space
    (chosen_clone_valid config space bytes valid some) valid

cloned_or_new_valid : (config : Config) (context : Context) (allow_empty : Bool) (space : GroupedTypes) (bytes : List ℕ)
    → IsSanitized config → AreTypesValid (features_of config) space → 0 < length space.groups → AreTypesValid (features_of config)
    (cloned_or_new_at config context allow_empty space bytes).0
cloned_or_new_valid config context allow_empty space bytes sanitized valid some =
    let clone = clone_rec_group_at config allow_empty space bytes in
    let cloned = clone_rec_group_valid config allow_empty space bytes valid some in
    cond_both (λ (r : GroupedTypes × List ℕ). AreTypesValid (features_of config) r.0) (clone.0 || allow_empty) clone.1
    (new_group_at config context allow_empty clone.1.0 clone.1.1) cloned
    (new_group_valid config context allow_empty clone.1.0 clone.1.1 sanitized cloned)

pub rec_group_valid : (config : Config) (context : Context) (allow_empty : Bool) (space : GroupedTypes) (bytes : List ℕ)
    → IsSanitized config → AreTypesValid (features_of config) space → AreTypesValid (features_of config)
    (rec_group_at config context allow_empty space bytes).0
unfolding rec_group_at
rec_group_valid config context allow_empty space bytes sanitized valid =
    let wanted = clone_wanted_at config space bytes in
    cond_where (λ (r : GroupedTypes × List ℕ). AreTypesValid (features_of config) r.0) wanted.0
    (cloned_or_new_at config context allow_empty space wanted.1) (new_group_at config context allow_empty space wanted.1)
    (λ on. cloned_or_new_valid config context allow_empty space wanted.1 sanitized valid (clone_wanted config space bytes on).1)
    (new_group_valid config context allow_empty space wanted.1 sanitized valid)

-- a property preserved by each added group is preserved by the loops
pub least_keeps : (config : Config) (context : Context) (P : GroupedTypes → Type 0)
    → ((space : GroupedTypes) (bytes : List ℕ) → length space.types < config.min_types → P space
    → P (rec_group_at config context false space bytes).0) → (turns : ℕ) (space : GroupedTypes) (bytes : List ℕ) → P space
    → P (least_types_at config context turns space bytes).0
unfolding least_types_at
least_keeps config context P step zero space bytes h = h
least_keeps config context P step (suc turns) space bytes h =
    let grown = rec_group_at config context false space bytes in
    cond_where (λ (r : GroupedTypes × List ℕ). P r.0) (nat_lt (length space.types) config.min_types)
    (least_types_at config context turns grown.0 grown.1) (space, bytes)
    (λ few. least_keeps config context P step turns grown.0 grown.1 (step space bytes (ltb-true (length space.types) config.min_types few)
    h)) h

pub more_keeps : (config : Config) (context : Context) (P : GroupedTypes → Type 0)
    → ((space : GroupedTypes) (bytes : List ℕ) → length space.types < config.max_types → P space
    → P (rec_group_at config context true space bytes).0) → (turns : ℕ) (space : GroupedTypes) (bytes : List ℕ) → P space
    → P (more_types_at config context turns space bytes).0
unfolding more_types_at
more_keeps config context P step zero space bytes h = h
more_keeps config context P step (suc turns) space bytes h =
    let go = bool_at bytes in
    let grown = rec_group_at config context true space go.1 in
    cond_where (λ (r : GroupedTypes × List ℕ). P r.0) (nat_lt (length space.types) config.max_types)
    (cond go.0 (more_types_at config context turns grown.0 grown.1) (space, go.1)) (space, bytes)
    (λ few.
    cond_both (λ (r : GroupedTypes × List ℕ). P r.0) go.0 (more_types_at config context turns grown.0 grown.1) (space, go.1)
    (more_keeps config context P step turns grown.0 grown.1 (step space go.1 (ltb-true (length space.types) config.max_types few) h)) h) h

pub types_valid : (config : Config) (context : Context) (space : GroupedTypes) (bytes : List ℕ) → IsSanitized config
    → AreTypesValid (features_of config) space → AreTypesValid (features_of config) (types_at config context space bytes).0
unfolding types_at
types_valid config context space bytes sanitized valid =
    let P = λ (s : GroupedTypes). AreTypesValid (features_of config) s in
    let least = least_types_at config context config.min_types space bytes in
    more_keeps config context P (λ s after room h. rec_group_valid config context true s after sanitized h) (length least.1 + 1) least.0
    least.1
    (least_keeps config context P (λ s after few h. rec_group_valid config context false s after sanitized h) config.min_types space bytes
    valid)

-- valid types, at most as many as permitted
record IsBounded (config : Config) (space : GroupedTypes) : Type 0 where
  valid : AreTypesValid (features_of config) space
  most : length space.types ≤ config.max_types

bounded_step : (config : Config) (context : Context) (allow_empty : Bool) (space : GroupedTypes) (bytes : List ℕ) → IsSanitized config
    → length space.types < config.max_types → AreTypesValid (features_of config) space
    → IsBounded config (rec_group_at config context allow_empty space bytes).0
bounded_step config context allow_empty space bytes sanitized room valid = record {
  valid = rec_group_valid config context allow_empty space bytes sanitized valid;
  most = (rec_group_more config context allow_empty space bytes (within_of (features_of config) space valid) room).most;
}

pub types_most : (config : Config) (context : Context) (space : GroupedTypes) (bytes : List ℕ) → IsSanitized config
    → config.min_types ≤ config.max_types → AreTypesValid (features_of config) space → length space.types ≤ config.max_types
    → length (types_at config context space bytes).0.types ≤ config.max_types
unfolding types_at
types_most config context space bytes sanitized ordered valid le =
    let least = least_types_at config context config.min_types space bytes in
    (more_keeps config context (IsBounded config) (λ s after room h. bounded_step config context true s after sanitized room h.valid)
    (length least.1 + 1) least.0 least.1
    (least_keeps config context (IsBounded config) (λ s after few h. bounded_step config context false s after sanitized (omega arith)
    h.valid) config.min_types space bytes (record { valid = valid; most = le }))).most

-- valid types, at least as many as required
record IsEnough (config : Config) (space : GroupedTypes) : Type 0 where
  valid : AreTypesValid (features_of config) space
  least : config.min_types ≤ length space.types

least_by : (config : Config) (context : Context) (turns : ℕ) (space : GroupedTypes) (bytes : List ℕ) (grown : GroupedTypes × List ℕ)
    (b : Bool) → nat_lt (length space.types) config.min_types ≡ b → AreTypesValid (features_of config) space
    → (length space.types < config.min_types → IsEnough config (least_types_at config context turns grown.0 grown.1).0)
    → IsEnough config (cond b (least_types_at config context turns grown.0 grown.1) (space, bytes)).0
least_by config context turns space bytes grown true e valid more = more (ltb-true (length space.types) config.min_types e)
least_by config context turns space bytes grown false e valid more =
    record { valid = valid; least = ltb-false (length space.types) config.min_types e }

least_reached : (config : Config) (context : Context) (turns : ℕ) (space : GroupedTypes) (bytes : List ℕ) → IsSanitized config
    → config.min_types ≤ config.max_types → AreTypesValid (features_of config) space → config.min_types ≤ length space.types + turns
    → IsEnough config (least_types_at config context turns space bytes).0
unfolding least_types_at
least_reached config context zero space bytes sanitized ordered valid le = record { valid = valid; least = omega arith }
least_reached config context (suc turns) space bytes sanitized ordered valid le =
    let grown = rec_group_at config context false space bytes in
    least_by config context turns space bytes grown (nat_lt (length space.types) config.min_types) refl valid
    (λ few.
    let more = rec_group_more config context false space bytes (within_of (features_of config) space valid) (omega arith) in
    let longer = more.some refl in
    least_reached config context turns grown.0 grown.1 sanitized ordered (rec_group_valid config context false space bytes sanitized valid)
    (omega (arith, longer)))

pub types_least : (config : Config) (context : Context) (space : GroupedTypes) (bytes : List ℕ) → IsSanitized config
    → config.min_types ≤ config.max_types → AreTypesValid (features_of config) space
    → config.min_types ≤ length (types_at config context space bytes).0.types
unfolding types_at
types_least config context space bytes sanitized ordered valid =
    let least = least_types_at config context config.min_types space bytes in
    (more_keeps config context (IsEnough config)
    (λ s after room h.
    let more = rec_group_more config context true s after (within_of (features_of config) s h.valid) room in
    let enough = h.least in
    let kept = more.kept in
    record { valid = rec_group_valid config context true s after sanitized h.valid; least = omega (arith, enough, kept) })
    (length least.1 + 1) least.0 least.1 (least_reached config context config.min_types space bytes sanitized ordered valid
    (omega arith))).least
