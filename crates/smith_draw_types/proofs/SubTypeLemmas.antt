-- Drawn subtypes are valid, and their supertypes may have subtypes, over every list of types.
use Rattle.smith_draw_types.proofs.Common.{All, Bool, bool_at, cond, Config, Context, false, features_of, GroupedTypes, IsSanitized, IsSome}
use Rattle.smith_draw_types.proofs.Common.{IsTrue, length, List, ltb-true, nat_lt, not, Option, ratio_at, refl, rules, slice_get}
use Rattle.smith_draw_types.proofs.Common.{slice_get-get_or, Some, subst, SubType, sym, true, values_of, ℕ, ◌&&◌, ◌<◌, ◌∙◌, ◌≡◌}
use Rattle.std.specs.Prelude.{slice_index_or}
use Rattle.smith_types.specs.OpenTypes.{AreTypesOpen}
use Rattle.smith_types.specs.ValidTypes.{IsTypeValid}
use Rattle.smith_types.proofs.GroupGrowthLemmas.{AreTypesOpen-at}
use Rattle.smith_draw_types.specs.Grounding.{over}
use Rattle.smith_draw_types.specs.Choices.{chosen_at}
use Rattle.smith_draw_types.specs.Kept.{IsSharingEnabled}
use Rattle.smith_draw_types.specs.CompositeTypes.{composite_type_at}
use Rattle.smith_draw_types.specs.MatchingComposites.{matching_composite_type_at}
use Rattle.smith_draw_types.specs.SubTypes.{may_have_subtypes, HasSuperType, supertypes, is_final_at, root_type_at, sub_type_below_at}
use Rattle.smith_draw_types.specs.SubTypes.{sub_type_of_at, supertype_wanted_at, sub_type_at}
use Rattle.smith_draw_types.proofs.ValueTypeLemmas.{wanted_by, values_valid, values_shared}
use Rattle.smith_draw_types.proofs.CompositeTypeLemmas.{composite_type_drawn}
use Rattle.smith_draw_types.proofs.MatchingCompositeLemmas.{matching_inner, matching_kind}
use Rattle.smith_draw_types.proofs.SupertypeLemmas.{IsSupertype, supertypes_all, chosen_of}

-- a property of both, of the first only if the test is true
pub cond_where : {A : Type 0} (P : A → Type 0) (b : Bool) (x y : A) → (IsTrue b → P x) → P y → P (cond b x y)
cond_where P true x y p q = p refl
cond_where P false x y p q = q

final_gc : (gc : Bool) (drawn : Bool × List ℕ) (bytes : List ℕ) → (cond gc drawn (true, bytes)).0 ≡ false → IsTrue gc
final_gc true drawn bytes e = refl
final_gc false drawn bytes e = cc

root_type_valid : (config : Config) (context : Context) (limit : ℕ) (bytes : List ℕ) → IsSanitized config
    → IsTypeValid (features_of config) context.types limit (root_type_at config context limit bytes).0
unfolding root_type_at
root_type_valid config context limit bytes sanitized =
    let is_final = is_final_at config bytes in
    let composite = (composite_type_at config context limit is_final.1).0 in
    let drawn = composite_type_drawn config context limit is_final.1 sanitized in
    record {
      enabled = record {
        inner = drawn.inner.enabled;
        not_final = final_gc config.gc_enabled (bool_at bytes) bytes;
        supertype = λ no. cc;
        shared = drawn.shared;
      };
      values = values_valid config context.types composite.shared limit (values_of composite.inner) drawn.inner.values;
      declared = λ s up. cc;
      shareable = λ must. values_shared config context.types composite.shared limit (values_of composite.inner) must drawn.inner.values;
    }

root_type_follows : (config : Config) (context : Context) (limit : ℕ) (bytes : List ℕ)
    → HasSuperType context.types (root_type_at config context limit bytes).0
unfolding root_type_at
root_type_follows config context limit bytes = record { below = λ s up. cc; allowed = λ s u up at. cc }

not_final_of : (final deep : Bool) → (not final && deep) ≡ true → final ≡ false
not_final_of true deep e = cc
not_final_of false deep e = refl

-- each existing type is shared only if that is enabled
sharing : (config : Config) (limit : ℕ) (space : GroupedTypes) → AreTypesOpen (features_of config) limit space
    → All (IsSharingEnabled (features_of config)) space.types
sharing config limit space open_types k d inside =
    (AreTypesOpen-at (features_of config) limit space open_types k (slice_index_or space.types k d)
    (slice_get-get_or space.types k d inside)).enabled.shared

module _ (config : Config) (context : Context) (space : GroupedTypes) (limit : ℕ) where
  below_valid : (index : ℕ) (t : SubType) (bytes : List ℕ) → IsSanitized config → IsTrue config.gc_enabled
      → AreTypesOpen (features_of config) limit space → slice_get space.types index ≡ Some t → t.is_final ≡ false
      → IsTypeValid (features_of config) space.types limit (sub_type_below_at config (over context space.types) limit index
      (Some t) bytes).0
  unfolding matching_composite_type_at
  below_valid index t bytes sanitized gc open_types at not_final =
      let h = AreTypesOpen-at (features_of config) limit space open_types index t at in
      let drawn = matching_inner config (over context space.types) t.composite_type.shared limit t.composite_type.inner bytes (record {
        sanitized = sanitized;
        gc = gc;
        may = h.enabled.shared;
        orderly = open_types.orderly;
        room = open_types.room;
        sharing = sharing config limit space open_types;
        enabled = h.enabled.inner;
        values = h.values;
      }) in
      record {
        enabled = record { inner = drawn.enabled; not_final = λ e. gc; supertype = λ some. gc; shared = h.enabled.shared };
        values = drawn.values;
        declared = λ s up.
            let same : index ≡ s = cc in (
              t,
              subst (λ (n : ℕ). slice_get space.types n ≡ Some t) same at,
              record { not_final = not_final; matched = record { inner = drawn.matched; shared = refl } },
            );
        shareable = λ must. drawn.shareable must (h.shareable must);
      }

below_follows : (config : Config) (context : Context) (limit index : ℕ) (t : SubType) (bytes : List ℕ) → slice_get context.types index
    ≡ Some t → may_have_subtypes context.types index t ≡ true
    → HasSuperType context.types (sub_type_below_at config context limit index (Some t) bytes).0
unfolding matching_composite_type_at
below_follows config context limit index t bytes at may = record {
  below = λ s up.
      let same : index ≡ s = cc in (
        t,
        subst (λ (n : ℕ). slice_get context.types n ≡ Some t) same at,
        record { kind = matching_kind config context t.composite_type.shared limit t.composite_type.inner bytes; shared = refl },
      );
  allowed = λ s u up stands.
      let same : index ≡ s = cc in
      let one : t ≡ u = (let both : Some t ≡ Some u = sym at ∙ subst (λ (n : ℕ). slice_get context.types n ≡ Some u) (sym same) stands in
      cc) in
      subst (λ (n : ℕ). may_have_subtypes context.types n u ≡ true) same
      (subst (λ (v : SubType). may_have_subtypes context.types index v ≡ true) one may);
}

-- a type drawn as a subtype of a type that may have subtypes, or without a supertype
pub record IsSubTypeDrawn (config : Config) (space : GroupedTypes) (limit : ℕ) (t : SubType) : Type 0 where
  pub valid : IsTypeValid (features_of config) space.types limit t
  pub follows : HasSuperType space.types t

pub sub_type_of_follows : (config : Config) (context : Context) (limit : ℕ) (bytes : List ℕ) → 0 < length (supertypes context.types)
    → HasSuperType context.types (sub_type_of_at config context limit (supertypes context.types) bytes).0
unfolding sub_type_of_at
sub_type_of_follows config context limit bytes some =
    let index = chosen_at 0 (supertypes context.types) bytes in
    let chosen = chosen_of (IsSupertype context.types) 0 (supertypes context.types) bytes some (supertypes_all context.types) in
    subst (λ (at : Option SubType). HasSuperType context.types (sub_type_below_at config context limit index.0 at index.1).0)
    (sym chosen.stands) (below_follows config context limit index.0 chosen.ty index.1 chosen.stands chosen.allowed)

pub sub_type_of_valid : (config : Config) (context : Context) (space : GroupedTypes) (limit : ℕ) (bytes : List ℕ) → IsSanitized config
    → IsTrue config.gc_enabled → AreTypesOpen (features_of config) limit space → 0 < length (supertypes space.types)
    → IsTypeValid (features_of config) space.types limit (sub_type_of_at config (over context space.types) limit (supertypes space.types)
    bytes).0
unfolding sub_type_of_at
sub_type_of_valid config context space limit bytes sanitized gc open_types some =
    let index = chosen_at 0 (supertypes space.types) bytes in
    let chosen = chosen_of (IsSupertype space.types) 0 (supertypes space.types) bytes some (supertypes_all space.types) in
    let not_final = not_final_of chosen.ty.is_final _ chosen.allowed in
    subst (λ (at : Option SubType). IsTypeValid (features_of config) space.types limit
    (sub_type_below_at config (over context space.types) limit index.0 at index.1).0) (sym chosen.stands)
    (below_valid config context space limit index.0 chosen.ty index.1 sanitized gc open_types chosen.stands not_final)

pub sub_type_of_some : (config : Config) (context : Context) (limit : ℕ) (bytes : List ℕ) → 0 < length (supertypes context.types)
    → IsSome (sub_type_of_at config context limit (supertypes context.types) bytes).0.supertype
unfolding sub_type_of_at
sub_type_of_some config context limit bytes some =
    let index = chosen_at 0 (supertypes context.types) bytes in
    let chosen = chosen_of (IsSupertype context.types) 0 (supertypes context.types) bytes some (supertypes_all context.types) in
    subst (λ (at : Option SubType). IsSome (sub_type_below_at config context limit index.0 at index.1).0.supertype) (sym chosen.stands)
    (search rules)

-- a supertype is drawn only if there is one
wanted_some : (config : Config) (count : ℕ) (bytes : List ℕ) → IsTrue (supertype_wanted_at config count bytes).0 → IsTrue config.gc_enabled
    × (0 < count)
wanted_some config count bytes h =
    let (gc, some) = wanted_by config.gc_enabled (nat_lt 0 count) (ratio_at 1 32 bytes) bytes h in
    (gc, ltb-true 0 count some)

pub sub_type_follows : (config : Config) (context : Context) (limit : ℕ) (bytes : List ℕ)
    → HasSuperType context.types (sub_type_at config context limit bytes).0
unfolding sub_type_at
sub_type_follows config context limit bytes =
    let wanted = supertype_wanted_at config (length (supertypes context.types)) bytes in
    cond_where (λ (r : SubType × List ℕ). HasSuperType context.types r.0) wanted.0
    (sub_type_of_at config context limit (supertypes context.types) wanted.1) (root_type_at config context limit wanted.1)
    (λ on. sub_type_of_follows config context limit wanted.1 (wanted_some config (length (supertypes context.types)) bytes on).1)
    (root_type_follows config context limit wanted.1)

pub sub_type_valid : (config : Config) (context : Context) (space : GroupedTypes) (limit : ℕ) (bytes : List ℕ) → IsSanitized config
    → AreTypesOpen (features_of config) limit space → IsTypeValid (features_of config) space.types limit
    (sub_type_at config (over context space.types) limit bytes).0
unfolding sub_type_at
sub_type_valid config context space limit bytes sanitized open_types =
    let wanted = supertype_wanted_at config (length (supertypes space.types)) bytes in
    cond_where (λ (r : SubType × List ℕ). IsTypeValid (features_of config) space.types limit r.0) wanted.0
    (sub_type_of_at config (over context space.types) limit (supertypes space.types) wanted.1)
    (root_type_at config (over context space.types) limit wanted.1)
    (λ on. let (gc, some) = wanted_some config (length (supertypes space.types)) bytes on in
    sub_type_of_valid config context space limit wanted.1 sanitized gc open_types some)
    (root_type_valid config (over context space.types) limit wanted.1 sanitized)
