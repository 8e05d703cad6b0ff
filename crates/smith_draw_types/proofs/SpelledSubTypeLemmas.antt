-- From a source that starts with a piece that spells types without supertypes, these types are
-- drawn, and the bytes after the piece remain.
use Rattle.smith_draw_types.proofs.Common.{[], ap, append-nil, append_assoc, arith, Bool, bool_at, bool_read, cond, Config, Context, false}
use Rattle.smith_draw_types.proofs.Common.{get_or_from_slice_get, grow_at, IsOrderly, IsSanitized, IsTrue, joined_parts, length}
use Rattle.smith_draw_types.proofs.Common.{length-append, List, lt-ltb, nat_lt, None, Option, ratio_at, refl, slice_get, slice_get_within}
use Rattle.smith_draw_types.proofs.Common.{Some, SpellsRefusal, subst, SubType, suc, sym, true, Where, ℕ, ◌&&◌, ◌++◌, ◌+◌, ◌<◌, ◌||◌, ◌∙◌}
use Rattle.smith_draw_types.proofs.Common.{◌∷◌, ◌≡◌}
use Rattle.std.specs.List.{All, list_any}
use Rattle.std.proofs.lemmas.List.Elements.{All-push}
use Rattle.smith_validity.specs.Decided.{AreHeld}
use Rattle.smith_draw_types.specs.Grounding.{over}
use Rattle.smith_draw_types.specs.Offered.{supertype_of, ancestors}
use Rattle.smith_draw_types.specs.CompositeTypes.{composite_type_at}
use Rattle.smith_draw_types.specs.SubTypes.{supertypes_from, supertypes, is_final_at, root_type_at, supertype_wanted_at, sub_type_at}
use Rattle.smith_draw_types.specs.Spelling.{SpellsUnshared, SpellsKind, SpellsPlainFunction, SpellsCompositeType, is_open, SpellsDeclared}
use Rattle.smith_draw_types.specs.Spelling.{SpellsForm, SpellsSubType, SpellsSubTypes, IsRoot, ReferBack}
use Rattle.smith_draw_types.proofs.AncestorLemmas.{within_none}
use Rattle.smith_draw_types.proofs.SpelledValueLemmas.{refused_where, IsReadable}
use Rattle.smith_draw_types.proofs.SpelledTypeLemmas.{composite_type_read, inner_readable}

no_supertype : (types : List SubType) (index : ℕ) → All IsRoot types → (at : Option SubType) → slice_get types index ≡ at
    → supertype_of at ≡ None
no_supertype types index roots None at = refl
no_supertype types index roots (Some t) at = subst IsRoot (get_or_from_slice_get types index t t at)
    (roots index t (slice_get_within types index t at))

no_ancestors : (types : List SubType) (index : ℕ) → All IsRoot types → ancestors types index ≡ []
unfolding ancestors
no_ancestors types index roots = within_none types (length types) index (no_supertype types index roots (slice_get types index) refl)

open_turn : (opens : Bool) (index : ℕ) (later : List ℕ) (more : Bool) → nat_lt 0 (length later) ≡ more
    → nat_lt 0 (length (cond (opens && true) (index ∷ later) later)) ≡ (opens || more)
open_turn true index later more e = lt-ltb 0 (suc (length later)) (omega arith)
open_turn false index later more e = e

some_open_from : (types : List SubType) → All IsRoot types → (start : ℕ) (more : List SubType)
    → nat_lt 0 (length (supertypes_from types start more)) ≡ list_any is_open more
some_open_from types roots start [] = refl
some_open_from types roots start (t ∷ more) =
    rw (no_ancestors types start roots) (open_turn (is_open t) start (supertypes_from types (start + 1) more) (list_any is_open more)
    (some_open_from types roots (start + 1) more))

-- a type may have subtypes if one is not final
some_open : (types : List SubType) → All IsRoot types → nat_lt 0 (length (supertypes types)) ≡ list_any is_open types
unfolding supertypes
some_open types roots = some_open_from types roots 0 types

pub and_on : (on other : Bool) → on ≡ true → (on && other) ≡ other
and_on true other e = refl
and_on false other e = cc

pub and_off : (on other : Bool) → on ≡ false → (on && other) ≡ false
and_off true other e = cc
and_off false other e = refl

none_wanted : (config : Config) (types : List SubType) (piece after : List ℕ) → config.gc_enabled ≡ true → All IsRoot types
    → Where (list_any is_open types) (SpellsRefusal 32) piece
    → supertype_wanted_at config (length (supertypes types)) (piece ++ after) ≡ (false, after)
none_wanted config types piece after on roots h =
    let count = length (supertypes types) in
    let same : (config.gc_enabled && nat_lt 0 count) ≡ list_any is_open types = and_on config.gc_enabled (nat_lt 0 count) on
    ∙ some_open types roots in
    refused_where (config.gc_enabled && nat_lt 0 count) 32 piece after (subst (λ (some : Bool). Where some (SpellsRefusal 32) piece)
    (sym same) h)

pub none_asked : (on : Bool) (drawn : Bool × List ℕ) (bytes : List ℕ) → on ≡ false → cond on drawn (false, bytes) ≡ (false, bytes)
none_asked true drawn bytes e = cc
none_asked false drawn bytes e = refl

root_of : (config : Config) (context : Context) (limit : ℕ) (t : SubType) (bytes mid after : List ℕ) → IsRoot t → is_final_at config bytes
    ≡ (t.is_final, mid) → composite_type_at config context limit mid ≡ (t.composite_type, after)
    → root_type_at config context limit bytes ≡ (t, after)
unfolding root_type_at
root_of config context limit t bytes mid after root final composite = rw (final, composite, ← root) refl

sub_type_of : (config : Config) (context : Context) (limit : ℕ) (t : SubType) (bytes mid after : List ℕ)
    → supertype_wanted_at config (length (supertypes context.types)) bytes ≡ (false, mid) → root_type_at config context limit mid
    ≡ (t, after)
    → sub_type_at config context limit bytes ≡ (t, after)
unfolding sub_type_at
sub_type_of config context limit t bytes mid after wanted root = rw (wanted, root) refl

final_with : (on : Bool) (drawn : Bool × List ℕ) (bytes : List ℕ) → on ≡ true → cond on drawn (true, bytes) ≡ drawn
final_with true drawn bytes e = refl
final_with false drawn bytes e = cc

final_without : (on : Bool) (drawn : Bool × List ℕ) (bytes : List ℕ) → on ≡ false → cond on drawn (true, bytes) ≡ (true, bytes)
final_without true drawn bytes e = cc
final_without false drawn bytes e = refl

declared_read : (config : Config) (context : Context) (limit : ℕ) (t : SubType) (piece after : List ℕ) → config.gc_enabled ≡ true
    → All IsRoot context.types → AreHeld (IsReadable context) t.composite_type.inner → IsRoot t → t.composite_type.shared ≡ false
    → SpellsDeclared config context.types limit t piece → sub_type_at config context limit (piece ++ after) ≡ (t, after)
declared_read config context limit t piece after on roots stands root unshared h =
    let rest = h.is_second in
    let last = rest.is_second in
    let following = rest.second ++ after in
    let kind = subst (λ (gc : Bool). SpellsKind gc config limit t.composite_type.inner last.second) (sym on) last.is_second in
    let composite : SpellsCompositeType config limit t.composite_type rest.second =
    record {
      unshared = unshared;
      form = record {
        first = last.first;
        second = last.second;
        is_first = last.is_first;
        is_second = kind;
        whole = last.whole;
      };
    } in
    let final = final_with config.gc_enabled (bool_at (rest.first ++ following)) (rest.first ++ following) on
    ∙ bool_read t.is_final rest.first following rest.is_first in
    rw (joined_parts h after, joined_parts rest after)
    (sub_type_of config context limit t (h.first ++ (rest.first ++ following)) (rest.first ++ following) after
    (none_wanted config context.types h.first (rest.first ++ following) on roots h.is_first)
    (root_of config context limit t (rest.first ++ following) following after root final
    (composite_type_read config context limit t.composite_type rest.second after stands composite)))

-- nothing is shared without garbage collection
none_shared : (config : Config) → IsSanitized config → config.gc_enabled ≡ false → (on : Bool) → config.shared_everything_threads_enabled
    ≡ on → on ≡ false
none_shared config sanitized off true e = let gc : config.gc_enabled ≡ true = sanitized.shared_gc e in cc
none_shared config sanitized off false e = refl

plain_read : (config : Config) (context : Context) (limit : ℕ) (t : SubType) (piece after : List ℕ) → IsSanitized config
    → config.gc_enabled ≡ false → AreHeld (IsReadable context) t.composite_type.inner → IsRoot t → t.composite_type.shared ≡ false
    → IsTrue t.is_final × SpellsPlainFunction config limit t.composite_type.inner piece → sub_type_at config context limit (piece ++ after)
    ≡ (t, after)
plain_read config context limit t piece after sanitized plain stands root unshared h =
    let bytes = piece ++ after in
    let count = length (supertypes context.types) in
    let unasked : SpellsUnshared config [] =
    subst (λ (on : Bool). Where on (SpellsRefusal 4) [])
    (sym (none_shared config sanitized plain config.shared_everything_threads_enabled refl)) refl in
    let kind = subst (λ (gc : Bool). SpellsKind gc config limit t.composite_type.inner piece) (sym plain) h.1 in
    let composite : SpellsCompositeType config limit t.composite_type piece =
    record { unshared = unshared; form = record { first = []; second = piece; is_first = unasked; is_second = kind; whole = refl } } in
    let final : is_final_at config bytes ≡ (t.is_final, bytes) = final_without config.gc_enabled (bool_at bytes) bytes plain
    ∙ ap (λ (final : Bool). (final, bytes)) (sym h.0) in
    sub_type_of config context limit t bytes bytes after (none_asked (config.gc_enabled && nat_lt 0 count) (ratio_at 1 32 bytes) bytes
    (and_off config.gc_enabled (nat_lt 0 count) plain))
    (root_of config context limit t bytes bytes after root final (composite_type_read config context limit t.composite_type piece after
    stands composite))

form_read : (gc : Bool) (config : Config) (context : Context) (limit : ℕ) (t : SubType) (piece after : List ℕ) → config.gc_enabled ≡ gc
    → IsSanitized config → All IsRoot context.types → AreHeld (IsReadable context) t.composite_type.inner
    → IsRoot t → t.composite_type.shared ≡ false → SpellsForm gc config context.types limit t piece
    → sub_type_at config context limit (piece ++ after) ≡ (t, after)
form_read true config context limit t piece after e sanitized roots stands root unshared h =
    declared_read config context limit t piece after e roots stands root unshared h
form_read false config context limit t piece after e sanitized roots stands root unshared h =
    plain_read config context limit t piece after sanitized e stands root unshared h

pub sub_type_read : (config : Config) (context : Context) (limit : ℕ) (t : SubType) (piece after : List ℕ) → IsSanitized config
    → All IsRoot context.types → AreHeld (IsReadable context) t.composite_type.inner → SpellsSubType config context.types limit t piece
    → sub_type_at config context limit (piece ++ after) ≡ (t, after)
sub_type_read config context limit t piece after sanitized roots stands h = form_read config.gc_enabled config context limit t piece after
    refl sanitized roots stands h.root h.unshared h.form

-- types without supertypes are orderly
pub roots_orderly : (types : List SubType) → All IsRoot types → IsOrderly types
roots_orderly types roots = record {
  under = λ index s t at below. let root : t.supertype ≡ None = no_supertype types index roots (Some t) at in cc;
}

-- the draw that extends the types before, after which no type has a supertype
pub record Following (before more : List SubType) (drawn : List SubType × List ℕ) (after : List ℕ) : Type 0 where
  pub made : drawn ≡ (before ++ more, after)
  pub roots : All IsRoot (before ++ more)

pub sub_types_read : (config : Config) (context : Context) (same : context.features.custom_descriptors ≡ config.custom_descriptors_enabled)
    (limit : ℕ) (before more : List SubType) (piece after : List ℕ) → IsSanitized config → All IsRoot before → ReferBack config before more
    → limit ≡ length before + length more
    → SpellsSubTypes config before limit more piece
    → Following before more (grow_at (λ made. sub_type_at config (over context made) limit) limit (length more) before (piece ++ after))
    after
unfolding grow_at SpellsSubTypes
sub_types_read config context same limit before [] piece after sanitized roots back ends h =
    record { made = rw (h, append-nil) refl; roots = subst (λ (types : List SubType). All IsRoot types) (sym (append-nil before)) roots }
sub_types_read config context same limit before (t ∷ more) piece after sanitized roots back ends h =
    let few : length before < limit = omega arith in
    let rest : limit ≡ length (before ++ t ∷ []) + length more = omega (arith, length-append before (t ∷ [])) in
    let held = inner_readable config (over context before) t.composite_type.inner same (roots_orderly before roots) back.0 in
    let one = sub_type_read config (over context before) limit t h.first (h.second ++ after) sanitized roots held h.is_first in
    let again = sub_types_read config context same limit (before ++ t ∷ []) more h.second after sanitized
    (All-push IsRoot before t roots h.is_first.root) back.1 rest h.is_second in
    let whole = append_assoc before (t ∷ []) more in
    record {
      made = rw (joined_parts h after, lt-ltb (length before) limit few, one)
          (again.made ∙ ap (λ (types : List SubType). (types, after)) whole);
      roots = subst (λ (types : List SubType). All IsRoot types) whole again.roots;
    }
