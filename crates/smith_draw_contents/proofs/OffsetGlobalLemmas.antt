-- The globals that an offset may be read from: those that are counted and found are those that an
-- expression may read.
use Rattle.smith_draw_contents.proofs.Common.{[], address_type, All-nil, ap, arith, at_drop_all, at_drop_more, Bool, cond, Config, Context}
use Rattle.smith_draw_contents.proofs.Common.{drop, false, get_or, IsOrderly, IsVisible, length, List, not, Ref, refl, SubType, suc, sym}
use Rattle.smith_draw_contents.proofs.Common.{take, true, ValType, zero, ℕ, ◌++◌, ◌+◌, ◌-◌, ◌<◌, ◌∙◌, ◌∷◌, ◌≡◌, ◌≤◌}
use Rattle.std.specs.Prelude.{◌&&◌}
use Rattle.smith_types.specs.Syntax.entity_type.GlobalType.{GlobalType}
use Rattle.smith_types.specs.Syntax.value_type.ValType.TheVariants.{F32, F64, I32, I64, V128}
use Rattle.smith_draw_types.specs.Below.{is_val_below}
use Rattle.smith_draw_consts.specs.ConstOffers.{each_from, offered_if, readable_globals}
use Rattle.smith_draw_consts.proofs.ReadableLemmas.{readable_listed}
use Rattle.smith_draw_contents.specs.DataSegments.{offset_globals}
use Rattle.smith_draw_contents.specs.DataTargets.{TellOffsets}
use Rattle.smith_draw_contents.specs.OffsetGlobals.{is_address, tells_offset, telling_from}
use Rattle.smith_draw_contents.proofs.DataSegmentLemmas.{readable_tell}

-- only the address type itself is a subtype of it
address_below : (types : List SubType) (wide : Bool) (value : ValType) → is_address wide value ≡ is_val_below types value
    (address_type wide)
address_below types true I32 = refl
address_below types true I64 = refl
address_below types true F32 = refl
address_below types true F64 = refl
address_below types true V128 = refl
address_below types true (Ref reference) = refl
address_below types false I32 = refl
address_below types false I64 = refl
address_below types false F32 = refl
address_below types false F64 = refl
address_below types false V128 = refl
address_below types false (Ref reference) = refl

each_same : {A B : Type 0} (f g : ℕ → A → List B) → ((n : ℕ) (x : A) → f n x ≡ g n x) → (n : ℕ) (xs : List A)
    → each_from f n xs ≡ each_from g n xs
each_same f g same n [] = refl
each_same f g same n (x ∷ xs) = rw (same n x, each_same f g same (n + 1) xs) refl

-- visible globals from which an offset may be read are readable
pub telling_readable : (context : Context) (wide : Bool) → telling_from wide 0 (take context.visible context.globals)
    ≡ readable_globals context (address_type wide)
telling_readable context wide =
    let below = address_below context.types wide in
    each_same (λ index (global : GlobalType). offered_if (tells_offset wide global) index)
    (λ index (global : GlobalType). offered_if (not global.mutable && is_val_below context.types global.val_type (address_type wide))
    index)
    (λ index global. ap (λ (b : Bool). offered_if (not global.mutable && b) index) (below global.val_type)) 0
    (take context.visible context.globals)

tell_unless : (context : Context) (wide b : Bool) (globals : List ℕ) → TellOffsets context wide globals
    → TellOffsets context wide (cond b [] globals)
tell_unless context wide true globals tell = All-nil (λ index. IsVisible context index (address_type wide))
tell_unless context wide false globals tell = tell

-- an offset may be read from each of them
pub offset_tell : (config : Config) (context : Context) (wide : Bool) → IsOrderly context.types
    → TellOffsets context wide (offset_globals config context wide)
offset_tell config context wide orderly =
    let globals = readable_globals context (address_type wide) in
    tell_unless context wide config.disallow_traps globals
    (readable_tell context wide globals (readable_listed context orderly (address_type wide)))

-- the globals before an index were counted
pub record IsCounting (wide : Bool) (globals : List GlobalType) (index count : ℕ) : Type 0 where
  pub counted : count + length (telling_from wide index (drop index globals)) ≡ length (telling_from wide 0 globals)
  pub within : count ≤ index

module _ (wide : Bool) (globals : List GlobalType) (index : ℕ) (d : GlobalType) where
  -- an offset may be read from one more, or may not
  telling_turn : (b : Bool) → index < length globals → tells_offset wide (get_or globals index d) ≡ b
      → offered_if b index ++ telling_from wide (index + 1) (drop (index + 1) globals) ≡ telling_from wide index (drop index globals)
  telling_turn b inside is =
      sym (at_drop_more (telling_from wide index) globals index d inside
      ∙ ap (λ (c : Bool). offered_if c index ++ telling_from wide (index + 1) (drop (index + 1) globals)) is)

  pub counting_skip : {count : ℕ} → IsCounting wide globals index count → index < length globals
      → tells_offset wide (get_or globals index d) ≡ false → IsCounting wide globals (index + 1) count
  counting_skip {count = count} now inside is = record {
    counted = ap (λ (telling : List ℕ). count + length telling) (telling_turn false inside is) ∙ now.counted;
    within = omega (arith, now.within);
  }

  pub counting_more : {count : ℕ} → IsCounting wide globals index count → index < length globals
      → tells_offset wide (get_or globals index d) ≡ true → IsCounting wide globals (index + 1) (count + 1)
  counting_more {count = count} now inside is = record {
    counted =
        let one : suc (length (telling_from wide (index + 1) (drop (index + 1) globals)))
        ≡ length (telling_from wide index (drop index globals)) = ap (λ (telling : List ℕ). length telling)
        (telling_turn true inside is) in
        omega (arith, one, now.counted);
    within = omega (arith, now.within);
  }

  -- the remaining place is past a global, or at it
  pub finding_skip : (left found : ℕ) → get_or (telling_from wide index (drop index globals)) left 0 ≡ found → index < length globals
      → tells_offset wide (get_or globals index d) ≡ false
      → get_or (telling_from wide (index + 1) (drop (index + 1) globals)) left 0 ≡ found
  finding_skip left found now inside is = ap (λ (telling : List ℕ). get_or telling left 0) (telling_turn false inside is) ∙ now

  pub finding_here : (left found : ℕ) → get_or (telling_from wide index (drop index globals)) left 0 ≡ found → index < length globals
      → tells_offset wide (get_or globals index d) ≡ true → left ≡ 0 → index ≡ found
  finding_here left found now inside is first = ap (λ (telling : List ℕ). get_or telling 0 0) (telling_turn true inside is)
      ∙ (rw first at now)

  pub finding_more : (left found : ℕ) → get_or (telling_from wide index (drop index globals)) left 0 ≡ found → index < length globals
      → tells_offset wide (get_or globals index d) ≡ true → 0 < left
      → get_or (telling_from wide (index + 1) (drop (index + 1) globals)) (left - 1) 0 ≡ found
  finding_more zero found now inside is some = absurd (omega arith)
  finding_more (suc left) found now inside is some =
      let less : suc left - 1 ≡ left = omega arith in
      rw less (ap (λ (telling : List ℕ). get_or telling (suc left) 0) (telling_turn true inside is) ∙ now)

-- all were visited
pub counting_done : {wide : Bool} {globals : List GlobalType} {index count : ℕ} → IsCounting wide globals index count
    → length globals ≤ index → count ≡ length (telling_from wide 0 globals)
counting_done {wide = wide} {globals = globals} {index = index} {count = count} now done =
    let none : length (telling_from wide index (drop index globals)) ≡ 0 =
    at_drop_all (λ (rest : List GlobalType). length (telling_from wide index rest)) globals index done in
    omega (arith, none, now.counted)

pub finding_done : (wide : Bool) (globals : List GlobalType) (index left found : ℕ) → get_or (telling_from wide index (drop index globals))
    left 0 ≡ found → length globals ≤ index → 0 ≡ found
finding_done wide globals index left found now done =
    sym (at_drop_all (λ (rest : List GlobalType). get_or (telling_from wide index rest) left 0) globals index done) ∙ now
