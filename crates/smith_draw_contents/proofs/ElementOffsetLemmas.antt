-- Offsets of element segments have the address type of their table, and with `disallow_traps` a
-- limit.
use Rattle.smith_draw_contents.proofs.Common.{[], address_type, ap, arith, chosen_at, chosen_of, Config, Context, drawn_is, IsOffsetInside}
use Rattle.smith_draw_contents.proofs.Common.{IsTrue, IsVisible, length, List, None, Offset, Option, refl, Some, TableType, ℕ, ◌+◌, ◌-◌}
use Rattle.smith_draw_contents.proofs.Common.{◌<◌, ◌≡◌, ◌≤◌}
use Rattle.smith_types.specs.Segments.{IsOffsetValid}
use Rattle.smith_types.specs.Syntax.segments.Offset.TheVariants.{Global}
use Rattle.smith_draw_contents.specs.DataTargets.{TellOffsets}
use Rattle.smith_draw_contents.specs.DrawnElements.{IsPlaced}
use Rattle.smith_draw_contents.specs.ElementSegments.{most_offset}

most_without_traps : (config : Config) (table : TableType) → IsTrue config.disallow_traps → most_offset config table ≡ table.minimum
most_without_traps config table on = rw on refl

-- a constant
pub constant_placed : (config : Config) (context : Context) (table : TableType) (drawn most : ℕ) (offset : Offset) (hint : Option ℕ)
    → drawn ≤ most → most ≡ most_offset config table → IsOffsetValid context table.table64 offset
    → ((count least : ℕ) → drawn + count ≤ least → IsOffsetInside offset count least)
    → (IsTrue config.disallow_traps → hint ≡ Some (table.minimum - drawn)) → IsPlaced config context table offset hint
constant_placed config context table drawn most offset hint within same valid inside hinted = record {
  valid = valid;
  inside = λ on. rw (hinted on)
      (inside (table.minimum - drawn) table.minimum (omega (arith, within, same, most_without_traps config table on)));
}

-- the value of a global, which is read only without `disallow_traps`
pub global_placed : (config : Config) (context : Context) (table : TableType) {globals : List ℕ} (bytes : List ℕ) {after : List ℕ}
    {index : ℕ} → TellOffsets context table.table64 globals → (IsTrue config.disallow_traps → globals ≡ []) → 0 < length globals
    → chosen_at 0 globals bytes ≡ (index, after) → IsPlaced config context table (Global index) None
global_placed config context table {globals = globals} bytes tell none some chosen =
    let Tells = λ (global : ℕ). IsVisible context global (address_type table.table64) in
    record {
      valid = drawn_is Tells _ (chosen_of Tells 0 globals bytes some tell) chosen;
      inside = λ on. absurd (omega (arith, some, ap length (none on)));
    }
