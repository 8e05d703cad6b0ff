-- Drawn table types are valid and within bounds.
use Rattle.smith_draw_types.proofs.Common.{arith, Bool, cond, Config, Context, false, features_of, inl, inr, IsSome, IsTrue, List, None}
use Rattle.smith_draw_types.proofs.Common.{Option, refl, RefType, Some, suc, true, zero, ℕ, ◌≡◌, ◌≤◌, ◌⊎◌}
use Rattle.std.proofs.Common.{max, min}
use Rattle.std.specs.Prelude.{IfSome}
use Rattle.smith_types.specs.Entities.{most_elements}
use Rattle.smith_types.specs.Flags.{IsElementTypeEnabled, funcref}
use Rattle.smith_types.specs.Syntax.entity_type.TableType.{TableType}
use Rattle.smith_config.specs.EntityBounds.{AreElementsWithin, IsTableWithin}
use Rattle.smith_draw_types.specs.TableTypes.{drawn_elements}
use Rattle.smith_draw_types.specs.ValueTypes.{ref_type_at}

elements_kept : (traps : Bool) (configured top : ℕ) → (min (max (cond traps 1 0) configured) top ≤ configured)
    ⊎ (IsTrue traps × (min (max (cond traps 1 0) configured) top ≤ 1))
elements_kept false configured top = inl (omega arith)
elements_kept true zero top = inr (refl, omega arith)
elements_kept true (suc configured) top = inl (omega arith)

fewer : (elements most configured : ℕ) (traps : Bool) → elements ≤ most → (most ≤ configured) ⊎ (IsTrue traps × (most ≤ 1))
    → (elements ≤ configured) ⊎ (IsTrue traps × (elements ≤ 1))
fewer elements most configured traps le (inl h) = inl (omega arith)
fewer elements most configured traps le (inr h) = inr (h.0, omega (arith, h.1))

-- at most the configured elements
within_drawn : (config : Config) (table64 : Bool) (elements : ℕ) → elements ≤ drawn_elements config table64
    → AreElementsWithin config elements
unfolding drawn_elements
within_drawn config table64 elements le =
    fewer elements (drawn_elements config table64) config.max_table_elements config.disallow_traps le
    (elements_kept config.disallow_traps config.max_table_elements (most_elements table64))

maximum_within : (config : Config) (table64 : Bool) (minimum : ℕ) (maximum : Option ℕ)
    → IfSome maximum (λ n. (minimum ≤ n) × (n ≤ drawn_elements config table64)) → IfSome maximum (AreElementsWithin config)
maximum_within config table64 minimum None h = tt
maximum_within config table64 minimum (Some n) h = within_drawn config table64 n h.1

-- limits within the drawn elements respect the configured ones
pub table_within : (config : Config) (table : TableType) → table.minimum ≤ drawn_elements config table.table64
    → IfSome table.maximum (λ n. (table.minimum ≤ n) × (n ≤ drawn_elements config table.table64))
    → (IsTrue config.table_max_size_required → IsSome table.maximum) → IsTableWithin config table
table_within config table low high required = record {
  minimum = within_drawn config table.table64 table.minimum low;
  maximum = maximum_within config table.table64 table.minimum table.maximum high;
  required = required;
}

element_by : (on : Bool) (drawn : RefType × List ℕ) (bytes : List ℕ) → ((cond on drawn (funcref, bytes)).0 ≡ funcref → ⊥) → IsTrue on
element_by true drawn bytes other = refl
element_by false drawn bytes other = absurd (other refl)

-- an element type other than `funcref` requires reference types
pub element_enabled : (config : Config) (context : Context) (must_share : Bool) (limit : ℕ) (bytes : List ℕ)
    → IsElementTypeEnabled (features_of config) (ref_type_at config context must_share limit bytes).0
unfolding ref_type_at
element_enabled config context must_share limit bytes other = element_by config.reference_types_enabled _ bytes other
