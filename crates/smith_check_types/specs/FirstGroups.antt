-- The first of several equal groups, found by the numbers of rolled groups.
use Rattle.std.specs.Prelude.{ℕ, zero, suc, ◌+◌, List, [], ◌∷◌, Option, length, unwrap_or}
use Rattle.std.specs.Global.{Vec}
use Rattle.std.specs.BTreeMap.{BTreeMap, get_by}
use Rattle.std.specs.Cmp.Lexicographic.{slice_cmp}
use Rattle.std.specs.Ordering.{nat_cmp}
use Rattle.smith_types.specs.Syntax.composite_type.SubType.{SubType}
use Rattle.smith_check_types.specs.Canonical.{rolled}
use Rattle.smith_check_types.specs.Codes.{group_codes}

-- the numbers of a group that follows the types with these canonical indices (Rolling and
-- Unrolling)
abbrev pub codes_after : List ℕ → List SubType → List ℕ
codes_after indices group = group_codes (rolled indices (length indices) group)

-- the start of the first group with these numbers, if there is one (own rule)
abbrev pub known_start : BTreeMap (Vec ℕ) ℕ → List ℕ → Option ℕ
known_start starts codes = get_by (λ (key : Vec ℕ). slice_cmp nat_cmp codes key.items) starts

-- the start of the first group that is equal to a group after these types, which may be that group
-- itself (own rule)
abbrev pub start_among : BTreeMap (Vec ℕ) ℕ → List ℕ → List SubType → ℕ
start_among starts indices group = unwrap_or (known_start starts (codes_after indices group)) (length indices)

-- `count` consecutive numbers from `start` on
abbrev pub numbers_from : ℕ → ℕ → List ℕ
numbers_from start zero = []
numbers_from start (suc count) = start ∷ numbers_from (start + 1) count
