-- Drawn limits, with small numbers more likely.
use Rattle.std.specs.Prelude.{ℕ, ◌+◌, ◌-◌, ◌*◌, ◌/◌, Bool, true, Option, Some, None, List, nat_lt, ◌==◌, if◌then◌else◌}
use Rattle.smith_draw_types.specs.Common.{bool_at, range_at}
use Rattle.smith_bytes.specs.Draws.{whole_at}

-- the greatest 32-bit number
abbrev pub most_u32 : ℕ
most_u32 = 4294967295

-- n * x divided by the greatest 32-bit number, rounded down
unfoldable pub scaled : ℕ → ℕ → ℕ
scaled n x = n * x / most_u32

-- the sixth power of x as a fraction of the greatest 32-bit number, rounded down at each product
unfoldable pub sixth_power : ℕ → ℕ
sixth_power x = scaled (scaled (scaled (scaled (scaled x x) x) x) x) x

-- the number for a 32-bit number x: mostly near min and at most inbounds; anywhere up to max for
-- the greatest 0.5 % of x
unfoldable pub gradual : ℕ → ℕ → ℕ → ℕ → ℕ
gradual min inbounds max x =
    if nat_lt (1000 * x) (995 * most_u32)
    then min + scaled (inbounds - min) (sixth_power x)
    else min + scaled (max - min) x

-- a number in min..=max
unfoldable pub gradually_at : ℕ → ℕ → ℕ → List ℕ → ℕ × List ℕ
gradually_at min inbounds max bytes =
    if min == max then (min, bytes)
    else (let x = whole_at 4 bytes in (gradual min inbounds max x.0, x.1))

-- a minimum, and a maximum if it is required or a bool is true
unfoldable pub limits64_at : ℕ → ℕ → Bool → ℕ → List ℕ → (ℕ × Option ℕ) × List ℕ
limits64_at least most required inbounds bytes =
    let minimum = gradually_at least inbounds most bytes in
    let bounded = if required then (true, minimum.1) else bool_at minimum.1 in
    if bounded.0
    then (let maximum = range_at minimum.0 most bounded.1 in ((minimum.0, Some maximum.0), maximum.1))
    else ((minimum.0, None), bounded.1)
