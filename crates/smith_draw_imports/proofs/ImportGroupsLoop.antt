-- The iterations of the loop over groups of imports.
use Rattle.smith_draw_imports.proofs.Common.{ap, arith, Bool, Config, false, flattened, Imports, length, List, piece_short, refl, SubType}
use Rattle.smith_draw_imports.proofs.Common.{suc, sym, true, ℕ, ◌+◌, ◌-◌, ◌<◌, ◌∙◌, ◌≡◌, ◌≤◌}
use Rattle.std.proofs.Common.{le-ltb, lt-ltb}
use Rattle.std.proofs.Common.{nat_lt}
use Rattle.smith_bytes.specs.Source.{KeepsPieces}
use Rattle.smith_bytes.specs.Growth.{goes_at}
use Rattle.smith_draw_imports.specs.Importing.{group_at, groups_at}

-- `turns` iterations suffice, and the groups added from here on complete the whole
pub record IsGrouping (config : Config) (types : List SubType) (distinct : Bool) (made : List Imports) (count : ℕ) (start bytes : List ℕ)
    (total : List Imports × List ℕ) : Type 0 where
  pub turns : ℕ
  pub count_is : count ≡ length (flattened made)
  pub most : count ≤ config.max_imports
  pub enough : config.max_imports + length bytes < turns + count
  pub so_far : groups_at config types distinct turns made bytes ≡ total
  pub left : KeepsPieces start bytes

module _ {config : Config} {types : List SubType} {distinct : Bool} {made : List Imports} {count : ℕ} {start bytes : List ℕ}
    {total : List Imports × List ℕ} where
  pub groups_stop : {mid : List ℕ} {b : Bool} → IsGrouping config types distinct made count start bytes total → count < config.max_imports
      → goes_at (nat_lt count config.min_imports) bytes ≡ (b, mid) → b ≡ false → total ≡ (made, mid)
  unfolding groups_at
  groups_stop {mid = mid} now room drawn off =
      let k : now.turns ≡ suc (now.turns - 1) = omega arith in
      let one : groups_at config types distinct now.turns made bytes ≡ (made, mid) =
      rw (k, ← now.count_is, lt-ltb count config.max_imports room, drawn, off) refl in
      sym now.so_far ∙ one

  pub groups_full : IsGrouping config types distinct made count start bytes total → config.max_imports ≤ count → total ≡ (made, bytes)
  unfolding groups_at
  groups_full now over =
      let k : now.turns ≡ suc (now.turns - 1) = omega arith in
      let one : groups_at config types distinct now.turns made bytes ≡ (made, bytes) =
      rw (k, ← now.count_is, le-ltb count config.max_imports over) refl in
      sym now.so_far ∙ one

  pub groups_end : {mid after : List ℕ} {more : List Imports} {b goes_on : Bool} → IsGrouping config types distinct made count start bytes
      total → count < config.max_imports → goes_at (nat_lt count config.min_imports) bytes ≡ (b, mid) → b ≡ true
      → group_at config types distinct made mid ≡ (goes_on, (more, after)) → goes_on ≡ false → total ≡ (more, after)
  unfolding groups_at
  groups_end {mid = mid} {after = after} {more = more} now room drawn on grouped off =
      let k : now.turns ≡ suc (now.turns - 1) = omega arith in
      let one : groups_at config types distinct now.turns made bytes ≡ (more, after) =
      rw (k, ← now.count_is, lt-ltb count config.max_imports room, drawn, on, grouped, off) refl in
      sym now.so_far ∙ one

  groups_turn : (turns : ℕ) (mid after : List ℕ) (more : List Imports) (b goes_on : Bool)
      → IsGrouping config types distinct made count start bytes total → count < config.max_imports
      → goes_at (nat_lt count config.min_imports) bytes ≡ (b, mid) → b ≡ true
      → group_at config types distinct made mid ≡ (goes_on, (more, after)) → goes_on ≡ true
      → groups_at config types distinct (suc turns) made bytes ≡ groups_at config types distinct turns more after
  unfolding groups_at
  groups_turn turns mid after more b goes_on now room drawn on grouped goes =
      rw (← now.count_is, lt-ltb count config.max_imports room, drawn, on, grouped, goes) refl

  pub groups_more : {mid after : List ℕ} {more : List Imports} {new : ℕ} {b goes_on : Bool}
      → IsGrouping config types distinct made count start bytes total → count < config.max_imports
      → goes_at (nat_lt count config.min_imports) bytes ≡ (b, mid) → b ≡ true
      → group_at config types distinct made mid ≡ (goes_on, (more, after)) → goes_on ≡ true → new ≡ length (flattened more)
      → new ≤ config.max_imports → count + length after < new + length mid → KeepsPieces bytes mid → KeepsPieces mid after
      → IsGrouping config types distinct more new start after total
  groups_more {mid = mid} {after = after} {more = more} {new = new} now room drawn on grouped goes new_is new_most advances p q =
      let k : now.turns ≡ suc (now.turns - 1) = omega arith in
      let one : groups_at config types distinct now.turns made bytes ≡ groups_at config types distinct (now.turns - 1) more after =
      ap (λ n. groups_at config types distinct n made bytes) k ∙ groups_turn (now.turns - 1) mid after more _ _ now room drawn on
      grouped goes in
      let short = piece_short p in
      record {
        turns = now.turns - 1;
        count_is = new_is;
        most = new_most;
        enough = omega (arith, now.enough, short);
        so_far = sym one
            ∙ now.so_far;
        left = λ whole h. q whole (p whole (now.left whole h));
      }
