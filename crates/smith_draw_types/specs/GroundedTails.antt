-- The grounded types among the last subtypes that are offered for an abstract heap type, and among
-- the direct subtypes of a concrete heap type.
use Rattle.std.specs.Prelude.{◌≡◌, ℕ, ◌^◌, ◌<◌, ◌≤◌, List, length, map, drop, filter}
use Rattle.smith_draw_types.specs.Common.{Concrete, Config, Context, HeapType}
use Rattle.smith_draw_types.specs.Grounding.{is_grounded}
use Rattle.smith_draw_types.specs.Offered.{gc_subtypes, offered_direct_subtypes}
use Rattle.smith_draw_types.specs.declared.matching.GroundedTail.{GroundedTail}

-- the indices of the grounded types from a position on
pub record IsGroundedTail (config : Config) (context : Context) (ty : HeapType) (tail : GroundedTail) : Type 0 where
  pub some : 0 < tail.start
  pub few : tail.start < 2 ^ 8
  pub within : tail.start ≤ length (gc_subtypes config context.types ty)
  pub rest : filter (is_grounded context) (drop tail.start (gc_subtypes config context.types ty)) ≡ map Concrete tail.indices.now

-- the indices of the grounded direct subtypes of a type that exists
pub record IsGroundedFamily (context : Context) (index : ℕ) (indices : List ℕ) : Type 0 where
  pub stands : index < length context.types
  pub direct : filter (is_grounded context) (offered_direct_subtypes context.types index) ≡ map Concrete indices
