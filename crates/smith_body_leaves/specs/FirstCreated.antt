-- The first types whose created values match a wanted type.
use Rattle.std.specs.Prelude.{ℕ, Bool, true, ◌&&◌, Option, is_some, length, slice_get}
use Rattle.smith_types.specs.Syntax.value_type.ValType.{ValType}
use Rattle.smith_instr.specs.Contexts.{BodyContext}
use Rattle.smith_body_nodes.specs.IndexedTypes.{element_in, is_created_below, is_created_struct}
use Rattle.smith_body_nodes.specs.Offered.{offered}
use Rattle.smith_body_nodes.specs.Scopes.{indexed}

-- an array type whose created values match the wanted type
abbrev pub is_created_empty : BodyContext → ValType → ℕ → Bool
is_created_empty context wanted index = is_created_below context wanted index && is_some (element_in (slice_get context.types index))

-- the first of the offered items
abbrev pub first_offered : (ℕ → Bool) → ℕ → Option ℕ
first_offered test size = slice_get (offered test size) 0

-- the first struct type whose fields all have defaults, and the first array type, whose created
-- values match the wanted type
abbrev pub first_created_struct : BodyContext → ValType → Option ℕ
first_created_struct context wanted = first_offered (is_created_struct context wanted true) (indexed (length context.types))

abbrev pub first_created_array : BodyContext → ValType → Option ℕ
first_created_array context wanted = first_offered (is_created_empty context wanted) (indexed (length context.types))
