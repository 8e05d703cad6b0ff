-- Whether a heap type is shared.
use Rattle.std.specs.Prelude.{Bool, false, Option, Some, None, List, slice_get}
use Rattle.smith_draw_types.specs.Common.{Abstract, Concrete, Exact, HeapType, shared, SubType}

-- whether a type exists and is shared (own rule)
abbrev pub is_type_shared : Option SubType → Bool
is_type_shared (Some t) = shared t
is_type_shared None = false

-- whether a heap type is shared; a concrete heap type is if the type at its index is (own rule)
abbrev pub is_heap_type_shared : List SubType → HeapType → Bool
is_heap_type_shared types (Abstract is_shared ty) = is_shared
is_heap_type_shared types (Concrete index) = is_type_shared (slice_get types index)
is_heap_type_shared types (Exact index) = is_type_shared (slice_get types index)
