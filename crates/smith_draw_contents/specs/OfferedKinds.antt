-- The modes of element segments that are offered over tables with some indices. Rules of this
-- project.
use Rattle.std.specs.Prelude.{ℕ, zero, Bool, true, false, ◌&&◌, Some, None, List, [], ◌∷◌, ◌++◌, map, slice_index_or, if◌then◌else◌}
use Rattle.smith_types.specs.Flags.{funcref}
use Rattle.smith_draw_contents.specs.Common.{Config, TableType}
use Rattle.smith_draw_contents.specs.ElementSegments.{KindChoice, is_funcref, kept_kinds}
use Rattle.smith_draw_contents.specs.declared.element_kinds.KindChoice.TheVariants as choice

-- a table without elements, for an index without a table
abbrev pub no_table : TableType
no_table = record { element_type = funcref; minimum = 0; maximum = None; table64 = false; shared = false }

abbrev pub table_at : List TableType → ℕ → TableType
table_at tables index = slice_index_or tables index no_table

-- whether the first of the indices is 0
abbrev pub begin_first : List ℕ → Bool
begin_first (zero ∷ indices) = true
begin_first _ = false

-- the first table without its index, if it is offered and its elements are function references
abbrev pub unnamed_kinds : List TableType → List ℕ → List KindChoice
unnamed_kinds tables indices =
    if begin_first indices && is_funcref (table_at tables 0).element_type then choice.Active None (table_at tables 0) ∷ [] else []

-- each table by its index, with bulk memory
abbrev pub named_kinds : Config → List TableType → List ℕ → List KindChoice
named_kinds config tables indices = if config.bulk_memory_enabled then map (λ index. choice.Active (Some index) (table_at tables index))
    indices else []

-- the modes that are offered if the tables with these indices are
abbrev pub kinds_over : Config → List TableType → List ℕ → List KindChoice
kinds_over config tables indices = kept_kinds config ++ unnamed_kinds tables indices ++ named_kinds config tables indices
