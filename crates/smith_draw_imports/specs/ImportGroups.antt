-- The kind of a drawn group of imports. Rules of this project.
use Rattle.std.specs.Prelude.{ℕ, ◌*◌, ◌/◌, ◌^◌, ◌==◌, List, if◌then◌else◌}
use Rattle.smith_bytes.specs.Draws.{whole_at}
use Rattle.smith_config.specs.declared.config.Config.{Config}
pub use Rattle.smith_draw_imports.specs.declared.import_groups.GroupKind.{GroupKind}
use Rattle.smith_draw_imports.specs.declared.import_groups.GroupKind.TheVariants.{Single, OfOneModule, OfOneType}

-- the kind for a number of 32 bits: each kind has a third of the numbers, in this order
abbrev pub kind_of_number : ℕ → GroupKind
kind_of_number number =
    let third = number * 3 / 2 ^ 32 in
    if third == 0 then Single
    else if third == 1 then OfOneModule
    else OfOneType

-- the kind of a group: drawn, or a single import without a draw if compact imports are disabled
unfoldable pub group_kind_at : Config → List ℕ → GroupKind × List ℕ
group_kind_at config bytes =
    if config.compact_imports_enabled
    then (let drawn = whole_at 4 bytes in (kind_of_number drawn.0, drawn.1))
    else (Single, bytes)
