-- Drawn exports. Rules of this project.
use Rattle.std.specs.Prelude.{◌≡◌, ℕ, zero, suc, ◌+◌, ◌-◌, Bool, ◌&&◌, max, nat_lt, List, [], ◌∷◌, ◌++◌, length, Result, Ok, Err}
use Rattle.std.specs.Prelude.{if◌then◌else◌}
use Rattle.std.specs.Fmt.{decimal}
use Rattle.std.specs.HashSet.{HashSet, contains_text, hash_set_len}
use Rattle.std.specs.List.{list_any}
use Rattle.std.specs.Str.{bytes_eq}
use Rattle.std.specs.declared.alloc.Global.{Global}
use Rattle.std.specs.declared.string.String.{String}
use Rattle.smith_bytes.specs.declared.error.Count.TheVariants as counts
use Rattle.smith_draw_contents.specs.Common.{chosen_at, Config, EntitySpaces, Export, exported_size, places_from, SubType, Unmet, Why}
use Rattle.smith_bytes.specs.Growth.{goes_at}
use Rattle.smith_bytes.specs.Names.{text_at, new_name}
use Rattle.smith_types.specs.Sizes.{size_in}
use Rattle.smith_types.specs.Syntax.entity_type.EntityType.TheVariants as entity
use Rattle.smith_types.specs.Syntax.entity_type.ExportKind.{ExportKind}
use Rattle.smith_types.specs.Syntax.entity_type.ExportKind.TheVariants as kind
use Rattle.smith_draw_types.specs.Choices.{enabled}

-- whether an export has this name
abbrev pub is_exported : List Export → List ℕ → Bool
is_exported exports name = list_any (λ (one : Export). bytes_eq one.0 name) exports

module _ {S : Type 0} where
  -- a set has the names of exports, each once
  pub record HasNames (names : HashSet (String Global) S) (exports : List Export) : Type 0 where
    pub has : (name : List ℕ) → contains_text names name ≡ is_exported exports name
    pub size : hash_set_len names ≡ length exports

-- the length of the longest name of an export
abbrev pub longest_export : List Export → ℕ
longest_export [] = 0
longest_export (one ∷ exports) = max (length one.0) (longest_export exports)

-- the name of an export after others: a text of at most 1000 bytes, with the number of these
-- exports appended until no export has the name
unfoldable pub export_name_at : List Export → List ℕ → List ℕ × List ℕ
export_name_at exports bytes =
    let text = text_at 1000 bytes in
    (new_name (is_exported exports) (decimal (length exports)) (longest_export exports + 1) text.0, text.1)

-- whether the size of a function of a type, plus 1, is below the type size left
abbrev pub is_func_below : List SubType → ℕ → ℕ → Bool
is_func_below types left func = nat_lt (size_in types (entity.Func func) + 1) left

-- the indices of the items of a kind whose size, plus 1, is below the type size left; tags are not
-- offered
abbrev pub candidates : List SubType → EntitySpaces → ℕ → ExportKind → List ℕ
candidates types spaces left kind.Func = places_from (is_func_below types left) 0 spaces.funcs
candidates types spaces left kind.Table = places_from (λ table. nat_lt 2 left) 0 spaces.tables
candidates types spaces left kind.Memory = places_from (λ memory. nat_lt 2 left) 0 spaces.memories
candidates types spaces left kind.Global = places_from (λ global. nat_lt 2 left) 0 spaces.globals
candidates types spaces left kind.Tag = []

-- a kind, and whether it has a candidate
abbrev pub candidate_row : List SubType → EntitySpaces → ℕ → ExportKind → ExportKind × Bool
candidate_row types spaces left of_kind = (of_kind, nat_lt 0 (length (candidates types spaces left of_kind)))

-- the kinds in the order in which they are counted
abbrev pub candidate_rows : List SubType → EntitySpaces → ℕ → List (ExportKind × Bool)
candidate_rows types spaces left =
    candidate_row types spaces left kind.Func
    ∷ (candidate_row types spaces left kind.Table ∷
    (candidate_row types spaces left kind.Memory ∷ (candidate_row types spaces left kind.Global ∷ [])))

-- the kinds that have a candidate
abbrev pub offered_kinds : List SubType → EntitySpaces → ℕ → List ExportKind
offered_kinds types spaces left = enabled (candidate_rows types spaces left)

-- an export after others: its name, its kind among the kinds with a candidate, and a candidate
unfoldable pub export_at : List SubType → EntitySpaces → ℕ → List Export → List ℕ → Export × List ℕ
export_at types spaces left exports bytes =
    let name = export_name_at exports bytes in
    let of_kind = chosen_at kind.Memory (offered_kinds types spaces left) name.1 in
    let index = chosen_at 0 (candidates types spaces left of_kind.0) of_kind.1 in
    ((name.0, of_kind.0, index.0), index.1)

-- at most `most` more exports after others, where imports add this amount to the type size: while
-- there are too few, without a drawn bool, and only while there is a candidate
unfoldable pub exports_from : Config → List SubType → EntitySpaces → ℕ → ℕ → List Export → List ℕ → List Export × List ℕ
exports_from config types spaces imports zero exports bytes = (exports, bytes)
exports_from config types spaces imports (suc most) exports bytes =
    let go = goes_at (nat_lt (length exports) config.min_exports) bytes in
    let left = config.max_type_size - (imports + exported_size types spaces exports) in
    let one = export_at types spaces left exports go.1 in
    if go.0 && nat_lt 0 (length (offered_kinds types spaces left))
    then exports_from config types spaces imports most (exports ++ one.0 ∷ []) one.1
    else (exports, go.1)

-- the freely drawn exports; an error if they are fewer than the minimum
unfoldable pub free_exports_at : Config → List SubType → EntitySpaces → ℕ → List ℕ → Result (List Export × List ℕ) Why
free_exports_at config types spaces imports bytes =
    let drawn = exports_from config types spaces imports config.max_exports [] bytes in
    if nat_lt (length drawn.0) config.min_exports then Err (Unmet counts.Exports) else Ok drawn
