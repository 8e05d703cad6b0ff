-- Counts of imports of a kind.
use Rattle.std.proofs.Common.{◌≡◌, ◌∙◌, ℕ, ◌+◌, ◌-◌, List, ◌++◌, ap, arith, drop, length, length-append, take}
use Rattle.std.proofs.Math.Seq.{take-add}
use Rattle.std.specs.Prelude.{slice_range}
use Rattle.std.proofs.lemmas.Grind.{flat_map-append}
use Rattle.smith_types.specs.Syntax.entity_type.EntityType.{EntityType}
use Rattle.smith_types.specs.Syntax.entity_type.ExportKind.{ExportKind}
use Rattle.smith_types.specs.Syntax.entity_type.ExportKind.TheVariants as kind
use Rattle.smith_types.specs.Syntax.imports.Import.{Import}
use Rattle.smith_types.specs.Syntax.imports.Imports.{Imports}
use Rattle.smith_types.specs.Imports.{flattened, func_of, global_of, imported, imports_of, memory_of, table_of, tag_of}
use Rattle.smith_judge.specs.Places.{imported_count}

-- entities of a kind in groups, and in more groups
imported_append : {A : Type 0} (of_kind : EntityType → List A) (xs ys : List Imports)
    → length (imported of_kind (flattened (xs ++ ys))) ≡ length (imported of_kind (flattened xs)) + length (imported of_kind (flattened ys))
imported_append of_kind xs ys =
    ap (λ (all : List Import). length (imported of_kind all)) (flat_map-append imports_of xs ys)
    ∙ ap length (flat_map-append (λ (one : Import). of_kind one.entity_type) (flattened xs) (flattened ys))
    ∙ length-append (imported of_kind (flattened xs)) (imported of_kind (flattened ys))

pub count_append : (one : ExportKind) (xs ys : List Imports) → imported_count one (xs ++ ys) ≡ imported_count one xs + imported_count one ys
count_append kind.Func xs ys = imported_append func_of xs ys
count_append kind.Table xs ys = imported_append table_of xs ys
count_append kind.Memory xs ys = imported_append memory_of xs ys
count_append kind.Global xs ys = imported_append global_of xs ys
count_append kind.Tag xs ys = imported_append tag_of xs ys

-- with a further group
pub count_next : (one : ExportKind) (groups : List Imports) (place : ℕ) → imported_count one (take (place + 1) groups)
    ≡ imported_count one (take place groups) + imported_count one (slice_range groups place (place + 1))
count_next one groups place =
    let width : 1 ≡ place + 1 - place = omega arith in
    ap (imported_count one) (take-add place 1 groups)
    ∙ count_append one (take place groups) (take 1 (drop place groups))
    ∙ ap (λ (n : ℕ). imported_count one (take place groups) + imported_count one (take n (drop place groups))) width
