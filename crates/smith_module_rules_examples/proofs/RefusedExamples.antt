-- Lemmas for the examples of refused modules.
use Rattle.smith_module_rules_examples.proofs.Common.{arith, ◌≡◌, false, [], ◌∷◌, None, refl, sym, subst, codes, IsTrue, All, same_Some}
use Rattle.smith_module_rules_examples.proofs.Common.{All-head, not_null, plain, AreExportsValid, IsElementSegmentValid, IsDataValid}
use Rattle.smith_module_rules_examples.proofs.Common.{TableType, Expressions, Config, default_config, AreDefinitionsValid, module_spaces}
use Rattle.smith_module_rules_examples.proofs.Common.{segment_context, table, no_function, passive_elements, exported_twice}
use Rattle.smith_module_rules_examples.proofs.Common.{null_of_no_null, two_elements, passive_bytes}
use Rattle.smith_types.specs.Syntax.value_type.AbstractHeapType.TheVariants as heap
use Rattle.smith_types.specs.Syntax.segments.DataSegmentKind.TheVariants as data_kind

abbrev without_bulk_memory : Config
without_bulk_memory = record default_config { bulk_memory_enabled = false }

pub null_refused : ¬ AreDefinitionsValid null_of_no_null
null_refused valid =
    let (stands, at, null) = valid.tables 0 None refl in
    let never : IsTrue false = subst (λ (one : TableType). IsTrue one.element_type.nullable)
    (sym (same_Some (table (not_null (plain heap.Func)) 1 None) stands at)) null in
    cc never

pub name_refused : ¬ AreExportsValid (module_spaces (exported_twice [] [])) (exported_twice (codes "a") (codes "a")).exports
name_refused valid = let same : 0 ≡ 1 = valid.distinct.once 0 1 (codes "a") refl refl in omega (arith, same)

pub elements_refused : ¬ All (IsElementSegmentValid (segment_context (record two_elements { config = without_bulk_memory })) [])
    two_elements.elems
elements_refused valid =
    let segment = All-head (IsElementSegmentValid (segment_context (record two_elements { config = without_bulk_memory })) [])
    (passive_elements (Expressions (no_function ∷ no_function ∷ []))) [] valid in
    cc segment.kind

pub bytes_refused : ¬ All (IsDataValid (segment_context (record passive_bytes { config = without_bulk_memory })) []) passive_bytes.datas
bytes_refused valid =
    let never = All-head (IsDataValid (segment_context (record passive_bytes { config = without_bulk_memory })) [])
    (record { kind = data_kind.Passive; init = 42 ∷ [] }) [] valid in
    cc never
