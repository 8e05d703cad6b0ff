use Rattle.std.proofs.Common.{rules, ◌≡◌, ◌≤◌, ◌⊎◌, true, Some, None, inl, inr, arith, refl}
use Rattle.smith_types.specs.Entities.{AreLimitsValid, IsMemoryValid}
use Rattle.smith_types.specs.Flags.{funcref}
use Rattle.smith_types.specs.ExampleEntities.{memory, table}
use Rattle.smith_types.specs.Syntax.Features.{every_feature}
use Rattle.smith_config_examples.proofs.ChainExamples.{chain_deep, chain_shallow}
use Rattle.smith_config_examples.proofs.shape_faults.limits.Goals as goal

pub returns-clause-a_page_too_many : goal.returns-clause-a_page_too_many
returns-clause-a_page_too_many c = λ right.
    let valid : IsMemoryValid every_feature (memory 65537 None) = right.memories 0 (memory 65537 None) (omega arith) in
    let fits : 65537 ≤ 65536 = valid.limits.minimum_fits in
    omega (arith, fits)

pub returns-clause-pages_of_16_bytes : goal.returns-clause-pages_of_16_bytes
returns-clause-pages_of_16_bytes c = λ right.
    let pages = record (memory 1 None) { page_size_log2 = Some 4 } in
    let valid : IsMemoryValid every_feature pages = right.memories 0 pages (omega arith) in
    let stated : (4 ≡ 0) ⊎ (4 ≡ 16) = valid.page_size.0 in
    elim stated [ inl small ↦ omega (arith, small) | inr large ↦ omega (arith, large) ]

pub returns-clause-shared_memory_without_maximum : goal.returns-clause-shared_memory_without_maximum
returns-clause-shared_memory_without_maximum c = λ right.
    let open_ended = record (memory 1 None) { shared = true } in
    let valid : IsMemoryValid every_feature open_ended = right.memories 0 open_ended (omega arith) in
    cc ((valid.shared refl).1)

pub returns-clause-depth_of_63 : goal.returns-clause-depth_of_63
returns-clause-depth_of_63 c =
    λ wrong. wrong (record { tables = search rules; memories = search rules; shallow = chain_shallow 63 (omega arith) })

pub returns-clause-depth_of_64 : goal.returns-clause-depth_of_64
returns-clause-depth_of_64 c = λ right. let most : 64 ≤ 63 = right.shallow.each 63 64 (chain_deep 64 63 (omega arith)) in
    omega (arith, most)

pub returns-clause-limits_crossed : goal.returns-clause-limits_crossed
returns-clause-limits_crossed c = λ right.
    let limits : AreLimitsValid 4294967295 2 (Some 1) = right.tables 0 (table funcref 2 (Some 1)) (omega arith) in
    let ordered : 2 ≤ 1 = limits.maximum_fits.0 in
    omega (arith, ordered)
