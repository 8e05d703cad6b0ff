use Rattle.std.proofs.Common.{inl, inr}
use Rattle.smith_spell.proofs.WrittenTypeLemmas.{ref_type_written}
use Rattle.smith_spell.proofs.value_types.write_ref_type.Goals as goal

pub write_heap_type-requires : goal.write_heap_type-requires
write_heap_type-requires c = let member = c.requires in record { types = member.types; few = member.few; holds = member.holds.1 }

pub write_nullable-requires : goal.write_nullable-requires
write_nullable-requires c = λ off. elim c.requires.holds.2 [ inl nullable ↦ nullable | inr grounded ↦ let on = grounded.0 in cc ]

pub returns-clause-writes : goal.returns-clause-writes
returns-clause-writes c = ref_type_written c.args.config.now c.args.limit c.args.reference c.requires.holds.0
    c.in_ok-write_heap_type.ensures.writes c.in_ok-write_nullable.ensures.writes
