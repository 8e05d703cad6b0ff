use Rattle.smith_spell.proofs.WrittenTypeLemmas.{last_stands}
use Rattle.smith_spell.proofs.value_types.class_place.Goals as goal

pub returns-in-Ref : goal.returns-in-Ref
returns-in-Ref c = λ types member.
    let config = c.args.config.now in
    let references = (rw c.in-Ref.is at member).0 in
    rw (c.in-Ref.is, c.count_classes.ensures) (last_stands _ _ _ _ _ _ config.allow_floats config.simd_enabled
    config.reference_types_enabled references)
