use Rattle.smith_types.proofs.Common.{arith, length, refl, ◌<◌}
use Rattle.smith_types.proofs.FamilyLemmas.{families_same, families_linked, family_room, supertype_before}
use Rattle.smith_types.proofs.family.join_family.Goals as goal

pub overflow_add-above : goal.overflow_add-above
overflow_add-above c =
    let less = supertype_before c.args.types.now c.args.added.now c.in-Some.supertype c.requires.follows c.in-Some.is in
    let room : length c.args.types.now < length c.args.families.now.items = c.requires.room c.in-Some.supertype c.in-Some.is in
    let fits = family_room c.args.types.now c.args.added.now c.args.families.now.items c.in-Some.supertype c.index-above.result.now _
    c.requires.follows c.requires.families (omega (arith, less, room)) c.index-above.ensures in
    omega (arith, fits)

pub index_mut-requires-in-Some : goal.index_mut-requires-in-Some
index_mut-requires-in-Some c =
    let less = supertype_before c.args.types.now c.args.added.now c.in-Some.supertype c.requires.follows c.in-Some.is in
    let room : length c.args.types.now < length c.args.families.now.items = c.requires.room c.in-Some.supertype c.in-Some.is in
    omega (arith, less, room, c.args.families.now.ok.0)

pub returns-in-Some : goal.returns-in-Some
returns-in-Some c =
    let less = supertype_before c.args.types.now c.args.added.now c.in-Some.supertype c.requires.follows c.in-Some.is in
    let room : length c.args.types.now < length c.args.families.now.items = c.requires.room c.in-Some.supertype c.in-Some.is in
    families_linked c.args.types.now c.args.added.now c.args.families.now.items c.in-Some.supertype (length c.args.types.now)
    c.index-above.result.now _ c.index_mut.result.now _ c.in-Some.is refl less room c.index-above.ensures c.index_mut.ensures.value
    c.requires.families

pub returns-in_default : goal.returns-in_default
returns-in_default c = families_same c.args.types.now c.args.added.now c.args.families.now.items c.in_default.is c.requires.families
