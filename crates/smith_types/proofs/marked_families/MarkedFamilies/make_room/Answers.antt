use Rattle.smith_types.proofs.Common.{arith}
use Rattle.smith_types.proofs.MarkedFamilyLemmas.{room_at}
use Rattle.smith_types.proofs.marked_families.MarkedFamilies.make_room.Goals as goal

pub returns-in_ok-reserve-clause-room : goal.returns-in_ok-reserve-clause-room
returns-in_ok-reserve-clause-room c =
    room_at c.extend_lists.new.lists.items c.in-Some.index c.reserve.new.self c.args.supertype c.in_ok-extend_lists.ensures.long
    c.in-Some.is (omega (arith, c.in_ok-reserve.ensures.ok))
