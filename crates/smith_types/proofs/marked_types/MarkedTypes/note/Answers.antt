use Rattle.smith_types.proofs.Common.{false, refl, true}
use Rattle.smith_types.proofs.MarkedLemmas.{marked_kept, marked_pushed, list_fits}
use Rattle.smith_types.proofs.marked_types.MarkedTypes.note.Goals as goal

pub returns-then-not-own : goal.returns-then-not-own
returns-then-not-own c = marked_kept c.args.types.now c.args.added.now c.args.grounds.now c.args.own c.refresh.new.self c.requires.own
    c.if-not-own.true c.refresh.ensures.marked

pub push-requires : goal.push-requires
push-requires c =
    let listed = c.refresh.ensures.marked in
    let room = c.refresh.ensures.room in
    record {
      plain = list_fits c.args.types.now c.args.grounds.now false c.refresh.new.self.plain.items _ _ (c.refresh.new.self.plain.ok.0)
          listed.plain room.plain;
      shared = list_fits c.args.types.now c.args.grounds.now true c.refresh.new.self.shared.items _ _ (c.refresh.new.self.shared.ok.0)
          listed.shared room.shared;
    }

pub returns : goal.returns
returns c = marked_pushed c.args.types.now c.args.added.now c.args.grounds.now c.args.own _ c.refresh.new.self c.push.new.self
    c.requires.own c.if-not-own.false refl c.push.ensures.plain c.push.ensures.shared c.refresh.ensures.marked
