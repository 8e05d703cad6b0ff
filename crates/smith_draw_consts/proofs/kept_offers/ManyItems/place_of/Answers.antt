use Rattle.smith_draw_consts.proofs.kept_offers.ManyItems.place_of.Goals as goal

pub returns-clause-kept : goal.returns-clause-kept
returns-clause-kept c = λ context valid kept. record {
  items = kept.items;
  entries = c.in_ok-place.ensures.kept context c.args.self.now.items valid kept.entries;
}
