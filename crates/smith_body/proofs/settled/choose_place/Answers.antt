use Rattle.smith_body.proofs.settled.choose_place.Goals as goal

pub returns-clause-settles : goal.returns-clause-settles
returns-clause-settles c = c.store.ensures.settles c.args.draft.now.labels.items
