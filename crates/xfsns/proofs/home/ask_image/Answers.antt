use Rattle.xfsns.proofs.home.ask_image.Goals as goal

pub ask_view-requires-clause-seen : goal.ask_view-requires-clause-seen
ask_view-requires-clause-seen g c = rw c.home-view.ensures (c.requires.seen c.args.pool.blocks c.args.pool.free)

pub ask_view-requires-clause-pool : goal.ask_view-requires-clause-pool
ask_view-requires-clause-pool g c = rw c.home-view.ensures c.requires.pool.blocks
