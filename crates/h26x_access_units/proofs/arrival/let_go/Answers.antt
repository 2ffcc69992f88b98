use Rattle.h26x_access_units.proofs.PassedLemmas.{goes}
use Rattle.h26x_access_units.proofs.arrival.let_go.Goals as goal

pub returns : goal.returns
returns c = goes c.args.from c.make_room-since.result c.args.due c.args.number c.args.arrivals.now.items c.make_room-since.new.arrivals.items c.drop_front.new.arrivals.items
    c.ranges.due.fits c.make_room-since.ensures c.drop_front.ensures.waits c.drop_front.ensures.first c.drop_front.ensures.end
