use Rattle.h26x_access_units.proofs.PassedLemmas.{room_made}
use Rattle.h26x_access_units.proofs.arrival.make_room.Goals as goal

pub returns-then-gone-from : goal.returns-then-gone-from
returns-then-gone-from c = room_made c.args.from c.args.due c.args.number c.args.arrivals.now.items c.drop_passed.new.arrivals.items c.ranges.due.fits c.requires c.drop_passed.ensures
