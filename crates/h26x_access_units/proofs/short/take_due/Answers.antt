use Rattle.std.proofs.Common.{◌∙◌, sym}
use Rattle.h26x_access_units.proofs.short.take_due.Goals as goal

pub take_on-requires : goal.take_on-requires
take_on-requires g c = sym (c.goes_on.ensures c.args.ended.now.items) ∙ c.if-goes_on.true

pub take_sole-requires : goal.take_sole-requires
take_sole-requires g c = sym (c.is_sole.ensures c.args.ended.now.items) ∙ c.if-is_sole.true
