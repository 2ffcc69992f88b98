use Rattle.std.proofs.Common.{Some}
use Rattle.std.proofs.lemmas.List.{map-set}
use Rattle.h26x_fmtp.specs.ParametersViews.{value_view}
use Rattle.h26x_fmtp.proofs.parameters.put.Goals as goal

pub returns : goal.returns
returns c = map-set value_view c.args.values.now.items c.args.place (Some c.args.value)
