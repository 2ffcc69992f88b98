use Rattle.std.proofs.lemmas.List.{map-set}
use Rattle.h26x_fmtp.specs.ParametersViews.{value_view}
use Rattle.h26x_sdp_handles.proofs.changed_parameters.put.Goals as goal

pub returns-clause-put : goal.returns-clause-put
returns-clause-put c = map-set value_view c.args.values.now.items c.args.place c.args.value
