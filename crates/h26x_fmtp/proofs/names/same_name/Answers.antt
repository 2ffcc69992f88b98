use Rattle.h26x_fmtp.proofs.NameLemmas.{tested_names}
use Rattle.h26x_fmtp.proofs.names.same_name.Goals as goal

pub returns : goal.returns
returns c = tested_names c.args.a.now c.args.b.now c.eq_ignore_ascii_case.result c.eq_ignore_ascii_case.ensures.test.0 c.eq_ignore_ascii_case.ensures.test.1
