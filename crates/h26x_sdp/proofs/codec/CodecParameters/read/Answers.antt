use Rattle.std.proofs.Common.{subst}
use Rattle.std.proofs.lemmas.Result.{err_from_is_err_and}
use Rattle.h26x_fmtp.specs.ParametersViews.{Fails}
use Rattle.h26x_fmtp.specs.Reading.{read_of}
use Rattle.h26x_sdp.proofs.codec.CodecParameters.read.Goals as goal

pub returns-in_err-parameters : goal.returns-in_err-parameters
returns-in_err-parameters g c =
    let (e, err, same) = err_from_is_err_and c.from_residual.result c.from_residual.ensures.1 in
    let refused = subst (λ rows. Fails c.in_err-parameters.field-0.0 (read_of rows c.args.text.now)) c.rows.ensures c.in_err-parameters.ensures.read in
    rw (err, same) refused
