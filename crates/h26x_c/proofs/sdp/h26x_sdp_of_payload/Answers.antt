use Rattle.std.proofs.Common.{Err, refl}
use Rattle.h26x_codes.specs.Codes.{codec_with_number}
use Rattle.h26x_c.proofs.SdpLemmas.{is_of_stream}
use Rattle.h26x_c.proofs.sdp.h26x_sdp_of_payload.Goals as goal

pub returns-in-Err-clause-answer : goal.returns-in-Err-clause-answer
returns-in-Err-clause-answer c = is_of_stream (codec_with_number c.args.codec) c.in-Some.codec c.args.payload.now (Err c.in-Err.code) c.in-Err.code c.args.made.now.value c.in-Some.ensures refl c.in-Err.ensures
