use Rattle.h26x_codec.specs.declared.codec.Codec.TheVariants.{H264, H265, H266}
use Rattle.h26x_sdp_handles.proofs.ErrorLemmas.{is_read, is_refused}
use Rattle.h26x_sdp_handles.proofs.sdp.SdpEndpoint.read.Goals as goal

pub returns-in-Ok : goal.returns-in-Ok
returns-in-Ok c = is_read H264 c.args.codec c.args.text.now c.in-Ok.it c.in-H264.is c.in-Ok.ensures

pub returns-in-Err : goal.returns-in-Err
returns-in-Err c = is_refused H264 c.args.codec c.args.text.now c.in-Err.error c.of_parameters.result c.in-H264.is c.in-Err.ensures c.of_parameters.ensures

pub returns-in-Ok-read : goal.returns-in-Ok-read
returns-in-Ok-read c = is_read H265 c.args.codec c.args.text.now c.in-Ok-read.it c.in-H265.is c.in-Ok-read.ensures

pub returns-in-Err-read : goal.returns-in-Err-read
returns-in-Err-read c = is_refused H265 c.args.codec c.args.text.now c.in-Err-read.error c.of_parameters-in-Err-read.result c.in-H265.is c.in-Err-read.ensures c.of_parameters-in-Err-read.ensures

pub returns-in-Ok-read-2 : goal.returns-in-Ok-read-2
returns-in-Ok-read-2 c = is_read H266 c.args.codec c.args.text.now c.in-Ok-read-2.it c.in-H266.is c.in-Ok-read-2.ensures

pub returns-in-Err-read-2 : goal.returns-in-Err-read-2
returns-in-Err-read-2 c = is_refused H266 c.args.codec c.args.text.now c.in-Err-read-2.error c.of_parameters-in-Err-read-2.result c.in-H266.is c.in-Err-read-2.ensures c.of_parameters-in-Err-read-2.ensures
