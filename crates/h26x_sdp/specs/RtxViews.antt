-- What the calls on the format of retransmission say.
use Rattle.std.specs.Prelude.{◌≡◌, Result, Ok, Err}
use Rattle.h26x_sdp.specs.declared.error.RtxError.{RtxError}
use Rattle.h26x_sdp.specs.declared.error.RtxError.TheVariants.{Parameters, NoPayloadType, OutOfMemory}
use Rattle.h26x_sdp.specs.declared.rtx.RtxFormat.{RtxFormat}

-- what a call answers is what the definition gives, or want of memory
abbrev pub SaysRtx : Result RtxFormat RtxError → Result RtxFormat RtxError → Type 0
SaysRtx (Ok it) read = read ≡ Ok it
SaysRtx (Err OutOfMemory) read = Unit {0}
SaysRtx (Err NoPayloadType) read = read ≡ Err NoPayloadType
SaysRtx (Err (Parameters fault)) read = read ≡ Err (Parameters fault)
