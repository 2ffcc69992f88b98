use Rattle.h26x_answers.proofs.DeclaredLemmas.{h264_received, h265_received, h266_received}
use Rattle.h26x_answers.proofs.laws.declared_formats_are_received.Goals as goal

pub returns : goal.returns
returns c = record { h264 = h264_received; h265 = h265_received; h266 = h266_received }
