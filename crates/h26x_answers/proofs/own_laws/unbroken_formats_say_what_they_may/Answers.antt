use Rattle.h26x_answers.proofs.OwnLemmas.{h264_may, h265_may, h266_may}
use Rattle.h26x_answers.proofs.own_laws.unbroken_formats_say_what_they_may.Goals as goal

pub returns : goal.returns
returns c = record { h264 = h264_may; h265 = h265_may; h266 = h266_may }
