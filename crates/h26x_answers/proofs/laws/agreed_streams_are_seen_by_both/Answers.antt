use Rattle.h26x_answers.proofs.AgreedLemmas.{h264_seen, h265_seen, h266_seen, h264_within}
use Rattle.h26x_answers.proofs.laws.agreed_streams_are_seen_by_both.Goals as goal

pub returns : goal.returns
returns c = record { h264 = h264_seen; h265 = h265_seen; h266 = h266_seen; within = h264_within }
