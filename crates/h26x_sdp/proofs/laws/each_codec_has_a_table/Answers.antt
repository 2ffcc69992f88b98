use Rattle.h26x_sdp.proofs.RowLemmas.{h264_table, h265_table, h266_table}
use Rattle.h26x_sdp.proofs.laws.each_codec_has_a_table.Goals as goal

pub returns : goal.returns
returns c = record { h264 = h264_table; h265 = h265_table; h266 = h266_table }
