use Rattle.std.proofs.Common.{[], ◌∷◌, refl}
use Rattle.h26x_codec.proofs.PlainLemmas.{behind_byte, behind_zero, behind_zeros, nothing_plain}
use Rattle.h26x_codec.proofs.cases.plain_units.Goals as goal

pub returns-clause-h264_first : goal.returns-clause-h264_first
returns-clause-h264_first c = record { header = refl; text = behind_byte 0 [] nothing_plain }

pub returns-clause-h264_last : goal.returns-clause-h264_last
returns-clause-h264_last c = record {
  header = refl;
  text = behind_byte 0x76 (0 ∷ 0 ∷ 2 ∷ []) (behind_zeros 0 [] (behind_byte 1 [] nothing_plain));
}

pub returns-clause-h265_first : goal.returns-clause-h265_first
returns-clause-h265_first c = record { header = refl; text = behind_zero 0 [] (behind_byte 0 [] nothing_plain) }

pub returns-clause-h265_last : goal.returns-clause-h265_last
returns-clause-h265_last c = record { header = refl; text = behind_byte 0x5e (0xff ∷ []) (behind_byte 0xfe [] nothing_plain) }

pub returns-clause-h266_first : goal.returns-clause-h266_first
returns-clause-h266_first c = record { header = refl; text = behind_zero 0 [] (behind_byte 0 [] nothing_plain) }

pub returns-clause-h266_last : goal.returns-clause-h266_last
returns-clause-h266_last c = record { header = refl; text = behind_byte 0x3e (0xdf ∷ []) (behind_byte 0xde [] nothing_plain) }
