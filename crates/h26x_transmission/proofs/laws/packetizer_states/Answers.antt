use Rattle.std.proofs.Common.{refl}
use Rattle.h26x_model.specs.Payload.Facts.{IsPayloadFormat}
use Rattle.h26x_model.specs.Send.PacketizerState.{PacketizerState}
use Rattle.h265_payload.specs.Setting as h265_setting
use Rattle.h266_payload.specs.Setting as h266_setting
use Rattle.h26x_packetizer.specs.PacketizerView.{packetizer_state}
use Rattle.h26x_transmission.specs.CodecStates.{codec_packetizer_state}
use Rattle.h26x_codec.proofs.StateLemmas.{of_state}
use Rattle.h26x_transmission.proofs.laws.packetizer_states.Goals as goal

pub returns-in-H265-clause-format : goal.returns-in-H265-clause-format
returns-in-H265-clause-format g c = λ s is.
    of_state (λ (x : PacketizerState). IsPayloadFormat x.format) (codec_packetizer_state c.args.packetizer.now)
    (packetizer_state (h265_setting.sending_format c.in-H265.it.codec) c.in-H265.it) s (rw c.in-H265.is refl) is
    (c.either_header_is_of_the_format.ensures.facts c.in-H265.it.codec.codec.has_donl c.in-H265.it.codec.lowest_header)

pub returns-in-H266-clause-format : goal.returns-in-H266-clause-format
returns-in-H266-clause-format g c = λ s is.
    of_state (λ (x : PacketizerState). IsPayloadFormat x.format) (codec_packetizer_state c.args.packetizer.now)
    (packetizer_state (h266_setting.setting_format c.in-H266.it.codec) c.in-H266.it) s (rw c.in-H266.is refl) is
    (c.meets_the_facts-in-H266.ensures c.in-H266.it.codec.has_donl)
