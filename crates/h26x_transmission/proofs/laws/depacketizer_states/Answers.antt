use Rattle.std.proofs.Common.{refl}
use Rattle.h26x_model.specs.Payload.Facts.{IsPayloadFormat}
use Rattle.h26x_model.specs.Receive.DepacketizerState.{DepacketizerState}
use Rattle.h265_payload.specs.Setting as h265_setting
use Rattle.h26x_depacketizer.specs.DepacketizerView.{depacketizer_state}
use Rattle.h266_payload.specs.Setting as h266_setting
use Rattle.h26x_transmission.specs.CodecStates.{codec_depacketizer_state}
use Rattle.h26x_codec.proofs.StateLemmas.{of_state}
use Rattle.h26x_transmission.proofs.laws.depacketizer_states.Goals as goal

pub returns-in-H265 : goal.returns-in-H265
returns-in-H265 g c = λ r is.
    of_state (λ (x : DepacketizerState). IsPayloadFormat x.format) (codec_depacketizer_state c.args.depacketizer.now)
    (depacketizer_state (h265_setting.setting_format c.in-H265.field-0.codec) c.in-H265.field-0) r (rw c.in-H265.is refl) is
    (c.meets_the_facts-in-H265.ensures c.in-H265.field-0.codec.has_donl)

pub returns-in-H266 : goal.returns-in-H266
returns-in-H266 g c = λ r is.
    of_state (λ (x : DepacketizerState). IsPayloadFormat x.format) (codec_depacketizer_state c.args.depacketizer.now)
    (depacketizer_state (h266_setting.setting_format c.in-H266.field-0.codec) c.in-H266.field-0) r (rw c.in-H266.is refl) is
    (c.meets_the_facts-in-H266.ensures c.in-H266.field-0.codec.has_donl)
