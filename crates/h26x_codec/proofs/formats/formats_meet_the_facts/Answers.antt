use Rattle.std.proofs.Common.{Bool}
use Rattle.h26x_model.specs.Payload.Facts.{IsPayloadFormat}
use Rattle.h264_payload.specs.H264.{h264}
use Rattle.h265_payload.specs.H265.{h265}
use Rattle.h266_payload.specs.H266.{h266}
use Rattle.h26x_codec.specs.Codec.{codec_format}
use Rattle.h26x_codec.specs.declared.codec.Codec.{Codec}
use Rattle.h26x_codec.specs.declared.codec.Codec.TheVariants as c
use Rattle.h26x_codec.proofs.formats.formats_meet_the_facts.Goals as goal

-- each codec's format does
each : IsPayloadFormat h264 → ((b : Bool) → IsPayloadFormat (h265 b)) → ((b : Bool) → IsPayloadFormat (h266 b)) → (codec : Codec) (has_donl : Bool) →
    IsPayloadFormat (codec_format codec has_donl)
each a b d c.H264 has_donl = a
each a b d c.H265 has_donl = b has_donl
each a b d c.H266 has_donl = d has_donl

pub returns : goal.returns
returns c = each c.meets_the_facts.ensures c.meets_the_facts-2.ensures c.meets_the_facts-3.ensures
