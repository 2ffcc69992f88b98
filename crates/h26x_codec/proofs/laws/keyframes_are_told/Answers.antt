use Rattle.std.proofs.Common.{Bool}
use Rattle.h26x_model.specs.Send.Every.{PacksUnits}
use Rattle.h264_payload.specs.EveryUnit.{h264_every}
use Rattle.h265_payload.specs.EveryUnit.{h265_every}
use Rattle.h266_payload.specs.EveryUnit.{h266_every}
use Rattle.h26x_codec.specs.Keyframe.{every_format}
use Rattle.h26x_codec.specs.declared.codec.Codec.{Codec}
use Rattle.h26x_codec.specs.declared.codec.Codec.TheVariants as c
use Rattle.h26x_codec.proofs.KeyframeLemmas.{tells_key_units}
use Rattle.h26x_codec.proofs.laws.keyframes_are_told.Goals as goal

-- the formats of all codecs where every unit goes
each : PacksUnits h264_every → ((b : Bool) → PacksUnits (h265_every b)) → ((b : Bool) → PacksUnits (h266_every b)) → (codec : Codec) (has_donl : Bool) →
    PacksUnits (every_format codec has_donl)
each a b d c.H264 has_donl = a
each a b d c.H265 has_donl = b has_donl
each a b d c.H266 has_donl = d has_donl

pub returns : goal.returns
returns c = λ codec has_donl. tells_key_units codec has_donl
    (each c.every_unit_goes.ensures.packs c.every_unit_goes-2.ensures.packs c.every_unit_goes-3.ensures.packs codec has_donl).reads
