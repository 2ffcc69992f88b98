-- By which rule a codec's payloads are cut.
use Rattle.std.proofs.Common.{Bool, refl}
use Rattle.h26x_payload.specs.Units.{CutsBy}
use Rattle.h26x_codec.specs.Codec.{codec_format, zero_rule}
use Rattle.h26x_codec.specs.declared.codec.Codec.{Codec}
use Rattle.h26x_codec.specs.declared.codec.Codec.TheVariants as c

-- each codec cuts payloads by its rule
pub cuts_by_its_rule : (codec : Codec) (has_donl : Bool) → CutsBy (codec_format codec has_donl) (zero_rule codec)
cuts_by_its_rule c.H264 has_donl payload = refl
cuts_by_its_rule c.H265 has_donl payload = refl
cuts_by_its_rule c.H266 has_donl payload = refl
