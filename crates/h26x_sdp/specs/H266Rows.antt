-- The format parameters of H.266 (RFC 9328, sections 7.1 and 7.2).
use Rattle.std.specs.Prelude.{ℕ, List, [], ◌∷◌, codes, Some, None}
use Rattle.h26x_fmtp.specs.declared.kind.Kind.TheVariants.{Number, Units, Text}
use Rattle.h26x_sdp.specs.declared.h266.H266Parameter.{H266Parameter}
use Rattle.h26x_sdp.specs.declared.h266.H266Parameter.TheVariants as p
use Rattle.h26x_fmtp.specs.Tables.{ParameterRow}
use Rattle.h26x_fmtp.specs.UnitTypes.{h266_dci, h266_pps, h266_sei, h266_sps, h266_vps}

abbrev pub row_place : H266Parameter → ℕ
row_place p.ProfileId = 0
row_place p.TierFlag = 1
row_place p.SubProfileId = 2
row_place p.InteropConstraints = 3
row_place p.LevelId = 4
row_place p.SpropSublayerId = 5
row_place p.SpropOlsId = 6
row_place p.RecvSublayerId = 7
row_place p.RecvOlsId = 8
row_place p.MaxRecvLevelId = 9
row_place p.SpropDci = 10
row_place p.SpropVps = 11
row_place p.SpropSps = 12
row_place p.SpropPps = 13
row_place p.SpropSei = 14
row_place p.MaxLsr = 15
row_place p.MaxFps = 16
row_place p.SpropMaxDonDiff = 17
row_place p.SpropDepackBufBytes = 18
row_place p.DepackBufCap = 19

-- each parameter, what its value is, and the value where it is absent, if the RFC gives one, in the
-- order in which the RFC registers them
abbrev pub rows : List ParameterRow
rows =
    record { name = codes "profile-id"; kind = Number 0 127; default = Some (codes "1") } ∷
    record { name = codes "tier-flag"; kind = Number 0 1; default = Some (codes "0") } ∷
    record { name = codes "sub-profile-id"; kind = Text; default = None } ∷
    record { name = codes "interop-constraints"; kind = Text; default = Some (codes "gA==") } ∷
    record { name = codes "level-id"; kind = Number 0 255; default = Some (codes "51") } ∷
    record { name = codes "sprop-sublayer-id"; kind = Number 0 6; default = Some (codes "6") } ∷
    record { name = codes "sprop-ols-id"; kind = Number 0 256; default = None } ∷
    record { name = codes "recv-sublayer-id"; kind = Number 0 6; default = None } ∷
    record { name = codes "recv-ols-id"; kind = Number 0 256; default = None } ∷
    record { name = codes "max-recv-level-id"; kind = Number 0 255; default = None } ∷
    record { name = codes "sprop-dci"; kind = Units h266_dci; default = None } ∷
    record { name = codes "sprop-vps"; kind = Units h266_vps; default = None } ∷
    record { name = codes "sprop-sps"; kind = Units h266_sps; default = None } ∷
    record { name = codes "sprop-pps"; kind = Units h266_pps; default = None } ∷
    record { name = codes "sprop-sei"; kind = Units h266_sei; default = None } ∷
    record { name = codes "max-lsr"; kind = Number 0 18446744073709551615; default = None } ∷
    record { name = codes "max-fps"; kind = Number 0 18446744073709551615; default = None } ∷
    record {
      name = codes "sprop-max-don-diff";
      kind = Number 0 32767;
      default = Some (codes "0");
    } ∷
    record {
      name = codes "sprop-depack-buf-bytes";
      kind = Number 0 4294967295;
      default = Some (codes "0");
    } ∷
    record {
      name = codes "depack-buf-cap";
      kind = Number 1 4294967295;
      default = Some (codes "4294967295");
    } ∷
    []
