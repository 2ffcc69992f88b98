-- The format parameters of H.265 (RFC 7798, section 7.1).
use Rattle.std.specs.Prelude.{ℕ, List, [], ◌∷◌, codes, Some, None}
use Rattle.h26x_fmtp.specs.declared.kind.Kind.TheVariants.{Number, Hexadecimal, HexadecimalNumber, TxMode, Units, Text}
use Rattle.h26x_sdp.specs.declared.h265.H265Parameter.{H265Parameter}
use Rattle.h26x_sdp.specs.declared.h265.H265Parameter.TheVariants as p
use Rattle.h26x_fmtp.specs.Tables.{ParameterRow}
use Rattle.h26x_fmtp.specs.UnitTypes.{h265_pps, h265_sei, h265_sps, h265_vps}

abbrev pub row_place : H265Parameter → ℕ
row_place p.ProfileSpace = 0
row_place p.ProfileId = 1
row_place p.TierFlag = 2
row_place p.LevelId = 3
row_place p.InteropConstraints = 4
row_place p.ProfileCompatibilityIndicator = 5
row_place p.SpropSubLayerId = 6
row_place p.RecvSubLayerId = 7
row_place p.MaxRecvLevelId = 8
row_place p.TxMode = 9
row_place p.SpropVps = 10
row_place p.SpropSps = 11
row_place p.SpropPps = 12
row_place p.SpropSei = 13
row_place p.MaxLsr = 14
row_place p.MaxLps = 15
row_place p.MaxCpb = 16
row_place p.MaxDpb = 17
row_place p.MaxBr = 18
row_place p.MaxTr = 19
row_place p.MaxTc = 20
row_place p.MaxFps = 21
row_place p.SpropMaxDonDiff = 22
row_place p.SpropDepackBufNalus = 23
row_place p.SpropDepackBufBytes = 24
row_place p.DepackBufCap = 25
row_place p.SpropSegmentationId = 26
row_place p.SpropSpatialSegmentationIdc = 27
row_place p.DecParallelCap = 28
row_place p.IncludeDph = 29

-- each parameter, what its value is, and the value where it is absent, if the RFC gives one, in the
-- order in which the RFC registers them
abbrev pub rows : List ParameterRow
rows =
    record { name = codes "profile-space"; kind = Number 0 3; default = Some (codes "0") } ∷
    record { name = codes "profile-id"; kind = Number 0 31; default = Some (codes "1") } ∷
    record { name = codes "tier-flag"; kind = Number 0 1; default = Some (codes "0") } ∷
    record { name = codes "level-id"; kind = Number 0 255; default = Some (codes "93") } ∷
    record {
      name = codes "interop-constraints";
      kind = Hexadecimal 6;
      default = Some (codes "B00000000000");
    } ∷
    record {
      name = codes "profile-compatibility-indicator";
      kind = Hexadecimal 4;
      default = None;
    } ∷
    record { name = codes "sprop-sub-layer-id"; kind = Number 0 6; default = Some (codes "6") } ∷
    record { name = codes "recv-sub-layer-id"; kind = Number 0 6; default = None } ∷
    record { name = codes "max-recv-level-id"; kind = Number 0 255; default = None } ∷
    record { name = codes "tx-mode"; kind = TxMode; default = Some (codes "SRST") } ∷
    record { name = codes "sprop-vps"; kind = Units h265_vps; default = None } ∷
    record { name = codes "sprop-sps"; kind = Units h265_sps; default = None } ∷
    record { name = codes "sprop-pps"; kind = Units h265_pps; default = None } ∷
    record { name = codes "sprop-sei"; kind = Units h265_sei; default = None } ∷
    record { name = codes "max-lsr"; kind = Number 0 18446744073709551615; default = None } ∷
    record { name = codes "max-lps"; kind = Number 0 4294967295; default = None } ∷
    record { name = codes "max-cpb"; kind = Number 0 18446744073709551615; default = None } ∷
    record { name = codes "max-dpb"; kind = Number 1 16; default = Some (codes "6") } ∷
    record { name = codes "max-br"; kind = Number 0 18446744073709551615; default = None } ∷
    record { name = codes "max-tr"; kind = Number 0 18446744073709551615; default = None } ∷
    record { name = codes "max-tc"; kind = Number 0 18446744073709551615; default = None } ∷
    record { name = codes "max-fps"; kind = Number 0 18446744073709551615; default = None } ∷
    record {
      name = codes "sprop-max-don-diff";
      kind = Number 0 32767;
      default = Some (codes "0");
    } ∷
    record {
      name = codes "sprop-depack-buf-nalus";
      kind = Number 0 32767;
      default = Some (codes "0");
    } ∷
    record {
      name = codes "sprop-depack-buf-bytes";
      kind = Number 0 4294967295;
      default = Some (codes "0");
    } ∷
    record {
      name = codes "depack-buf-cap";
      kind = Number 1 4294967295;
      default = Some (codes "4294967295");
    } ∷
    record { name = codes "sprop-segmentation-id"; kind = Number 0 3; default = Some (codes "0") } ∷
    record {
      name = codes "sprop-spatial-segmentation-idc";
      kind = HexadecimalNumber 4095;
      default = None;
    } ∷
    record { name = codes "dec-parallel-cap"; kind = Text; default = None } ∷
    record { name = codes "include-dph"; kind = Text; default = None } ∷
    []
