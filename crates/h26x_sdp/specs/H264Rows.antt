-- The format parameters of H.264 (RFC 6184, section 8.1).
use Rattle.std.specs.Prelude.{ℕ, List, [], ◌∷◌, codes, Some, None}
use Rattle.h26x_fmtp.specs.declared.kind.Kind.TheVariants.{Number, Hexadecimal, Units, Text}
use Rattle.h26x_sdp.specs.declared.h264.H264Parameter.{H264Parameter}
use Rattle.h26x_sdp.specs.declared.h264.H264Parameter.TheVariants as p
use Rattle.h26x_fmtp.specs.Tables.{ParameterRow}
use Rattle.h26x_fmtp.specs.UnitTypes.{h264_sets}

abbrev pub row_place : H264Parameter → ℕ
row_place p.ProfileLevelId = 0
row_place p.MaxRecvLevel = 1
row_place p.MaxMbps = 2
row_place p.MaxSmbps = 3
row_place p.MaxFs = 4
row_place p.MaxCpb = 5
row_place p.MaxDpb = 6
row_place p.MaxBr = 7
row_place p.RedundantPicCap = 8
row_place p.SpropParameterSets = 9
row_place p.SpropLevelParameterSets = 10
row_place p.UseLevelSrcParameterSets = 11
row_place p.InBandParameterSets = 12
row_place p.LevelAsymmetryAllowed = 13
row_place p.PacketizationMode = 14
row_place p.SpropInterleavingDepth = 15
row_place p.SpropDeintBufReq = 16
row_place p.DeintBufCap = 17
row_place p.SpropInitBufTime = 18
row_place p.SpropMaxDonDiff = 19
row_place p.MaxRcmdNaluSize = 20
row_place p.SarUnderstood = 21
row_place p.SarSupported = 22

-- each parameter, what its value is, and the value where it is absent, if the RFC gives one, in the
-- order in which the RFC registers them
abbrev pub rows : List ParameterRow
rows =
    record {
      name = codes "profile-level-id";
      kind = Hexadecimal 3;
      default = Some (codes "42000a");
    } ∷
    record { name = codes "max-recv-level"; kind = Hexadecimal 2; default = None } ∷
    record { name = codes "max-mbps"; kind = Number 0 18446744073709551615; default = None } ∷
    record { name = codes "max-smbps"; kind = Number 0 18446744073709551615; default = None } ∷
    record { name = codes "max-fs"; kind = Number 0 18446744073709551615; default = None } ∷
    record { name = codes "max-cpb"; kind = Number 0 18446744073709551615; default = None } ∷
    record { name = codes "max-dpb"; kind = Number 0 18446744073709551615; default = None } ∷
    record { name = codes "max-br"; kind = Number 0 18446744073709551615; default = None } ∷
    record { name = codes "redundant-pic-cap"; kind = Number 0 1; default = Some (codes "0") } ∷
    record { name = codes "sprop-parameter-sets"; kind = Units h264_sets; default = None } ∷
    record { name = codes "sprop-level-parameter-sets"; kind = Text; default = None } ∷
    record {
      name = codes "use-level-src-parameter-sets";
      kind = Number 0 1;
      default = Some (codes "0");
    } ∷
    record { name = codes "in-band-parameter-sets"; kind = Number 0 1; default = None } ∷
    record {
      name = codes "level-asymmetry-allowed";
      kind = Number 0 1;
      default = Some (codes "0");
    } ∷
    record { name = codes "packetization-mode"; kind = Number 0 2; default = Some (codes "0") } ∷
    record { name = codes "sprop-interleaving-depth"; kind = Number 0 32767; default = None } ∷
    record { name = codes "sprop-deint-buf-req"; kind = Number 0 4294967295; default = None } ∷
    record {
      name = codes "deint-buf-cap";
      kind = Number 0 4294967295;
      default = Some (codes "0");
    } ∷
    record { name = codes "sprop-init-buf-time"; kind = Number 0 4294967295; default = None } ∷
    record { name = codes "sprop-max-don-diff"; kind = Number 0 32767; default = None } ∷
    record { name = codes "max-rcmd-nalu-size"; kind = Number 0 4294967295; default = None } ∷
    record { name = codes "sar-understood"; kind = Number 0 254; default = Some (codes "13") } ∷
    record { name = codes "sar-supported"; kind = Number 1 255; default = None } ∷
    []
