-- The numbers that stand for what the calls on SDP answer (the library's rule).
use Rattle.std.specs.Prelude.{ℕ}
use Rattle.h26x_codec.specs.declared.codec.Codec.{Codec}
use Rattle.h26x_codec.specs.declared.codec.Codec.TheVariants as c
use Rattle.h26x_fmtp.specs.declared.rtp_map.Encoding.{Encoding}
use Rattle.h26x_fmtp.specs.declared.rtp_map.Encoding.TheVariants as n
use Rattle.h26x_fmtp.specs.declared.error.Fault.{Fault}
use Rattle.h26x_fmtp.specs.declared.error.Fault.TheVariants as f
use Rattle.h26x_fmtp.specs.declared.error.ParametersError.{ParametersError}
use Rattle.h26x_fmtp.specs.declared.error.ParametersError.TheVariants as p
use Rattle.h26x_fmtp.specs.declared.error.UnitsError.{UnitsError}
use Rattle.h26x_fmtp.specs.declared.error.UnitsError.TheVariants as u
use Rattle.h26x_stream_parameters.specs.declared.error.StreamError.{StreamError}
use Rattle.h26x_stream_parameters.specs.declared.error.StreamError.TheVariants as s
use Rattle.h26x_sdp.specs.declared.error.CapabilityPointsError.{CapabilityPointsError}
use Rattle.h26x_sdp.specs.declared.error.CapabilityPointsError.TheVariants as b
use Rattle.h26x_sdp.specs.declared.error.ConstraintsError.{ConstraintsError}
use Rattle.h26x_sdp.specs.declared.error.ConstraintsError.TheVariants as t
use Rattle.h26x_sdp.specs.declared.error.LevelSetsError.{LevelSetsError}
use Rattle.h26x_sdp.specs.declared.error.LevelSetsError.TheVariants as l
use Rattle.h26x_sdp.specs.declared.error.RtxError.{RtxError}
use Rattle.h26x_sdp.specs.declared.error.RtxError.TheVariants as x
use Rattle.h26x_answers.specs.declared.fault.FormatFault.{FormatFault}
use Rattle.h26x_answers.specs.declared.fault.FormatFault.TheVariants as r
use Rattle.h26x_fmtp.specs.declared.rtp_map.RtpMapError.{RtpMapError}
use Rattle.h26x_fmtp.specs.declared.rtp_map.RtpMapError.TheVariants as m
use Rattle.h26x_sdp_handles.specs.declared.sdp_code.Refused.{Refused}
use Rattle.h26x_sdp_handles.specs.declared.sdp_code.PointRefused.{PointRefused}
use Rattle.h26x_codes.specs.Codes.{out_of_memory}

-- the RFC has no parameter of a name
abbrev pub unknown_name : ℕ
unknown_name = 26

-- it isn't given, or none is behind the last
abbrev pub absent : ℕ
absent = 27

-- a parameter is no number, or no units
abbrev pub other_kind : ℕ
other_kind = 28

-- two formats have no configuration in common
abbrev pub no_answer : ℕ
no_answer = 37

-- a number is no payload type
abbrev pub no_payload_type : ℕ
no_payload_type = 38

-- a text would be read as more than a value
abbrev pub not_a_value : ℕ
not_a_value = 49

-- a code that is of no place
abbrev pub refused_with : ℕ → Refused
refused_with code = record { code = code; place = 0 }

-- the code of a parameter's fault
abbrev pub fault_code : Fault → ℕ
fault_code f.NotANumber = 21
fault_code f.OutOfRange = 22
fault_code f.NotHexadecimal = 23
fault_code f.NotTxMode = 24
fault_code f.Twice = 25

-- why a text is no parameters
abbrev pub parameters_refused : ParametersError → Refused
parameters_refused p.OpenBrace = refused_with 20
parameters_refused (p.Refused place fault) = record { code = fault_code fault; place = place }
parameters_refused p.OutOfMemory = refused_with out_of_memory

-- why a parameter is no units
abbrev pub units_refused : UnitsError → Refused
units_refused (u.NotBase64 place) = record { code = 29; place = place }
units_refused (u.Empty place) = record { code = 30; place = place }
units_refused (u.OtherType place) = record { code = 31; place = place }
units_refused (u.StartCode place) = record { code = 32; place = place }
units_refused u.OutOfMemory = refused_with out_of_memory

-- why a text is no parameter sets of levels, and the place of the level that it is of
abbrev pub level_sets_refused : LevelSetsError → Refused
level_sets_refused (l.NotHexadecimal place) = record { code = 23; place = place }
level_sets_refused (l.NoSets place) = record { code = 74; place = place }
level_sets_refused (l.Sets place fault) = record { code = (units_refused fault).code; place = place }
level_sets_refused l.OutOfMemory = refused_with out_of_memory

-- a code that is of no capability point
abbrev pub point_refused_with : ℕ → PointRefused
point_refused_with code = record { code = code; place = 0; fault = 0 }

-- a code that is of the point at a place, and the code of what is wrong there
abbrev pub point_refused_at : ℕ → ℕ → ℕ → PointRefused
point_refused_at code place fault = record { code = code; place = place; fault = fault }

-- why a text is no capability points
abbrev pub points_refused : CapabilityPointsError → PointRefused
points_refused b.NoBraces = point_refused_with 41
points_refused (b.NoTool place) = point_refused_at 42 place 0
points_refused (b.Segmentation place fault) = point_refused_at 43 place (fault_code fault)
points_refused (b.Limits place fault) = point_refused_at 44 place (parameters_refused fault).code
points_refused (b.NoLimit place) = point_refused_at 45 place 0
points_refused b.OutOfMemory = point_refused_with out_of_memory

-- why a text is no constraints of H.266
abbrev pub constraints_code : ConstraintsError → ℕ
constraints_code t.NotBase64 = 46
constraints_code t.Short = 47
constraints_code t.Long = 48
constraints_code t.OutOfMemory = out_of_memory

-- why a stream says no parameters
abbrev pub stream_code : StreamError → ℕ
stream_code s.NoParameterSet = 33
stream_code s.ShortParameterSet = 34
stream_code s.NoProfile = 35
stream_code s.OutOfMemory = out_of_memory

-- why a text is no format of retransmission
abbrev pub rtx_refused : RtxError → Refused
rtx_refused (x.Parameters error) = parameters_refused error
rtx_refused x.NoPayloadType = refused_with 63
rtx_refused x.OutOfMemory = refused_with out_of_memory

-- the rule that a format breaks, and the place in the table of the parameter that it is of
abbrev pub format_fault_refused : FormatFault → Refused
format_fault_refused r.Profile = refused_with 64
format_fault_refused r.Level = refused_with 65
format_fault_refused r.HighestLevel = refused_with 66
format_fault_refused (r.BelowLevel place) = record { code = 67; place = place }
format_fault_refused r.Reordering = refused_with 68
format_fault_refused r.OutOfOrder = refused_with 69
format_fault_refused (r.AboveLevel place) = record { code = 70; place = place }
format_fault_refused r.AspectRatios = refused_with 71
format_fault_refused r.InBandSets = refused_with 72
format_fault_refused r.HashTypes = refused_with 73

-- why a text is no payload type of one of the codecs
abbrev pub rtp_map_code : RtpMapError → ℕ
rtp_map_code m.PayloadType = no_payload_type
rtp_map_code m.Encoding = 39
rtp_map_code m.ClockRate = 40

-- the number of a codec: that of its standard
abbrev pub codec_number : Codec → ℕ
codec_number c.H264 = 264
codec_number c.H265 = 265
codec_number c.H266 = 266

abbrev pub encoding_codec : Encoding → Codec
encoding_codec n.H264 = c.H264
encoding_codec n.H265 = c.H265
encoding_codec n.H266 = c.H266

abbrev pub codec_encoding : Codec → Encoding
codec_encoding c.H264 = n.H264
codec_encoding c.H265 = n.H265
codec_encoding c.H266 = n.H266
