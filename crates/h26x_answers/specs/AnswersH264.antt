-- Answers to offers of H.264 (RFC 6184, section 8.2.2).
use Rattle.std.specs.Prelude.{ℕ, ◌+◌, ◌-◌, ◌*◌, ◌==◌, max, nat_lt, nat_le, Bool, true, false, not, ◌&&◌, ◌||◌, if◌then◌else◌, List, [], ◌∷◌, codes, find, Option, Some, None, is_some, Result, Ok}
use Rattle.std.specs.List.{list_any}
use Rattle.std.specs.Option.{option_and_then, option_or, unwrap_or}
use Rattle.hex.specs.Hex.{decode_sized, encode_lower}
use Rattle.hex.specs.declared.error.FromHexError.{FromHexError}
use Rattle.h26x_profile.specs.H264.{idc_of, profile_of}
use Rattle.h26x_profile.specs.Pattern.{bit_of}
use Rattle.h26x_profile.specs.declared.h264.H264Profile.{H264Profile}
use Rattle.h26x_profile.specs.declared.h264.H264Profile.TheVariants as profile
use Rattle.h26x_answers.specs.declared.answer.AnswerRules.{AnswerRules}
use Rattle.h26x_answers.specs.declared.answer.AnswerRules.TheVariants.{Rfc, Webrtc}
use Rattle.h26x_answers.specs.declared.answer.Role.{Role}
use Rattle.h26x_answers.specs.declared.answer.Role.TheVariants as role
use Rattle.h26x_answers.specs.declared.direction.Usage.{Usage}
use Rattle.h26x_answers.specs.declared.direction.Usage.TheVariants as usage
use Rattle.h26x_sdp.specs.declared.h264.H264Parameter.{H264Parameter}
use Rattle.h26x_sdp.specs.declared.h264.H264Parameter.TheVariants as p
use Rattle.h26x_answers.specs.declared.answer.h264.ProfileLevelId.{ProfileLevelId}
use Rattle.h26x_fmtp.specs.Tables.{row_at}
use Rattle.h26x_fmtp.specs.Reading.{FormatParameters, value_at, number_at, number_or_default}
use Rattle.h26x_sdp.specs.H264Rows.{rows, row_place}
use Rattle.h26x_answers.specs.declared.fault.FormatFault.{FormatFault}
use Rattle.h26x_answers.specs.declared.fault.FormatFault.TheVariants as faults
use Rattle.h26x_answers.specs.declared.answer.own_h264.LevelLimits.{LevelLimits}
use Rattle.h26x_answers.specs.Faults.{fault_below}
use Rattle.h26x_answers.specs.Answers.{Terms, Rules, same_number, holds}

-- what each parameter is in an offer and its answer (table 6), in the order of the table
abbrev pub roles : List Role
roles =
    -- profile-level-id and max-recv-level
    role.Level ∷ role.Own ∷
    -- max-mbps, max-smbps, max-fs, max-cpb, max-dpb, max-br and redundant-pic-cap
    role.Own ∷ role.Own ∷ role.Own ∷ role.Own ∷ role.Own ∷ role.Own ∷ role.Own ∷
    -- sprop-parameter-sets and sprop-level-parameter-sets
    role.Sets ∷ role.LevelSets ∷
    -- use-level-src-parameter-sets, in-band-parameter-sets and level-asymmetry-allowed
    role.Own ∷ role.Own ∷ role.Asymmetry ∷
    -- packetization-mode
    role.Configuration ∷
    -- sprop-interleaving-depth, sprop-deint-buf-req and deint-buf-cap
    role.Reordering ∷ role.Reordering ∷ role.Own ∷
    -- sprop-init-buf-time and sprop-max-don-diff
    role.Reordering ∷ role.Reordering ∷
    -- max-rcmd-nalu-size, sar-understood and sar-supported
    role.Own ∷ role.Own ∷ role.Own ∷ []

-- in which directions each parameter is usable (table 6), in the order of the table
abbrev pub usages : List Usage
usages =
    -- profile-level-id and max-recv-level
    usage.Always ∷ usage.Receiving ∷
    -- max-mbps, max-smbps, max-fs, max-cpb, max-dpb, max-br and redundant-pic-cap
    usage.Receiving ∷ usage.Receiving ∷ usage.Receiving ∷ usage.Receiving ∷
    usage.Receiving ∷ usage.Receiving ∷ usage.Receiving ∷
    -- sprop-parameter-sets and sprop-level-parameter-sets
    usage.Sending ∷ usage.Sending ∷
    -- use-level-src-parameter-sets, in-band-parameter-sets and level-asymmetry-allowed
    usage.Receiving ∷ usage.Receiving ∷ usage.Both ∷
    -- packetization-mode
    usage.Always ∷
    -- sprop-interleaving-depth, sprop-deint-buf-req and deint-buf-cap
    usage.Sending ∷ usage.Sending ∷ usage.Receiving ∷
    -- sprop-init-buf-time and sprop-max-don-diff
    usage.Sending ∷ usage.Sending ∷
    -- max-rcmd-nalu-size, sar-understood and sar-supported
    usage.Receiving ∷ usage.Receiving ∷ usage.Receiving ∷ []

-- the bytes of six digits
abbrev pub three_bytes : Result (List ℕ) FromHexError → Option ProfileLevelId
three_bytes (Ok (idc ∷ iop ∷ level ∷ [])) = Some (record {
  profile_idc = idc;
  profile_iop = iop;
  level_idc = level;
})
three_bytes other = None

abbrev pub profile_level_id_of : List ℕ → Option ProfileLevelId
profile_level_id_of text = three_bytes (decode_sized text 3)

abbrev pub profile_level_id_text : ProfileLevelId → List ℕ
profile_level_id_text it =
    encode_lower (it.profile_idc ∷ it.profile_iop ∷ it.level_idc ∷ [])

-- whether bit 4 of the flags is of the level and not of the profile: of Baseline, Main and Extended
abbrev pub has_level_flag : ProfileLevelId → Bool
has_level_flag it = ((it.profile_idc == 66) || (it.profile_idc == 77)) || (it.profile_idc == 88)

-- the flags without that of the level
abbrev pub profile_flags : ProfileLevelId → ℕ
profile_flags it =
    if has_level_flag it then it.profile_iop - bit_of it.profile_iop 4 * 16 else it.profile_iop

-- level 1b: 9, and where the level has a flag 11 with it
abbrev pub is_1b : ProfileLevelId → Bool
is_1b it = (it.level_idc == 9)
    || (has_level_flag it && ((it.level_idc == 11) && (bit_of it.profile_iop 4 == 1)))

-- twice level_idc, by which levels are ordered; level 1b stands between 1 and 1.1
abbrev pub level_rank : ProfileLevelId → ℕ
level_rank it = if is_1b it then 21 else 2 * it.level_idc

-- the same of three bytes as in profile-level-id, whose text is six digits
abbrev pub level_of_id : List ℕ → ℕ
level_of_id (idc ∷ iop ∷ level ∷ []) =
    level_rank (record { profile_idc = idc; profile_iop = iop; level_idc = level })
level_of_id other = 0

-- the sub-profile that table 5 has of the three bytes
abbrev pub sub_profile : ProfileLevelId → Option H264Profile
sub_profile it = option_and_then (λ idc. profile_of idc (profile_flags it)) (idc_of it.profile_idc)

-- the place of a profile in the list of profiles
abbrev pub profile_place : H264Profile → ℕ
profile_place profile.Baseline = 0
profile_place profile.ConstrainedBaseline = 1
profile_place profile.Main = 2
profile_place profile.Extended = 3
profile_place profile.High = 4
profile_place profile.ConstrainedHigh = 5
profile_place profile.High10 = 6
profile_place profile.High422 = 7
profile_place profile.High444Predictive = 8
profile_place profile.High10Intra = 9
profile_place profile.High422Intra = 10
profile_place profile.High444Intra = 11
profile_place profile.CAVLC444Intra = 12

abbrev pub same_sub_profile : Option H264Profile → Option H264Profile → Bool
same_sub_profile (Some a) (Some b) = profile_place a == profile_place b
same_sub_profile (Some a) None = false
same_sub_profile None b = false

-- whether two say one profile: by the same bytes, or by those that table 5 has for one sub-profile
abbrev pub same_profile : ProfileLevelId → ProfileLevelId → Bool
same_profile a b = ((a.profile_idc == b.profile_idc) && (profile_flags a == profile_flags b))
    || same_sub_profile (sub_profile a) (sub_profile b)

-- whether a profile is the constrained one of another: its streams are the other's too (Rec. ITU-T
-- H.264, A.2.1.1 and A.2.4.2)
abbrev pub is_constrained_of : H264Profile → H264Profile → Bool
is_constrained_of a b = ((profile_place a == 1) && (profile_place b == 0))
    || ((profile_place a == 5) && (profile_place b == 4))

abbrev pub constrained_sub_profile : Option H264Profile → Option H264Profile → Bool
constrained_sub_profile (Some a) (Some b) = is_constrained_of a b
constrained_sub_profile (Some a) None = false
constrained_sub_profile None b = false

-- whether an end of a profile takes an offered one: the same, and by WebRTC's rules the constrained
-- one of its own too
abbrev pub takes_profile : AnswerRules → ProfileLevelId → ProfileLevelId → Bool
takes_profile Rfc offered own = same_profile offered own
takes_profile Webrtc offered own = same_profile offered own
    || constrained_sub_profile (sub_profile offered) (sub_profile own)

-- the profile of one at the level of another
abbrev pub at_level_of : ProfileLevelId → ProfileLevelId → ProfileLevelId
at_level_of a b = record {
  profile_idc = a.profile_idc;
  profile_iop = if has_level_flag a && is_1b b then profile_flags a + 16 else profile_flags a;
  level_idc = if is_1b b then (if has_level_flag a then 11 else 9) else b.level_idc;
}

abbrev pub number : FormatParameters → H264Parameter → Option ℕ
number it parameter = number_or_default rows it (row_place parameter)

abbrev pub is_on : FormatParameters → H264Parameter → Bool
is_on it parameter = same_number (number it parameter) (Some 1)

-- what is said where no profile-level-id is: Baseline at level 1 (section 8.1), and by WebRTC's rules
-- Constrained Baseline at level 3.1
abbrev pub unsaid_id : AnswerRules → Option (List ℕ)
unsaid_id Rfc = (row_at rows (row_place p.ProfileLevelId)).default
unsaid_id Webrtc = Some (codes "42e01f")

abbrev pub id_of : AnswerRules → FormatParameters → Option ProfileLevelId
id_of by it = option_and_then profile_level_id_of
    (option_or (value_at it.values (row_place p.ProfileLevelId)) (unsaid_id by))

-- the level that the two bytes of max-recv-level say, as `level_rank`: by bit 4 of the first of them
abbrev pub flagged_rank : ℕ → ℕ → ℕ
flagged_rank flag level =
    if ((level == 11) && (flag == 1)) || ((level == 9) && (flag == 0)) then 21 else 2 * level

abbrev pub two_bytes_rank : Result (List ℕ) FromHexError → ℕ
two_bytes_rank (Ok (iop ∷ level ∷ [])) = flagged_rank (bit_of iop 4) level
two_bytes_rank other = 0

abbrev pub recv_rank : List ℕ → ℕ
recv_rank text = two_bytes_rank (decode_sized text 2)

-- the highest level that an end receives
abbrev pub highest_of : ProfileLevelId → Option (List ℕ) → ℕ
highest_of id None = level_rank id
highest_of id (Some text) = max (level_rank id) (recv_rank text)

abbrev pub highest_rank : FormatParameters → ProfileLevelId → ℕ
highest_rank it id = highest_of id (value_at it.values (row_place p.MaxRecvLevel))

-- whether units are interleaved: mode 2
abbrev pub is_interleaved : FormatParameters → Bool
is_interleaved it = same_number (number it p.PacketizationMode) (Some 2)

-- whether what one sends is what another can put in order: it tells its depth and its buffer, and the
-- other has one as large
abbrev pub can_deinterleave : FormatParameters → FormatParameters → Bool
can_deinterleave sender receiver = is_some (value_at sender.values
    (row_place p.SpropInterleavingDepth)) && holds (number sender p.SpropDeintBufReq)
    (number receiver p.DeintBufCap)

-- of modes 0 and 1 nothing is needed
abbrev pub can_order : FormatParameters → FormatParameters → Bool
can_order offered own = not (is_interleaved offered)
    || (can_deinterleave offered own && can_deinterleave own offered)

-- whether both ends allow a level for each direction
abbrev pub both_asymmetric : FormatParameters → FormatParameters → Bool
both_asymmetric offered own = is_on offered p.LevelAsymmetryAllowed
    && is_on own p.LevelAsymmetryAllowed

-- whose level the answer has: our own, where each direction has its own, and else the lower one
abbrev pub answer_level : Bool → ProfileLevelId → ProfileLevelId → ProfileLevelId
answer_level asymmetric a b =
    if asymmetric || nat_lt (level_rank b) (level_rank a) then b else a

-- the value of profile-level-id in the answer: the offer's, or its profile at another level
abbrev pub answer_id : FormatParameters → ProfileLevelId → ProfileLevelId → Option (List ℕ)
answer_id offered a level =
    if level_rank a == level_rank level then
    value_at offered.values (row_place p.ProfileLevelId)
    else Some (profile_level_id_text (at_level_of a level))

-- the level to use from the answerer to the offerer, as `level_rank`
abbrev pub rank_back : FormatParameters → Bool → ProfileLevelId → ProfileLevelId → ℕ
rank_back offered asymmetric a level =
    if asymmetric then highest_rank offered a else level_rank level

-- parameter sets of the answer's level: where they aren't to be sent in band, the level to use is the
-- answer's, and our own are of that level; of another profile than the answer's, which is the offered
-- one, ours are never told
abbrev pub may_tell_sets : FormatParameters → ℕ → ℕ → ℕ → Bool
may_tell_sets offered back answer own = not (is_on offered p.InBandParameterSets)
    && ((back == answer) && (answer == own))

-- those of other levels: where they aren't to be sent in band, the offerer uses them, and the level to
-- use isn't the answer's
abbrev pub with_level_sets : FormatParameters → ℕ → ℕ → Bool
with_level_sets offered back answer = not (is_on offered p.InBandParameterSets)
    && (is_on offered p.UseLevelSrcParameterSets && not (back == answer))

-- the terms at a level
abbrev pub terms_at : FormatParameters → Bool → ProfileLevelId → ProfileLevelId → ProfileLevelId →
    Terms
terms_at offered asymmetric a b level = record {
  level = answer_id offered a level;
  highest = None;
  asymmetric = asymmetric;
  reorders = is_interleaved offered;
  sets = same_profile a b && may_tell_sets offered (rank_back offered asymmetric a level)
      (level_rank level) (level_rank b);
  level_sets = same_profile a b
      && with_level_sets offered (rank_back offered asymmetric a level) (level_rank level);
}

abbrev pub terms_of_ids : AnswerRules → FormatParameters → FormatParameters →
    Option ProfileLevelId → Option ProfileLevelId → Option Terms
terms_of_ids by offered own None b = None
terms_of_ids by offered own (Some a) None = None
terms_of_ids by offered own (Some a) (Some b) =
    if takes_profile by a b && can_order offered own then Some (terms_at offered
    (both_asymmetric offered own) a b (answer_level (both_asymmetric offered own) a b)) else None

-- the terms of two formats of one packetization mode
abbrev pub terms : AnswerRules → FormatParameters → FormatParameters → Option Terms
terms by offered own = terms_of_ids by offered own (id_of by offered) (id_of by own)

abbrev pub multicast_terms_of_ids : AnswerRules → FormatParameters → FormatParameters →
    Option ProfileLevelId → Option ProfileLevelId → Option Terms
multicast_terms_of_ids by offered own None b = None
multicast_terms_of_ids by offered own (Some a) None = None
multicast_terms_of_ids by offered own (Some a) (Some b) =
    if nat_le (level_rank a) (level_rank b) && (takes_profile by a b && can_order offered own)
    then Some (terms_at offered false a b a) else None

-- the same in multicast, at the offered level, which ours isn't below; no end has its own
abbrev pub multicast_terms : AnswerRules → FormatParameters → FormatParameters → Option Terms
multicast_terms by offered own =
    multicast_terms_of_ids by offered own (id_of by offered) (id_of by own)

-- ---- formats that RFC 6184, section 8.1, lets an end say of itself

abbrev pub limits_with : ℕ → ℕ → ℕ → ℕ → ℕ → ℕ → LevelLimits
limits_with rank mbps fs dpb br cpb =
    record { rank = rank; mbps = mbps; fs = fs; dpb = dpb; br = br; cpb = cpb }

abbrev pub some_limits : ℕ → ℕ → ℕ → ℕ → ℕ → ℕ → Option LevelLimits
some_limits rank mbps fs dpb br cpb = Some (limits_with rank mbps fs dpb br cpb)

-- what each level asks of a decoder (Rec. ITU-T H.264, table A-1): its place in the order of levels,
-- MaxMBPS, MaxFS, MaxDpbMbs in units of 8/3 macroblocks, rounded up, MaxBR and MaxCPB
abbrev pub levels : List LevelLimits
levels =
    limits_with 20 1485 99 149 64 175 ∷
    limits_with 21 1485 99 149 128 350 ∷
    limits_with 22 3000 396 338 192 500 ∷
    limits_with 24 6000 396 891 384 1000 ∷
    limits_with 26 11880 396 891 768 2000 ∷
    limits_with 40 11880 396 891 2000 2000 ∷
    limits_with 42 19800 792 1782 4000 4000 ∷
    limits_with 44 20250 1620 3038 4000 4000 ∷
    limits_with 60 40500 1620 3038 10000 10000 ∷
    limits_with 62 108000 3600 6750 14000 14000 ∷
    limits_with 64 216000 5120 7680 20000 20000 ∷
    limits_with 80 245760 8192 12288 20000 25000 ∷
    limits_with 82 245760 8192 12288 50000 62500 ∷
    limits_with 84 522240 8704 13056 50000 62500 ∷
    limits_with 100 589824 22080 41400 135000 135000 ∷
    limits_with 102 983040 36864 69120 240000 240000 ∷
    limits_with 104 2073600 36864 69120 240000 240000 ∷
    limits_with 120 4177920 139264 261120 240000 240000 ∷
    limits_with 122 8355840 139264 261120 480000 480000 ∷
    limits_with 124 16711680 139264 261120 800000 800000 ∷
    []

abbrev pub limits_of : ℕ → Option LevelLimits
limits_of rank = find (λ it. it.rank == rank) levels

abbrev pub below : FormatParameters → H264Parameter → ℕ → Option FormatFault
below it parameter least = fault_below rows it (row_place parameter) least

-- the first limit that is below what the highest level asks for; that of static macroblocks isn't below
-- that of others
abbrev pub first_below : FormatParameters → LevelLimits → Option FormatFault
first_below it level =
    option_or (option_or (option_or (option_or (option_or (below it p.MaxMbps level.mbps)
    (below it p.MaxSmbps (unwrap_or (number_at rows it (row_place p.MaxMbps)) level.mbps)))
    (below it p.MaxFs level.fs)) (below it p.MaxCpb level.cpb)) (below it p.MaxDpb level.dpb))
    (below it p.MaxBr level.br)

abbrev pub is_given : FormatParameters → H264Parameter → Bool
is_given it parameter = is_some (value_at it.values (row_place parameter))

-- in interleaved mode the depth and the buffer that the stream needs are told, and in the other modes
-- nothing of interleaving
abbrev pub reordering_fits : FormatParameters → Bool
reordering_fits it =
    if is_interleaved it then is_given it p.SpropInterleavingDepth && is_given it p.SpropDeintBufReq
    else not (is_given it p.SpropInterleavingDepth || is_given it p.SpropDeintBufReq)
    && not (is_given it p.SpropInitBufTime || is_given it p.SpropMaxDonDiff)

abbrev pub reordering_fault : FormatParameters → Option FormatFault
reordering_fault it = if reordering_fits it then None else Some faults.Reordering

-- aspect ratios are supported up to the last that is understood, or, by 255, all
abbrev pub ratios_fit : Option ℕ → Option ℕ → Bool
ratios_fit None supported = true
ratios_fit (Some understood) None = true
ratios_fit (Some understood) (Some supported) =
    (supported == 255) || nat_le supported understood

-- who discards parameter sets that are told doesn't use those of other levels
abbrev pub in_band_fits : FormatParameters → Bool
in_band_fits it =
    not (is_on it p.InBandParameterSets) || not (is_on it p.UseLevelSrcParameterSets)

-- what is said of aspect ratios and of parameter sets in band
abbrev pub receiver_fault : FormatParameters → Option FormatFault
receiver_fault it =
    if not (ratios_fit (number it p.SarUnderstood) (number it p.SarSupported))
    then Some faults.AspectRatios
    else (if in_band_fits it then None else Some faults.InBandSets)

-- limits, reordering and what a receiver says, at the highest level that is received
abbrev pub fault_at : FormatParameters → Option LevelLimits → Option FormatFault
fault_at it None = Some faults.HighestLevel
fault_at it (Some level) =
    option_or (option_or (first_below it level) (reordering_fault it)) (receiver_fault it)

-- max-recv-level is above the level
abbrev pub fault_with : FormatParameters → ℕ → Option (List ℕ) → Option FormatFault
fault_with it rank None = fault_at it (limits_of rank)
fault_with it rank (Some text) = if nat_le (recv_rank text) rank then Some faults.HighestLevel
    else fault_at it (limits_of (recv_rank text))

abbrev pub fault_received : FormatParameters → ℕ → Option FormatFault
fault_received it rank = fault_with it rank (value_at it.values (row_place p.MaxRecvLevel))

-- 9 is level 1b of the profiles alone whose flag is none of the level (Rec. ITU-T H.264, A.3.1 and
-- A.3.2)
abbrev pub is_1b_without_flag : ProfileLevelId → Bool
is_1b_without_flag it = has_level_flag it && (it.level_idc == 9)

abbrev pub is_level : ProfileLevelId → Bool
is_level id = not (is_1b_without_flag id) && is_some (limits_of (level_rank id))

-- each profile_idc of the standard (Rec. ITU-T H.264, Annexes A and G to J): those of one layer and
-- view, and those of scalable, multiview and depth profiles
abbrev pub profile_numbers : List ℕ
profile_numbers =
    66 ∷ 77 ∷ 88 ∷ 100 ∷ 110 ∷ 122 ∷ 244 ∷ 44 ∷ 83 ∷ 86 ∷ 118 ∷ 128 ∷ 134 ∷ 135 ∷ 138 ∷ 139 ∷ []

abbrev pub is_profile : ProfileLevelId → Bool
is_profile id = list_any (λ number. number == id.profile_idc) profile_numbers

-- profile and level are the standard's
abbrev pub known_id : Option ProfileLevelId → Bool
known_id None = false
known_id (Some id) = is_profile id && is_level id

abbrev pub known : AnswerRules → FormatParameters → Bool
known by it = known_id (id_of by it)

abbrev pub fault_of_id : FormatParameters → Option ProfileLevelId → Option FormatFault
fault_of_id it None = Some faults.Level
fault_of_id it (Some id) =
    if not (is_profile id) then Some faults.Profile
    else (if is_level id then fault_received it (level_rank id) else Some faults.Level)

-- the first rule that a format of one's own breaks: its profile, its level, the highest one, its
-- limits, what it says of packets out of order, and of itself as a receiver
abbrev pub fault : AnswerRules → FormatParameters → Option FormatFault
fault by it = fault_of_id it (id_of by it)

abbrev pub rules : AnswerRules → Rules
rules by = record {
  rows = rows;
  roles = roles;
  terms = terms by;
  known = known by;
  fault = fault by;
  reorders = is_interleaved;
  usages = usages;
}
