-- Answers to offers of H.265 (RFC 7798, section 7.2.2).
use Rattle.std.specs.Prelude.{ℕ, Bool, true, ◌&&◌, ◌+◌, ◌-◌, ◌*◌, ◌^◌, if◌then◌else◌, List, [], ◌∷◌, Option, Some, None, Result, Ok}
use Rattle.std.specs.Option.{option_map}
use Rattle.hex.specs.Hex.{decode_sized}
use Rattle.hex.specs.declared.error.FromHexError.{FromHexError}
use Rattle.h26x_fmtp.specs.declared.kind.Kind.TheVariants.{Hexadecimal}
use Rattle.h26x_answers.specs.declared.answer.AnswerRules.{AnswerRules}
use Rattle.h26x_answers.specs.declared.answer.AnswerRules.TheVariants.{Rfc, Webrtc}
use Rattle.h26x_answers.specs.declared.answer.Role.{Role}
use Rattle.h26x_answers.specs.declared.answer.Role.TheVariants as role
use Rattle.h26x_answers.specs.declared.direction.Usage.{Usage}
use Rattle.h26x_answers.specs.declared.direction.Usage.TheVariants as usage
use Rattle.h26x_sdp.specs.declared.h265.H265Parameter.TheVariants as p
use Rattle.h26x_fmtp.specs.Reading.{FormatParameters, value_at, value_or_default, number_or_default}
use Rattle.h26x_sdp.specs.H265Rows.{rows, row_place}
use Rattle.h26x_answers.specs.OwnH265 as own
use Rattle.h26x_answers.specs.Answers.{Terms, Rules, same_number, same_if_given}
use Rattle.h26x_answers.specs.AnswersByLevel.{LevelRows, is_positive, keeps_level, terms_by_level}

-- what each parameter is in an offer and its answer (table 1), in the order of the table
abbrev pub roles : List Role
roles =
    -- profile-space, profile-id and tier-flag
    role.Configuration ∷ role.Configuration ∷ role.Configuration ∷
    -- level-id
    role.Level ∷
    -- interop-constraints and profile-compatibility-indicator
    role.Compared ∷ role.Compared ∷
    -- sprop-sub-layer-id and recv-sub-layer-id
    role.Own ∷ role.OperationPoint ∷
    -- max-recv-level-id and tx-mode
    role.HighestLevel ∷ role.Configuration ∷
    -- sprop-vps, sprop-sps, sprop-pps and sprop-sei
    role.Sets ∷ role.Sets ∷ role.Sets ∷ role.Own ∷
    -- max-lsr, max-lps, max-cpb, max-dpb, max-br, max-tr, max-tc and max-fps
    role.Own ∷ role.Own ∷ role.Own ∷ role.Own ∷ role.Own ∷ role.Own ∷ role.Own ∷ role.Own ∷
    -- sprop-max-don-diff, sprop-depack-buf-nalus, sprop-depack-buf-bytes and depack-buf-cap
    role.Own ∷ role.Own ∷ role.Own ∷ role.Own ∷
    -- sprop-segmentation-id, sprop-spatial-segmentation-idc, dec-parallel-cap and include-dph
    role.Own ∷ role.Own ∷ role.Own ∷ role.Own ∷ []

-- in which directions each parameter is usable (table 1), in the order of the table
abbrev pub usages : List Usage
usages =
    -- profile-space, profile-id and tier-flag
    usage.Always ∷ usage.Always ∷ usage.Always ∷
    -- level-id
    usage.Always ∷
    -- interop-constraints and profile-compatibility-indicator
    usage.Always ∷ usage.Always ∷
    -- sprop-sub-layer-id and recv-sub-layer-id
    usage.Sending ∷ usage.Receiving ∷
    -- max-recv-level-id and tx-mode
    usage.Receiving ∷ usage.Always ∷
    -- sprop-vps, sprop-sps, sprop-pps and sprop-sei
    usage.Sending ∷ usage.Sending ∷ usage.Sending ∷ usage.Sending ∷
    -- max-lsr, max-lps, max-cpb, max-dpb, max-br, max-tr, max-tc and max-fps
    usage.Receiving ∷ usage.Receiving ∷ usage.Receiving ∷ usage.Receiving ∷
    usage.Receiving ∷ usage.Receiving ∷ usage.Receiving ∷ usage.Receiving ∷
    -- sprop-max-don-diff, sprop-depack-buf-nalus, sprop-depack-buf-bytes and depack-buf-cap
    usage.Sending ∷ usage.Sending ∷ usage.Sending ∷ usage.Receiving ∷
    -- sprop-segmentation-id, sprop-spatial-segmentation-idc, dec-parallel-cap and include-dph
    usage.Sending ∷ usage.Sending ∷ usage.Receiving ∷ usage.Receiving ∷ []

abbrev pub by : LevelRows
by = record {
  level = row_place p.LevelId;
  highest = row_place p.MaxRecvLevelId;
  difference = row_place p.SpropMaxDonDiff;
  units = row_place p.SpropDepackBufNalus;
  need = row_place p.SpropDepackBufBytes;
  room = row_place p.DepackBufCap;
}

-- four bytes as a number, the first of them the highest
abbrev pub four_bytes : Result (List ℕ) FromHexError → Option ℕ
four_bytes (Ok (a ∷ b ∷ c ∷ d ∷ [])) = Some (((a * 256 + b) * 256 + c) * 256 + d)
four_bytes other = None

-- the flags of compatible profiles, of which the first is the highest bit; where they are absent, that
-- of the profile alone
abbrev pub flags_or_profile : Option ℕ → Option (List ℕ) → Option ℕ
flags_or_profile profile None = option_map (λ id. 2 ^ (31 - id)) profile
flags_or_profile profile (Some text) = four_bytes (decode_sized text 4)

abbrev pub compatible_profiles : FormatParameters → Option ℕ
compatible_profiles it = flags_or_profile (number_or_default rows it (row_place p.ProfileId))
    (value_at it.values (row_place p.ProfileCompatibilityIndicator))

-- whether two formats have the same constraints
abbrev pub same_constraints : FormatParameters → FormatParameters → Bool
same_constraints offered own = same_if_given (Hexadecimal 6)
    (value_or_default rows offered (row_place p.InteropConstraints))
    (value_or_default rows own (row_place p.InteropConstraints))

-- whether two formats are of one profile beside its number: the same constraints and the same flags;
-- WebRTC's peers compare neither
abbrev pub agree : AnswerRules → FormatParameters → FormatParameters → Bool
agree Rfc offered own = same_constraints offered own
    && same_number (compatible_profiles offered) (compatible_profiles own)
agree Webrtc offered own = true

-- the terms of two formats of one configuration
abbrev pub terms : AnswerRules → FormatParameters → FormatParameters → Option Terms
terms rules offered own =
    if agree rules offered own then terms_by_level rows by offered own else None

-- the same in multicast, at the offered level, which ours isn't below
abbrev pub multicast_terms : AnswerRules → FormatParameters → FormatParameters → Option Terms
multicast_terms which offered own =
    if keeps_level rows by offered own then terms which offered own else None

-- packets bear decoding order numbers
abbrev pub reorders : FormatParameters → Bool
reorders it = is_positive (number_or_default rows it (row_place p.SpropMaxDonDiff))

abbrev pub rules : AnswerRules → Rules
rules which = record {
  rows = rows;
  roles = roles;
  terms = terms which;
  known = own.known;
  fault = own.fault;
  reorders = reorders;
  usages = usages;
}
