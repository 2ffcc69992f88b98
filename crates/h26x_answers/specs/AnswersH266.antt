-- Answers to offers of H.266 (RFC 9328, section 7.3.2).
use Rattle.std.specs.Prelude.{ℕ, Bool, not, ◌||◌, if◌then◌else◌, List, [], ◌∷◌, Option, Some, None}
use Rattle.std.specs.Option.{option_and_then}
use Rattle.h26x_fmtp.specs.declared.kind.Kind.TheVariants.{Units}
use Rattle.h26x_fmtp.specs.UnitTypes.{h266_vps}
use Rattle.h26x_answers.specs.declared.answer.Role.{Role}
use Rattle.h26x_answers.specs.declared.answer.Role.TheVariants as role
use Rattle.h26x_answers.specs.declared.direction.Usage.{Usage}
use Rattle.h26x_answers.specs.declared.direction.Usage.TheVariants as usage
use Rattle.h26x_sdp.specs.declared.h266.H266Parameter.TheVariants as p
use Rattle.h26x_fmtp.specs.Reading.{FormatParameters, value_at, number_or_default}
use Rattle.h26x_sdp.specs.H266Rows.{rows, row_place}
use Rattle.h26x_answers.specs.OwnH266 as own
use Rattle.h26x_answers.specs.Answers.{Terms, Rules, same_number, same_if_given, only_if}
use Rattle.h26x_answers.specs.AnswersByLevel.{LevelRows, is_positive, keeps_level, terms_by_level}

-- what each parameter is in an offer and its answer (figure 11), in the order of the table
abbrev pub roles : List Role
roles =
    -- profile-id, tier-flag, sub-profile-id and interop-constraints
    role.Configuration ∷ role.Configuration ∷ role.Configuration ∷ role.Configuration ∷
    -- level-id
    role.Level ∷
    -- sprop-sublayer-id, sprop-ols-id, recv-sublayer-id and recv-ols-id
    role.Own ∷ role.Own ∷ role.OperationPoint ∷ role.OperationPoint ∷
    -- max-recv-level-id
    role.HighestLevel ∷
    -- sprop-dci, sprop-vps, sprop-sps, sprop-pps and sprop-sei
    role.Sets ∷ role.Sets ∷ role.Sets ∷ role.Sets ∷ role.Own ∷
    -- max-lsr and max-fps
    role.Own ∷ role.Own ∷
    -- sprop-max-don-diff, sprop-depack-buf-bytes and depack-buf-cap
    role.Own ∷ role.Own ∷ role.Own ∷ []

-- in which directions each parameter is usable (figure 11), in the order of the table
abbrev pub usages : List Usage
usages =
    -- profile-id, tier-flag, sub-profile-id and interop-constraints
    usage.Always ∷ usage.Always ∷ usage.Always ∷ usage.Always ∷
    -- level-id
    usage.Always ∷
    -- sprop-sublayer-id, sprop-ols-id, recv-sublayer-id and recv-ols-id
    usage.Sending ∷ usage.Sending ∷ usage.Receiving ∷ usage.Receiving ∷
    -- max-recv-level-id
    usage.Receiving ∷
    -- sprop-dci, sprop-vps, sprop-sps, sprop-pps and sprop-sei
    usage.Sending ∷ usage.Sending ∷ usage.Sending ∷ usage.Sending ∷ usage.Sending ∷
    -- max-lsr and max-fps
    usage.Receiving ∷ usage.Receiving ∷
    -- sprop-max-don-diff, sprop-depack-buf-bytes and depack-buf-cap
    usage.Sending ∷ usage.Sending ∷ usage.Receiving ∷ []

-- no parameter says how many units are to be held, so that of the bytes stands for it
abbrev pub by : LevelRows
by = record {
  level = row_place p.LevelId;
  highest = row_place p.MaxRecvLevelId;
  difference = row_place p.SpropMaxDonDiff;
  units = row_place p.SpropDepackBufBytes;
  need = row_place p.SpropDepackBufBytes;
  room = row_place p.DepackBufCap;
}

-- whether the profile has layers: Multilayer Main 10 and Multilayer Main 10 4:4:4, and their still
-- pictures
abbrev pub has_layers : FormatParameters → Bool
has_layers it =
    let profile = number_or_default rows it (row_place p.ProfileId) in
    (same_number profile (Some 17) || same_number profile (Some 49))
    || (same_number profile (Some 81) || same_number profile (Some 113))

abbrev pub vps_of : FormatParameters → Option (List ℕ)
vps_of it = value_at it.values (row_place p.SpropVps)

-- of a profile with layers sprop-vps is configuration too (section 7.3.2.2): the answer has the offer's
abbrev pub keeps_vps : FormatParameters → FormatParameters → Terms → Bool
keeps_vps offered own terms = not (has_layers offered)
    || same_if_given (Units h266_vps) (vps_of offered) (only_if terms.sets (vps_of own))

abbrev pub if_keeps_vps : FormatParameters → FormatParameters → Terms → Option Terms
if_keeps_vps offered own terms = if keeps_vps offered own terms then Some terms else None

-- the terms of two formats of one configuration
abbrev pub terms : FormatParameters → FormatParameters → Option Terms
terms offered own =
    option_and_then (if_keeps_vps offered own) (terms_by_level rows by offered own)

-- the same in multicast, at the offered level, which ours isn't below
abbrev pub multicast_terms : FormatParameters → FormatParameters → Option Terms
multicast_terms offered own =
    if keeps_level rows by offered own then terms offered own else None

-- packets bear decoding order numbers
abbrev pub reorders : FormatParameters → Bool
reorders it = is_positive (number_or_default rows it (row_place p.SpropMaxDonDiff))

abbrev pub rules : Rules
rules = record {
  rows = rows;
  roles = roles;
  terms = terms;
  known = own.known;
  fault = own.fault;
  reorders = reorders;
  usages = usages;
}
