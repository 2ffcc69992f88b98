-- A packet has one reading, and it is the one computed.
use Rattle.std.proofs.Common.{◌≡◌, ℕ, ◌+◌, ◌*◌, ◌<◌, ◌≤◌, Bool, true, false, List, [], ◌∷◌, length, Option, Some, None, refl, sym, ap, ◌∙◌, inl, inr, ⊎_elim, arith}
use Rattle.std.specs.Prelude.{◌==◌, Result, Ok, Err}
use Rattle.std.proofs.lemmas.Bool.{cases_lt, and_parts}
use Rattle.std.proofs.lemmas.Bool.Decides.{nat_tests}
use Rattle.h26x_core.specs.Word.{field, is_set}
use Rattle.h26x_core.specs.H266Unit.{type_of}
use Rattle.h26x_model.specs.Payload.Reading.{Reading, Single, Aggregate, Refused, two_byte_single}
use Rattle.h26x_core.specs.declared.error.PacketError.{PacketError}
use Rattle.h26x_core.specs.declared.error.PacketError.TheVariants.{ErrShortPacket, ErrH266CorruptedPacket}
use Rattle.h26x_model.proofs.SingleLemmas.{short_single, numbered_single}
use Rattle.h26x_model.proofs.TwoByteLemmas.{by_kind, short_read, marked_read, aggregate_read, own_read}
use Rattle.h266_payload.specs.H266.{h266_rules, read, with_type, units_with_dons, two_or_more, units_within, aggregate_of, fragment_of}
use Rattle.h266_payload.specs.Reading.{IsReading, IsWhole, IsUnitType, IsBehind, IsPlain, IsNumbered}
use Rattle.h266_payload.specs.Reading.{IsShort, IsCorrupted, IsUnit, IsNumberedUnit, IsShortUnit}
use Rattle.h266_payload.specs.Reading.{IsAggregate, IsShortAggregate, IsCutAggregate, IsCorruptedAggregate, IsWithoutNumber, IsFragment, IsNumberedStart, IsShortStart}
use Rattle.h266_payload.proofs.HeaderLemmas.{plain_fragment, numbered_start}
use Rattle.h266_payload.proofs.WithinLemmas.{IsFound, ToTheEnd, ToACut, ToAForbidden, found_within, only_found}

-- an aggregate is read as its bytes are found to be
found_is : (has_donl : Bool) (high low : ℕ) (packet rest bytes : List ℕ) (don : Option ℕ) (result : Result (List (List ℕ)) PacketError) →
    IsWhole packet high low rest → type_of low ≡ 28 → IsBehind has_donl rest don bytes → IsFound bytes result → IsReading has_donl packet (two_or_more don result)
found_is has_donl high low packet rest bytes don result whole type behind (ToTheEnd [] are all same) =
    IsShortAggregate high low rest bytes don [] whole type behind are all (omega arith) (ap (two_or_more don) same)
found_is has_donl high low packet rest bytes don result whole type behind (ToTheEnd (first ∷ []) are all same) =
    IsShortAggregate high low rest bytes don (first ∷ []) whole type behind are all (omega arith) (ap (two_or_more don) same)
found_is has_donl high low packet rest bytes don result whole type behind (ToTheEnd (first ∷ second ∷ units) are all same) =
    IsAggregate high low rest bytes don (first ∷ second ∷ units) whole type behind are all (omega arith) (ap (two_or_more don) same)
found_is has_donl high low packet rest bytes don result whole type behind (ToACut left units are all cut same) =
    IsCutAggregate high low rest bytes left don units whole type behind are all cut (ap (two_or_more don) same)
found_is has_donl high low packet rest bytes don result whole type behind (ToAForbidden h l unit after units are all long forbidden same) =
    IsCorruptedAggregate high low h l rest bytes unit after don units whole type behind are all long forbidden (ap (two_or_more don) same)

-- a packet of type 28 is read as an aggregate is computed to be
aggregate_is : (has_donl : Bool) (high low : ℕ) (packet rest : List ℕ) → IsWhole packet high low rest → type_of low ≡ 28 → IsReading has_donl packet (aggregate_of has_donl rest)
aggregate_is false high low packet rest whole type =
    found_is false high low packet rest rest None (units_within (length rest) rest) whole type (IsPlain refl refl refl) (found_within (length rest) rest (omega arith))
aggregate_is true high low packet [] whole type = let some : 1 ≤ length {A = ℕ} [] = whole.some in absurd (omega arith)
aggregate_is true high low packet (d ∷ []) whole type = IsWithoutNumber high low d whole type refl refl
aggregate_is true high low packet (d ∷ e ∷ bytes) whole type =
    found_is true high low packet (d ∷ e ∷ bytes) bytes (Some (d * 256 + e)) (units_within (length bytes) bytes) whole type
    (IsNumbered d e refl refl refl) (found_within (length bytes) bytes (omega arith))

-- a start with numbers has one, or it is too short
start_is : (high low fu : ℕ) (packet body : List ℕ) → IsWhole packet high low (fu ∷ body) → type_of low ≡ 29 → is_set fu 7 ≡ true →
    IsReading true packet (fragment_of true true (is_set fu 6) (high ∷ with_type low (field fu 4 0) ∷ []) body)
start_is high low fu packet [] whole type starts = IsShortStart high low fu [] whole type starts (omega arith) refl
start_is high low fu packet (d ∷ []) whole type starts = IsShortStart high low fu (d ∷ []) whole type starts (omega arith) refl
start_is high low fu packet (d ∷ e ∷ body) whole type starts = IsNumberedStart high low fu d e body whole type starts refl

-- a packet of type 29 is read as a fragment is computed to be
fragment_is : (has_donl : Bool) (high low fu : ℕ) (packet body : List ℕ) → IsWhole packet high low (fu ∷ body) → type_of low ≡ 29 →
    IsReading has_donl packet (fragment_of has_donl (is_set fu 7) (is_set fu 6) (high ∷ with_type low (field fu 4 0) ∷ []) body)
fragment_is false high low fu packet body whole type = IsFragment high low fu body whole type refl refl
fragment_is true high low fu packet body whole type =
    elim (is_set fu 7) as (λ b. is_set fu 7 ≡ b → IsReading true packet (fragment_of true b (is_set fu 6) (high ∷ with_type low (field fu 4 0) ∷ []) body)) [
      | true ↦ λ starts. start_is high low fu packet body whole type starts
      | false ↦ λ later. IsFragment high low fu body whole type later (rw later refl)
    ] refl

-- a packet of another type is read as a unit alone is computed to be
unit_is : (has_donl : Bool) (high low : ℕ) (packet rest : List ℕ) → IsWhole packet high low rest → IsUnitType (type_of low) → IsReading has_donl packet (two_byte_single has_donl high low rest)
unit_is false high low packet rest whole type = IsUnit high low rest whole type refl (rw (whole.whole) refl)
unit_is true high low packet [] whole type = IsShortUnit high low [] whole type refl (omega arith) refl
unit_is true high low packet (d ∷ []) whole type = IsShortUnit high low (d ∷ []) whole type refl (omega arith) refl
unit_is true high low packet (d ∷ e ∷ []) whole type = IsShortUnit high low (d ∷ e ∷ []) whole type refl (omega arith) refl
unit_is true high low packet (d ∷ e ∷ b ∷ body) whole type = IsNumberedUnit high low d e (b ∷ body) whole type refl (omega arith) refl

-- a type that is neither an aggregate's nor a fragment's is a unit's
own_type : (type : ℕ) → (type == 28) ≡ false → (type == 29) ≡ false → IsUnitType type
own_type type aggregate fragment = ⊎_elim (λ (h : 29 < type). inr h) (λ (h : type ≤ 29). inl (grind (arith, nat_tests))) (cases_lt 29 type)

-- and a unit's type is neither
other_type : (type : ℕ) → IsUnitType type → ((type == 28) ≡ false) × ((type == 29) ≡ false)
other_type type (inl below) = (grind (arith, nat_tests), grind (arith, nat_tests))
other_type type (inr above) = (grind (arith, nat_tests), grind (arith, nat_tests))

-- a packet with F clear and a byte or more behind its header
is_whole : (high low : ℕ) (rest : List ℕ) → 1 ≤ length rest → is_set high 7 ≡ false → IsWhole (high ∷ low ∷ rest) high low rest
is_whole high low rest some clear = record { whole = refl; some = some; clear = clear }

-- what is computed is a packet's reading
pub has_reading : (has_donl : Bool) (packet : List ℕ) → IsReading has_donl packet (read has_donl packet)
has_reading has_donl = by_kind (h266_rules has_donl) (IsReading has_donl) (λ packet short. IsShort short refl)
    (λ high low rest some marked. IsCorrupted high low rest refl some marked refl)
    (λ high low rest some clear type. aggregate_is has_donl high low (high ∷ low ∷ rest) rest (is_whole high low rest some clear) type)
    (λ high low fu body clear type. fragment_is has_donl high low fu (high ∷ low ∷ fu ∷ body) body (is_whole high low (fu ∷ body) (omega arith) clear) type)
    (λ high low rest some clear x y. unit_is has_donl high low (high ∷ low ∷ rest) rest (is_whole high low rest some clear) (own_type (type_of low) x y))

-- a unit's own type is read as a unit alone
unit_read : (has_donl : Bool) (high low : ℕ) (packet rest : List ℕ) → IsWhole packet high low rest → IsUnitType (type_of low) → read has_donl packet ≡ two_byte_single has_donl high low rest
unit_read has_donl high low packet rest whole type =
    let other = other_type (type_of low) type in
    ap (read has_donl) whole.whole ∙ own_read (h266_rules has_donl) high low rest whole.some whole.clear other.0 other.1

-- type 29 is read as a fragment
fragment_read : (has_donl : Bool) (high low fu : ℕ) (packet body : List ℕ) → IsWhole packet high low (fu ∷ body) → type_of low ≡ 29 →
    read has_donl packet ≡ fragment_of has_donl (is_set fu 7) (is_set fu 6) (high ∷ with_type low (field fu 4 0) ∷ []) body
fragment_read has_donl high low fu packet body whole type = rw (whole.whole, whole.clear, type) refl

-- type 28 is read as an aggregate
whole_read : (has_donl : Bool) (high low : ℕ) (packet rest : List ℕ) → IsWhole packet high low rest → type_of low ≡ 28 → read has_donl packet ≡ aggregate_of has_donl rest
whole_read has_donl high low packet rest whole type = ap (read has_donl) whole.whole ∙ aggregate_read (h266_rules has_donl) high low rest whole.some whole.clear type

-- an aggregate's units are computed from the bytes behind its number
behind_read : (has_donl : Bool) (rest bytes : List ℕ) (don : Option ℕ) → IsBehind has_donl rest don bytes →
    aggregate_of has_donl rest ≡ two_or_more don (units_within (length bytes) bytes)
behind_read has_donl rest bytes don (IsPlain plain none same) = rw (plain, none, same) refl
behind_read has_donl rest bytes don (IsNumbered d e bears is same) = rw (bears, is, same) refl

-- an aggregate is computed to be what its bytes are found to be
found_read : (has_donl : Bool) (high low : ℕ) (packet rest bytes : List ℕ) (don : Option ℕ) (result : Result (List (List ℕ)) PacketError) →
    IsWhole packet high low rest → type_of low ≡ 28 → IsBehind has_donl rest don bytes → IsFound bytes result → read has_donl packet ≡ two_or_more don result
found_read has_donl high low packet rest bytes don result whole type behind found =
    whole_read has_donl high low packet rest whole type ∙ behind_read has_donl rest bytes don behind ∙ ap (two_or_more don) (only_found bytes result found)

-- two units or more are an aggregate
many_read : (don : Option ℕ) (units : List (List ℕ)) → 2 ≤ length units → two_or_more don (Ok units) ≡ Aggregate (units_with_dons don units)
many_read don [] two = absurd (omega arith)
many_read don (first ∷ []) two = absurd (omega arith)
many_read don (first ∷ second ∷ units) two = refl

-- fewer units are too short
few_read : (don : Option ℕ) (units : List (List ℕ)) → length units ≤ 1 → two_or_more don (Ok units) ≡ Refused ErrShortPacket
few_read don [] one = refl
few_read don (first ∷ []) one = refl
few_read don (first ∷ second ∷ units) one = absurd (omega arith)

-- a start without a whole number is too short
short_start : (end : Bool) (head body : List ℕ) → length body ≤ 1 → fragment_of true true end head body ≡ Refused ErrShortPacket
short_start end head [] short = refl
short_start end head (d ∷ []) short = refl
short_start end head (d ∷ e ∷ body) short = absurd (omega arith)

-- a packet has no other reading than the one computed
pub only_reading : (has_donl : Bool) (packet : List ℕ) (reading : Reading) → IsReading has_donl packet reading → read has_donl packet ≡ reading
only_reading has_donl packet reading (IsShort short is) = short_read (h266_rules has_donl) packet short ∙ sym is
only_reading has_donl packet reading (IsCorrupted high low rest whole some marked is) = ap (read has_donl) whole ∙ marked_read (h266_rules has_donl) high low rest some marked ∙ sym is
only_reading has_donl packet reading (IsUnit high low rest whole type plain is) =
    unit_read has_donl high low packet rest whole type ∙ rw plain (ap (λ (unit : List ℕ). Single unit None) (sym whole.whole)) ∙ sym is
only_reading has_donl packet reading (IsNumberedUnit high low d e body whole type bears some is) =
    unit_read has_donl high low packet (d ∷ e ∷ body) whole type ∙ rw bears (numbered_single high low d e body some) ∙ sym is
only_reading has_donl packet reading (IsShortUnit high low rest whole type bears short is) =
    unit_read has_donl high low packet rest whole type ∙ rw bears (short_single high low rest short) ∙ sym is
only_reading has_donl packet reading (IsAggregate high low rest bytes don units whole type behind are all two is) =
    found_read has_donl high low packet rest bytes don (Ok units) whole type behind (ToTheEnd units are all refl) ∙ many_read don units two ∙ sym is
only_reading has_donl packet reading (IsShortAggregate high low rest bytes don units whole type behind are all one is) =
    found_read has_donl high low packet rest bytes don (Ok units) whole type behind (ToTheEnd units are all refl) ∙ few_read don units one ∙ sym is
only_reading has_donl packet reading (IsCutAggregate high low rest bytes left don units whole type behind are all cut is) =
    found_read has_donl high low packet rest bytes don (Err ErrShortPacket) whole type behind (ToACut left units are all cut refl) ∙ sym is
only_reading has_donl packet reading (IsCorruptedAggregate high low h l rest bytes unit after don units whole type behind are all long forbidden is) =
    found_read has_donl high low packet rest bytes don (Err ErrH266CorruptedPacket) whole type behind (ToAForbidden h l unit after units are all long forbidden refl) ∙ sym is
only_reading has_donl packet reading (IsWithoutNumber high low d whole type bears is) =
    whole_read has_donl high low packet (d ∷ []) whole type ∙ rw bears (sym is)
only_reading has_donl packet reading (IsFragment high low fu body whole type none is) =
    fragment_read has_donl high low fu packet body whole type ∙ plain_fragment has_donl (is_set fu 7) _ _ body none ∙ sym is
only_reading has_donl packet reading (IsNumberedStart high low fu d e body whole type starts is) =
    fragment_read has_donl high low fu packet (d ∷ e ∷ body) whole type ∙ numbered_start has_donl (is_set fu 7) _ _ d e body starts ∙ sym is
only_reading has_donl packet reading (IsShortStart high low fu body whole type starts short is) =
    let both = and_parts has_donl (is_set fu 7) starts in
    fragment_read has_donl high low fu packet body whole type ∙ rw (both.0, both.1) (short_start _ _ body short) ∙ sym is
