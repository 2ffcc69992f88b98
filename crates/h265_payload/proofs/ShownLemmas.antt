-- What a packet brings where an aggregate is shown of it.
use Rattle.std.proofs.Common.{◌≡◌, ◌≢◌, ℕ, ◌+◌, ◌*◌, Bool, true, false, cond, List, [], ◌∷◌, None, refl, sym, ap, ◌∙◌, arith}
use Rattle.std.specs.Prelude.{◌==◌, slice_index, drop}
use Rattle.std.proofs.lemmas.Bool.Decides.{nat_tests}
use Rattle.h26x_core.specs.H265Unit.{type_of}
use Rattle.h26x_model.specs.Payload.Reading.{Reading}
use Rattle.h26x_depacketizer.specs.DepacketizerView.{taken_as, parts_reading}
use Rattle.h26x_depacketizer.specs.Shows.{AreUnitsOf}
use Rattle.h26x_depacketizer.specs.declared.parts.Parts.{Parts}
use Rattle.h26x_depacketizer.specs.declared.parts.Parts.TheVariants as p
use Rattle.h26x_depacketizer.proofs.AggregateLemmas.{units_only}
use Rattle.h26x_depacketizer.proofs.ReceivingLemmas.{taken_brings}
use Rattle.h265_payload.specs.Shown.{shown, shown_single, shown_fragment, shown_paci, shown_units, units_in, others_of, donl_of}
use Rattle.h265_payload.specs.H265.{h265}
use Rattle.h265_payload.specs.Packet.{IsShownBy}
use Rattle.h265_payload.proofs.AggregateLemmas.{units_shown_so}

-- a fragment is shown as no aggregate
fragment_apart : (has_donl : Bool) (header : ℕ) (rest : List ℕ) → shown_units (shown_fragment has_donl header rest) ≡ None
fragment_apart has_donl header [] = refl
fragment_apart has_donl header (fu ∷ rest) = refl

-- nor is a PACI packet
paci_apart : (header : ℕ) (rest : List ℕ) → shown_units (shown_paci header rest) ≡ None
paci_apart header [] = refl
paci_apart header (a ∷ []) = refl
paci_apart header (a ∷ b ∷ rest) = refl

-- nor is any packet of another type than 48
other_apart : (has_donl : Bool) (packet : List ℕ) → type_of (slice_index packet 0) ≢ 48 → shown_units (shown has_donl packet) ≡ None
other_apart has_donl [] other = refl
other_apart has_donl (x ∷ []) other = refl
other_apart has_donl (high ∷ low ∷ rest) other =
    let header = high * 256 + low in
    let test : (type_of high == 48) ≡ false = grind (arith, nat_tests, other) in
    let fragment = shown_fragment has_donl header rest in
    let paci = shown_paci header rest in
    let single = shown_single has_donl header rest in
    rw test (elim (type_of high == 49) as (λ b. shown_units (cond b fragment (cond (type_of high == 50) paci single)) ≡ None) [
      | true ↦ fragment_apart has_donl header rest
      | false ↦ elim (type_of high == 50) as (λ b. shown_units (cond b paci single) ≡ None) [ true ↦ paci_apart header rest | false ↦ refl ]
    ])

-- what an aggregate brings is what it shows
pub brings_shown : (has_donl : Bool) (packet : List ℕ) (parts : Parts) (reading : Reading) → taken_as reading ≡ parts_reading (h265 has_donl) (units_in has_donl) packet parts →
    IsShownBy has_donl packet parts → AreUnitsOf reading (shown_units (shown has_donl packet))
brings_shown has_donl packet p.Whole reading same shows = rw (other_apart has_donl packet shows.other) tt
brings_shown has_donl packet (p.Unit head body) reading same shows = rw (other_apart has_donl packet shows.other) tt
brings_shown has_donl packet (p.Fragment fragment) reading same shows = rw (other_apart has_donl packet shows.other) tt
brings_shown has_donl packet (p.Aggregate bytes size) reading same shows = rw (ap shown_units shows.1) (λ run.
    taken_brings run reading (parts_reading (h265 has_donl) (units_in has_donl) packet (p.Aggregate bytes size)) same ∙ units_only (units_in has_donl bytes.now)
    ∙ sym (units_shown_so has_donl (donl_of has_donl (drop 2 packet)) (others_of has_donl bytes.now)))
