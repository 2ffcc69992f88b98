-- H.265 meets the facts that the laws of every format ask, with either header on sets that share a packet.
use Rattle.std.proofs.Common.{◌≡◌, ℕ, Bool, true, false, List, [], ◌∷◌, refl, ◌≤◌}
use Rattle.std.specs.List.{AllByRecursion, list_any}
use Rattle.h26x_core.specs.H265Unit.{is_key}
use Rattle.h26x_model.specs.Payload.Format.{IsLimit}
use Rattle.h26x_model.specs.Payload.Facts.{IsPayloadFormat}
use Rattle.h26x_model.specs.Payload.TwoBytes.{two_byte_detects}
use Rattle.h26x_model.proofs.SetsLemmas.{sets_short}
use Rattle.h26x_model.proofs.TwoByteLemmas.{sets_undetected}
use Rattle.h265_payload.specs.H265.{h265, h265_header, h265_rules, sets_fit}
use Rattle.h265_payload.specs.EveryUnit.{own_aggregate}
use Rattle.h265_payload.specs.LowestHeader.{has_forbidden_bit, layer_of, lowest_layer, lowest_high, lowest_low}
use Rattle.h265_payload.specs.EveryFacts.{fits_every, every_numbers}
use Rattle.h265_payload.specs.Sending.{h265_headed}
use Rattle.h265_payload.proofs.HeaderLemmas.{is_two_bytes}
use Rattle.h265_payload.proofs.LowestLemmas.{lowest_most, type_back}
use Rattle.h265_payload.proofs.SetsLemmas.{fit_is_within}
use Rattle.h265_payload.proofs.FactLemmas as facts
use Rattle.h265_payload.proofs.EveryLemmas.{reads_every}

-- sets without numbers are not detected
undetected : (has_donl : Bool) (n limit : ℕ) (sets : List (List ℕ)) → has_donl ≡ false → IsLimit (h265 has_donl) limit → sets_fit has_donl limit sets ≡ true →
    AllByRecursion (λ set. is_key set ≡ false) sets → two_byte_detects h265_header (own_aggregate has_donl n sets) ≡ false
undetected true n limit sets none is fit all = absurd cc
undetected false n limit [] none is fit all = refl
undetected false n limit (set ∷ sets) none is fit all =
    let small : lowest_layer (set ∷ sets) ≤ 63 = lowest_most 63 layer_of (set ∷ sets) in
    sets_undetected false (h265_rules false) (is_two_bytes false) (lowest_high (set ∷ sets)) (lowest_low (set ∷ sets)) (set ∷ sets)
    (type_back (list_any has_forbidden_bit (set ∷ sets)) (lowest_layer (set ∷ sets)) small)
    (sets_short (h265 false) (fit_is_within false) limit (set ∷ sets) (is refl) fit) all

-- the format meets all facts
pub headed_format : (has_donl lowest_header : Bool) → IsPayloadFormat (h265_headed has_donl lowest_header)
headed_format has_donl false = facts.is_payload_format has_donl
headed_format has_donl true = let plain = facts.is_payload_format has_donl in let reads = reads_every has_donl in record {
  headers = plain.headers;
  reads = record { header = reads.header; single = reads.single; fragment = reads.fragment; sets = reads.sets };
  limits = record { header = (fits_every has_donl).header; sets = (fits_every has_donl).sets };
  whole = plain.whole;
  marks = plain.marks;
  sets = plain.sets;
  extra = record { tells = plain.extra.tells; none = plain.extra.none; whole = plain.extra.whole };
  detects = record {
    single = plain.detects.single;
    fragment = plain.detects.fragment;
    sets = λ n limit sets unit none is fit carried h all. undetected has_donl n limit sets none is fit all;
  };
  other = plain.other;
  dons = record { sets = (every_numbers has_donl).sets; none = (every_numbers has_donl).none };
}
