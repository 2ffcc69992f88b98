-- H.264 reads what it writes.
use Rattle.std.proofs.Common.{◌≡◌, ℕ, ◌<◌, ◌≤◌, Bool, true, false, cond, List, [], ◌∷◌, ◌++◌, length, take, Option, None, refl, ap, arith}
use Rattle.std.specs.Prelude.{IsTrue}
use Rattle.std.proofs.lemmas.Bool.{cond_both}
use Rattle.h26x_core.specs.H264Unit.{type_of}
use Rattle.h26x_model.specs.Payload.Reading.{Single, Aggregate, Fragment}
use Rattle.h26x_model.specs.Send.Packets.{single_packet}
use Rattle.h26x_model.specs.Payload.Don.{don_sent, with_dons}
use Rattle.h26x_model.specs.Payload.Facts.{AreCarried, ReadsWhatItWrites}
use Rattle.h26x_core.proofs.HeaderLemmas.{start_back, end_back, type_back}
use Rattle.h26x_core.proofs.PieceLemmas.{pieces_back}
use Rattle.h26x_model.proofs.SetsLemmas.{plain_numbers}
use Rattle.h264_payload.specs.H264.{h264, read, carries, fragment_header, sets_fit}
use Rattle.h264_payload.proofs.HeaderLemmas.{type_below, type_fits, indicator_type, indicator_bits, byte_of_parts, carried_first, unit_is_read}
use Rattle.h264_payload.proofs.SetLemmas.{fit_parts, none_is_empty}

-- a unit that is carried has a whole header
header_there : (unit : List ℕ) → IsTrue (carries unit) → 1 ≤ length unit
header_there [] h = let e : false ≡ true = h in absurd cc
header_there (first ∷ unit) h = omega arith

-- a unit alone is read as it is
single_back : (n : ℕ) (unit : List ℕ) → IsTrue (carries unit) → read (single_packet h264 n unit) ≡ Single unit (don_sent h264 n)
single_back n [] h = let e : false ≡ true = h in absurd cc
single_back n (first ∷ unit) h = let c = carried_first first unit h in unit_is_read first unit c.1 c.2

-- a fragment is read with the bits, the unit's first byte and the data that it was made of
fragment_back : (n : ℕ) (unit body : List ℕ) (start end : Bool) → IsTrue (carries unit) → 0 < length body →
    read (fragment_header unit start end ++ (cond start [] [] ++ body)) ≡ Fragment start end (take 1 unit) (cond start None None) body
fragment_back n [] body start end h some = let e : false ≡ true = h in absurd cc
fragment_back n (first ∷ unit) body start end h some =
    rw (
      cond_both start [] [] (λ (r : List ℕ). r ≡ []) (λ _. refl) (λ _. refl),
      cond_both start None None (λ (r : Option ℕ). r ≡ None) (λ _. refl) (λ _. refl),
      indicator_type first,
      indicator_bits first,
      start_back start end (type_of first) (type_fits first),
      end_back start end (type_of first) (type_fits first),
      type_back start end (type_of first) (type_below first),
      byte_of_parts first (carried_first first unit h).0,
    ) refl

-- a STAP-A of sets that fit it is read as these sets
sets_back : (n limit : ℕ) (sets : List (List ℕ)) (unit : List ℕ) → sets_fit limit sets ≡ true → AreCarried h264 sets →
    read (h264.sets_packet n sets unit) ≡ Aggregate (with_dons h264 n sets)
sets_back n limit sets unit fit carried =
    rw (pieces_back sets (fit_parts limit sets fit).1, none_is_empty sets carried) (ap Aggregate (plain_numbers h264 refl n sets))

-- what a packetizer of H.264 writes is read back
pub reads_what_it_writes : ReadsWhatItWrites h264
reads_what_it_writes = record {
  header = header_there;
  single = single_back;
  fragment = fragment_back;
  sets = λ n limit sets unit is fit two carried unit_carried. sets_back n limit sets unit fit carried;
}
