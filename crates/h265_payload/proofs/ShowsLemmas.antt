-- What is shown of a packet that is read is its reading.
use Rattle.std.proofs.Common.{◌≡◌, ℕ, ◌+◌, ◌*◌, ◌≤◌, Bool, true, false, cond, List, [], ◌∷◌, length, drop, take, map, refl, sym, ap, ◌∙◌, arith, Option, Some, None}
use Rattle.std.specs.Prelude.{◌==◌, ◌&&◌}
use Rattle.std.proofs.lemmas.List.{length-map}
use Rattle.h26x_core.specs.Word.{field, is_set}
use Rattle.h26x_core.specs.H265Unit.{type_of}
use Rattle.h26x_core.specs.Pieces.{pieces_of}
use Rattle.h26x_core.specs.declared.error.PacketError.TheVariants.{ErrH265CorruptedPacket}
use Rattle.h26x_model.specs.Payload.Reading.{Refused, two_byte_single, without_don}
use Rattle.h265_packets.specs.Header.{with_type}
use Rattle.h265_packets.specs.Payload.{AggregationPacket}
use Rattle.h265_packets.specs.declared.payload.H265Payload.TheVariants as p
use Rattle.h265_payload.specs.H265.{read, aggregate_of, two_or_more, fragment_of, paci_of, paci_behind, units_behind_donl}
use Rattle.h265_payload.specs.Shown.{ShowsReading, shown, shown_single, shown_fragment, shown_paci, donl_of, behind_donl, aggregate_behind, aggregate_shown, units_numbered, without_dond}
use Rattle.h265_payload.proofs.AggregateLemmas.{plain_units, all_apart, plain_walk, numbered_walk, as_many}

-- an aggregate shows whether it bears numbers
marked : (has_donl : Bool) (donl : Option ℕ) (bytes : List ℕ) → (aggregate_behind has_donl donl bytes).has_donl ≡ has_donl
marked has_donl donl [] = refl
marked has_donl donl (x ∷ []) = refl
marked has_donl donl (x ∷ y ∷ bytes) = refl

-- of two units or more it shows these
units_so : (has_donl : Bool) (high low : ℕ) (units : List (List ℕ × Option ℕ)) (packet : AggregationPacket) → packet.has_donl ≡ has_donl →
    (2 ≤ length units → units_numbered packet ≡ units) → ShowsReading has_donl high low (two_or_more units) (p.H265AggregationPacket packet)
units_so has_donl high low [] packet marks same = tt
units_so has_donl high low (x ∷ []) packet marks same = tt
units_so has_donl high low (x ∷ y ∷ units) packet marks same = (packet, refl, marks, same (omega arith))

-- an aggregation packet
aggregate_so : (has_donl : Bool) (high low : ℕ) (rest : List ℕ) → ShowsReading has_donl high low (aggregate_of has_donl rest) (p.H265AggregationPacket (aggregate_shown has_donl rest))
aggregate_so false high low rest =
    let pieces = (pieces_of rest).whole in
    let a = length-map pieces without_dond in let b = length-map pieces without_don in
    units_so false high low (map without_don pieces) (aggregate_behind false None rest) (marked false None rest) (λ two.
    ap units_numbered (sym (plain_walk rest (omega (arith, a, b, two)))) ∙ sym (plain_units pieces))
aggregate_so true high low [] = tt
aggregate_so true high low (d ∷ []) = tt
aggregate_so true high low (d ∷ e ∷ bytes) =
    let n = d * 256 + e in
    let c = as_many n e bytes in
    units_so true high low (units_behind_donl n bytes) (aggregate_behind true (Some n) bytes) (marked true (Some n) bytes) (λ two.
    ap units_numbered (sym (numbered_walk n e bytes (omega (arith, c, two)))) ∙ sym (all_apart n e bytes))

-- a single NAL unit packet
single_so : (has_donl : Bool) (high low : ℕ) (rest : List ℕ) → ShowsReading has_donl high low (two_byte_single has_donl high low rest) (shown_single has_donl (high * 256 + low) rest)
single_so false high low rest = refl
single_so true high low [] = tt
single_so true high low (d ∷ []) = tt
single_so true high low (d ∷ e ∷ []) = tt
single_so true high low (d ∷ e ∷ b ∷ body) = refl

-- a fragmentation unit, by its S bit
fragment_so : (has_donl start : Bool) (high low fu : ℕ) (body : List ℕ) → is_set fu 7 ≡ start →
    ShowsReading has_donl high low (fragment_of has_donl start (is_set fu 6) (with_type high (field fu 5 0) ∷ low ∷ []) body) (p.H265FragmentationUnitPacket (record {
      header = high * 256 + low;
      fu_header = fu;
      donl = donl_of (has_donl && start) body;
      payload = behind_donl (has_donl && start) body;
      has_donl = has_donl;
    }))
fragment_so true true high low fu [] is = tt
fragment_so true true high low fu (d ∷ []) is = tt
fragment_so true true high low fu (d ∷ e ∷ []) is = tt
fragment_so true true high low fu (d ∷ e ∷ b ∷ body) is = (fu, refl, is, refl, refl)
fragment_so true false high low fu [] is = tt
fragment_so true false high low fu (b ∷ body) is = (fu, refl, is, refl, refl)
fragment_so false true high low fu [] is = tt
fragment_so false true high low fu (b ∷ body) is = (fu, refl, is, refl, refl)
fragment_so false false high low fu [] is = tt
fragment_so false false high low fu (b ∷ body) is = (fu, refl, is, refl, refl)

-- a PACI packet whose extension ends before these bytes
behind_so : (has_donl : Bool) (high low fields : ℕ) (extension body : List ℕ) →
    ShowsReading has_donl high low (paci_behind high low fields extension body) (p.H265PACIPacket (record {
      header = high * 256 + low;
      fields = fields;
      phes = extension;
      payload = body;
    }))
behind_so has_donl high low fields extension [] = tt
behind_so has_donl high low fields extension (b ∷ body) = (refl, refl)

-- a PACI packet
paci_so : (has_donl : Bool) (high low : ℕ) (rest : List ℕ) → ShowsReading has_donl high low (paci_of high low rest) (shown_paci (high * 256 + low) rest)
paci_so has_donl high low [] = tt
paci_so has_donl high low (a ∷ []) = tt
paci_so has_donl high low (a ∷ b ∷ bytes) =
    let len = field (a * 256 + b) 8 4 in
    behind_so has_donl high low (a * 256 + b) (take len bytes) (drop len bytes)

-- each packet, by its type
pub shows_reading : (has_donl : Bool) (high low : ℕ) (rest : List ℕ) → ShowsReading has_donl high low (read has_donl (high ∷ low ∷ rest)) (shown has_donl (high ∷ low ∷ rest))
shows_reading has_donl high low [] = tt
shows_reading has_donl high low (b ∷ body) =
    let word = high * 256 + low in
    let paci = paci_of high low (b ∷ body) in
    let single = two_byte_single has_donl high low (b ∷ body) in
    let fragment = fragment_of has_donl (is_set b 7) (is_set b 6) (with_type high (field b 5 0) ∷ low ∷ []) body in
    let aggregate = aggregate_of has_donl (b ∷ body) in
    let paci_shown = shown_paci word (b ∷ body) in
    let single_shown = shown_single has_donl word (b ∷ body) in
    let fragment_shown = shown_fragment has_donl word (b ∷ body) in
    elim (is_set high 7) as (λ x. ShowsReading has_donl high low
    (cond x (Refused ErrH265CorruptedPacket) (cond (type_of high == 48) aggregate (cond (type_of high == 49) fragment (cond (type_of high == 50) paci single))))
    (shown has_donl (high ∷ low ∷ b ∷ body))) [
      | true ↦ tt
      | false ↦ elim (type_of high == 48) as (λ x. ShowsReading has_donl high low (cond x aggregate (cond (type_of high == 49) fragment (cond (type_of high == 50) paci single)))
          (cond x (p.H265AggregationPacket (aggregate_shown has_donl (b ∷ body))) (cond (type_of high == 49) fragment_shown (cond (type_of high == 50) paci_shown single_shown)))) [
            | true ↦ aggregate_so has_donl high low (b ∷ body)
            | false ↦ elim (type_of high == 49) as (λ x. ShowsReading has_donl high low (cond x fragment (cond (type_of high == 50) paci single)) (cond x fragment_shown (cond (type_of high == 50) paci_shown single_shown))) [
              | true ↦ fragment_so has_donl (is_set b 7) high low b body refl
              | false ↦ elim (type_of high == 50) as (λ x. ShowsReading has_donl high low (cond x paci single) (cond x paci_shown single_shown)) [
                | true ↦ paci_so has_donl high low (b ∷ body)
                | false ↦ single_so has_donl high low (b ∷ body)
              ]
            ]
          ]
    ]
