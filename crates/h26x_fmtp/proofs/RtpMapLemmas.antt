-- What is written of payload types is read as the same: each of the 128 is looked at.
use Rattle.std.proofs.Common.{◌≡◌, ℕ, zero, suc, ◌<◌, Bool, true, false, ◌&&◌, Result, Ok, Err, refl, ap, ◌∙◌, inl, inr, arith}
use Rattle.std.specs.Prelude.{◌==◌}
use Rattle.std.specs.Fmt.{digits}
use Rattle.std.proofs.lemmas.Bool.{and_parts, eqb-true, cases_lt}
use Rattle.h26x_fmtp.specs.declared.rtp_map.Encoding.{Encoding}
use Rattle.h26x_fmtp.specs.declared.rtp_map.Encoding.TheVariants.{H264, H265, H266}
use Rattle.h26x_fmtp.specs.declared.rtp_map.RtpMap.{RtpMap}
use Rattle.h26x_fmtp.specs.declared.rtp_map.RtpMapError.{RtpMapError}
use Rattle.h26x_fmtp.specs.RtpMaps.{rtp_map_of, rtp_map_text}

abbrev is_encoding : Encoding → Encoding → Bool
is_encoding H264 H264 = true
is_encoding H265 H265 = true
is_encoding H266 H266 = true
is_encoding H264 H265 = false
is_encoding H264 H266 = false
is_encoding H265 H264 = false
is_encoding H265 H266 = false
is_encoding H266 H264 = false
is_encoding H266 H265 = false

same_encoding : (a b : Encoding) → is_encoding a b ≡ true → a ≡ b
same_encoding H264 H264 h = refl
same_encoding H265 H265 h = refl
same_encoding H266 H266 h = refl
same_encoding H264 H265 h = cc h
same_encoding H264 H266 h = cc h
same_encoding H265 H264 h = cc h
same_encoding H265 H266 h = cc h
same_encoding H266 H264 h = cc h
same_encoding H266 H265 h = cc h

-- whether a payload type and an encoding were read
abbrev is_map : Result RtpMap RtpMapError → ℕ → Encoding → Bool
is_map (Err error) n e = false
is_map (Ok map) n e = (map.payload_type == n) && is_encoding map.encoding e

map_is : (r : Result RtpMap RtpMapError) (n : ℕ) (e : Encoding) → is_map r n e ≡ true → r ≡ Ok (record { payload_type = n; encoding = e })
map_is (Err error) n e h = cc h
map_is (Ok map) n e h =
    let both = and_parts (map.payload_type == n) (is_encoding map.encoding e) h in
    let number : map.payload_type ≡ n = eqb-true _ _ both.0 in
    let same : map.encoding ≡ e = same_encoding map.encoding e both.1 in
    ap (λ (k : ℕ). Ok (record { payload_type = k; encoding = map.encoding })) number
    ∙ ap (λ (c : Encoding). Ok (record { payload_type = n; encoding = c })) same

-- whether it is read again, of all payload types below a number
back : Encoding → ℕ → Bool
back e n = is_map (rtp_map_of (rtp_map_text (record { payload_type = n; encoding = e }))) n e

all_back : Encoding → ℕ → Bool
all_back e zero = true
all_back e (suc n) = back e n && all_back e n

back_below : (e : Encoding) (most n : ℕ) → all_back e most ≡ true → n < most → back e n ≡ true
unfolding back all_back
back_below e zero n h within = absurd (omega (arith, within))
back_below e (suc most) n h within =
    let both = and_parts (back e most) (all_back e most) h in
    elim (cases_lt n most) [
      | inl below ↦ back_below e most n both.1 below
      | inr above ↦ let last : n ≡ most = omega (arith, within, above) in ap (back e) last ∙ both.0
    ]

each_back : (e : Encoding) → all_back e 128 ≡ true
unfolding digits all_back back
each_back H264 = refl
each_back H265 = refl
each_back H266 = refl

pub map_back : (map : RtpMap) → map.payload_type < 128 → rtp_map_of (rtp_map_text map) ≡ Ok map
unfolding back
map_back map within = map_is (rtp_map_of (rtp_map_text map)) map.payload_type map.encoding (back_below map.encoding 128 map.payload_type (each_back map.encoding) within)
