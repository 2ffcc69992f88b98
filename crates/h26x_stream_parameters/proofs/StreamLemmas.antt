-- The first bytes of a list, and the parameters of a profile that was read.
use Rattle.std.proofs.Common.{◌≡◌, ℕ, zero, suc, ◌<◌, ◌≤◌, true, false, List, [], ◌∷◌, ◌++◌, length, take, Ok, Err, refl, ap, arith}
use Rattle.std.specs.Prelude.{nat_le}
use Rattle.std.proofs.lemmas.Bool.Decides.{nat_tests}
use Rattle.std.proofs.lemmas.List.{length-take-le}
use Rattle.h26x_stream_parameters.specs.declared.error.StreamError.TheVariants.{ShortParameterSet}
use Rattle.h26x_sdp.specs.declared.h264.H264Parameter.TheVariants as h264
use Rattle.h26x_sdp.specs.declared.h265.H265Parameter.TheVariants as h265
use Rattle.h26x_sdp.specs.declared.h266.H266Parameter.TheVariants as h266
use Rattle.h26x_fmtp.specs.Reading.{none_of}
use Rattle.h26x_fmtp.specs.UnitTypes.{h264_sets, h265_vps, h265_sps, h265_pps, h266_vps, h266_sps, h266_pps}
use Rattle.h26x_sdp.specs.H264Rows as h264_rows
use Rattle.h26x_sdp.specs.H265Rows as h265_rows
use Rattle.h26x_sdp.specs.H266Rows as h266_rows
use Rattle.h26x_stream_parameters.specs.FromStream.{first_bytes, with_sets, first_sets, h264_profile, h264_with_profile, h264_of_units, h265_profile, h265_with_profile, h265_of_units, h266_profile, h266_with_profile, h266_of_units}

-- those of what begins with so many
pub take_front : (many : ℕ) (xs ys : List ℕ) → length xs ≡ many → take many (xs ++ ys) ≡ xs
take_front zero [] ys h = refl
take_front zero (x ∷ xs) ys h = absurd (omega (arith, h))
take_front (suc n) [] ys h = absurd (omega (arith, h))
take_front (suc n) (x ∷ xs) ys h = ap (λ (l : List ℕ). x ∷ l) (take_front n xs ys (omega (arith, h)))

-- and of what has no more
pub take_all : (many : ℕ) (xs : List ℕ) → length xs ≤ many → take many xs ≡ xs
take_all zero [] h = refl
take_all zero (x ∷ xs) h = absurd (omega (arith, h))
take_all (suc n) [] h = refl
take_all (suc n) (x ∷ xs) h = ap (λ (l : List ℕ). x ∷ l) (take_all n xs (omega (arith, h)))

length_taken : (many : ℕ) (xs : List ℕ) → length (take many xs) ≤ length xs
length_taken zero xs = omega arith
length_taken (suc n) [] = omega arith
length_taken (suc n) (x ∷ xs) = omega (arith, length_taken n xs)

pub too_short : (many : ℕ) (xs : List ℕ) → length (take many xs) < many → first_bytes many xs ≡ Err ShortParameterSet
too_short many xs h =
    let no : many ≤ length xs → ⊥ = λ le. omega (arith, h, length-take-le many xs le) in
    let test : nat_le many (length xs) ≡ false = grind (arith, nat_tests, no) in
    rw test refl

pub long_enough : (many : ℕ) (xs : List ℕ) → many ≤ length (take many xs) → (first_bytes many xs ≡ Ok (take many xs)) × (length (take many xs) ≡ many)
long_enough many xs h =
    let le : many ≤ length xs = omega (arith, h, length_taken many xs) in
    let test : nat_le many (length xs) ≡ true = grind (arith, nat_tests, le) in
    (rw test refl, length-take-le many xs le)

-- the parameters of a profile that was read
pub h264_said : (units : List (List ℕ)) (profile : List ℕ) → h264_profile units ≡ Ok profile
    → h264_of_units units ≡ Ok (with_sets (h264_rows.row_place h264.SpropParameterSets) (first_sets h264_sets units) (h264_with_profile profile (none_of (length h264_rows.rows))))
h264_said units profile h = rw h refl

pub h265_said : (units : List (List ℕ)) (profile : List ℕ) → h265_profile units ≡ Ok profile
    → h265_of_units units ≡ Ok (with_sets (h265_rows.row_place h265.SpropPps) (first_sets h265_pps units) (with_sets (h265_rows.row_place h265.SpropSps) (first_sets h265_sps units) (with_sets (h265_rows.row_place h265.SpropVps) (first_sets h265_vps units) (h265_with_profile profile (none_of (length h265_rows.rows))))))
h265_said units profile h = rw h refl

pub h266_said : (units : List (List ℕ)) (profile : List ℕ) → h266_profile units ≡ Ok profile
    → h266_of_units units ≡ Ok (with_sets (h266_rows.row_place h266.SpropPps) (first_sets h266_pps units) (with_sets (h266_rows.row_place h266.SpropSps) (first_sets h266_sps units) (with_sets (h266_rows.row_place h266.SpropVps) (first_sets h266_vps units) (h266_with_profile profile (none_of (length h266_rows.rows))))))
h266_said units profile h = rw h refl
