-- What is written of payload types of what goes beside video is read as the same: each of the 128 is
-- looked at.
use Rattle.std.proofs.Common.{◌≡◌, ℕ, zero, suc, ◌<◌, Bool, true, false, ◌&&◌, Result, Ok, Err, refl, sym, ap, ◌∙◌}
use Rattle.std.specs.Prelude.{◌==◌}
use Rattle.std.specs.Fmt.{digits}
use Rattle.std.proofs.lemmas.Bool.{and_parts, eqb-true}
use Rattle.h26x_fmtp.specs.declared.repair_map.RepairFormat.{RepairFormat}
use Rattle.h26x_fmtp.specs.declared.repair_map.RepairFormat.TheVariants.{Rtx, Red, Ulpfec, Flexfec, Flexfec03}
use Rattle.h26x_fmtp.specs.declared.repair_map.RepairMap.{RepairMap}
use Rattle.h26x_fmtp.specs.declared.rtp_map.RtpMapError.{RtpMapError}
use Rattle.h26x_fmtp.specs.RepairMaps.{repair_map_of, repair_map_text}
use Rattle.h26x_fmtp.proofs.TestLemmas.{all_below, below_at}

abbrev place : RepairFormat → ℕ
place Rtx = 0
place Red = 1
place Ulpfec = 2
place Flexfec = 3
place Flexfec03 = 4

abbrev at : ℕ → RepairFormat
at zero = Rtx
at (suc zero) = Red
at (suc (suc zero)) = Ulpfec
at (suc (suc (suc zero))) = Flexfec
at (suc (suc (suc (suc n)))) = Flexfec03

at_place : (f : RepairFormat) → at (place f) ≡ f
at_place Rtx = refl
at_place Red = refl
at_place Ulpfec = refl
at_place Flexfec = refl
at_place Flexfec03 = refl

-- whether a payload type and a format were read
abbrev is_map : Result RepairMap RtpMapError → RepairFormat → ℕ → Bool
is_map (Err error) f n = false
is_map (Ok map) f n = (map.payload_type == n) && (place map.format == place f)

map_is : (r : Result RepairMap RtpMapError) (f : RepairFormat) (n : ℕ) → is_map r f n ≡ true → r ≡ Ok (record { payload_type = n; format = f })
map_is (Err error) f n h = cc h
map_is (Ok map) f n h =
    let both = and_parts (map.payload_type == n) (place map.format == place f) h in
    let number : map.payload_type ≡ n = eqb-true _ _ both.0 in
    let same : map.format ≡ f = sym (at_place map.format) ∙ ap at (eqb-true _ _ both.1) ∙ at_place f in
    ap (λ (k : ℕ). Ok (record { payload_type = k; format = map.format })) number
    ∙ ap (λ (it : RepairFormat). Ok (record { payload_type = n; format = it })) same

-- whether it is read again
back : RepairFormat → ℕ → Bool
back f n = is_map (repair_map_of (repair_map_text (record { payload_type = n; format = f }))) f n

each_back : (f : RepairFormat) → all_below (back f) 128 ≡ true
unfolding digits back
each_back Rtx = refl
each_back Red = refl
each_back Ulpfec = refl
each_back Flexfec = refl
each_back Flexfec03 = refl

pub repair_map_back : (map : RepairMap) → map.payload_type < 128 → repair_map_of (repair_map_text map) ≡ Ok map
unfolding back
repair_map_back map within = map_is (repair_map_of (repair_map_text map)) map.format map.payload_type (below_at (back map.format) 128 map.payload_type (each_back map.format) within)
