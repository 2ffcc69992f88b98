-- A PACI packet that was packed is read as it was.
use Rattle.std.proofs.Common.{◌≡◌, ℕ, ◌+◌, ◌*◌, ◌/◌, ◌%◌, ◌<◌, ◌≤◌, Bool, true, false, List, [], ◌∷◌, length, refl, ap, arith}
use Rattle.std.proofs.lemmas.List.{take_at, drop_at}
use Rattle.std.proofs.lemmas.Bool.Decides.{nat_tests}
use Rattle.h26x_core.specs.Word.{field, flag}
use Rattle.h26x_core.specs.H265Unit.{is_forbidden, type_of}
use Rattle.h26x_model.specs.Payload.Reading.{Paci}
use Rattle.h265_packets.specs.Header.{with_type}
use Rattle.h265_packets.specs.Paci.{paci_fields, paci_packet}
use Rattle.h265_packets.specs.declared.payload.H265Payload.TheVariants.{H265PACIPacket}
use Rattle.h265_packets.proofs.PaciLemmas.{fields_are}
use Rattle.h265_payload.specs.H265.{read, paci_head}
use Rattle.h265_payload.specs.Reading.{IsPaci}
use Rattle.h265_payload.specs.Shown.{shown}
use Rattle.h265_payload.proofs.ReadingLemmas.{only_reading}

-- F as a number
f_bit : (high : ℕ) → flag (is_forbidden high) 1 ≡ field high 7 7
f_bit high =
    elim (is_forbidden high) as (λ b. is_forbidden high ≡ b → flag b 1 ≡ field high 7 7) [
      | true ↦ λ h. grind (arith, nat_tests)
      | false ↦ λ h. grind (arith, nat_tests)
    ] refl

-- a high byte is F, its type and the layer's highest bit
high_back : (high : ℕ) → high < 256 → field high 7 7 * 128 + with_type (with_type high 50) (type_of high) ≡ high
high_back high byte = omega arith

-- a word of two bytes
word_back : (n : ℕ) → n < 65536 → n / 256 % 256 * 256 + n % 256 ≡ n
word_back n h = omega arith

-- the header that a packet stands for is the unit's
head_back : (high low : ℕ) (phes : List ℕ) → high < 256 → length phes ≤ 31 → paci_head (with_type high 50) low (paci_fields high phes) ≡ high ∷ low ∷ []
head_back high low phes byte within =
    let f = fields_are high phes within in
    rw (f.a, f.ctype, f_bit high) (ap (λ (x : ℕ). x ∷ low ∷ []) (high_back high byte))

pub read_back : (has_donl : Bool) (high low : ℕ) (body phes : List ℕ) → high < 256 → 1 ≤ length body → length phes ≤ 31 →
    read has_donl (paci_packet (high ∷ low ∷ body) phes) ≡ Paci (high ∷ low ∷ []) (paci_fields high phes) phes body
read_back has_donl high low body phes byte some within =
    let f = fields_are high phes within in
    let w = word_back (paci_fields high phes) f.two_bytes in
    only_reading has_donl (paci_packet (high ∷ low ∷ body) phes) (Paci (high ∷ low ∷ []) (paci_fields high phes) phes body)
    (IsPaci (with_type high 50) low (paci_fields high phes / 256 % 256) (paci_fields high phes % 256) phes body
    (record { whole = refl; some = omega arith; clear = grind (arith, nat_tests) }) (omega arith) (rw w f.phs_size) some
    (rw w (rw (head_back high low phes byte within) refl)))

-- and is shown as it was packed
pub shown_back : (has_donl : Bool) (high low : ℕ) (body phes : List ℕ) → length phes ≤ 31 →
    shown has_donl (paci_packet (high ∷ low ∷ body) phes)
    ≡ H265PACIPacket (record { header = with_type high 50 * 256 + low; fields = paci_fields high phes; phes = phes; payload = body })
shown_back has_donl high low body phes within =
    let f = fields_are high phes within in
    let kind : type_of (with_type high 50) ≡ 50 = omega arith in
    rw (kind, word_back (paci_fields high phes) f.two_bytes, f.phs_size, take_at phes body (length phes) refl, drop_at phes body (length phes) refl) refl
