use Rattle.std.proofs.Common.{◌≡◌, ◌∙◌, sym, subst, ℕ, ◌+◌, ◌≤◌, ◌<◌, Bool, true, false, List, [], ◌∷◌, zero, suc, refl, arith}
use Rattle.h26x_core.specs.declared.extra.CodecExtra.TheVariants as extras
use Rattle.h26x_model.specs.Receive.DepacketizerState.{DepacketizerState, after_packets}
use Rattle.h26x_reorder.specs.Rtp.{RtpBody, rtp_body}
use Rattle.h26x_access_units.specs.declared.decoder.DecoderState.{DecoderState}
use Rattle.h26x_access_units.specs.Content.{content_of}
use Rattle.h26x_access_units.specs.Decoder.{is_front}
use Rattle.h26x_access_units.specs.WholeSent.{nothing_written, sent_at, sent_payloads, IsUnitFront}
use Rattle.h26x_access_units.proofs.whole_cases.senders.Goals as goal

-- an access unit of two packets before one of a packet
abbrev three : List RtpBody
three = rtp_body 5 false (1 ∷ []) ∷ rtp_body 5 true (2 ∷ []) ∷ rtp_body 6 true (3 ∷ []) ∷ []

-- nothing that is written is a front
no_text : (avc : Bool) (d : DecoderState) → is_front d extras.None (content_of avc extras.None []).first ≡ false
no_text true d = refl
no_text false d = refl

-- of its second packet alone is asked whether it is taken for a front
second_alone : (r : DepacketizerState) → ((d : DecoderState) → is_front d (after_packets (nothing_written r) ((2 ∷ []) ∷ [])).extra
    (content_of r.is_avc (after_packets (nothing_written r) ((2 ∷ []) ∷ [])).extra (after_packets (nothing_written r) ((2 ∷ []) ∷ [])).out).first ≡ false) →
    (place count : ℕ) (d : DecoderState) → place + count ≤ 3 → (IsUnitFront three place → ⊥) →
    ((k : ℕ) → k < count → (sent_at three (place + k)).timestamp ≡ (sent_at three place).timestamp) →
    is_front d (after_packets (nothing_written r) (sent_payloads three place count)).extra
    (content_of r.is_avc (after_packets (nothing_written r) (sent_payloads three place count)).extra
    (after_packets (nothing_written r) (sent_payloads three place count)).out).first ≡ false
second_alone r one zero count d within inner same = absurd (inner (λ before is e. absurd (omega (arith, is))))
second_alone r one (suc zero) zero d within inner same = no_text r.is_avc d
second_alone r one (suc zero) (suc zero) d within inner same = one d
second_alone r one (suc zero) (suc (suc count)) d within inner same = absurd (let bad = same 1 (omega arith) in cc)
second_alone r one (suc (suc zero)) count d within inner same =
    absurd (inner (λ before is e. let first : before ≡ 1 = omega (arith, is) in let bad = subst (λ (x : ℕ). (sent_at three x).timestamp ≡ 6) first e in cc))
second_alone r one (suc (suc (suc zero))) zero d within inner same = no_text r.is_avc d
second_alone r one (suc (suc (suc zero))) (suc count) d within inner same = absurd (omega (arith, within))
second_alone r one (suc (suc (suc (suc place)))) count d within inner same = absurd (omega (arith, within))

pub returns-clause-before_a_front : goal.returns-clause-before_a_front
returns-clause-before_a_front c r one = second_alone r one

pub returns-clause-behind : goal.returns-clause-behind
returns-clause-behind c r bears begins it = let none = it.begins 0 1 (omega arith) (omega arith) refl bears in let bad = sym none ∙ begins in cc

pub returns-clause-untold : goal.returns-clause-untold
returns-clause-untold c r it =
    let at = it.fronts 7 (zero, omega arith, refl) in
    let within = at.within in
    let number = at.number_is in
    omega (arith, within, number)
