use Rattle.std.proofs.Common.{◌≡◌, sym, subst, ℕ, Bool, true, false, List, [], ◌∷◌, Some, refl, arith}
use Rattle.h26x_core.specs.ByteStream.{annex_b}
use Rattle.h26x_core.specs.declared.extra.CodecExtra.TheVariants as extras
use Rattle.h26x_model.specs.Receive.DepacketizerState.{DepacketizerState, Depacketization}
use Rattle.h26x_reorder.specs.Rtp.{RtpBody, rtp_body}
use Rattle.h26x_assembler.specs.StampedCalls.{IsOtherStamp}
use Rattle.h26x_access_units.specs.declared.decoder.DecoderState.{DecoderState}
use Rattle.h26x_access_units.specs.Content.{content_of}
use Rattle.h26x_access_units.specs.Decoder.{fresh_decoder, is_front}
use Rattle.h26x_access_units.specs.WholeSent.{sent_at}
use Rattle.h26x_access_units.specs.ToldWhole.{Deed, TookPacket, PassedPacket, EndedStream, DroppedAll, open_stamp, took_none, IsBegunSo, behind_packet, as_first_told, by_front, by_first_front}
use Rattle.h26x_access_units.proofs.told_cases.access_units_that_begin_by_content.Goals as goal

-- whether a unit of H.264 alone is taken for a front
abbrev fronts : DecoderState → Bool → List ℕ → Bool
fronts d is_avc unit = is_front d (extras.H264 (record { is_keyframe = false })) (content_of is_avc (extras.H264 (record { is_keyframe = false })) (annex_b (unit ∷ []))).first

front_is : (r : DepacketizerState) (d : DecoderState) (unit : List ℕ) (front : Bool) → r.is_avc ≡ false → fronts d false unit ≡ front → fronts d r.is_avc unit ≡ front
front_is r d unit front is e = subst (λ (avc : Bool). fronts d avc unit ≡ front) (sym is) e

pub returns-clause-delimiter : goal.returns-clause-delimiter
returns-clause-delimiter c r is = by_front (TookPacket (3, rtp_body 4 false (1 ∷ [])) ∷ []) (λ bad. cc) (λ d. front_is r d (9 ∷ 16 ∷ []) true is refl)

pub returns-clause-behind_one : goal.returns-clause-behind_one
returns-clause-behind_one c r is = by_front (EndedStream ∷ TookPacket (3, rtp_body 5 false (1 ∷ [])) ∷ []) tt (λ d. front_is r d (9 ∷ 16 ∷ []) true is refl)

pub returns-clause-first_set : goal.returns-clause-first_set
returns-clause-first_set c r p is = by_first_front (PassedPacket p ∷ DroppedAll ∷ TookPacket p ∷ []) refl (front_is r fresh_decoder (103 ∷ 66 ∷ []) true is refl)

not_both : (x : Bool) → x ≡ false → x ≡ true → ⊥
not_both true is e = let bad = is in cc
not_both false is e = let bad = e in cc

-- behind a packet none begins but one of another timestamp, by its front
not_behind : (r : DepacketizerState) (sent : List RtpBody) (w : Depacketization) (p : ℕ × RtpBody) (ds : List Deed) → ds ≡ TookPacket p ∷ [] →
    (IsOtherStamp (Some p.1.timestamp) (sent_at sent 0).timestamp → ((d : DecoderState) → is_front d w.extra (content_of r.is_avc w.extra w.out).first ≡ true) → ⊥) → IsBegunSo r sent 7 0 w ds → ⊥
not_behind r sent w p ds is none (behind_packet k before place_is) = omega (arith, place_is)
not_behind r sent w p ds is none (as_first_told before) = let bad = is in cc
not_behind r sent w p ds is none (by_front before apart front) = none (subst (λ (x : List Deed). IsOtherStamp (open_stamp x) (sent_at sent 0).timestamp) is apart) front
not_behind r sent w p ds is none (by_first_front before took front) = let bad = subst (λ (x : List Deed). took_none x ≡ true) is took in cc

pub returns-clause-in_one : goal.returns-clause-in_one
returns-clause-in_one c r w it = not_behind r (rtp_body 5 true (9 ∷ 16 ∷ []) ∷ []) w (3, rtp_body 5 false (1 ∷ [])) _ refl (λ apart front. apart refl) it

pub returns-clause-later_set : goal.returns-clause-later_set
returns-clause-later_set c r is it = not_behind r (rtp_body 5 true (103 ∷ 66 ∷ []) ∷ []) _ (3, rtp_body 4 false (1 ∷ [])) _ refl
    (λ apart front. not_both _ (front_is r (record fresh_decoder { has_begun = true }) (103 ∷ 66 ∷ []) false is refl) (front (record fresh_decoder { has_begun = true }))) it

-- where nothing was done it begins by its front alone
not_first : (r : DepacketizerState) (sent : List RtpBody) (w : Depacketization) (ds : List Deed) → ds ≡ [] → is_front fresh_decoder w.extra (content_of r.is_avc w.extra w.out).first ≡ false → IsBegunSo r sent 7 0 w ds → ⊥
not_first r sent w ds is none (behind_packet k before place_is) = omega (arith, place_is)
not_first r sent w ds is none (as_first_told before) = let bad = is in cc
not_first r sent w ds is none (by_front before apart front) = not_both _ none (front fresh_decoder)
not_first r sent w ds is none (by_first_front before took front) = not_both _ none front

pub returns-clause-other_set : goal.returns-clause-other_set
returns-clause-other_set c r is it = not_first r _ _ _ refl (front_is r fresh_decoder (104 ∷ 206 ∷ []) false is refl) it
