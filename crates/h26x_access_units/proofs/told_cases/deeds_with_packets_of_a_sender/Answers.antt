use Rattle.std.proofs.Common.{◌≡◌, ◌∙◌, sym, ℕ, true, List, [], ◌∷◌, Option, Some, refl, arith}
use Rattle.h26x_reorder.specs.Rtp.{RtpBody, rtp_body}
use Rattle.h26x_access_units.specs.WholeSent.{IsSentAt}
use Rattle.h26x_access_units.specs.ToldWhole.{AreOfSender, none_done, took_packet, passed_packet, ended_before_packet, ended_its_stream, told_its_first, dropped_before, TookPacket, ToldFirst}
use Rattle.h26x_access_units.proofs.told_cases.deeds_with_packets_of_a_sender.Goals as goal

abbrev b : RtpBody
b = rtp_body 5 true (1 ∷ [])

abbrev two : List RtpBody
two = rtp_body 4 true (1 ∷ []) ∷ b ∷ []

-- the second of two packets
abbrev second : IsSentAt two 65535 (0, b)
second = record { place = 1; within = omega arith; number = refl; body = refl }

pub returns-clause-own : goal.returns-clause-own
returns-clause-own c = took_packet (0, b) second tt (told_its_first 0 refl refl (ended_its_stream (passed_packet (0, b) second tt (ended_before_packet (0, b) second tt none_done))))

-- a packet with another number isn't the one that was sent
no_stranger : IsSentAt (rtp_body 4 true (1 ∷ []) ∷ []) 7 (8, rtp_body 4 true (1 ∷ [])) → ⊥
no_stranger at = let within = at.within in let number = at.number in omega (arith, within, number)

pub returns-clause-stranger : goal.returns-clause-stranger
returns-clause-stranger c due (took_packet p at in_time of) = no_stranger at

pub returns-clause-behind : goal.returns-clause-behind
returns-clause-behind c due (told_its_first number told is_new of) = let bad = is_new in cc

-- no place is due where a number was told
none_due : (due : Option ℕ) → AreOfSender (rtp_body 4 true (1 ∷ []) ∷ []) 7 due (ToldFirst 7 ∷ []) → due ≡ Some 0 → ⊥
none_due due (told_its_first number told is_new of) is = let bad = sym told ∙ is in cc

pub returns-clause-told : goal.returns-clause-told
returns-clause-told c it = none_due (Some 0) it refl

pub returns-clause-before : goal.returns-clause-before
returns-clause-before c = took_packet (7, rtp_body 4 true (1 ∷ [])) (record { place = 0; within = omega arith; number = refl; body = refl }) tt (dropped_before (TookPacket (8, rtp_body 4 true (2 ∷ [])) ∷ []))

pub returns-clause-late : goal.returns-clause-late
returns-clause-late c = passed_packet (65535, rtp_body 4 true (1 ∷ [])) (record { place = 0; within = omega arith; number = refl; body = refl }) (omega arith, omega arith) (took_packet (0, b) second tt none_done)

pub returns-clause-ended : goal.returns-clause-ended
returns-clause-ended c due (ended_its_stream (passed_packet p at in_time of)) = no_stranger at
