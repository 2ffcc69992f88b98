-- What is given out of packets that are all taken.
use Rattle.std.proofs.Common.{◌≡◌, ℕ, false, cond, List, [], ◌∷◌, ◌++◌, sym, ap, ◌∙◌, refl, append_assoc}
use Rattle.h26x_reorder.specs.Rtp.{RtpBody}
use Rattle.h26x_receiver.specs.Sequenced.{after_taken_packet}
use Rattle.h26x_assembler.specs.AccessUnit.{AccessUnitValue, whole_if, Assembly, is_run_closed, taken_by, unit_with, given_out, ended_by, after_taken_rtp}
use Rattle.h26x_assembler.proofs.UnitLemmas.{after_all_taken}

-- a packet's own access unit, where it ends it
abbrev pub own_ended : ℕ → Assembly → ℕ × RtpBody → AccessUnitValue
own_ended most s p = whole_if (is_run_closed (after_taken_packet most (taken_by s p.1.timestamp) p.0 p.1.payload).at_work.state.run) (unit_with most s p)

-- what one packet ends, of what was open and of its own
abbrev pub given_by : ℕ → Assembly → ℕ × RtpBody → List AccessUnitValue
given_by most s p = ended_by s p ++ cond p.1.marker (own_ended most s p ∷ []) []

-- what is given out of packets, and at the end what is open
abbrev pub given_from : ℕ → Assembly → List (ℕ × RtpBody) → List AccessUnitValue
given_from most s [] = given_out false s.unit
given_from most s (p ∷ packets) = given_by most s p ++ given_from most (after_taken_rtp most s p) packets

pub given_all : (most : ℕ) (s : Assembly) (packets : List (ℕ × RtpBody)) →
    (after_all_taken most s packets).ended ++ given_out false (after_all_taken most s packets).unit ≡ s.ended ++ given_from most s packets
given_all most s [] = refl
given_all most s (p ∷ packets) =
    let before = ended_by s p in
    let own = cond p.1.marker (own_ended most s p ∷ []) [] in
    let later = given_from most (after_taken_rtp most s p) packets in
    given_all most (after_taken_rtp most s p) packets
    ∙ append_assoc (s.ended ++ before) own later ∙ append_assoc s.ended before (own ++ later) ∙ ap (λ (l : List AccessUnitValue). s.ended ++ l) (sym (append_assoc before own later))
