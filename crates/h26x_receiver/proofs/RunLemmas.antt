-- Runs within a limit.
use Rattle.std.proofs.Common.{◌≡◌, ℕ, ◌≤◌, true, false, cond, List, [], ◌∷◌, length, Option, None, Some, Result, Ok, Err, refl, arith}
use Rattle.std.specs.Prelude.{nat_lt}
use Rattle.std.proofs.lemmas.Bool.Decides.{nat_tests}
use Rattle.h26x_core.specs.declared.error.PacketError.{PacketError}
use Rattle.h26x_model.specs.Receive.RunLimit.{run_len, run_within}
use Rattle.h26x_receiver.specs.declared.received.Received.{Received}
use Rattle.h26x_receiver.specs.declared.received.Received.TheVariants.{InOrder, Gap, TooLong, Late}
use Rattle.h26x_receiver.specs.Sequenced.{SequencedDepacketization, after_sequenced_packet, after_answer, after_answers}

-- a run that is limited is within the limit
within_limit : (most : ℕ) (run : Option (List ℕ)) → run_len (run_within most run) ≤ most
within_limit most None = omega arith
within_limit most (Some run) = elim (nat_lt most (length run)) as (λ b. nat_lt most (length run) ≡ b → run_len (cond b None (Some run)) ≤ most) [
  | true ↦ λ e. omega arith
  | false ↦ λ e. grind (arith, nat_tests)
] refl

-- so is the one that a packet leaves, where the one before was
stays_bounded : (most : ℕ) (s : SequencedDepacketization) (number : ℕ) (packet : List ℕ) (answer : Result Received PacketError) → run_len s.at_work.state.run ≤ most →
    run_len (after_answer most s number packet answer).at_work.state.run ≤ most
stays_bounded most s number packet (Err e) short = short
stays_bounded most s number packet (Ok (Late n)) short = short
stays_bounded most s number packet (Ok InOrder) short = within_limit most (after_sequenced_packet s number packet).state.run
stays_bounded most s number packet (Ok (Gap n)) short = within_limit most (after_sequenced_packet s number packet).state.run
stays_bounded most s number packet (Ok (TooLong n)) short = within_limit most (after_sequenced_packet s number packet).state.run

-- and the one that packets leave
pub all_bounded : (most : ℕ) (s : SequencedDepacketization) (packets : List (ℕ × List ℕ)) (answers : List (Result Received PacketError)) → run_len s.at_work.state.run ≤ most →
    run_len (after_answers most s packets answers).at_work.state.run ≤ most
all_bounded most s [] answers short = short
all_bounded most s (p ∷ packets) [] short = short
all_bounded most s (p ∷ packets) (a ∷ answers) short = all_bounded most (after_answer most s p.0 p.1 a) packets answers (stays_bounded most s p.0 p.1 a short)
