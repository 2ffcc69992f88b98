-- What a caller's memory holds once units were written to it.
use Rattle.std.proofs.Common.{rules, ◌≡◌, true, Ok, Err, Result, refl, ℕ, ◌≤◌, List, ◌++◌, sym, ap, ◌∙◌, arith, take, drop, length}
use Rattle.std.specs.Borrow.{GName}
use Rattle.std.proofs.lemmas.List.{length-take-le, take-append-drop}
use Rattle.h26x_core.specs.declared.error.PacketError.{PacketError}
use Rattle.h26x_depacketizer.specs.UnitSink.{memory_sink, grown_to}
use Rattle.h26x_receiver.specs.declared.received.Received.{Received}
use Rattle.h26x_receiver.specs.declared.received.Received.TheVariants.{InOrder, Gap, TooLong, Late}
use Rattle.h26x_receiver.specs.Sequenced.{SequencedDepacketization, is_taken, after_answer, after_taken_packet}
use Rattle.h26x_codes.specs.Copies.{with_front}
use Rattle.h26x_codes.proofs.CopyLemmas.{copied_there}

-- what was written stands at the front, and behind it what stood there
pub written_to_front : (len : ℕ) (old new : List ℕ) (a b : GName) → len ≤ length new → length new ≡ length old →
    memory_sink len new a ≡ grown_to (take len new) (memory_sink 0 old b) → new ≡ with_front (take len new) old
written_to_front len old new a b within lengths grown =
    let count : length (take len new) ≡ len = length-take-le len new within in
    let behind : drop len new ≡ drop (length (take len new)) old = search rules in
    copied_there (take len new) old new (omega (arith, count, within, lengths))
    (sym (take-append-drop len new) ∙ ap (λ (xs : List ℕ). take len new ++ xs) behind)

-- what stands after an answer that a packet was taken
taken_stands : (most : ℕ) (s : SequencedDepacketization) (number : ℕ) (packet : List ℕ) (answer : Result Received PacketError) → is_taken answer ≡ true →
    after_answer most s number packet answer ≡ after_taken_packet most s number packet
taken_stands most s number packet (Err e) taken = absurd (let bad = taken in cc)
taken_stands most s number packet (Ok InOrder) taken = refl
taken_stands most s number packet (Ok (Gap n)) taken = refl
taken_stands most s number packet (Ok (TooLong n)) taken = refl
taken_stands most s number packet (Ok (Late n)) taken = absurd (let bad = taken in cc)

-- the run that stands then, where it was taken by the same receiver
pub run_stands : (most limit : ℕ) (s old new : SequencedDepacketization) (number : ℕ) (packet : List ℕ) (answer : Result Received PacketError) → is_taken answer ≡ true → limit ≡ most → old ≡ s →
    new ≡ after_answer limit old number packet answer → new.at_work.state ≡ (after_taken_packet most s number packet).at_work.state
run_stands most limit s old new number packet answer taken limits same stands =
    ap (λ (x : SequencedDepacketization). x.at_work.state) (stands ∙ taken_stands limit old number packet answer taken
    ∙ ap (λ (x : SequencedDepacketization). after_taken_packet limit x number packet) same ∙ ap (λ m. after_taken_packet m s number packet) limits)
