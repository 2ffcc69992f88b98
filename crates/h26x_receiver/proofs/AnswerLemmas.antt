-- Packets with their numbers, one by one.
use Rattle.std.proofs.Common.{◌≡◌, ℕ, ◌+◌, ◌<◌, ◌≤◌, List, [], ◌∷◌, ◌++◌, length, take, get_or, Result, Ok, Vec, Global, refl, sym, ap, ◌∙◌, subst, append_assoc}
use Rattle.std.proofs.lemmas.List.{get_or-map, take_all}
use Rattle.std.proofs.lemmas.Grind.{take_at_read}
use Rattle.h26x_core.specs.declared.error.PacketError.{PacketError}
use Rattle.h26x_core.specs.Front.{IsFrontOf}
use Rattle.h26x_receiver.specs.declared.received.Received.{Received}
use Rattle.h26x_receiver.specs.Sequenced.{SequencedDepacketization, IsSequencedAnswer, after_answer, after_answers, HaveSequencedAnswers, AreAllReceived}
use Rattle.h26x_receiver.specs.Delivery.{sequenced_packets}

-- an answer that is no refusal
abbrev pub accepted : Received → Result Received PacketError
accepted answer = Ok answer

-- one packet more, and its answer
answers_more : (most : ℕ) (s : SequencedDepacketization) (packets : List (ℕ × List ℕ)) (answers : List (Result Received PacketError)) (packet : ℕ × List ℕ) (answer : Result Received PacketError) →
    HaveSequencedAnswers most s packets answers → IsSequencedAnswer most (after_answers most s packets answers) packet.0 packet.1 answer →
    HaveSequencedAnswers most s (packets ++ packet ∷ []) (answers ++ answer ∷ [])
answers_more most s [] [] packet answer each here = (here, tt)
answers_more most s [] (a ∷ answers) packet answer each here = absurd each
answers_more most s (p ∷ packets) [] packet answer each here = absurd each
answers_more most s (p ∷ packets) (a ∷ answers) packet answer (first, each) here =
    (first, answers_more most (after_answer most s p.0 p.1 a) packets answers packet answer each here)

-- what stands then
after_more : (most : ℕ) (s : SequencedDepacketization) (packets : List (ℕ × List ℕ)) (answers : List (Result Received PacketError)) (packet : ℕ × List ℕ) (answer : Result Received PacketError) →
    HaveSequencedAnswers most s packets answers →
    after_answers most s (packets ++ packet ∷ []) (answers ++ answer ∷ []) ≡ after_answer most (after_answers most s packets answers) packet.0 packet.1 answer
after_more most s [] [] packet answer each = refl
after_more most s [] (a ∷ answers) packet answer each = absurd each
after_more most s (p ∷ packets) [] packet answer each = absurd each
after_more most s (p ∷ packets) (a ∷ answers) packet answer (first, each) = after_more most (after_answer most s p.0 p.1 a) packets answers packet answer each

-- one packet more
pub received_more : (most : ℕ) (s : SequencedDepacketization) (packets : List (ℕ × List ℕ)) (i : ℕ) (answers : List (Result Received PacketError)) (answer : Result Received PacketError)
    (packet : ℕ × List ℕ) (old new : SequencedDepacketization) → i < length packets → get_or packets i packet ≡ packet →
    AreAllReceived most s (take i packets) answers old →
    IsSequencedAnswer most old packet.0 packet.1 answer → new ≡ after_answer most old packet.0 packet.1 answer →
    AreAllReceived most s (take (i + 1) packets) (answers ++ answer ∷ []) new
received_more most s packets i answers answer packet old new within here so_far is stands =
    let front = take i packets in
    let more : take (i + 1) packets ≡ front ++ packet ∷ [] = (take_at_read packets i packet within).1 ∙ ap (λ (p : ℕ × List ℕ). front ++ p ∷ []) here in
    let same = after_more most s front answers packet answer so_far.each in
    subst (λ (x : List (ℕ × List ℕ)). AreAllReceived most s x (answers ++ answer ∷ []) new) (sym more) (record {
      each = answers_more most s front answers packet answer so_far.each (subst (λ (x : SequencedDepacketization). IsSequencedAnswer most x packet.0 packet.1 answer) so_far.stands is);
      stands = stands ∙ ap (λ (x : SequencedDepacketization). after_answer most x packet.0 packet.1 answer) so_far.stands ∙ sym same;
    })

-- all packets
pub received_to_end : (most : ℕ) (s : SequencedDepacketization) (packets : List (ℕ × List ℕ)) (i : ℕ) (answers : List (Result Received PacketError)) (new : SequencedDepacketization) →
    length packets ≤ i → AreAllReceived most s (take i packets) answers new → AreAllReceived most s packets answers new
received_to_end most s packets i answers new past all = subst (λ (x : List (ℕ × List ℕ)). AreAllReceived most s x answers new) (take_all i packets past) all

-- the packet at a place, with its number
pub pair_at : (packets : List (ℕ × Vec ℕ Global)) (i : ℕ) (item : ℕ × Vec ℕ Global) (bytes : List ℕ) → i < length packets → item ≡ get_or packets i item → bytes ≡ item.1.items →
    get_or (sequenced_packets packets) i (item.0, bytes) ≡ (item.0, bytes)
pair_at packets i item bytes within is same =
    get_or-map (λ (p : ℕ × Vec ℕ Global). (p.0, p.1.items)) packets i item (item.0, bytes) within
    ∙ ap (λ (p : ℕ × Vec ℕ Global). (p.0, p.1.items)) (sym is) ∙ ap (λ (b : List ℕ). (item.0, b)) (sym same)

-- a beginning of a beginning is one of the whole
pub still_front : (a b whole : List ℕ) → IsFrontOf a b → IsFrontOf b whole → IsFrontOf a whole
still_front a b whole (x, is) (y, more) = (x ++ y, more ∙ ap (λ (l : List ℕ). l ++ y) is ∙ append_assoc a x y)
