-- Packets with their timestamps, one by one.
use Rattle.std.proofs.Common.{◌≡◌, ℕ, ◌+◌, ◌<◌, ◌≤◌, Bool, true, false, List, [], ◌∷◌, ◌++◌, length, take, get_or, slice_index_or, None, Result, refl, sym, ap, ◌∙◌, subst}
use Rattle.std.proofs.lemmas.List.{take_all}
use Rattle.std.proofs.lemmas.Grind.{take_at_read}
use Rattle.h26x_core.specs.declared.error.PacketError.{PacketError}
use Rattle.h26x_model.specs.Payload.Facts.{IsPayloadFormat}
use Rattle.h26x_receiver.specs.declared.received.Received.{Received}
use Rattle.h26x_receiver.specs.Delivery.{taken_places}
use Rattle.h26x_receiver.proofs.DeliveryLemmas.{DamagesNothing, GoUp, up_from_first}
use Rattle.h26x_reorder.specs.Rtp.{RtpBody}
use Rattle.h26x_reorder.specs.Reordering.{in_order, IsReordered}
use Rattle.h26x_reorder.specs.ReorderBuffer.{reordered}
use Rattle.h26x_assembler.specs.AccessUnit.{AccessUnitValue, Assembly, IsNoneOpen, IsAssemblyAnswer, given_out, after_rtp, after_all_rtp, HaveAssemblyAnswers, AreAssembled}
use Rattle.h26x_assembler.specs.StampedCalls.{sent_bodies, first_place, units_left, brought_mask, AreUnitsGiven, AreAccessUnitsBrought}
use Rattle.h26x_reorder.proofs.ReorderLemmas.{puts_below}
use Rattle.h26x_reorder.proofs.PlaceShiftLemmas.{put_in_order_all}
use Rattle.h26x_assembler.proofs.GapLemmas.{gaps_short}
use Rattle.h26x_assembler.proofs.TakenLemmas.{taken_packets, taken_answers, only_taken, taken_at, taken_below, taken_next}
use Rattle.h26x_assembler.proofs.StreamLemmas.{GoesOn}
use Rattle.h26x_assembler.proofs.OrderedLemmas.{nothing, up_of, come_in_order}

-- one packet more, and its answer
answers_more : (most limit : ℕ) (s : Assembly) (packets : List (ℕ × RtpBody)) (answers : List (Result Received PacketError)) (packet : ℕ × RtpBody) (answer : Result Received PacketError) →
    HaveAssemblyAnswers most limit s packets answers → IsAssemblyAnswer most (after_all_rtp most limit s packets answers) packet answer →
    HaveAssemblyAnswers most limit s (packets ++ packet ∷ []) (answers ++ answer ∷ [])
answers_more most limit s [] [] packet answer each here = (here, tt)
answers_more most limit s [] (a ∷ answers) packet answer each here = absurd each
answers_more most limit s (p ∷ packets) [] packet answer each here = absurd each
answers_more most limit s (p ∷ packets) (a ∷ answers) packet answer (first, each) here =
    (first, answers_more most limit (after_rtp most limit s p a) packets answers packet answer each here)

-- what stands then
after_more : (most limit : ℕ) (s : Assembly) (packets : List (ℕ × RtpBody)) (answers : List (Result Received PacketError)) (packet : ℕ × RtpBody) (answer : Result Received PacketError) →
    HaveAssemblyAnswers most limit s packets answers →
    after_all_rtp most limit s (packets ++ packet ∷ []) (answers ++ answer ∷ []) ≡ after_rtp most limit (after_all_rtp most limit s packets answers) packet answer
after_more most limit s [] [] packet answer each = refl
after_more most limit s [] (a ∷ answers) packet answer each = absurd each
after_more most limit s (p ∷ packets) [] packet answer each = absurd each
after_more most limit s (p ∷ packets) (a ∷ answers) packet answer (first, each) = after_more most limit (after_rtp most limit s p a) packets answers packet answer each

-- one packet more
pub units_more : (most limit : ℕ) (s : Assembly) (packets : List (ℕ × RtpBody)) (i : ℕ) (answers : List (Result Received PacketError)) (answer : Result Received PacketError)
    (packet : ℕ × RtpBody) (old new : Assembly) → i < length packets → get_or packets i packet ≡ packet →
    AreAssembled most limit s (take i packets) answers old →
    IsAssemblyAnswer most old packet answer → new ≡ after_rtp most limit old packet answer →
    AreAssembled most limit s (take (i + 1) packets) (answers ++ answer ∷ []) new
units_more most limit s packets i answers answer packet old new within here so_far is stands =
    let front = take i packets in
    let more : take (i + 1) packets ≡ front ++ packet ∷ [] = (take_at_read packets i packet within).1 ∙ ap (λ (p : ℕ × RtpBody). front ++ p ∷ []) here in
    let same = after_more most limit s front answers packet answer so_far.each in
    subst (λ (x : List (ℕ × RtpBody)). AreAssembled most limit s x (answers ++ answer ∷ []) new) (sym more) (record {
      each = answers_more most limit s front answers packet answer so_far.each (subst (λ (x : Assembly). IsAssemblyAnswer most x packet answer) so_far.stands is);
      stands = stands ∙ ap (λ (x : Assembly). after_rtp most limit x packet answer) so_far.stands ∙ sym same;
    })

-- all packets
pub units_to_end : (most limit : ℕ) (s : Assembly) (packets : List (ℕ × RtpBody)) (i : ℕ) (answers : List (Result Received PacketError)) (new : Assembly) →
    length packets ≤ i → AreAssembled most limit s (take i packets) answers new → AreAssembled most limit s packets answers new
units_to_end most limit s packets i answers new past all = subst (λ (x : List (ℕ × RtpBody)). AreAssembled most limit s x answers new) (take_all i packets past) all

-- the places that came go up from the first one
pub up_first : (window : ℕ) (known : Bool) (places : List ℕ) → window ≤ 16384 → IsReordered window places → GoUp (first_place known) (in_order places)
up_first window true places half near = up_from_first None (in_order places) (up_of None (in_order places) (gaps_short window places half near))
up_first window false places half near = up_of None (in_order places) (gaps_short window places half near)

-- what a network brought of calls
pub units_brought_by : (window most limit : ℕ) (w : Assembly) (packets : List (ℕ × RtpBody)) (answers : List (Result Received PacketError)) (new : Assembly) → DamagesNothing → GoesOn →
    0 < window → window ≤ 16384 → IsPayloadFormat w.state.format → IsNoneOpen w.unit w.is_gap → AreAssembled most limit w (reordered window packets) answers new →
    AreAccessUnitsBrought window most limit w packets answers (new.ended ++ given_out false new.unit)
units_brought_by window most limit w packets answers new law on_law some half ok start all = λ s calls first known places same expected it near apart.
    let sent = sent_bodies s calls in
    let ordered = in_order places in
    let given = reordered window packets in
    let only = only_taken most limit w given answers all.each in
    let came = come_in_order most limit w (taken_packets given answers) (taken_answers answers) law on_law ok start only.each only.none s calls first known (taken_places ordered answers) same expected (record {
      streamed = it.streamed;
      each = ap (λ (l : List (ℕ × RtpBody)). taken_packets l answers) (put_in_order_all window packets some half (λ place. slice_index_or sent place nothing) first places it.each it.near)
          ∙ taken_at sent first ordered answers;
      sent = taken_below (length sent) ordered answers (puts_below (length sent) places [] it.sent tt);
      order = taken_next (first_place known) ordered answers (up_first window known places half it.near) near;
    }) apart in
    let given_of : Assembly → List AccessUnitValue = λ x. x.ended ++ given_out false x.unit in
    subst (λ (units : List AccessUnitValue). AreUnitsGiven limit w.ended units (units_left most s w.state.is_avc known w.closed calls (brought_mask s calls places answers)))
    (ap given_of only.same ∙ ap given_of (sym all.stands)) came
