-- No packet that a network brings of calls is refused for what it is.
use Rattle.std.proofs.Common.{◌≡◌, ℕ, ◌<◌, ◌≤◌, false, List, [], ◌∷◌, length, map, get_or, slice_index_or, None, Result, Ok, Err, refl, sym, subst, ⊎_elim, inl}
use Rattle.std.specs.List.{AllByRecursion}
use Rattle.h26x_core.specs.declared.error.PacketError.{PacketError}
use Rattle.h26x_core.specs.declared.error.PacketError.TheVariants.{OutOfMemory}
use Rattle.h26x_core.specs.declared.extra.CodecExtra.TheVariants as extras
use Rattle.h26x_model.specs.Payload.Format.{Format}
use Rattle.h26x_model.specs.Payload.Facts.{IsPayloadFormat}
use Rattle.h26x_model.specs.Payload.Reading.{IsRead}
use Rattle.h26x_model.specs.Receive.DepacketizerState.{DepacketizerState, depacketization}
use Rattle.h26x_model.specs.Send.PacketizerState.{PacketizerState}
use Rattle.h26x_receiver.specs.declared.received.Received.{Received}
use Rattle.h26x_receiver.specs.declared.received.Received.TheVariants.{InOrder, Gap, TooLong, Late}
use Rattle.h26x_core.specs.Sequence.{distance_behind, is_late, is_expected}
use Rattle.h26x_receiver.specs.Sequenced.{with_run_if}
use Rattle.h26x_receiver.specs.Delivery.{IsWantOrTooLong}
use Rattle.h26x_core.proofs.SequenceLemmas.{number_at}
use Rattle.h26x_receiver.proofs.RefusalLemmas.{no_answer, at_place, want_of}
use Rattle.h26x_reorder.specs.Rtp.{RtpBody}
use Rattle.h26x_reorder.specs.Reordering.{in_order}
use Rattle.h26x_reorder.specs.ReorderBuffer.{reordered}
use Rattle.h26x_assembler.specs.AccessUnit.{Assembly, taken_by, IsTakenAnswer, after_rtp, HaveAssemblyAnswers}
use Rattle.h26x_assembler.specs.StampedCalls.{StampedCall, access_unit_packets, after_call, unit_bodies, sent_bodies, body_of_place, AreStreamed, NoneBroughtIsRefused}
use Rattle.h26x_reorder.proofs.ReorderLemmas.{puts_below}
use Rattle.h26x_reorder.proofs.PlaceShiftLemmas.{put_in_order_all}
use Rattle.h26x_assembler.proofs.StreamLemmas.{GoesOn, next_call}
use Rattle.h26x_assembler.proofs.OrderedLemmas.{nothing}
use Rattle.h26x_assembler.proofs.WholeLemmas.{Carries, all_append}

-- the packets of one call are read
unit_read : (f : Format) (t : ℕ) (packets : List (List ℕ)) → AllByRecursion (λ packet. IsRead (f.read packet)) packets → AllByRecursion (λ b. IsRead (f.read b.payload)) (unit_bodies t packets)
unit_read f t [] read = tt
unit_read f t (packet ∷ packets) read = (read.0, unit_read f t packets read.1)

-- so are those of all
bodies_read : (s : PacketizerState) (calls : List StampedCall) → GoesOn → Carries → IsPayloadFormat s.format → AreStreamed s calls →
    AllByRecursion (λ b. IsRead (s.format.read b.payload)) (sent_bodies s calls)
bodies_read s [] on_law carry ok it = tt
bodies_read s (c ∷ calls) on_law carry ok it =
    let split = next_call s c calls on_law ok it in
    let state : DepacketizerState = record { format = s.format; is_avc = false; run = None } in
    let whole = carry s (depacketization state [] extras.None) (c.call ∷ []) ok it.sender (it.calls_are.0, tt) refl split.carried in
    all_append (λ (b : RtpBody). IsRead (s.format.read b.payload)) (unit_bodies c.timestamp (access_unit_packets s c.call)) (sent_bodies (after_call s c.call) calls)
    (unit_read s.format c.timestamp (access_unit_packets s c.call) whole.read) (bodies_read (after_call s c.call) calls on_law carry ok split.streamed)

-- what is read is refused for want of memory, or in AVC form for a unit that is too long
all_want : (most limit first : ℕ) (sent : List RtpBody) (s : Assembly) (places : List ℕ) (answers : List (Result Received PacketError)) →
    AllByRecursion (λ b. IsRead (s.state.format.read b.payload)) sent → AllByRecursion (λ place. place < length sent) places →
    HaveAssemblyAnswers most limit s (map (body_of_place sent first) places) answers → AllByRecursion (IsWantOrTooLong s.state.is_avc) answers
all_want most limit first sent s [] [] read within each = tt
all_want most limit first sent s [] (a ∷ answers) read within each = absurd each
all_want most limit first sent s (place ∷ places) [] read within each = absurd each
all_want most limit first sent s (place ∷ places) (Err e ∷ answers) read within each =
    let b = get_or sent place nothing in
    let number = number_at first place in
    let t = taken_by s b.timestamp in (
      ⊎_elim
          (λ (want : no_answer e ≡ no_answer OutOfMemory). let same : e ≡ OutOfMemory = cc in inl same)
          (λ (heard : IsTakenAnswer most s (number, b) (no_answer e)). want_of (is_late s.expected number) s.state.is_avc (with_run_if (is_expected s.expected number) t.at_work).state.run
          (s.state.format.read b.payload) e (Late (distance_behind s.expected number)) (at_place (λ (b : RtpBody). IsRead (s.state.format.read b.payload)) sent place nothing read within.0) heard)
          each.0,
      all_want most limit first sent s places answers read within.1 each.1,
    )
all_want most limit first sent s (place ∷ places) (Ok (Late n) ∷ answers) read within each = (tt, all_want most limit first sent s places answers read within.1 each.1)
all_want most limit first sent s (place ∷ places) (Ok InOrder ∷ answers) read within each =
    (tt, all_want most limit first sent (after_rtp most limit s (body_of_place sent first place) (Ok InOrder)) places answers read within.1 each.1)
all_want most limit first sent s (place ∷ places) (Ok (Gap n) ∷ answers) read within each =
    (tt, all_want most limit first sent (after_rtp most limit s (body_of_place sent first place) (Ok (Gap n))) places answers read within.1 each.1)
all_want most limit first sent s (place ∷ places) (Ok (TooLong n) ∷ answers) read within each =
    (tt, all_want most limit first sent (after_rtp most limit s (body_of_place sent first place) (Ok (TooLong n))) places answers read within.1 each.1)

-- so of what a network brings of calls
pub brought_want : (window most limit : ℕ) (w : Assembly) (packets : List (ℕ × RtpBody)) (answers : List (Result Received PacketError)) → GoesOn → Carries →
    0 < window → window ≤ 16384 → IsPayloadFormat w.state.format → HaveAssemblyAnswers most limit w (reordered window packets) answers → NoneBroughtIsRefused window w packets answers
brought_want window most limit w packets answers on_law carry some half ok each = λ s calls first known places same it.
    let sent = sent_bodies s calls in
    let read = bodies_read s calls on_law carry (subst (λ (f : Format). IsPayloadFormat f) same ok) it.streamed in
    let given = put_in_order_all window packets some half (λ place. slice_index_or sent place nothing) first places it.each it.near in
    all_want most limit first sent w (in_order places) answers (subst (λ (f : Format). AllByRecursion (λ b. IsRead (f.read b.payload)) sent) (sym same) read)
    (puts_below (length sent) places [] it.sent tt) (subst (λ (l : List (ℕ × RtpBody)). HaveAssemblyAnswers most limit w l answers) given each)
