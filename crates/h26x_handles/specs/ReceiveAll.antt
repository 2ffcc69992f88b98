-- Packets with their sequence numbers for a receiver, many in one call (ours).
use Rattle.std.specs.Prelude.{◌≡◌, ◌≢◌, ◌≤◌, ◌<◌, ℕ, ◌+◌, true, false, ◌++◌, List, [], ◌∷◌, length, take, drop, Result}
use Rattle.h26x_core.specs.declared.error.PacketError.{PacketError}
use Rattle.h26x_core.specs.declared.extra.CodecExtra.{CodecExtra}
use Rattle.h26x_core.specs.declared.extra.CodecExtra.TheVariants as extras
use Rattle.h26x_receiver.specs.declared.received.Received.{Received}
use Rattle.h26x_receiver.specs.Sequenced.{IsSequencedAnswer, is_taken}
use Rattle.h26x_codec.specs.AnyDepacketizer.{any_depacketizer_state}
use Rattle.h26x_codes.specs.Codes.{ok, no_room, out_of_memory, extra_number, SaysAnswer}
use Rattle.h26x_codes.specs.Copies.{with_first, AreHandedOver}
use Rattle.h26x_handles.specs.Endpoint.{SequencedEndpoint}
use Rattle.h26x_handles.specs.States.{receiver_at_work, after_receiver_packet, receiver_run_len, IsShowing}
use Rattle.h26x_handles.specs.declared.receive_all.ReceivedTold.{ReceivedTold}
use Rattle.h26x_handles.specs.declared.receive_all.TakenTo.{TakenTo}

-- A packet with its sequence number was received, with this answer: what it completed, of so many
-- bytes, stands at the front of a buffer, or is kept where there is no room for it; one that is late or
-- refused changes nothing.
pub record IsPacketReceived (p : ℕ × List ℕ) (it : SequencedEndpoint) (extra : CodecExtra) (to : List ℕ)
    (new : SequencedEndpoint) (new_extra : CodecExtra) (new_to : List ℕ)
    (answer : Result Received PacketError) (written : ℕ) : Type 0 where
  pub answered : IsSequencedAnswer it.run_limit (receiver_at_work it extra) p.0 p.1 answer
  pub run : is_taken answer ≡ true → any_depacketizer_state new.depacketizer
      ≡ (after_receiver_packet it extra p.0 p.1).at_work.state
  pub next : is_taken answer ≡ true → new.expected ≡ (after_receiver_packet it extra p.0 p.1).expected
  pub said : is_taken answer ≡ true → new_extra
      ≡ (after_receiver_packet it extra p.0 p.1).at_work.extra
  pub shows : is_taken answer ≡ true → IsShowing p.1 it.depacketizer new.depacketizer
  pub given : is_taken answer ≡ true → AreHandedOver
      (after_receiver_packet it extra p.0 p.1).at_work.out to new_to written new.written
  pub limit : new.run_limit ≡ it.run_limit
  pub bounded : receiver_run_len it ≤ it.run_limit → receiver_run_len new ≤ it.run_limit
  pub kept : is_taken answer ≡ false → (new ≡ it) × (new_extra ≡ extra) × (new_to ≡ to)
      × (written ≡ 0)

-- so it was, where nothing was told before, and these numbers tell it
pub record IsReceivedInto (p : ℕ × List ℕ) (it : SequencedEndpoint) (to : List ℕ)
    (new : SequencedEndpoint) (new_to : List ℕ) (told : ReceivedTold) : Type 0 where
  pub answer : Result Received PacketError
  pub extra : CodecExtra
  pub received : IsPacketReceived p it extras.None to new extra new_to answer told.written
  pub says : SaysAnswer told.code told.why.first told.why.second told.received told.count answer
  pub tells : told.extra ≡ extra_number extra

-- Packets were received, one call after the other, each with the room behind what those before it
-- wrote, up to the first for which memory lacks, or that completes what has no room there: what is told
-- of each, what stands then, the code of the last call, how many packets are not to be given again, and
-- how many bytes they wrote.
pub data AreReceivedInTurn : List (ℕ × List ℕ) → SequencedEndpoint → List ℕ → List ReceivedTold →
    SequencedEndpoint → List ℕ → ℕ → ℕ → ℕ → Type 0 where
  all_received : {it : SequencedEndpoint} {to : List ℕ} → AreReceivedInTurn [] it to [] it to ok 0 0
  lacks_memory : {p : ℕ × List ℕ} {packets : List (ℕ × List ℕ)} {it new : SequencedEndpoint}
      {to new_to : List ℕ} {told : ReceivedTold} →
      IsReceivedInto p it to new new_to told → told.code ≡ out_of_memory →
      AreReceivedInTurn (p ∷ packets) it to [] new new_to out_of_memory 0 0
  lacks_room : {p : ℕ × List ℕ} {packets : List (ℕ × List ℕ)} {it new : SequencedEndpoint}
      {to new_to : List ℕ} {told : ReceivedTold} →
      IsReceivedInto p it to new new_to told → told.code ≢ out_of_memory →
      length to < told.written →
      AreReceivedInTurn (p ∷ packets) it to (told ∷ []) new new_to no_room 1 0
  received_and : {p : ℕ × List ℕ} {packets : List (ℕ × List ℕ)}
      {it next new : SequencedEndpoint} {to next_to rest : List ℕ} {told : ReceivedTold}
      {others : List ReceivedTold} {code taken written : ℕ} →
      IsReceivedInto p it to next next_to told → told.code ≢ out_of_memory →
      told.written ≤ length to →
      AreReceivedInTurn packets next (drop told.written next_to) others new rest code taken written →
      AreReceivedInTurn (p ∷ packets) it to (told ∷ others) new (take told.written next_to ++ rest)
      code (1 + taken) (told.written + written)

-- so they were, and a buffer tells of the first ones, as many as it has room for
pub record AreToldReceived (packets : List (ℕ × List ℕ)) (it : SequencedEndpoint) (to : List ℕ)
    (told : List ReceivedTold) (new : SequencedEndpoint) (new_to : List ℕ)
    (new_told : List ReceivedTold) (end : TakenTo) : Type 0 where
  pub all_told : List ReceivedTold
  pub received : AreReceivedInTurn packets it to all_told new new_to end.code end.taken end.written
  pub tells : new_told ≡ with_first all_told told
