-- Payloads sent by calls like one, one after the other. The laws that this stands on come as arguments.
use Rattle.std.proofs.Common.{◌≡◌, ℕ, ◌+◌, ◌<◌, ◌≤◌, false, List, [], ◌∷◌, ◌++◌, length, take, get_or, Option, Some, sym, ap, ◌∙◌, inl, inr, refl, subst, Result, Ok, Err, ⊎_elim}
use Rattle.std.specs.Prelude.{◌⊎◌}
use Rattle.std.specs.Option.{option_map}
use Rattle.std.proofs.lemmas.List.{append-nil, map-append, take_all}
use Rattle.std.proofs.lemmas.List.Concat.{flat_map-append}
use Rattle.std.proofs.lemmas.Grind.{take_at_read}
use Rattle.h26x_core.specs.declared.extra.CodecExtra.{CodecExtra}
use Rattle.h26x_core.specs.declared.error.PacketError.{PacketError}
use Rattle.h26x_core.specs.declared.error.PacketError.TheVariants.{OutOfMemory}
use Rattle.h26x_model.specs.Payload.Format.{Format}
use Rattle.h26x_model.specs.Send.Group.{Entry}
use Rattle.h26x_model.specs.Send.Calls.{Call, AreCalls, call_entries, all_entries}
use Rattle.h26x_model.specs.Payload.Reading.{Reading, Single, Aggregate, Fragment, Paci, Refused}
use Rattle.h26x_model.specs.Receive.Outcome.{IsReadingOutcome}
use Rattle.h26x_core.specs.ByteStream.{byte_stream}
use Rattle.h26x_model.specs.Send.PacketizerState.{PacketizerState, state_packets, after_entries}
use Rattle.h26x_model.specs.Receive.DepacketizerState.{DepacketizerState, Depacketization, units_brought, after_packets, depacketization}
use Rattle.h26x_model.specs.Carry.Laws.{PacketizerGoesOn, calls_like}
use Rattle.h26x_transmission.specs.Transmissions.{IsLeftOver}
use Rattle.h26x_transmission.specs.Repeating.{IsFirstRefused}
use Rattle.h26x_transmission.proofs.TransmissionLemmas.{written_of}

-- a call with this payload
abbrev pub call_for : Call → List ℕ → Call
call_for call payload = record call { payload = payload }

-- the entries with those of a payload more
entries_with_more : (f : Format) (call : Call) (payloads : List (List ℕ)) (i : ℕ) → i < length payloads →
    all_entries f (calls_like call (take (i + 1) payloads)) ≡ all_entries f (calls_like call (take i payloads)) ++ call_entries f (call_for call (get_or payloads i []))
entries_with_more f call payloads i within =
    let payload = get_or payloads i [] in
    ap (λ (x : List (List ℕ)). all_entries f (calls_like call x)) (take_at_read payloads i [] within).1
    ∙ ap (all_entries f) (map-append (call_for call) (take i payloads) (payload ∷ []))
    ∙ flat_map-append (call_entries f) (calls_like call (take i payloads)) (call_for call payload ∷ [])
    ∙ ap (λ (x : List Entry). all_entries f (calls_like call (take i payloads)) ++ x) (append-nil (call_entries f (call_for call payload)))

-- the packets with those of a payload more
pub packets_more : (s : PacketizerState) (call : Call) (payloads : List (List ℕ)) (i : ℕ) (sent_so_far made new : List (List ℕ)) → PacketizerGoesOn s → i < length payloads →
    sent_so_far ≡ state_packets s (all_entries s.format (calls_like call (take i payloads))) → new ≡ sent_so_far ++ made →
    made ≡ state_packets (after_entries s (all_entries s.format (calls_like call (take i payloads)))) (call_entries s.format (call_for call (get_or payloads i []))) →
    new ≡ state_packets s (all_entries s.format (calls_like call (take (i + 1) payloads)))
packets_more s call payloads i sent_so_far made new goes within is more made_is =
    let es = all_entries s.format (calls_like call (take i payloads)) in
    let own = call_entries s.format (call_for call (get_or payloads i [])) in
    more ∙ ap (λ (x : List (List ℕ)). x ++ made) is ∙ ap (λ (x : List (List ℕ)). state_packets s es ++ x) made_is
    ∙ sym (goes.packets es own) ∙ ap (state_packets s) (sym (entries_with_more s.format call payloads i within))

-- the packetizer after it
pub after_more : (s : PacketizerState) (call : Call) (payloads : List (List ℕ)) (i : ℕ) → PacketizerGoesOn s → i < length payloads →
    after_entries (after_entries s (all_entries s.format (calls_like call (take i payloads)))) (call_entries s.format (call_for call (get_or payloads i [])))
    ≡ after_entries s (all_entries s.format (calls_like call (take (i + 1) payloads)))
after_more s call payloads i goes within =
    sym (goes.later (all_entries s.format (calls_like call (take i payloads))) (call_entries s.format (call_for call (get_or payloads i []))))
    ∙ ap (after_entries s) (sym (entries_with_more s.format call payloads i within))

-- after all payloads
pub packets_all : (s : PacketizerState) (call : Call) (payloads : List (List ℕ)) (i : ℕ) (all : List (List ℕ)) → length payloads ≤ i →
    all ≡ state_packets s (all_entries s.format (calls_like call (take i payloads))) → all ≡ state_packets s (all_entries s.format (calls_like call payloads))
packets_all s call payloads i all past is = is ∙ ap (λ (x : List (List ℕ)). state_packets s (all_entries s.format (calls_like call x))) (take_all i payloads past)

-- calls like one bear its largest size
pub like_small : (call : Call) (payloads : List (List ℕ)) → call.max_packet_size ≤ 65535 → AreCalls (calls_like call payloads)
like_small call [] small = tt
like_small call (payload ∷ payloads) small = (small, like_small call payloads small)

-- what is written where nothing was
pub written_is : (o : Option DepacketizerState) (r : DepacketizerState) (start new : List ℕ) (before told : CodecExtra) (taken units : List (List ℕ)) → start ≡ [] →
    option_map (λ (x : DepacketizerState). depacketization x new told) o ≡ Some (after_packets (depacketization r start before) taken) → units_brought r taken ≡ units → new ≡ byte_stream r.is_avc units
written_is o r start new before told taken units none is brings =
    (written_of o new told (depacketization r start before) taken units is brings).0 ∙ ap (λ (x : List ℕ). x ++ byte_stream r.is_avc units) none

-- a refusal of a packet that is read is want of memory
memory_alone : (e : PacketError) (o : Result (Unit {0}) PacketError) → o ≡ Err e → ((o ≡ Ok tt) ⊎ (o ≡ Err OutOfMemory)) → e ≡ OutOfMemory
memory_alone e o refused (inl is) = absurd cc
memory_alone e o refused (inr is) = let both = sym refused ∙ is in cc

-- why a packet is refused where units are written behind start codes
refused_why : (run : Option (List ℕ)) (reading : Reading) (e : PacketError) → IsReadingOutcome false run reading (Err e) → (e ≡ OutOfMemory) ⊎ (reading ≡ Refused e)
refused_why run (Refused x) e is = inr (let back = is in cc)
refused_why run (Single unit don) e is = inl (memory_alone e (Err e) refl is)
refused_why run (Aggregate units) e is = inl (memory_alone e (Err e) refl is)
refused_why run (Fragment start end head don body) e is = inl (memory_alone e (Err e) refl is)
refused_why run (Paci head fields extension body) e is = inl (memory_alone e (Err e) refl is)

-- so a delivery stops for want of memory, or at the first packet that is refused
pub first_refused : (w : Depacketization) (given all : List (List ℕ)) (e : PacketError) (new : Option Depacketization) → w.state.is_avc ≡ false → given ≡ all → IsLeftOver w given e new →
    (e ≡ OutOfMemory) ⊎ IsFirstRefused w.state.format all e
first_refused w given all e new avc same over =
    ⊎_elim (λ (memory : e ≡ OutOfMemory). inl memory)
    (λ (packet, later, left, outcome). ⊎_elim (λ (memory : e ≡ OutOfMemory). inl memory)
    (λ refused. inr (record {
      before = over.taken;
      packet = packet;
      later = later;
      whole = sym same ∙ over.front ∙ ap (λ (x : List (List ℕ)). over.taken ++ x) left;
      read = over.read;
      refused = refused;
    }))
    (refused_why (after_packets w over.taken).state.run (w.state.format.read packet) e
    (subst (λ b. IsReadingOutcome b (after_packets w over.taken).state.run (w.state.format.read packet) (Err e)) avc outcome)))
    over.cause
