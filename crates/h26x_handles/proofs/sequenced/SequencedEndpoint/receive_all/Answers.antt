use Rattle.std.proofs.Common.{rules, refl, ◌≡◌, ◌∙◌, ◌+◌, ◌-◌, ◌≤◌, ℕ, List, false, ◌<◌, map, ap, sym, subst, get_or, length, drop, slice_set}
use Rattle.std.proofs.lemmas.List.{length-drop}
use borrow.Rule.Slice.PartMut.{put_mid}
use Rattle.h26x_codes.specs.Codes.{no_room, out_of_memory}
use Rattle.h26x_handles.specs.Payloads.{numbered_in}
use Rattle.h26x_handles.specs.ReceiveAll.{IsReceivedInto}
use Rattle.h26x_handles.specs.ReceiveAll.{AreToldReceived}
use Rattle.h26x_handles.specs.declared.payloads.RtpPayload.{RtpPayload}
use Rattle.h26x_handles.specs.declared.receive_all.ReceivedTold.{ReceivedTold}
use Rattle.h26x_handles.proofs.PayloadLemmas.{made_at, made_within, made_past}
use Rattle.h26x_handles.proofs.ReceiveAllLemmas.{AreReceivedSoFar, all_behind, put_behind, none_received, received_more, received_to_last, received_in_part, received_to_end}
use Rattle.h26x_handles.proofs.sequenced.SequencedEndpoint.receive_all.Goals as goal

pub loop-it-init : goal.loop-it-init
loop-it-init c = record { place = refl; received = none_received _ _ _ _ }

pub loop-it-preserved : goal.loop-it-preserved
loop-it-preserved c =
    let inv = c.loop-it.invariant in
    let bytes = c.args.bytes.now in
    let payloads = c.args.payloads.now in
    let to = c.loop-it.to in
    let written = c.loop-it.written in
    let within = inv.received.within in
    let no_payload : RtpPayload = record { begin = 0; end = 0; timestamp = 0; sequence = 0; marker = false } in
    let item = get_or payloads c.loop-it.it-index no_payload in
    let p : ℕ × List ℕ = (item.sequence, c.payload_in-payload.result.now) in
    let below = made_within (numbered_in bytes) payloads _ _ inv.place c.loop-it-test.true in
    let at = made_at (numbered_in bytes) payloads _ _ _ p inv.place c.loop-it-test.true (ap (λ (l : List ℕ). (item.sequence, l)) c.payload_in-payload.ensures) in
    let received = subst (λ (l : List ℕ). IsReceivedInto p c.loop-it.self l c.receive_told-one.new.self c.receive_told-one.new.to c.receive_told-one.result) (all_behind to written within)
    c.receive_told-one.ensures in
    let long : length c.receive_told-one.new.to ≡ length (drop written to) = c.receive_told-one.auto.to ∙ ap length (all_behind to written within) in
    let fits : c.receive_told-one.result.written ≤ length (drop written to) = rw length-drop c.if-one-room.false in
    let put : c.put_at.new.to ≡ slice_set c.loop-it.told c.loop-it.taken c.receive_told-one.result = c.put_at.ensures in
    record {
      place = ap (λ n. n + 1) inv.place;
      received = subst (λ (l : List ReceivedTold). AreReceivedSoFar (map (numbered_in bytes) payloads) c.args.self.now c.receive_told-one.new.self c.args.to.now
          (put_mid written (length to - written) to c.receive_told-one.new.to) c.args.told.now l (c.loop-it.taken + 1) (written + c.receive_told-one.result.written)) (sym put)
          (subst (λ (l : List ℕ). AreReceivedSoFar (map (numbered_in bytes) payloads) c.args.self.now c.receive_told-one.new.self c.args.to.now l c.args.told.now
          (slice_set c.loop-it.told c.loop-it.taken c.receive_told-one.result) (c.loop-it.taken + 1) (written + c.receive_told-one.result.written)) (sym (put_behind to c.receive_told-one.new.to written within))
          (received_more _ _ _ _ _ _ _ _ _ _ _ p _ below at inv.received received c.if-one-eq-OUT_OF_MEMORY.false fits long));
    }

pub returns-then-one-eq-OUT_OF_MEMORY : goal.returns-then-one-eq-OUT_OF_MEMORY
returns-then-one-eq-OUT_OF_MEMORY c =
    let inv = c.loop-it.invariant in
    let bytes = c.args.bytes.now in
    let payloads = c.args.payloads.now in
    let to = c.loop-it.to in
    let written = c.loop-it.written in
    let within = inv.received.within in
    let no_payload : RtpPayload = record { begin = 0; end = 0; timestamp = 0; sequence = 0; marker = false } in
    let item = get_or payloads c.loop-it.it-index no_payload in
    let p : ℕ × List ℕ = (item.sequence, c.payload_in-payload.result.now) in
    let below = made_within (numbered_in bytes) payloads _ _ inv.place c.loop-it-test.true in
    let at = made_at (numbered_in bytes) payloads _ _ _ p inv.place c.loop-it-test.true (ap (λ (l : List ℕ). (item.sequence, l)) c.payload_in-payload.ensures) in
    let received = subst (λ (l : List ℕ). IsReceivedInto p c.loop-it.self l c.receive_told-one.new.self c.receive_told-one.new.to c.receive_told-one.result) (all_behind to written within)
    c.receive_told-one.ensures in
    subst (λ (l : List ℕ). AreToldReceived (map (numbered_in bytes) payloads) c.args.self.now c.args.to.now c.args.told.now c.receive_told-one.new.self l c.loop-it.told
    (record { code = out_of_memory; taken = c.loop-it.taken; written = written })) (sym (put_behind to c.receive_told-one.new.to written within))
    (received_in_part _ _ _ _ _ _ _ _ _ _ _ p _ below at inv.received received c.if-one-eq-OUT_OF_MEMORY.true)

pub returns-then-one-room : goal.returns-then-one-room
returns-then-one-room c =
    let inv = c.loop-it.invariant in
    let bytes = c.args.bytes.now in
    let payloads = c.args.payloads.now in
    let to = c.loop-it.to in
    let written = c.loop-it.written in
    let within = inv.received.within in
    let no_payload : RtpPayload = record { begin = 0; end = 0; timestamp = 0; sequence = 0; marker = false } in
    let item = get_or payloads c.loop-it.it-index no_payload in
    let p : ℕ × List ℕ = (item.sequence, c.payload_in-payload.result.now) in
    let below = made_within (numbered_in bytes) payloads _ _ inv.place c.loop-it-test.true in
    let at = made_at (numbered_in bytes) payloads _ _ _ p inv.place c.loop-it-test.true (ap (λ (l : List ℕ). (item.sequence, l)) c.payload_in-payload.ensures) in
    let received = subst (λ (l : List ℕ). IsReceivedInto p c.loop-it.self l c.receive_told-one.new.self c.receive_told-one.new.to c.receive_told-one.result) (all_behind to written within)
    c.receive_told-one.ensures in
    let lacks : length (drop written to) < c.receive_told-one.result.written = rw length-drop c.if-one-room.true in
    let put : c.put_at.new.to ≡ slice_set c.loop-it.told c.loop-it.taken c.receive_told-one.result = c.put_at.ensures in
    subst (λ (l : List ReceivedTold). AreToldReceived (map (numbered_in bytes) payloads) c.args.self.now c.args.to.now c.args.told.now c.receive_told-one.new.self
    (put_mid written (length to - written) to c.receive_told-one.new.to) l (record { code = no_room; taken = c.loop-it.taken + 1; written = written })) (sym put)
    (subst (λ (l : List ℕ). AreToldReceived (map (numbered_in bytes) payloads) c.args.self.now c.args.to.now c.args.told.now c.receive_told-one.new.self l
    (slice_set c.loop-it.told c.loop-it.taken c.receive_told-one.result) (record { code = no_room; taken = c.loop-it.taken + 1; written = written })) (sym (put_behind to c.receive_told-one.new.to written within))
    (received_to_last _ _ _ _ _ _ _ _ _ _ _ p _ below at inv.received received c.if-one-eq-OUT_OF_MEMORY.false lacks))

pub returns : goal.returns
returns c =
    let inv = c.loop-it.invariant in
    received_to_end _ _ _ _ _ _ _ _ _ (made_past (numbered_in c.args.bytes.now) c.args.payloads.now _ _ inv.place c.loop-it-test.false) inv.received
