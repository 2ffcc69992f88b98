use Rattle.std.proofs.Common.{◌≡◌, ◌∙◌, ap, sym, subst, map, length, Bool, false, cond, ℕ, List, [], ◌∷◌, Option, None, Some, ◌++◌}
use Rattle.std.specs.Prelude.{◌==◌, ◌&&◌}
use Rattle.h26x_core.specs.declared.extra.CodecExtra.{CodecExtra}
use Rattle.h26x_core.specs.declared.extra.CodecExtra.TheVariants as extras
use Rattle.h26x_model.specs.Receive.RunLimit.{state_with_run}
use Rattle.h26x_receiver.specs.Sequenced.{SequencedDepacketization, sequenced_depacketization, sequenced_in_text, after_taken_packet, IsSequencedAnswer}
use Rattle.h26x_reorder.specs.Rtp.{RtpBody, rtp_body}
use Rattle.h26x_assembler.specs.AccessUnit.{AccessUnitValue, access_unit_value, open_unit_value, empty_unit, whole_if, given_out, open_assembly, is_run_too_long, is_following, is_run_closed, is_unit_at, after_taken_rtp}
use Rattle.h26x_assembler.proofs.TakeLemmas.{begins_taken, taken_work, filled, with_unit, same_open, same_unit}
use Rattle.h26x_assembler.proofs.assembler.begin.Goals as goal

pub returns-clause-after : goal.returns-clause-after
returns-clause-after g c = λ taken.
    let inside = c.packet.inside in
    let p : ℕ × RtpBody = (inside.sequence, rtp_body inside.timestamp inside.marker inside.payload.now) in
    let view : c.args.packet.now ≡ p = sym c.packet.view_is in
    let old = c.args.packets.now in
    let heard = c.receive_in_text-received in
    let new = heard.new.self in
    let state = g.D.RunDepacketizer.state in
    let most = old.run_limit in
    let place = c.args.place.now in
    let ended = map access_unit_value c.args.out.now.items in
    let before = c.new-unit.result in
    let empty : open_unit_value before ≡ empty_unit inside.timestamp = c.new-unit.ensures.unit in
    let text = heard.new.text in
    let extra = heard.new.codec_extra in
    let r = heard.result in
    let none = state_with_run (state old.depacketizer) None in
    let s = sequenced_depacketization none old.expected [] extras.None in
    let no_bytes : before.text.text ≡ [] = ap (λ (v : AccessUnitValue). v.bytes) empty in
    let no_extra : before.extra ≡ extras.None = ap (λ (v : AccessUnitValue). v.extra) empty in
    let start : sequenced_in_text (state old.depacketizer) old.expected before.text before.extra ≡ s =
    ap (λ (run : Option (List ℕ)). sequenced_depacketization (state_with_run (state old.depacketizer) run) old.expected before.text.text before.extra) c.new-unit.ensures.run
    ∙ ap (λ (b : List ℕ). sequenced_depacketization none old.expected b before.extra) no_bytes
    ∙ ap (λ (e : CodecExtra). sequenced_depacketization none old.expected [] e) no_extra in
    let answer : IsSequencedAnswer most s p.0 p.1.payload r = subst (λ (w : SequencedDepacketization). IsSequencedAnswer most w p.0 p.1.payload r) start heard.ensures.answer in
    let work = sequenced_in_text (state new.depacketizer) new.expected text extra in
    let after : work ≡ after_taken_packet most s p.0 p.1.payload =
    heard.ensures.after
    ∙ taken_work most (sequenced_in_text (state old.depacketizer) old.expected before.text before.extra) p.0 p.1.payload r taken
    ∙ ap (λ (w : SequencedDepacketization). after_taken_packet most w p.0 p.1.payload) start in
    let other : is_unit_at place.unit p.1.timestamp ≡ false = subst (λ (q : ℕ × RtpBody). is_unit_at place.unit q.1.timestamp ≡ false) view c.requires.other in
    let unit : AccessUnitValue = record { timestamp = before.timestamp; bytes = text.text; extra = extra; is_whole = before.is_whole } in
    let value : unit ≡ filled (empty_unit p.1.timestamp) work =
    same_unit unit p.1.timestamp (ap (λ (v : AccessUnitValue). v.timestamp) empty) (ap (λ (v : AccessUnitValue). v.is_whole) empty) in
    let follows : c.follows-follows.result ≡ is_following place.is_gap place.closed old.expected p.1.timestamp p.0 = subst (λ (q : ℕ × RtpBody). c.follows-follows.result ≡ is_following place.is_gap place.closed old.expected q.1.timestamp q.0) view c.follows-follows.ensures in
    let sound = c.is_sound-is_sound.result in
    let one = whole_if sound unit in
    let last = whole_if (is_run_closed text.run) one in
    let given : Bool → List AccessUnitValue = λ b. ended ++ given_out (b && is_run_closed place.run) place.unit in
    let told = c.follows-follows.result in
    let stamp : before.timestamp ≡ p.1.timestamp = ap (λ (v : AccessUnitValue). v.timestamp) empty in
    let drops : ℕ → Bool = λ n. (n == length text.text) && is_run_closed text.run in
    let none_before : c.len-len.result ≡ 0 = c.len-len.ensures ∙ ap (λ (b : List ℕ). length b) no_bytes in
    let dropped : c.is_dropped-is_dropped.result ≡ drops 0 = c.is_dropped-is_dropped.ensures ∙ ap drops none_before in
    same_open (state new.depacketizer) new.expected c.put.new.self false (cond inside.marker (Some p.1.timestamp) None) text.run (cond inside.marker None (Some one)) _ (given told ++ cond inside.marker (last ∷ []) [])
    c.put.ensures.gap (c.put.ensures.closed ∙ ap (λ (t : ℕ). cond inside.marker (Some t) None) stamp) c.put.ensures.run c.put.ensures.unit
    (c.put.ensures.out ∙ ap (λ (l : List AccessUnitValue). l ++ cond inside.marker (last ∷ []) []) c.finish.ensures.out)
    ∙ ap (λ (v : AccessUnitValue). with_unit work (given told) p.1.timestamp inside.marker (whole_if sound v)) value
    ∙ ap (λ (b : Bool). with_unit work (given b) p.1.timestamp inside.marker (whole_if sound (filled (empty_unit p.1.timestamp) work))) follows
    ∙ begins_taken most place.is_gap place.closed (state_with_run (state old.depacketizer) place.run) old.expected place.unit ended p r sound work
    other taken answer after (c.is_sound-is_sound.ensures ∙ ap (λ (d : Bool). cond (is_run_too_long r) false (cond d false told)) dropped
    ∙ ap (λ (b : Bool). cond (is_run_too_long r) false (cond (drops 0) false b)) follows)
    ∙ ap (λ (q : ℕ × RtpBody). after_taken_rtp most (open_assembly (state old.depacketizer) old.expected place ended) q) (sym view)
