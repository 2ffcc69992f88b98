use Rattle.std.proofs.Common.{rules, ◌≡◌, ◌∙◌, ap, sym, Bool, false, cond, ℕ, [], Some, None, Option}
use Rattle.std.specs.Prelude.{◌&&◌, is_some}
use Rattle.h26x_model.specs.Receive.RunLimit.{state_with_run}
use Rattle.h26x_receiver.specs.Sequenced.{sequenced_in_text}
use Rattle.h26x_reorder.specs.Rtp.{RtpBody, rtp_body}
use Rattle.h26x_assembler.specs.AccessUnit.{open_unit_value, is_run_too_long, is_following, after_taken_rtp}
use Rattle.h26x_assembler.proofs.TakeLemmas.{goes_on_taken, taken_work, at_gap, broken_by, broken_told, some_len}
use Rattle.h26x_assembler.proofs.access_unit.AccessUnitSoFar.take.Goals.{then-self, else-self}
use Rattle.h26x_assembler.proofs.access_unit.AccessUnitSoFar.take.Goals as goal

pub returns-after-self-clause-after : goal.returns-after-self-clause-after
returns-after-self-clause-after g c = λ taken.
    let inside = c.packet.inside in
    let p : ℕ × RtpBody = (inside.sequence, rtp_body inside.timestamp inside.marker inside.payload.now) in
    let view : c.args.packet.now ≡ p = sym c.packet.view_is in
    let it = c.args.self.now in
    let old = c.args.packets.now in
    let heard = c.receive_in_text-received in
    let new = heard.new.self in
    let state = g.D.RunDepacketizer.state in
    let most = old.run_limit in
    let text = heard.new.text in
    let r = heard.result in
    let gap = c.args.is_gap in
    let closed = c.args.closed in
    let number = inside.sequence in
    let payload = inside.payload.now in
    let sound = c.is_sound-is_sound.result in
    let whole : c.if-self.self ≡ (it.is_whole && sound) = elim c.if-self.branch [
      | then-self w ↦ search rules
      | else-self w ↦ search rules
    ] in
    let stamp : it.timestamp ≡ inside.timestamp = c.requires ∙ ap (λ (q : ℕ × RtpBody). q.1.timestamp) view in
    let s = sequenced_in_text (state old.depacketizer) old.expected it.text it.extra in
    let work = sequenced_in_text (state new.depacketizer) new.expected text heard.new.codec_extra in
    let before = at_gap gap closed (state_with_run (state old.depacketizer) it.text.run) old.expected (Some (open_unit_value it)) [] in
    let told : c.is_following-follows.result ≡ is_following gap closed old.expected it.timestamp number =
    c.is_following-follows.ensures ∙ ap (λ (q : ℕ × RtpBody). is_following gap closed old.expected q.1.timestamp q.0) view ∙ ap (λ (t : ℕ). is_following gap closed old.expected t number) (sym stamp) in
    let after = heard.ensures.after ∙ taken_work most s number payload r taken in
    let had : c.is_some-had_run.result ≡ is_some it.text.run = c.is_some-had_run.ensures ∙ ap (λ (n : Option ℕ). is_some n) c.met_run_len.ensures ∙ some_len it.text.run in
    let broken : c.is_broken-is_broken.result ≡ broken_by s payload work =
    c.is_broken-is_broken.ensures ∙ broken_told most s number payload work c.is_some-had_run.result c.len-len.result after had c.len-len.ensures in
    let sound_is : sound ≡ cond (is_run_too_long r) false (cond (broken_by s payload work) false (is_following gap closed old.expected it.timestamp number)) =
    c.is_sound-is_sound.ensures ∙ ap (λ (d : Bool). cond (is_run_too_long r) false (cond d false c.is_following-follows.result)) broken
    ∙ ap (λ (b : Bool). cond (is_run_too_long r) false (cond (broken_by s payload work) false b)) told in
    ap (λ (b : Bool). at_gap false None (state_with_run (state new.depacketizer) text.run) new.expected
    (Some (record { timestamp = it.timestamp; bytes = text.text; extra = heard.new.codec_extra; is_whole = b })) []) whole
    ∙ goes_on_taken most gap closed (state_with_run (state old.depacketizer) it.text.run) old.expected (open_unit_value it) number payload r sound work taken heard.ensures.answer
    after sound_is
    ∙ ap (λ (t : ℕ). after_taken_rtp most before (number, rtp_body t false payload)) stamp
    ∙ ap (λ (q : ℕ × RtpBody). after_taken_rtp most before (q.0, rtp_body q.1.timestamp false q.1.payload)) (sym view)
