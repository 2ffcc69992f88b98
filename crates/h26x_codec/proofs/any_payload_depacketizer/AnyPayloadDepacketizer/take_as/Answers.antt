use Rattle.std.proofs.Common.{subst, sym, List, ℕ}
use Rattle.std.proofs.lemmas.List.{append-nil}
use Rattle.h26x_core.specs.ByteStream.{byte_stream}
use Rattle.h26x_model.specs.Payload.Format.{Format}
use Rattle.h26x_model.specs.Receive.Outcome.{IsReadingOutcome}
use Rattle.h26x_model.specs.Receive.Received.{reading_units}
use Rattle.h26x_depacketizer.specs.UnitSink.{IsRoomTold}
use Rattle.h26x_codec.specs.Codec.{codec_format}
use Rattle.h26x_codec.specs.AnyPayloadDepacketizer.{AnyPayloadView}
use Rattle.h26x_codec.proofs.any_payload_depacketizer.AnyPayloadDepacketizer.take_as.Goals as goal

-- the reader's format is that of the codec in its setting
pub returns-clause-outcome : goal.returns-clause-outcome
returns-clause-outcome g c =
    subst (λ (f : Format). IsReadingOutcome c.args.self.now.is_avc c.args.self.now.run (f.read c.args.packet.now) c.take_packet.result) c.requires
    (subst (λ (d : AnyPayloadView). IsReadingOutcome d.is_avc d.run ((g.C.PayloadFormat.format c.args.codec).read c.args.packet.now) c.take_packet.result) c.self.view_is c.take_packet.ensures.outcome)

pub returns-clause-told_room : goal.returns-clause-told_room
returns-clause-told_room g c =
    let units = reading_units c.args.self.now.run ((codec_format c.args.self.now.codec c.args.self.now.has_donl).read c.args.packet.now) in
    let room = g.W.UnitSink.room c.args.out.now in
    let before = g.W.UnitSink.lacks c.args.out.now in
    let after = g.W.UnitSink.lacks c.take_packet.new.out in
    subst (λ (l : List (List ℕ)). IsRoomTold c.take_packet.result (byte_stream c.args.self.now.is_avc l) room before after) (sym (append-nil units))
    (subst (λ (f : Format). IsRoomTold c.take_packet.result (byte_stream c.args.self.now.is_avc (reading_units c.args.self.now.run (f.read c.args.packet.now))) room before after) c.requires
    (subst (λ (d : AnyPayloadView). IsRoomTold c.take_packet.result (byte_stream d.is_avc (reading_units d.run ((g.C.PayloadFormat.format c.args.codec).read c.args.packet.now))) room before after)
    c.self.view_is c.take_packet.ensures.told_room))
