use Rattle.std.proofs.Common.{rules, subst, ◌≡◌, ◌∷◌, [], None, Ok, Err}
use Rattle.h26x_model.specs.Receive.DepacketizerState.{DepacketizerState, depacketization, after_packets, IsPacketOutcome}
use Rattle.h26x_model.specs.Receive.RunLimit.{state_with_run}
use Rattle.h26x_receiver.proofs.sequenced.take_anew.Goals as goal

pub returns-in-Ok-clause-outcome : goal.returns-in-Ok-clause-outcome
returns-in-Ok-clause-outcome g c =
    let e : g.D.RunDepacketizer.state c.remove_run-run.new.depacketizer ≡ state_with_run (g.D.RunDepacketizer.state c.args.depacketizer.now) None = search rules in
    subst (λ (s : DepacketizerState). IsPacketOutcome (depacketization s (g.W.UnitSink.sink c.args.out.now).bytes c.args.codec_extra.now) c.args.packet.now (Ok tt))
    e c.in-Ok.ensures.outcome

pub returns-in-Ok-clause-taken : goal.returns-in-Ok-clause-taken
returns-in-Ok-clause-taken g c =
    let e : g.D.RunDepacketizer.state c.remove_run-run.new.depacketizer ≡ state_with_run (g.D.RunDepacketizer.state c.args.depacketizer.now) None = search rules in
    subst (λ (s : DepacketizerState). depacketization (g.D.RunDepacketizer.state c.take.new.self) (g.W.UnitSink.sink c.take.new.out).bytes c.take.new.codec_extra ≡ after_packets (depacketization s (g.W.UnitSink.sink c.args.out.now).bytes c.args.codec_extra.now) (c.args.packet.now ∷ []))
    e c.in-Ok.ensures.taken

pub returns-clause-outcome : goal.returns-clause-outcome
returns-clause-outcome g c =
    let e : g.D.RunDepacketizer.state c.remove_run-run.new.depacketizer ≡ state_with_run (g.D.RunDepacketizer.state c.args.depacketizer.now) None = search rules in
    subst (λ (s : DepacketizerState). IsPacketOutcome (depacketization s (g.W.UnitSink.sink c.args.out.now).bytes c.args.codec_extra.now) c.args.packet.now (Err c.in-Err.error))
    e c.in-Err.ensures.outcome
