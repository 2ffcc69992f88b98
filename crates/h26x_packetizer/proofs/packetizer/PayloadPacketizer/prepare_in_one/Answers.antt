use Rattle.std.proofs.Common.{rules, ◌≡◌, ◌≤◌, ap, ◌∙◌, ◌+◌, ◌%◌, refl, cond, true, length, ℕ, arith}
use Rattle.std.proofs.lemmas.List.{length-map}
use Rattle.h26x_model.specs.Payload.Format.{IsLimit}
use Rattle.h26x_model.specs.Send.Every.{with_own_aggregates}
use Rattle.h26x_packetizer.specs.PacketizerView.{PacketizerView, limit_of}
use Rattle.h26x_packetizer.specs.Group.{lent_units, may_share}
use Rattle.h26x_packetizer.proofs.EveryLemmas.{none_refused, limit_small, every_count}
use Rattle.h26x_packetizer.proofs.packetizer.PayloadPacketizer.prepare_in_one.Goals as goal

pub push_in_one-requires : goal.push_in_one-requires
push_in_one-requires g c =
    let h = c.args.self.now in
    let f = g.C.PayloadFormat.format c.self.inside.codec in
    let size : h.max_packet_size ≤ 65535 = search rules in
    let codec : c.self.inside.codec ≡ h.codec = ap (λ (h : PacketizerView _). h.codec) c.self.view_is in
    let is : c.limit-limit.result ≡ limit_of g.C.PayloadFormat.format h c.args.mtu = c.limit-limit.ensures in
    let go = c.go_in_one.ensures.go c.if-not-go_in_one.false in
    let goes = none_refused f c.args.packing c.limit-limit.result 0 (lent_units c.args.units.now) go.go in
    let limit : IsLimit f c.limit-limit.result = rw (is, codec) (limit_small (g.C.PayloadFormat.format h.codec) h.max_packet_size c.args.mtu size) in
    let long : length (lent_units c.args.units.now) ≡ length c.args.units.now = length-map _ _ in
    let several = go.several in
    λ lifetimes. ((refl, tt), (limit, (omega (arith, long, several), goes)))

pub returns-in-Ok-clause-after : goal.returns-in-Ok-clause-after
returns-in-Ok-clause-after g c =
    let h = c.args.self.now in
    let f = g.C.PayloadFormat.format h.codec in
    let codec = c.self.inside.codec in
    let every = with_own_aggregates (g.C.PayloadFormat.format codec) (g.C.EveryFormat.aggregate codec) in
    let units = lent_units c.args.units.now in
    let go = c.go_in_one.ensures.go c.if-not-go_in_one.false in
    let has : f.has_donl ≡ true = search rules in
    let n : c.self.inside.next_don ≡ h.next_don = ap (λ (h : PacketizerView _). h.next_don) c.self.view_is in
    let count = every_count every (may_share c.args.packing (g.C.EveryFormat.is_slice codec)) c.limit-limit.result units in
    let next : c.in-Ok.next_don ≡ (h.next_don + length units) % 65536 =
    (c.in-Ok.ensures.sent c.args.packing go).don ∙ ap (λ (k : ℕ). (c.self.inside.next_don + k) % 65536) count ∙ ap (λ (k : ℕ). (k + length units) % 65536) n in
    let don : c.in-Ok.next_don ≡ cond f.has_donl ((h.next_don + length units) % 65536) h.next_don = rw has next in
    search rules
