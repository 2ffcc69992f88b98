use Rattle.std.proofs.Common.{rules, ◌≡◌, ◌≤◌, ap, ◌∙◌, ◌+◌, ◌%◌, refl, cond, true, length, ℕ, None}
use Rattle.h26x_model.specs.Payload.Format.{IsLimit}
use Rattle.h26x_packetizer.specs.PacketizerView.{PacketizerView, limit_of}
use Rattle.h26x_packetizer.specs.Refusal.{units_refusal}
use Rattle.h26x_model.specs.Send.Every.{with_own_aggregates}
use Rattle.h26x_packetizer.specs.Group.{lent_units, may_share}
use Rattle.h26x_model.proofs.EveryWithinLemmas.{every_within}
use Rattle.h26x_packetizer.proofs.EveryLemmas.{none_refused, limit_small, every_count}
use Rattle.h26x_packetizer.proofs.packetizer.PayloadPacketizer.prepare_units.Goals as goal

pub push_units-requires : goal.push_units-requires
push_units-requires g c =
    let h = c.args.self.now in
    let f = g.C.PayloadFormat.format c.self.inside.codec in
    let size : h.max_packet_size ≤ 65535 = search rules in
    let codec : c.self.inside.codec ≡ h.codec = ap (λ (h : PacketizerView _). h.codec) c.self.view_is in
    let is : c.limit-limit.result ≡ limit_of g.C.PayloadFormat.format h c.args.mtu = c.limit-limit.ensures in
    let none : units_refusal f c.args.packing c.limit-limit.result 0 (lent_units c.args.units.now) ≡ None = search rules in
    let goes = none_refused f c.args.packing c.limit-limit.result 0 (lent_units c.args.units.now) none in
    let limit : IsLimit f c.limit-limit.result = rw (is, codec) (limit_small (g.C.PayloadFormat.format h.codec) h.max_packet_size c.args.mtu size) in
    λ lifetimes. ((refl, tt), (limit, goes))

pub returns-then-has_donl-clause-within : goal.returns-then-has_donl-clause-within
returns-then-has_donl-clause-within g c =
    let h = c.args.self.now in
    let f = g.C.PayloadFormat.format h.codec in
    let limit = limit_of g.C.PayloadFormat.format h c.args.mtu in
    let units = lent_units c.args.units.now in
    let none : units_refusal f c.args.packing limit 0 units ≡ None = search rules in
    let goes = none_refused f c.args.packing limit 0 units none in
    every_within (with_own_aggregates f (g.C.EveryFormat.aggregate h.codec)) (g.met.C.EveryFormat.fits_every h.codec)
    (may_share c.args.packing (g.C.EveryFormat.is_slice h.codec)) limit h.next_don units goes.1

pub returns-else-has_donl-clause-within : goal.returns-else-has_donl-clause-within
returns-else-has_donl-clause-within g c =
    let h = c.args.self.now in
    let f = g.C.PayloadFormat.format h.codec in
    let limit = limit_of g.C.PayloadFormat.format h c.args.mtu in
    let units = lent_units c.args.units.now in
    let none : units_refusal f c.args.packing limit 0 units ≡ None = search rules in
    let goes = none_refused f c.args.packing limit 0 units none in
    every_within (with_own_aggregates f (g.C.EveryFormat.aggregate h.codec)) (g.met.C.EveryFormat.fits_every h.codec)
    (may_share c.args.packing (g.C.EveryFormat.is_slice h.codec)) limit h.next_don units goes.1

pub returns-then-has_donl-clause-after : goal.returns-then-has_donl-clause-after
returns-then-has_donl-clause-after g c =
    let h = c.args.self.now in
    let f = g.C.PayloadFormat.format h.codec in
    let codec = c.self.inside.codec in
    let every = with_own_aggregates (g.C.PayloadFormat.format codec) (g.C.EveryFormat.aggregate codec) in
    let units = lent_units c.args.units.now in
    let has : f.has_donl ≡ true = search rules in
    let n : c.self.inside.next_don ≡ h.next_don = ap (λ (h : PacketizerView _). h.next_don) c.self.view_is in
    let count = every_count every (may_share c.args.packing (g.C.EveryFormat.is_slice codec)) c.limit-limit.result units in
    let next : c.in-Ok.next_don ≡ (h.next_don + length units) % 65536 =
    c.in-Ok.ensures.sent.don ∙ ap (λ (k : ℕ). (c.self.inside.next_don + k) % 65536) count ∙ ap (λ (k : ℕ). (k + length units) % 65536) n in
    let don : c.in-Ok.next_don ≡ cond f.has_donl ((h.next_don + length units) % 65536) h.next_don = rw has next in
    search rules
