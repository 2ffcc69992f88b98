use Rattle.std.proofs.Common.{rules, ◌≡◌, ◌≤◌, ◌+◌, ◌-◌, length, take, drop, arith, ap, ◌∙◌, sym, refl, false, List, ℕ, []}
use Rattle.std.proofs.lemmas.List.{take_all, length-drop, length-take-le, drop-drop, nil_from_length}
use Rattle.h26x_model.specs.Send.Plan.{is_dropped}
use Rattle.h26x_model.specs.Send.Every.{AreSendable, with_own_aggregates}
use Rattle.h26x_packetizer.specs.Group.{lent_units, may_share, HaveHeaders}
use Rattle.h26x_packetizer.proofs.SendLemmas.{sends_none}
use Rattle.h26x_packetizer.proofs.EveryLemmas.{lent_take, lent_drop, all_take, all_drop, every_more}
use Rattle.h26x_packetizer.proofs.every.push_units.Goals as goal

pub push_group-requires : goal.push_group-requires
push_group-requires g c =
    let f = g.C.PayloadFormat.format c.args.codec in
    let units = c.args.units.now in
    let at = c.loop-at.at in
    let k = c.first_group-count.result in
    let l = length-drop at units in
    let same : take (length units - at) (drop at units) ≡ drop at units = take_all (length units - at) (drop at units) (omega (arith, l)) in
    let within = rw same at c.first_group-count.ensures.within in
    let some = c.first_group-count.ensures.some in
    let cut : at + k - at ≡ k = omega arith in
    let long = length-take-le k (drop at units) within in
    let inv = c.loop-at.invariant in
    let lent = lent_take k (drop at units) in
    let count : 1 ≤ length (take k (drop at units)) = omega (arith, long, some) in
    let whole : HaveHeaders f (lent_units (take k (drop at units))) = rw lent (all_take (λ (unit : List ℕ). f.header_len ≤ length unit) k (lent_units (drop at units)) inv.whole) in
    let sendable : AreSendable f c.args.limit (lent_units (take k (drop at units))) = rw lent (all_take (λ (unit : List ℕ). is_dropped f c.args.limit unit ≡ false) k (lent_units (drop at units)) inv.sendable) in
    rw cut (λ lifetimes. ((refl, tt), (count, (whole, sendable))))

pub loop-at-preserved : goal.loop-at-preserved
loop-at-preserved g c =
    let f = g.C.PayloadFormat.format c.args.codec in
    let every = with_own_aggregates f (g.C.EveryFormat.aggregate c.args.codec) in
    let share = may_share c.args.packing (g.C.EveryFormat.is_slice c.args.codec) in
    let units = c.args.units.now in
    let at = c.loop-at.at in
    let k = c.first_group-count.result in
    let l = length-drop at units in
    let same : take (length units - at) (drop at units) ≡ drop at units = take_all (length units - at) (drop at units) (omega (arith, l)) in
    let split = rw same at c.first_group-count.ensures.group in
    let within = rw same at c.first_group-count.ensures.within in
    let cut : at + k - at ≡ k = omega arith in
    let inv = c.loop-at.invariant in
    let at_most = inv.at in
    let here = c.in_ok-don.ensures.sent in
    let behind : drop (at + k) units ≡ drop k (drop at units) = sym (drop-drop k at units) in
    let lent : lent_units (drop (at + k) units) ≡ drop k (lent_units (drop at units)) = ap lent_units behind ∙ lent_drop k (drop at units) in
    record {
      at = omega (arith, within, l, at_most);
      small = let n = here.don in omega (arith, n);
      whole = rw lent (all_drop (λ (unit : List ℕ). f.header_len ≤ length unit) k (lent_units (drop at units)) inv.whole);
      sendable = rw lent (all_drop (λ (unit : List ℕ). is_dropped f c.args.limit unit ≡ false) k (lent_units (drop at units)) inv.sendable);
      sent = λ after next later. inv.sent after next (every_more every (c.donl_has_two_bytes.ensures.round every (g.met.C.EveryFormat.dons_every c.args.codec)) share c.args.limit c.loop-at.don c.in_ok-don.don next k
          (drop at units) (take (at + k - at) (drop at units)) (drop (at + k) units) _ _ after split (ap (λ (n : ℕ). take n (drop at units)) cut) behind here later);
      before = search rules;
    }

pub returns-clause-sent : goal.returns-clause-sent
returns-clause-sent g c =
    let every = with_own_aggregates (g.C.PayloadFormat.format c.args.codec) (g.C.EveryFormat.aggregate c.args.codec) in
    let units = c.args.units.now in
    let inv = c.loop-at.invariant in
    let past : length units ≤ c.loop-at.at = search rules in
    let l = length-drop c.loop-at.at units in
    let none : drop c.loop-at.at units ≡ [] = nil_from_length (drop c.loop-at.at units) (omega (arith, l, past)) in
    inv.sent _ _ (rw none (sends_none every c.loop-at.don (g.S.PacketSink.packets c.loop-at.made) inv.small))
