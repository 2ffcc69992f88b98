use Rattle.std.proofs.Common.{◌∙◌, ap, sym, subst, map, inl, inr}
use Rattle.std.specs.Option.{option_map}
use Rattle.h26x_reorder.specs.ReorderBuffer.{numbered_packet}
use Rattle.h26x_assembler.specs.AccessUnit.{access_unit_value, open_assembly}
use Rattle.h26x_access_units.specs.Reception.{Reception, reception, unit_given, without_given, without_bare, ended_if_anew, IsDrained}
use Rattle.h26x_access_units.specs.Limits.{IsWithinLimits}
use Rattle.h26x_access_units.proofs.LimitLemmas.{left_within, next_within}
use Rattle.h26x_access_units.proofs.receiver.AccessUnitReceiver.next_left.Goals as goal

pub returns-clause-next : goal.returns-clause-next
returns-clause-next g c =
    let new = c.drain.new.self in
    let drained = reception new.waiting (option_map numbered_packet new.stray) new.is_anew new.passed (open_assembly (g.D.RunDepacketizer.state new.assembler.packets.depacketizer) new.assembler.packets.expected new.assembler.unit (map access_unit_value new.ended.items)) new.framing new.numbers new.decoder new.counts new.assembler.packets.run_limit new.assembler.unit_limit in
    record {
      drained = drained;
      taken = subst (λ (s : Reception). IsDrained c.args.now s drained) (c.in_ok-end_if_anew.ensures.ended ∙ ap ended_if_anew c.drop_bare.ensures.after) c.drain.ensures.drained;
      until = c.in_ok-drain.ensures.until;
      unit_is = c.give.ensures.unit ∙ ap unit_given (c.drop_bare-2.ensures.after ∙ ap without_bare c.in_ok-end_if_over.ensures.ended);
      stands = c.give.ensures.after ∙ ap without_given (c.drop_bare-2.ensures.after ∙ ap without_bare c.in_ok-end_if_over.ensures.ended);
    }

pub returns-clause-bounded : goal.returns-clause-bounded
returns-clause-bounded g c =
    let old = c.args.self.now in
    let s = reception old.waiting (option_map numbered_packet old.stray) old.is_anew old.passed (open_assembly (g.D.RunDepacketizer.state old.assembler.packets.depacketizer) old.assembler.packets.expected old.assembler.unit (map access_unit_value old.ended.items)) old.framing old.numbers old.decoder old.counts old.assembler.packets.run_limit old.assembler.unit_limit in
    λ most small at. next_within most c.args.now s _ _ (returns-clause-next g c) at

pub returns-in_err-drain-clause-bounded : goal.returns-in_err-drain-clause-bounded
returns-in_err-drain-clause-bounded g c =
    let old = c.args.self.now in
    let new = c.drain.new.self in
    let s = reception old.waiting (option_map numbered_packet old.stray) old.is_anew old.passed (open_assembly (g.D.RunDepacketizer.state old.assembler.packets.depacketizer) old.assembler.packets.expected old.assembler.unit (map access_unit_value old.ended.items)) old.framing old.numbers old.decoder old.counts old.assembler.packets.run_limit old.assembler.unit_limit in
    let drained = reception new.waiting (option_map numbered_packet new.stray) new.is_anew new.passed (open_assembly (g.D.RunDepacketizer.state new.assembler.packets.depacketizer) new.assembler.packets.expected new.assembler.unit (map access_unit_value new.ended.items)) new.framing new.numbers new.decoder new.counts new.assembler.packets.run_limit new.assembler.unit_limit in
    let taken = subst (λ (t : Reception). IsDrained c.args.now t drained) (c.in_ok-end_if_anew.ensures.ended ∙ ap ended_if_anew c.drop_bare.ensures.after) c.drain.ensures.drained in
    left_within 0 c.args.now s drained (inr taken)

pub returns-in_err-end_if_over-clause-bounded : goal.returns-in_err-end_if_over-clause-bounded
returns-in_err-end_if_over-clause-bounded g c =
    let old = c.args.self.now in
    let new = c.drain.new.self in
    let s = reception old.waiting (option_map numbered_packet old.stray) old.is_anew old.passed (open_assembly (g.D.RunDepacketizer.state old.assembler.packets.depacketizer) old.assembler.packets.expected old.assembler.unit (map access_unit_value old.ended.items)) old.framing old.numbers old.decoder old.counts old.assembler.packets.run_limit old.assembler.unit_limit in
    let drained = reception new.waiting (option_map numbered_packet new.stray) new.is_anew new.passed (open_assembly (g.D.RunDepacketizer.state new.assembler.packets.depacketizer) new.assembler.packets.expected new.assembler.unit (map access_unit_value new.ended.items)) new.framing new.numbers new.decoder new.counts new.assembler.packets.run_limit new.assembler.unit_limit in
    let taken = subst (λ (t : Reception). IsDrained c.args.now t drained) (c.in_ok-end_if_anew.ensures.ended ∙ ap ended_if_anew c.drop_bare.ensures.after) c.drain.ensures.drained in
    λ most small at. subst (IsWithinLimits most) (sym c.in_err-end_if_over.ensures.kept) (left_within 0 c.args.now s drained (inr taken) most small at)

pub returns-in_err-end_if_anew-clause-bounded : goal.returns-in_err-end_if_anew-clause-bounded
returns-in_err-end_if_anew-clause-bounded g c =
    let old = c.args.self.now in
    let s = reception old.waiting (option_map numbered_packet old.stray) old.is_anew old.passed (open_assembly (g.D.RunDepacketizer.state old.assembler.packets.depacketizer) old.assembler.packets.expected old.assembler.unit (map access_unit_value old.ended.items)) old.framing old.numbers old.decoder old.counts old.assembler.packets.run_limit old.assembler.unit_limit in
    left_within 0 c.args.now s _ (inl (c.in_err-end_if_anew.ensures.kept ∙ c.drop_bare.ensures.after))
