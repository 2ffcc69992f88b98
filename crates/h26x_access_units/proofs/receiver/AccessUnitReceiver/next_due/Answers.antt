use Rattle.std.proofs.Common.{rules, ◌≡◌, ◌∙◌, ap, sym, subst, map, inr, true}
use Rattle.std.specs.Option.{option_map}
use Rattle.h26x_reorder.specs.ReorderBuffer.{numbered_packet}
use Rattle.h26x_assembler.specs.AccessUnit.{access_unit_value, open_assembly}
use Rattle.h26x_access_units.specs.Reception.{Reception, reception, has_unit, unit_given, without_given, without_bare, IsDrained, IsDrainedInPart}
use Rattle.h26x_access_units.proofs.ReceptionLemmas.{drained_next, drained_on, nothing_ended, nothing_first, none_more, step_in_part, stepped}
use Rattle.h26x_access_units.proofs.LimitLemmas.{left_within, next_within}
use Rattle.h26x_access_units.proofs.receiver.AccessUnitReceiver.next_due.Goals as goal

pub returns-then-has_unit-clause-next : goal.returns-then-has_unit-clause-next
returns-then-has_unit-clause-next g c =
    let old = c.args.self.now in
    let mid = c.step_due.new.self in
    let s = reception old.waiting (option_map numbered_packet old.stray) old.is_anew old.passed (open_assembly (g.D.RunDepacketizer.state old.assembler.packets.depacketizer) old.assembler.packets.expected old.assembler.unit (map access_unit_value old.ended.items)) old.framing old.numbers old.decoder old.counts old.assembler.packets.run_limit old.assembler.unit_limit in
    let stepping = reception mid.waiting (option_map numbered_packet mid.stray) mid.is_anew mid.passed (open_assembly (g.D.RunDepacketizer.state mid.assembler.packets.depacketizer) mid.assembler.packets.expected mid.assembler.unit (map access_unit_value mid.ended.items)) mid.framing mid.numbers mid.decoder mid.counts mid.assembler.packets.run_limit mid.assembler.unit_limit in
    let one : IsDrained c.args.now s stepping = stepped c.args.now s stepping c.in_ok-step_due.field-0 c.requires.left c.in_ok-step_due.ensures.step in
    let has : has_unit stepping.assembler.ended ≡ true = search rules in
    drained_next c.args.now s stepping _ _ (subst (λ (t : Reception). IsDrained c.args.now t stepping) (sym (nothing_first s c.requires.left)) one) has c.give.ensures.unit c.give.ensures.after

pub returns-then-has_unit-clause-bounded : goal.returns-then-has_unit-clause-bounded
returns-then-has_unit-clause-bounded g c =
    let old = c.args.self.now in
    let s = reception old.waiting (option_map numbered_packet old.stray) old.is_anew old.passed (open_assembly (g.D.RunDepacketizer.state old.assembler.packets.depacketizer) old.assembler.packets.expected old.assembler.unit (map access_unit_value old.ended.items)) old.framing old.numbers old.decoder old.counts old.assembler.packets.run_limit old.assembler.unit_limit in
    λ most small at. next_within most c.args.now s _ _ (returns-then-has_unit-clause-next g c) at

pub returns-clause-next : goal.returns-clause-next
returns-clause-next g c =
    let old = c.args.self.now in
    let mid = c.step_due.new.self in
    let new = c.drain.new.self in
    let s = reception old.waiting (option_map numbered_packet old.stray) old.is_anew old.passed (open_assembly (g.D.RunDepacketizer.state old.assembler.packets.depacketizer) old.assembler.packets.expected old.assembler.unit (map access_unit_value old.ended.items)) old.framing old.numbers old.decoder old.counts old.assembler.packets.run_limit old.assembler.unit_limit in
    let stepping = reception mid.waiting (option_map numbered_packet mid.stray) mid.is_anew mid.passed (open_assembly (g.D.RunDepacketizer.state mid.assembler.packets.depacketizer) mid.assembler.packets.expected mid.assembler.unit (map access_unit_value mid.ended.items)) mid.framing mid.numbers mid.decoder mid.counts mid.assembler.packets.run_limit mid.assembler.unit_limit in
    let drained = reception new.waiting (option_map numbered_packet new.stray) new.is_anew new.passed (open_assembly (g.D.RunDepacketizer.state new.assembler.packets.depacketizer) new.assembler.packets.expected new.assembler.unit (map access_unit_value new.ended.items)) new.framing new.numbers new.decoder new.counts new.assembler.packets.run_limit new.assembler.unit_limit in
    let one : IsDrained c.args.now s stepping = stepped c.args.now s stepping c.in_ok-step_due.field-0 c.requires.left c.in_ok-step_due.ensures.step in
    record {
      drained = drained;
      taken = subst (λ (t : Reception). IsDrained c.args.now t drained) (sym (nothing_first s c.requires.left)) (drained_on c.args.now s stepping drained one c.drain.ensures.drained);
      until = c.in_ok-drain.ensures.until;
      unit_is = c.give-2.ensures.unit ∙ ap unit_given (c.drop_bare.ensures.after ∙ ap without_bare c.in_ok-end_if_over.ensures.ended);
      stands = c.give-2.ensures.after ∙ ap without_given (c.drop_bare.ensures.after ∙ ap without_bare c.in_ok-end_if_over.ensures.ended);
    }

pub returns-clause-bounded : goal.returns-clause-bounded
returns-clause-bounded g c =
    let old = c.args.self.now in
    let s = reception old.waiting (option_map numbered_packet old.stray) old.is_anew old.passed (open_assembly (g.D.RunDepacketizer.state old.assembler.packets.depacketizer) old.assembler.packets.expected old.assembler.unit (map access_unit_value old.ended.items)) old.framing old.numbers old.decoder old.counts old.assembler.packets.run_limit old.assembler.unit_limit in
    λ most small at. next_within most c.args.now s _ _ (returns-clause-next g c) at

pub returns-in_err-step_due-clause-kept : goal.returns-in_err-step_due-clause-kept
returns-in_err-step_due-clause-kept g c =
    let old = c.args.self.now in
    let new = c.step_due.new.self in
    let s = reception old.waiting (option_map numbered_packet old.stray) old.is_anew old.passed (open_assembly (g.D.RunDepacketizer.state old.assembler.packets.depacketizer) old.assembler.packets.expected old.assembler.unit (map access_unit_value old.ended.items)) old.framing old.numbers old.decoder old.counts old.assembler.packets.run_limit old.assembler.unit_limit in
    let stepping = reception new.waiting (option_map numbered_packet new.stray) new.is_anew new.passed (open_assembly (g.D.RunDepacketizer.state new.assembler.packets.depacketizer) new.assembler.packets.expected new.assembler.unit (map access_unit_value new.ended.items)) new.framing new.numbers new.decoder new.counts new.assembler.packets.run_limit new.assembler.unit_limit in
    let it : IsDrainedInPart c.args.now s stepping = inr (subst (λ (t : Reception). IsDrained c.args.now t stepping) (sym (nothing_first s c.requires.left)) (step_in_part c.args.now s s stepping (none_more c.args.now s) (nothing_ended s c.requires.left) c.in_err-step_due.ensures.kept)) in
    search rules

pub returns-in_err-step_due-clause-bounded : goal.returns-in_err-step_due-clause-bounded
returns-in_err-step_due-clause-bounded g c =
    let old = c.args.self.now in
    let new = c.step_due.new.self in
    let s = reception old.waiting (option_map numbered_packet old.stray) old.is_anew old.passed (open_assembly (g.D.RunDepacketizer.state old.assembler.packets.depacketizer) old.assembler.packets.expected old.assembler.unit (map access_unit_value old.ended.items)) old.framing old.numbers old.decoder old.counts old.assembler.packets.run_limit old.assembler.unit_limit in
    let stepping = reception new.waiting (option_map numbered_packet new.stray) new.is_anew new.passed (open_assembly (g.D.RunDepacketizer.state new.assembler.packets.depacketizer) new.assembler.packets.expected new.assembler.unit (map access_unit_value new.ended.items)) new.framing new.numbers new.decoder new.counts new.assembler.packets.run_limit new.assembler.unit_limit in
    let it : IsDrainedInPart c.args.now s stepping = inr (subst (λ (t : Reception). IsDrained c.args.now t stepping) (sym (nothing_first s c.requires.left)) (step_in_part c.args.now s s stepping (none_more c.args.now s) (nothing_ended s c.requires.left) c.in_err-step_due.ensures.kept)) in
    left_within 0 c.args.now s stepping it

pub returns-in_err-drain-clause-kept : goal.returns-in_err-drain-clause-kept
returns-in_err-drain-clause-kept g c =
    let old = c.args.self.now in
    let mid = c.step_due.new.self in
    let new = c.drain.new.self in
    let s = reception old.waiting (option_map numbered_packet old.stray) old.is_anew old.passed (open_assembly (g.D.RunDepacketizer.state old.assembler.packets.depacketizer) old.assembler.packets.expected old.assembler.unit (map access_unit_value old.ended.items)) old.framing old.numbers old.decoder old.counts old.assembler.packets.run_limit old.assembler.unit_limit in
    let stepping = reception mid.waiting (option_map numbered_packet mid.stray) mid.is_anew mid.passed (open_assembly (g.D.RunDepacketizer.state mid.assembler.packets.depacketizer) mid.assembler.packets.expected mid.assembler.unit (map access_unit_value mid.ended.items)) mid.framing mid.numbers mid.decoder mid.counts mid.assembler.packets.run_limit mid.assembler.unit_limit in
    let drained = reception new.waiting (option_map numbered_packet new.stray) new.is_anew new.passed (open_assembly (g.D.RunDepacketizer.state new.assembler.packets.depacketizer) new.assembler.packets.expected new.assembler.unit (map access_unit_value new.ended.items)) new.framing new.numbers new.decoder new.counts new.assembler.packets.run_limit new.assembler.unit_limit in
    let one : IsDrained c.args.now s stepping = stepped c.args.now s stepping c.in_ok-step_due.field-0 c.requires.left c.in_ok-step_due.ensures.step in
    let it : IsDrainedInPart c.args.now s drained = inr (subst (λ (t : Reception). IsDrained c.args.now t drained) (sym (nothing_first s c.requires.left)) (drained_on c.args.now s stepping drained one c.drain.ensures.drained)) in
    search rules

pub returns-in_err-drain-clause-bounded : goal.returns-in_err-drain-clause-bounded
returns-in_err-drain-clause-bounded g c =
    let old = c.args.self.now in
    let mid = c.step_due.new.self in
    let new = c.drain.new.self in
    let s = reception old.waiting (option_map numbered_packet old.stray) old.is_anew old.passed (open_assembly (g.D.RunDepacketizer.state old.assembler.packets.depacketizer) old.assembler.packets.expected old.assembler.unit (map access_unit_value old.ended.items)) old.framing old.numbers old.decoder old.counts old.assembler.packets.run_limit old.assembler.unit_limit in
    let stepping = reception mid.waiting (option_map numbered_packet mid.stray) mid.is_anew mid.passed (open_assembly (g.D.RunDepacketizer.state mid.assembler.packets.depacketizer) mid.assembler.packets.expected mid.assembler.unit (map access_unit_value mid.ended.items)) mid.framing mid.numbers mid.decoder mid.counts mid.assembler.packets.run_limit mid.assembler.unit_limit in
    let drained = reception new.waiting (option_map numbered_packet new.stray) new.is_anew new.passed (open_assembly (g.D.RunDepacketizer.state new.assembler.packets.depacketizer) new.assembler.packets.expected new.assembler.unit (map access_unit_value new.ended.items)) new.framing new.numbers new.decoder new.counts new.assembler.packets.run_limit new.assembler.unit_limit in
    let one : IsDrained c.args.now s stepping = stepped c.args.now s stepping c.in_ok-step_due.field-0 c.requires.left c.in_ok-step_due.ensures.step in
    let it : IsDrainedInPart c.args.now s drained = inr (subst (λ (t : Reception). IsDrained c.args.now t drained) (sym (nothing_first s c.requires.left)) (drained_on c.args.now s stepping drained one c.drain.ensures.drained)) in
    left_within 0 c.args.now s drained it

pub returns-in_err-end_if_over-clause-kept : goal.returns-in_err-end_if_over-clause-kept
returns-in_err-end_if_over-clause-kept g c =
    let old = c.args.self.now in
    let mid = c.step_due.new.self in
    let new = c.drain.new.self in
    let s = reception old.waiting (option_map numbered_packet old.stray) old.is_anew old.passed (open_assembly (g.D.RunDepacketizer.state old.assembler.packets.depacketizer) old.assembler.packets.expected old.assembler.unit (map access_unit_value old.ended.items)) old.framing old.numbers old.decoder old.counts old.assembler.packets.run_limit old.assembler.unit_limit in
    let stepping = reception mid.waiting (option_map numbered_packet mid.stray) mid.is_anew mid.passed (open_assembly (g.D.RunDepacketizer.state mid.assembler.packets.depacketizer) mid.assembler.packets.expected mid.assembler.unit (map access_unit_value mid.ended.items)) mid.framing mid.numbers mid.decoder mid.counts mid.assembler.packets.run_limit mid.assembler.unit_limit in
    let drained = reception new.waiting (option_map numbered_packet new.stray) new.is_anew new.passed (open_assembly (g.D.RunDepacketizer.state new.assembler.packets.depacketizer) new.assembler.packets.expected new.assembler.unit (map access_unit_value new.ended.items)) new.framing new.numbers new.decoder new.counts new.assembler.packets.run_limit new.assembler.unit_limit in
    let one : IsDrained c.args.now s stepping = stepped c.args.now s stepping c.in_ok-step_due.field-0 c.requires.left c.in_ok-step_due.ensures.step in
    let left = c.end_if_over.new.self in
    let over = reception left.waiting (option_map numbered_packet left.stray) left.is_anew left.passed (open_assembly (g.D.RunDepacketizer.state left.assembler.packets.depacketizer) left.assembler.packets.expected left.assembler.unit (map access_unit_value left.ended.items)) left.framing left.numbers left.decoder left.counts left.assembler.packets.run_limit left.assembler.unit_limit in
    let it : IsDrainedInPart c.args.now s over = inr (subst (λ (t : Reception). IsDrained c.args.now t over) (sym (nothing_first s c.requires.left)) (subst (IsDrained c.args.now s) (sym c.in_err-end_if_over.ensures.kept) (drained_on c.args.now s stepping drained one c.drain.ensures.drained))) in
    search rules

pub returns-in_err-end_if_over-clause-bounded : goal.returns-in_err-end_if_over-clause-bounded
returns-in_err-end_if_over-clause-bounded g c =
    let old = c.args.self.now in
    let mid = c.step_due.new.self in
    let new = c.drain.new.self in
    let s = reception old.waiting (option_map numbered_packet old.stray) old.is_anew old.passed (open_assembly (g.D.RunDepacketizer.state old.assembler.packets.depacketizer) old.assembler.packets.expected old.assembler.unit (map access_unit_value old.ended.items)) old.framing old.numbers old.decoder old.counts old.assembler.packets.run_limit old.assembler.unit_limit in
    let stepping = reception mid.waiting (option_map numbered_packet mid.stray) mid.is_anew mid.passed (open_assembly (g.D.RunDepacketizer.state mid.assembler.packets.depacketizer) mid.assembler.packets.expected mid.assembler.unit (map access_unit_value mid.ended.items)) mid.framing mid.numbers mid.decoder mid.counts mid.assembler.packets.run_limit mid.assembler.unit_limit in
    let drained = reception new.waiting (option_map numbered_packet new.stray) new.is_anew new.passed (open_assembly (g.D.RunDepacketizer.state new.assembler.packets.depacketizer) new.assembler.packets.expected new.assembler.unit (map access_unit_value new.ended.items)) new.framing new.numbers new.decoder new.counts new.assembler.packets.run_limit new.assembler.unit_limit in
    let one : IsDrained c.args.now s stepping = stepped c.args.now s stepping c.in_ok-step_due.field-0 c.requires.left c.in_ok-step_due.ensures.step in
    let left = c.end_if_over.new.self in
    let over = reception left.waiting (option_map numbered_packet left.stray) left.is_anew left.passed (open_assembly (g.D.RunDepacketizer.state left.assembler.packets.depacketizer) left.assembler.packets.expected left.assembler.unit (map access_unit_value left.ended.items)) left.framing left.numbers left.decoder left.counts left.assembler.packets.run_limit left.assembler.unit_limit in
    let it : IsDrainedInPart c.args.now s over = inr (subst (λ (t : Reception). IsDrained c.args.now t over) (sym (nothing_first s c.requires.left)) (subst (IsDrained c.args.now s) (sym c.in_err-end_if_over.ensures.kept) (drained_on c.args.now s stepping drained one c.drain.ensures.drained))) in
    left_within 0 c.args.now s over it
