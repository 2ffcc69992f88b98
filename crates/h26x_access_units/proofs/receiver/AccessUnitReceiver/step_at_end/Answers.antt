use Rattle.std.proofs.Common.{rules, ◌≡◌, false, map}
use Rattle.h26x_assembler.specs.AccessUnit.{access_unit_value}
use Rattle.h26x_access_units.specs.Reception.{has_no_unit, ended_alone}
use Rattle.h26x_access_units.proofs.ReceptionLemmas.{follows_ended, step_follows, step_both, where_true, none_ended}
use Rattle.h26x_access_units.proofs.receiver.AccessUnitReceiver.step_at_end.Goals as goal

pub returns-then-not-branch-clause-step : goal.returns-then-not-branch-clause-step
returns-then-not-branch-clause-step g c =
    step_follows _ _ _ _ c.in_ok-end_before.field-0 c.take_due.result c.in_ok-end_before.ensures.ended c.if-not-branch.true c.take_due.ensures.taken

pub returns-then-has_ended-clause-step : goal.returns-then-has_ended-clause-step
returns-then-has_ended-clause-step g c =
    let has : has_no_unit (map access_unit_value c.end_before.new.self.ended.items) ≡ false = search rules in
    ended_alone (where_true c.in_ok-end_before.field-0 _ _ c.in_ok-end_before.ensures.ended c.if-not-branch.false) has

pub returns-clause-step : goal.returns-clause-step
returns-clause-step g c =
    let none_has : c.has_ended.result ≡ false = search rules in
    step_both _ _ _ _ c.take_due-2.result (where_true c.in_ok-end_before.field-0 _ _ c.in_ok-end_before.ensures.ended c.if-not-branch.false)
    (none_ended (map access_unit_value c.end_before.new.self.ended.items) c.has_ended.result c.has_ended.ensures none_has) c.take_due-2.ensures.taken

pub take_due-requires-2 : goal.take_due-requires-2
take_due-requires-2 g c = follows_ended _ _ _ (where_true c.in_ok-end_before.field-0 _ _ c.in_ok-end_before.ensures.ended c.if-not-branch.false)
