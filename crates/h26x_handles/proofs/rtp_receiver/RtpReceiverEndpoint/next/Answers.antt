use Rattle.std.proofs.Common.{rules, ◌≡◌, Some, None}
use Rattle.std.specs.Option.{option_map}
use Rattle.h26x_access_units.specs.ReceivedAccessUnit.{received_unit_value}
use Rattle.h26x_handles.proofs.RtpUnitLemmas.{kept_rtp_given, next_rtp_given}
use Rattle.h26x_handles.proofs.rtp_receiver.RtpReceiverEndpoint.next.Goals as goal

pub returns-in-Some-clause-given : goal.returns-in-Some-clause-given
returns-in-Some-clause-given c =
    let there : option_map received_unit_value c.args.self.now.left ≡ Some (received_unit_value c.in-Some.unit) = search rules in
    kept_rtp_given _ _ _ _ _ _ _ _ _ there c.give.ensures.after c.give.ensures.put c.give.ensures.answer

pub returns-clause-given : goal.returns-clause-given
returns-clause-given c =
    let none : option_map received_unit_value c.args.self.now.left ≡ None = search rules in
    let some : option_map received_unit_value c.in_ok-unit.field-0 ≡ Some (received_unit_value c.in-Some-2.unit) = search rules in
    next_rtp_given _ _ _ _ _ _ _ _ _ _ _ none c.in_ok-unit.ensures.next some c.give-2.ensures.after c.give-2.ensures.put c.give-2.ensures.answer
