use Rattle.std.proofs.Common.{rules, refl, ◌≡◌, ◌+◌, true, false, List, map, ap, sym, subst, slice_set}
use Rattle.h26x_codes.specs.Codes.{ok, out_of_memory}
use Rattle.h26x_handles.specs.AccessUnits.{units_state_of}
use Rattle.h26x_handles.specs.UnitsState.{UnitsState, units_push_answer, IsUnitsPushed}
use Rattle.h26x_handles.specs.Payloads.{packet_in}
use Rattle.h26x_handles.specs.PushAll.{is_full, push_told, AreToldPushed}
use Rattle.h26x_handles.specs.declared.push_all.PushTold.{PushTold}
use Rattle.h26x_handles.proofs.PayloadLemmas.{made_at, made_within, made_past}
use Rattle.h26x_handles.proofs.PushAllLemmas.{ArePushedSoFar, none_pushed, pushed_more, pushed_to_full, pushed_in_part, pushed_to_end}
use Rattle.h26x_handles.proofs.access_units.AccessUnitEndpoint.push_all.Goals as goal

pub loop-it-init : goal.loop-it-init
loop-it-init c = record { place = refl; pushed = none_pushed _ _ _ _ }

pub loop-it-preserved : goal.loop-it-preserved
loop-it-preserved c =
    let inv = c.loop-it.invariant in
    let packets = map (packet_in c.args.bytes.now) c.args.payloads.now in
    let within = made_within (packet_in c.args.bytes.now) c.args.payloads.now _ _ inv.place c.loop-it-test.true in
    let at = made_at (packet_in c.args.bytes.now) c.args.payloads.now _ _ _ _ inv.place c.loop-it-test.true c.packet_in.ensures in
    let answered : c.in-Ok.pushed ≡ units_push_answer (units_state_of c.loop-it.self) c.packet_in.result = search rules in
    let after : IsUnitsPushed c.args.now c.packet_in.result (units_state_of c.loop-it.self) (units_state_of c.push.new.self) = search rules in
    let fine : is_full c.in-Ok.pushed ≡ false = search rules in
    let put : c.put_at.new.to ≡ slice_set c.loop-it.told c.loop-it.taken (push_told c.in-Ok.pushed) = search rules in
    record {
      place = ap (λ n. n + 1) inv.place;
      pushed = subst (λ (l : List PushTold). ArePushedSoFar c.args.now packets (units_state_of c.args.self.now) (units_state_of c.push.new.self) c.args.told.now l (c.loop-it.taken + 1)) (sym put)
          (pushed_more _ _ _ _ _ _ _ _ c.packet_in.result c.in-Ok.pushed within at inv.pushed answered after fine);
    }

pub returns-in_default : goal.returns-in_default
returns-in_default c =
    let inv = c.loop-it.invariant in
    let packets = map (packet_in c.args.bytes.now) c.args.payloads.now in
    let within = made_within (packet_in c.args.bytes.now) c.args.payloads.now _ _ inv.place c.loop-it-test.true in
    let at = made_at (packet_in c.args.bytes.now) c.args.payloads.now _ _ _ _ inv.place c.loop-it-test.true c.packet_in.ensures in
    let kept : units_state_of c.push.new.self ≡ units_state_of c.loop-it.self = search rules in
    subst (λ (s : UnitsState). AreToldPushed c.args.now packets (units_state_of c.args.self.now) s c.args.told.now c.loop-it.told out_of_memory c.loop-it.taken) (sym kept)
    (pushed_in_part _ _ _ _ _ _ _ c.packet_in.result within at inv.pushed)

pub returns-then-is_full : goal.returns-then-is_full
returns-then-is_full c =
    let inv = c.loop-it.invariant in
    let packets = map (packet_in c.args.bytes.now) c.args.payloads.now in
    let within = made_within (packet_in c.args.bytes.now) c.args.payloads.now _ _ inv.place c.loop-it-test.true in
    let at = made_at (packet_in c.args.bytes.now) c.args.payloads.now _ _ _ _ inv.place c.loop-it-test.true c.packet_in.ensures in
    let answered : c.in-Ok.pushed ≡ units_push_answer (units_state_of c.loop-it.self) c.packet_in.result = search rules in
    let after : IsUnitsPushed c.args.now c.packet_in.result (units_state_of c.loop-it.self) (units_state_of c.push.new.self) = search rules in
    let lacks : is_full c.in-Ok.pushed ≡ true = search rules in
    let put : c.put_at.new.to ≡ slice_set c.loop-it.told c.loop-it.taken (push_told c.in-Ok.pushed) = search rules in
    subst (λ (l : List PushTold). AreToldPushed c.args.now packets (units_state_of c.args.self.now) (units_state_of c.push.new.self) c.args.told.now l ok c.loop-it.taken) (sym put)
    (pushed_to_full _ _ _ _ _ _ _ _ c.packet_in.result c.in-Ok.pushed within at inv.pushed answered after lacks)

pub returns : goal.returns
returns c =
    let inv = c.loop-it.invariant in
    pushed_to_end _ _ _ _ _ _ _ (made_past (packet_in c.args.bytes.now) c.args.payloads.now _ _ inv.place c.loop-it-test.false) inv.pushed
