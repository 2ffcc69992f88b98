use Rattle.std.proofs.Common.{map}
use Rattle.std.specs.Option.{option_map}
use Rattle.h26x_reorder.specs.ReorderBuffer.{numbered_packet}
use Rattle.h26x_assembler.specs.AccessUnit.{access_unit_value, open_assembly}
use Rattle.h26x_access_units.specs.Reception.{reception}
use Rattle.h26x_access_units.proofs.ReceptionLemmas.{none_more, one_step, no_step, drained_bare, none_is_left, step_in_part, bare_step_falls, where_true}
use Rattle.h26x_access_units.proofs.receiver.AccessUnitReceiver.drain.Goals as goal

pub loop-self-init : goal.loop-self-init
loop-self-init g c = none_more _ _

pub loop-self-preserved : goal.loop-self-preserved
loop-self-preserved g c =
    one_step _ _ _ _ (drained_bare _ _ _ _ c.loop-self.invariant c.drop_bare.ensures.after)
    (none_is_left (map access_unit_value c.drop_bare.new.self.ended.items) c.drop_bare.result c.drop_bare.ensures.none c.loop-self-test.true)
    (where_true c.in_ok-step.field-0 _ _ c.in_ok-step.ensures.step c.if-branch.true)

pub returns-in_err-step-clause-drained : goal.returns-in_err-step-clause-drained
returns-in_err-step-clause-drained g c =
    step_in_part _ _ _ _ (drained_bare _ _ _ _ c.loop-self.invariant c.drop_bare.ensures.after)
    (none_is_left (map access_unit_value c.drop_bare.new.self.ended.items) c.drop_bare.result c.drop_bare.ensures.none c.loop-self-test.true) c.in_err-step.ensures.kept

pub returns-else-branch-clause-drained : goal.returns-else-branch-clause-drained
returns-else-branch-clause-drained g c =
    no_step _ _ _ _ c.in_ok-step.field-0 (drained_bare _ _ _ _ c.loop-self.invariant c.drop_bare.ensures.after) c.in_ok-step.ensures.step c.if-branch.false

pub returns-after-loop-self-clause-drained : goal.returns-after-loop-self-clause-drained
returns-after-loop-self-clause-drained g c = drained_bare _ _ _ _ c.loop-self.invariant c.drop_bare.ensures.after

pub loop-self-smaller : goal.loop-self-smaller
loop-self-smaller g c =
    let it = c.loop-self.self in
    let bare = c.drop_bare.new.self in
    let new = c.step.new.self in
    bare_step_falls c.args.now (reception it.waiting (option_map numbered_packet it.stray) it.is_anew it.passed (open_assembly (g.D.RunDepacketizer.state it.assembler.packets.depacketizer) it.assembler.packets.expected it.assembler.unit (map access_unit_value it.ended.items)) it.framing it.numbers it.decoder it.counts it.assembler.packets.run_limit it.assembler.unit_limit) (reception bare.waiting (option_map numbered_packet bare.stray) bare.is_anew bare.passed (open_assembly (g.D.RunDepacketizer.state bare.assembler.packets.depacketizer) bare.assembler.packets.expected bare.assembler.unit (map access_unit_value bare.ended.items)) bare.framing bare.numbers bare.decoder bare.counts bare.assembler.packets.run_limit bare.assembler.unit_limit) (reception new.waiting (option_map numbered_packet new.stray) new.is_anew new.passed (open_assembly (g.D.RunDepacketizer.state new.assembler.packets.depacketizer) new.assembler.packets.expected new.assembler.unit (map access_unit_value new.ended.items)) new.framing new.numbers new.decoder new.counts new.assembler.packets.run_limit new.assembler.unit_limit)
    c.drop_bare.ensures.after (none_is_left (map access_unit_value c.drop_bare.new.self.ended.items) c.drop_bare.result c.drop_bare.ensures.none c.loop-self-test.true)
    (where_true c.in_ok-step.field-0 _ _ c.in_ok-step.ensures.step c.if-branch.true)
