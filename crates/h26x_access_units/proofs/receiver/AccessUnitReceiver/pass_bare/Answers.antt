use Rattle.std.proofs.Common.{◌∙◌, ap, sym, Bool, map}
use Rattle.std.specs.Option.{option_map}
use Rattle.h26x_reorder.specs.ReorderBuffer.{numbered_packet}
use Rattle.h26x_assembler.specs.AccessUnit.{access_unit_value}
use Rattle.h26x_assembler.specs.Assembler.{assembly_at}
use Rattle.h26x_assembler.specs.declared.assembler.AccessUnitAssembler.{AccessUnitAssembler}
use Rattle.h26x_access_units.specs.declared.config.AccessUnitConfig.{AccessUnitConfig}
use Rattle.h26x_access_units.specs.declared.numbers.AccessUnitNumbers.{AccessUnitNumbers}
use Rattle.h26x_access_units.specs.declared.numbers.NumbersSoFar.{NumbersSoFar}
use Rattle.h26x_access_units.specs.ReceivedAccessUnit.{decoder_with}
use Rattle.h26x_access_units.specs.Numbers.{numbers_carrying, without_first_ended}
use Rattle.h26x_access_units.specs.Reception.{reception}
use Rattle.h26x_access_units.proofs.ReceptionLemmas.{front_removed, some_bare, passed_front}
use Rattle.h26x_access_units.proofs.receiver.AccessUnitReceiver.pass_bare.Goals as goal

pub returns : goal.returns
returns g c =
    let old = c.args.self.now in
    let s = reception old.waiting (option_map numbered_packet old.stray) old.is_anew old.passed (assembly_at g.D.RunDepacketizer.state old.assembler old.ended.items) old.framing old.numbers old.decoder old.counts old.assembler.packets.run_limit old.assembler.unit_limit in
    let unit = access_unit_value c.remove-unit.result in
    let front = front_removed old.ended.items c.remove-unit.new.self.items c.remove-unit.result (some_bare old.ended.items c.requires) c.remove-unit.ensures.value c.remove-unit.ensures.items in
    let sets = ap (λ (it : AccessUnitConfig). it.has_sets) c.config-has_sets.ensures.settings in
    let decoder = c.pass.ensures
    ∙ ap (λ (b : Bool). decoder_with s.decoder b c.is_avc-is_avc.result unit c.give-numbers.result) sets
    ∙ ap (λ (b : Bool). decoder_with s.decoder s.waiting.config.has_sets b unit c.give-numbers.result) c.is_avc-is_avc.ensures
    ∙ ap (λ (n : AccessUnitNumbers). decoder_with s.decoder s.waiting.config.has_sets s.assembler.state.is_avc unit n) c.give-numbers.ensures.numbers in
    let numbers = c.carry.ensures
    ∙ ap (λ (n : NumbersSoFar). numbers_carrying n c.give-numbers.result.missing) c.give-numbers.ensures.after
    ∙ ap (λ (n : AccessUnitNumbers). numbers_carrying (without_first_ended s.numbers) n.missing) c.give-numbers.ensures.numbers in
    ap (λ (it : AccessUnitAssembler _). reception old.waiting (option_map numbered_packet old.stray) old.is_anew old.passed (assembly_at g.D.RunDepacketizer.state it c.remove-unit.new.self.items) old.framing c.carry.new.self c.pass.new.decoder old.counts it.packets.run_limit it.unit_limit) c.give_back.ensures
    ∙ sym (passed_front s unit (map access_unit_value c.remove-unit.new.self.items) c.carry.new.self c.pass.new.decoder front numbers decoder)
