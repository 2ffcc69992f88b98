use Rattle.std.proofs.Common.{rules, ◌≡◌, ◌∙◌, ap, sym, Bool, false, Some, map, length}
use Rattle.std.specs.Prelude.{◌==◌}
use Rattle.std.specs.Option.{option_map}
use Rattle.h26x_reorder.specs.ReorderBuffer.{numbered_packet}
use Rattle.h26x_assembler.specs.AccessUnit.{AccessUnitValue, access_unit_value}
use Rattle.h26x_assembler.specs.Assembler.{assembly_at}
use Rattle.h26x_access_units.specs.declared.config.AccessUnitConfig.{AccessUnitConfig}
use Rattle.h26x_access_units.specs.declared.numbers.AccessUnitNumbers.{AccessUnitNumbers}
use Rattle.h26x_access_units.specs.declared.unit.Told.{Told}
use Rattle.h26x_access_units.specs.ReceivedAccessUnit.{ReceivedAccessUnitValue, unit_with, told_of, decoder_with}
use Rattle.h26x_access_units.specs.Counts.{counted_unit}
use Rattle.h26x_access_units.specs.Numbers.{first_ended}
use Rattle.h26x_access_units.specs.Reception.{reception}
use Rattle.h26x_access_units.proofs.ReceptionLemmas.{front_removed, front_given, without_front}
use Rattle.h26x_access_units.proofs.receiver.AccessUnitReceiver.give.Goals as goal

pub returns-clause-unit : goal.returns-clause-unit
returns-clause-unit g c =
    let old = c.args.self.now in
    let s = reception old.waiting (option_map numbered_packet old.stray) old.is_anew old.passed (assembly_at g.D.RunDepacketizer.state old.assembler old.ended.items) old.framing old.numbers old.decoder old.counts old.assembler.packets.run_limit old.assembler.unit_limit in
    let unit = access_unit_value c.remove_first-unit.result in
    let some : (length old.ended.items == 0) ≡ false = search rules in
    let front = front_removed old.ended.items c.remove_first-unit.new.units.items c.remove_first-unit.result some c.remove_first-unit.ensures.value c.remove_first-unit.ensures.items in
    let same : c.in_ok-first.first.now ≡ c.remove_first-unit.result = search rules in
    let first = ap access_unit_value same in
    let sets = ap (λ (it : AccessUnitConfig). it.has_sets) c.config-has_sets.ensures.settings in
    let told = c.told_of-told.ensures.told
    ∙ ap (λ (v : AccessUnitValue). told_of s.decoder c.config-has_sets.result.has_sets c.is_avc-is_avc.result v c.give-numbers.result) first
    ∙ ap (λ (b : Bool). told_of s.decoder b c.is_avc-is_avc.result unit c.give-numbers.result) sets
    ∙ ap (λ (b : Bool). told_of s.decoder s.waiting.config.has_sets b unit c.give-numbers.result) c.is_avc-is_avc.ensures
    ∙ ap (λ (n : AccessUnitNumbers). told_of s.decoder s.waiting.config.has_sets s.assembler.state.is_avc unit n) c.give-numbers.ensures.numbers in
    let all = told_of s.decoder s.waiting.config.has_sets s.assembler.state.is_avc unit (first_ended s.numbers) in
    ap (λ (it : ReceivedAccessUnitValue). Some it) (c.with.ensures
    ∙ ap (λ (t : Told). unit_with t unit c.give-numbers.result) told
    ∙ ap (λ (n : AccessUnitNumbers). unit_with all unit n) c.give-numbers.ensures.numbers)
    ∙ sym (front_given s unit _ front)

pub returns-clause-after : goal.returns-clause-after
returns-clause-after g c =
    let old = c.args.self.now in
    let s = reception old.waiting (option_map numbered_packet old.stray) old.is_anew old.passed (assembly_at g.D.RunDepacketizer.state old.assembler old.ended.items) old.framing old.numbers old.decoder old.counts old.assembler.packets.run_limit old.assembler.unit_limit in
    let unit = access_unit_value c.remove_first-unit.result in
    let some : (length old.ended.items == 0) ≡ false = search rules in
    let front = front_removed old.ended.items c.remove_first-unit.new.units.items c.remove_first-unit.result some c.remove_first-unit.ensures.value c.remove_first-unit.ensures.items in
    let same : c.in_ok-first.first.now ≡ c.remove_first-unit.result = search rules in
    let first = ap access_unit_value same in
    let sets = ap (λ (it : AccessUnitConfig). it.has_sets) c.config-has_sets.ensures.settings in
    let told = c.told_of-told.ensures.told
    ∙ ap (λ (v : AccessUnitValue). told_of s.decoder c.config-has_sets.result.has_sets c.is_avc-is_avc.result v c.give-numbers.result) first
    ∙ ap (λ (b : Bool). told_of s.decoder b c.is_avc-is_avc.result unit c.give-numbers.result) sets
    ∙ ap (λ (b : Bool). told_of s.decoder s.waiting.config.has_sets b unit c.give-numbers.result) c.is_avc-is_avc.ensures
    ∙ ap (λ (n : AccessUnitNumbers). told_of s.decoder s.waiting.config.has_sets s.assembler.state.is_avc unit n) c.give-numbers.ensures.numbers in
    let decoder = c.told_of-told.ensures.decoder
    ∙ ap (λ (v : AccessUnitValue). decoder_with s.decoder c.config-has_sets.result.has_sets c.is_avc-is_avc.result v c.give-numbers.result) first
    ∙ ap (λ (b : Bool). decoder_with s.decoder b c.is_avc-is_avc.result unit c.give-numbers.result) sets
    ∙ ap (λ (b : Bool). decoder_with s.decoder s.waiting.config.has_sets b unit c.give-numbers.result) c.is_avc-is_avc.ensures
    ∙ ap (λ (n : AccessUnitNumbers). decoder_with s.decoder s.waiting.config.has_sets s.assembler.state.is_avc unit n) c.give-numbers.ensures.numbers in
    sym (without_front s unit (map access_unit_value c.remove_first-unit.new.units.items) c.give-numbers.new.self c.told_of-told.new.decoder c.unit.new.self front c.give-numbers.ensures.after decoder (c.unit.ensures ∙ ap (λ (t : Told). counted_unit s.counts t.is_whole) told))
