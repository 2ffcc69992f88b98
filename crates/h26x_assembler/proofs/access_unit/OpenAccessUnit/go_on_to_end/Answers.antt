use Rattle.std.proofs.Common.{rules, ◌≡◌, ◌∙◌, ap, sym, subst, map, true, false, [], ◌∷◌, ◌++◌, None, Some, refl}
use Rattle.std.specs.Option.{option_map}
use Rattle.std.proofs.lemmas.List.{map-append}
use Rattle.h26x_model.specs.Receive.RunLimit.{state_with_run}
use Rattle.h26x_assembler.specs.AccessUnit.{AccessUnitValue, Assembly, whole_if, is_run_closed, OpenAccessUnitView, access_unit_value, open_unit_value, open_unit_view, open_assembly, is_unit_at, after_taken_rtp}
use Rattle.h26x_assembler.proofs.TakeLemmas.{ends_taken, same_open, unit_stamp}
use Rattle.h26x_assembler.proofs.access_unit.OpenAccessUnit.go_on_to_end.Goals as goal

pub returns-clause-after : goal.returns-clause-after
returns-clause-after g c = λ taken.
    let old = c.args.packets.now in
    let heard = c.take-received in
    let new = heard.new.packets in
    let state = g.D.RunDepacketizer.state in
    let unit = c.in-Some.unit in
    let left = heard.new.self in
    let p = c.args.packet.now in
    let ended = map access_unit_value c.args.out.now.items in
    let gap = c.self.inside.is_gap in
    let closed = c.self.inside.closed in
    let view : open_unit_view (Some unit) None gap closed ≡ c.args.self.now = search rules in
    let at : is_unit_at (Some (open_unit_value unit)) p.1.timestamp ≡ true = subst (λ (it : OpenAccessUnitView). is_unit_at it.unit p.1.timestamp ≡ true) (sym view) c.requires.at in
    let stamp : Some left.timestamp ≡ Some p.1.timestamp = ap (λ (o : Assembly). option_map (λ (u : AccessUnitValue). u.timestamp) o.unit) (heard.ensures.after taken)
    ∙ unit_stamp old.run_limit gap closed (state_with_run (state old.depacketizer) unit.text.run) old.expected (open_unit_value unit) p at in
    let none : c.take.new.self ≡ None = search rules in
    let value : access_unit_value c.finish.result ≡ whole_if (is_run_closed left.text.run) (open_unit_value left) = search rules in
    let pushed : c.push.new.self.items ≡ c.args.out.now.items ++ c.finish.result ∷ [] = search rules in
    let items : map access_unit_value c.push.new.self.items ≡ ended ++ whole_if (is_run_closed left.text.run) (open_unit_value left) ∷ [] =
    ap (map access_unit_value) pushed ∙ map-append access_unit_value c.args.out.now.items (c.finish.result ∷ []) ∙ ap (λ (v : AccessUnitValue). ended ++ v ∷ []) value in
    let run : c.move_run.new.to ≡ left.text.run = c.move_run.ensures.moved in
    rw none (same_open (state new.depacketizer) new.expected (open_unit_view None c.move_run.new.to false (Some left.timestamp)) false (Some p.1.timestamp) left.text.run None _ (ended ++ whole_if (is_run_closed left.text.run) (open_unit_value left) ∷ []) refl stamp run refl items)
    ∙ ends_taken old.run_limit gap closed (state_with_run (state old.depacketizer) unit.text.run) (state_with_run (state new.depacketizer) left.text.run) old.expected new.expected (open_unit_value unit) (open_unit_value left) ended p
    c.requires.marker at (heard.ensures.after taken)
    ∙ ap (λ (it : OpenAccessUnitView). after_taken_rtp old.run_limit (open_assembly (state old.depacketizer) old.expected it ended) p) view
