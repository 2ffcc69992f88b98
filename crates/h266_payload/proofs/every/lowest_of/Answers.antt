use Rattle.std.proofs.Common.{rules, ◌≡◌, ◌≤◌, length, drop, [], sym, ap, ◌∙◌, arith, List, ℕ}
use Rattle.std.specs.Borrow.{Bor}
use Rattle.std.proofs.lemmas.List.{length-map, length-drop, nil_from_length}
use Rattle.h26x_packetizer.specs.Group.{lent_units}
use Rattle.h266_payload.specs.H266.{layer_of, temporal_of}
use Rattle.h266_payload.proofs.LeastLemmas.{least_from, least_is, layer_few, temporal_few}
use Rattle.h266_payload.proofs.every.lowest_of.Goals as goal

pub returns-clause-layer : goal.returns-clause-layer
returns-clause-layer c =
    let units = c.args.units.now in
    let past : length units ≤ c.loop-unit.unit-index = search rules in
    let l = length-drop c.loop-unit.unit-index units in
    let none : drop c.loop-unit.unit-index units ≡ [] = nil_from_length (drop c.loop-unit.unit-index units) (omega (arith, l, past)) in
    let long : length (lent_units units) ≡ length units = length-map _ _ in
    let there = c.requires in
    sym (ap (λ (r : List (Bor (List ℕ))). least_from layer_of c.loop-unit.lowest (lent_units r)) none) ∙ c.loop-unit.invariant.layer
    ∙ least_is layer_of 63 (lent_units units) (omega (arith, long, there)) layer_few

pub returns-clause-temporal : goal.returns-clause-temporal
returns-clause-temporal c =
    let units = c.args.units.now in
    let past : length units ≤ c.loop-unit.unit-index = search rules in
    let l = length-drop c.loop-unit.unit-index units in
    let none : drop c.loop-unit.unit-index units ≡ [] = nil_from_length (drop c.loop-unit.unit-index units) (omega (arith, l, past)) in
    let long : length (lent_units units) ≡ length units = length-map _ _ in
    let there = c.requires in
    sym (ap (λ (r : List (Bor (List ℕ))). least_from temporal_of c.loop-unit.lowest_temporal (lent_units r)) none) ∙ c.loop-unit.invariant.temporal
    ∙ least_is temporal_of 7 (lent_units units) (omega (arith, long, there)) temporal_few
