use Rattle.std.proofs.Common.{rules, ◌≡◌, ◌∙◌, ap, sym, true, false, Bool}
use Rattle.std.specs.Prelude.{not, ◌&&◌, ◌||◌}
use Rattle.h26x_core.specs.Sequence.{is_expected}
use Rattle.h26x_assembler.specs.Assembler.{assembly_at}
use Rattle.h26x_access_units.specs.Reception.{is_in_reach}
use Rattle.h26x_access_units.proofs.due.is_behind_missing.Goals as goal

pub returns-then-not-is_in_reach : goal.returns-then-not-is_in_reach
returns-then-not-is_in_reach g c = λ ended.
    let s = assembly_at g.D.RunDepacketizer.state c.args.assembler.now ended in
    let reach : is_in_reach s c.args.number ≡ false = sym (c.is_in_reach.ensures ended) ∙ c.if-not-is_in_reach.true in
    sym (ap (λ (b : Bool). b && (s.is_gap || not (is_expected s.expected c.args.number))) reach)

pub returns-then-is_gap : goal.returns-then-is_gap
returns-then-is_gap g c = λ ended.
    let s = assembly_at g.D.RunDepacketizer.state c.args.assembler.now ended in
    let reach : is_in_reach s c.args.number ≡ true = sym (c.is_in_reach.ensures ended) ∙ c.if-not-is_in_reach.false in
    let gap : s.is_gap ≡ true = search rules in
    c.if-is_gap.true ∙ sym (ap (λ (b : Bool). b && (s.is_gap || not (is_expected s.expected c.args.number))) reach ∙ ap (λ (b : Bool). b || not (is_expected s.expected c.args.number)) gap)

pub returns-else-is_gap : goal.returns-else-is_gap
returns-else-is_gap g c = λ ended.
    let s = assembly_at g.D.RunDepacketizer.state c.args.assembler.now ended in
    let reach : is_in_reach s c.args.number ≡ true = sym (c.is_in_reach.ensures ended) ∙ c.if-not-is_in_reach.false in
    let gap : s.is_gap ≡ false = search rules in
    let next : not c.is_next.result ≡ not (is_expected s.expected c.args.number) = search rules in
    next ∙ sym (ap (λ (b : Bool). b && (s.is_gap || not (is_expected s.expected c.args.number))) reach ∙ ap (λ (b : Bool). b || not (is_expected s.expected c.args.number)) gap)
