use Rattle.std.proofs.Common.{◌≡◌, ◌∙◌, ap, sym, true, false, Ok}
use Rattle.h26x_access_units.specs.declared.counts.Counts.{Counts}
use Rattle.h26x_access_units.specs.declared.numbers.NumbersSoFar.{NumbersSoFar}
use Rattle.h26x_access_units.specs.Counts.{counted_framing}
use Rattle.h26x_access_units.specs.Numbers.{numbers_after}
use Rattle.h26x_access_units.specs.Reception.{is_one_taken}
use Rattle.h26x_access_units.proofs.due.note_received.Goals as goal

pub returns-then-not-is_one_taken-clause-numbers : goal.returns-then-not-is_one_taken-clause-numbers
returns-then-not-is_one_taken-clause-numbers c = λ expected.
    let is : is_one_taken c.args.packet.now c.args.received ≡ false = sym c.is_one_taken.ensures ∙ c.if-not-is_one_taken.true in
    rw is (c.note.ensures expected)

pub returns-then-not-is_one_taken-clause-counts : goal.returns-then-not-is_one_taken-clause-counts
returns-then-not-is_one_taken-clause-counts c = λ expected.
    let is : is_one_taken c.args.packet.now c.args.received ≡ false = sym c.is_one_taken.ensures ∙ c.if-not-is_one_taken.true in
    rw is (c.note-then-not-is_one_taken.ensures expected)

pub returns-clause-numbers : goal.returns-clause-numbers
returns-clause-numbers c = λ expected.
    let is : is_one_taken c.args.packet.now c.args.received ≡ true = sym c.is_one_taken.ensures ∙ c.if-not-is_one_taken.false in
    rw is (c.note-2.ensures expected ∙ ap (λ (n : NumbersSoFar). numbers_after expected n c.args.packet.now (Ok c.args.received)) c.stand.ensures)

pub returns-clause-counts : goal.returns-clause-counts
returns-clause-counts c = λ expected.
    let is : is_one_taken c.args.packet.now c.args.received ≡ true = sym c.is_one_taken.ensures ∙ c.if-not-is_one_taken.false in
    rw is (c.frame.ensures ∙ ap (λ (n : Counts). counted_framing n c.args.still c.args.unbelieved) (c.note-3.ensures expected))
