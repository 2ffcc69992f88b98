use Rattle.std.proofs.Common.{◌∙◌, ap, eq-eqb, refl}
use Rattle.h26x_core.specs.Sequence.{is_expected, next_sequence_number}
use Rattle.h26x_receiver.specs.Sequenced.{SequencedDepacketization}
use Rattle.h26x_assembler.specs.AccessUnit.{Assembly, follows}
use Rattle.h26x_examples.proofs.laws_met.skipped_numbers.Goals as goal

pub returns-clause-run : goal.returns-clause-run
returns-clause-run c = λ s number small is. ap (λ (x : SequencedDepacketization). x.at_work) (c.skipping_in_order_changes_only_the_number.ensures s number small is)

pub returns-clause-next : goal.returns-clause-next
returns-clause-next c = λ s number small is.
    ap (λ (x : SequencedDepacketization). is_expected x.expected (next_sequence_number number)) (c.skipping_in_order_changes_only_the_number.ensures s number small is)
    ∙ eq-eqb (next_sequence_number number) (next_sequence_number number) refl

pub returns-clause-unit : goal.returns-clause-unit
returns-clause-unit c = λ s number small is. ap (λ (x : Assembly). x.unit) (c.skipping_in_order_changes_only_the_number-2.ensures s number small is)

pub returns-clause-follows : goal.returns-clause-follows
returns-clause-follows c = λ s number body small is clear open_next.
    ap (λ (x : Assembly). follows x (next_sequence_number number, body)) (c.skipping_in_order_changes_only_the_number-2.ensures s number small is)
    ∙ rw (clear, open_next) (eq-eqb (next_sequence_number number) (next_sequence_number number) refl)
