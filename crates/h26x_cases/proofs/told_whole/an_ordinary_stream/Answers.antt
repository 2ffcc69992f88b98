use Rattle.std.proofs.Common.{Some, refl}
use Rattle.h26x_cases.proofs.ToldWholeLemmas.{r, sent, config, calls, gave_two, are, is_sender, of_sender, first_sent, first_taken, first_written, second_sent, second_taken, second_written}
use Rattle.h26x_cases.proofs.told_whole.an_ordinary_stream.Goals as goal

pub returns : goal.returns
returns c =
    let format = c.meets_the_facts.ensures in (
      config,
      calls,
      gave_two,
      are,
      is_sender,
      of_sender,
      refl,
      refl,
      first_sent,
      first_taken,
      first_written,
      c.what_was_sent_and_taken_is_told_whole.ensures config r calls gave_two sent 65534 0 3 (Some 4) are format is_sender of_sender first_sent first_taken first_written refl,
      second_sent,
      second_taken,
      second_written,
      c.access_units_without_loss_are_told_whole.ensures config r calls gave_two sent 65534 3 1 (Some 4) are format is_sender of_sender second_sent second_taken second_written refl,
    )
