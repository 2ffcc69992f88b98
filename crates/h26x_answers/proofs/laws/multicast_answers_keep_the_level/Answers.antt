use Rattle.std.proofs.Common.{refl}
use Rattle.h26x_answers.specs.AnswersH265 as h265
use Rattle.h26x_answers.specs.AnswersH266 as h266
use Rattle.h26x_answers.specs.Multicast.{h264_in_multicast, h265_in_multicast, h266_in_multicast, KeepsLevel}
use Rattle.h26x_answers.proofs.HeardLemmas.{AreOneTable, hears, h264_unsent, h265_unsent, h266_unsent}
use Rattle.h26x_answers.proofs.DirectionLemmas.{in_each_direction}
use Rattle.h26x_answers.proofs.MulticastLemmas.{h264_kept_level, h265_kept_level, h266_kept_level, h264_of_unicast, h265_of_unicast, h266_of_unicast}
use Rattle.h26x_answers.proofs.laws.multicast_answers_keep_the_level.Goals as goal

pub returns : goal.returns
returns c = record {
  h264 = λ by. let table : AreOneTable (h264_in_multicast by) = record { roles = refl; usages = refl } in
      in_each_direction (h264_in_multicast by) table (hears (h264_in_multicast by) table h264_unsent) (λ offered _ answer. KeepsLevel 0 offered answer) (h264_kept_level by);
  h265 = λ by. let table : AreOneTable (h265_in_multicast by) = record { roles = refl; usages = refl } in
      in_each_direction (h265_in_multicast by) table (hears (h265_in_multicast by) table h265_unsent) (λ offered _ answer. KeepsLevel h265.by.level offered answer) (h265_kept_level by);
  h266 = let table : AreOneTable h266_in_multicast = record { roles = refl; usages = refl } in
      in_each_direction h266_in_multicast table (hears h266_in_multicast table h266_unsent) (λ offered _ answer. KeepsLevel h266.by.level offered answer) h266_kept_level;
  h264_unicast = h264_of_unicast;
  h265_unicast = h265_of_unicast;
  h266_unicast = h266_of_unicast;
}
