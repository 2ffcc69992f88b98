-- What an offer and its answer agree on.
use Rattle.std.proofs.Common.{◌≡◌, ℕ, ◌≤◌, min, Option, Some, None, refl, sym, subst, arith}
use Rattle.h26x_answers.specs.declared.answer.AnswerRules.{AnswerRules}
use Rattle.h26x_answers.specs.declared.answer.h264.ProfileLevelId.{ProfileLevelId}
use Rattle.h26x_answers.specs.declared.agreed.AgreedStream.{AgreedStream}
use Rattle.h26x_answers.specs.declared.direction.Direction.{Direction}
use Rattle.h26x_answers.specs.declared.direction.Direction.TheVariants.{SendRecv, SendOnly, RecvOnly}
use Rattle.h26x_fmtp.specs.Reading.{FormatParameters, value_at}
use Rattle.h26x_answers.specs.AnswersH264.{id_of, level_rank, highest_rank}
use Rattle.h26x_answers.specs.Agreed.{agreed, level_to_use, stream_at, stream_of_ids, h264_stream, h265_stream, h266_stream, IsSeenByBoth, IsWithinReceived, AreWithinReceived}
use Rattle.h26x_answers.proofs.AnswersH264Lemmas.{highest_at_least, use_within}

-- who sends alone and who receives alone see one level
one_way : (sender receiver : FormatParameters) (x y : Option ProfileLevelId) → stream_of_ids SendOnly sender receiver x y ≡ stream_of_ids RecvOnly sender receiver x y
one_way sender receiver None y = refl
one_way sender receiver (Some s) None = refl
one_way sender receiver (Some s) (Some r) = refl

pub h264_seen : (by : AnswerRules) → IsSeenByBoth (h264_stream by)
h264_seen by SendRecv own other = refl
h264_seen by SendOnly own other = one_way own other (id_of by own) (id_of by other)
h264_seen by RecvOnly own other = refl

pub h265_seen : IsSeenByBoth (λ _. h265_stream)
h265_seen SendRecv own other = refl
h265_seen SendOnly own other = refl
h265_seen RecvOnly own other = refl

pub h266_seen : IsSeenByBoth (λ _. h266_stream)
h266_seen SendRecv own other = refl
h266_seen SendOnly own other = refl
h266_seen RecvOnly own other = refl

within : (direction : Direction) (sender receiver : FormatParameters) (s r : ProfileLevelId) → level_to_use direction sender receiver s r ≤ highest_rank receiver r
within SendRecv sender receiver s r = use_within sender receiver s r
within SendOnly sender receiver s r = let high = highest_at_least r (value_at receiver.values 1) in omega (arith, high)
within RecvOnly sender receiver s r = let high = highest_at_least r (value_at receiver.values 1) in omega (arith, high)

within_of_ids : (by : AnswerRules) (direction : Direction) (sender receiver : FormatParameters) (x y : Option ProfileLevelId) → id_of by receiver ≡ y → (stream : AgreedStream) → stream_of_ids direction sender receiver x y ≡ Some stream → IsWithinReceived by receiver stream
within_of_ids by direction sender receiver None y of_r stream h = cc h
within_of_ids by direction sender receiver (Some s) None of_r stream h = cc h
within_of_ids by direction sender receiver (Some s) (Some r) of_r stream h =
    let is : stream_at sender receiver (level_to_use direction sender receiver s r) s ≡ stream = cc h in
    record {
      id = r;
      said = of_r;
      level = subst (λ (it : AgreedStream). it.level ≤ highest_rank receiver r) is (within direction sender receiver s r);
    }

pub h264_within : (by : AnswerRules) → AreWithinReceived by
h264_within by direction sender receiver stream h = within_of_ids by direction sender receiver (id_of by sender) (id_of by receiver) refl stream h
