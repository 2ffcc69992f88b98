-- Whose units may be sent in another order than decoded.
use Rattle.std.proofs.Common.{◌≡◌, ℕ, true, Option, Some, None, ap}
use Rattle.std.proofs.lemmas.Bool.{eqb-true}
use Rattle.h26x_answers.specs.declared.answer.AnswerRules.{AnswerRules}
use Rattle.h26x_sdp.specs.declared.h264.H264Parameter.TheVariants as h264_parameter
use Rattle.h26x_sdp.specs.declared.h265.H265Parameter.TheVariants as h265_parameter
use Rattle.h26x_sdp.specs.declared.h266.H266Parameter.TheVariants as h266_parameter
use Rattle.h26x_sdp.specs.H265Rows as h265_rows
use Rattle.h26x_sdp.specs.H266Rows as h266_rows
use Rattle.h26x_answers.specs.Answers.{same_number}
use Rattle.h26x_answers.specs.AnswerLaws.{SaysOrder}
use Rattle.h26x_answers.specs.AnswersH264 as h264
use Rattle.h26x_answers.specs.AnswersH265 as h265
use Rattle.h26x_answers.specs.AnswersH266 as h266
use Rattle.h26x_answers.specs.ConfigurationsH264 as c264
use Rattle.h26x_answers.specs.ConfigurationsH265 as c265
use Rattle.h26x_answers.specs.ConfigurationsH266 as c266
use Rattle.h26x_answers.proofs.LevelsSaidLemmas.{is_positive_said, said_positive}

two_from : (n : Option ℕ) → same_number n (Some 2) ≡ true → n ≡ Some 2
two_from None h = cc h
two_from (Some n) h = ap (λ (k : ℕ). Some k) (eqb-true n 2 h)

pub h264_order : (by : AnswerRules) → SaysOrder (h264.rules by) c264.Reorders
h264_order by it = (λ h. two_from (h264.number it h264_parameter.PacketizationMode) h, λ h. ap (λ n. same_number n (Some 2)) h)

pub h265_order : (by : AnswerRules) → SaysOrder (h265.rules by) c265.Reorders
h265_order by it =
    let row = h265_rows.row_place h265_parameter.SpropMaxDonDiff in
    (λ h. is_positive_said h265_rows.rows it row h, λ h. said_positive h265_rows.rows it row h)

pub h266_order : SaysOrder h266.rules c266.Reorders
h266_order it =
    let row = h266_rows.row_place h266_parameter.SpropMaxDonDiff in
    (λ h. is_positive_said h266_rows.rows it row h, λ h. said_positive h266_rows.rows it row h)
