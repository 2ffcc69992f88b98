-- What an answer of multicast keeps: the level (RFC 6184, section 8.2.2; RFC 7798, section 7.2.2; RFC
-- 9328, section 7.3.2).
use Rattle.std.specs.Prelude.{◌≡◌, ℕ, Some}
use Rattle.h26x_answers.specs.declared.answer.AnswerRules.{AnswerRules}
use Rattle.h26x_fmtp.specs.Reading.{FormatParameters, value_at}
use Rattle.h26x_answers.specs.Answers.{Rules, answer_by}
use Rattle.h26x_answers.specs.AnswersH264 as h264
use Rattle.h26x_answers.specs.AnswersH265 as h265
use Rattle.h26x_answers.specs.AnswersH266 as h266

abbrev pub h264_in_multicast : AnswerRules → Rules
h264_in_multicast by = record (h264.rules by) { terms = h264.multicast_terms by }

abbrev pub h265_in_multicast : AnswerRules → Rules
h265_in_multicast by = record (h265.rules by) { terms = h265.multicast_terms by }

abbrev pub h266_in_multicast : Rules
h266_in_multicast = record h266.rules { terms = h266.multicast_terms }

-- the row of the level says in the answer what it says in the offer
abbrev pub KeepsLevel : ℕ → FormatParameters → FormatParameters → Type 0
KeepsLevel row offered answer = value_at answer.values row ≡ value_at offered.values row

-- two formats have the same answer by unicast
abbrev pub IsOfUnicast : Rules → FormatParameters → FormatParameters → FormatParameters → Type 0
IsOfUnicast rules offered own answer = answer_by rules offered own ≡ Some answer
