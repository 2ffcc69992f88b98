-- What the calls on RTCP and on a source's statistics answer.
use Rattle.std.specs.Prelude.{◌≡◌, ℕ, ◌-◌, Bool, true, false, if◌then◌else◌, List, length, Option, Some, None, is_some, Result, Ok, Err}
use Rattle.std.specs.List.{flat_map}
use Rattle.h26x_codes.specs.Codes.{ok, no_room}
use Rattle.h26x_rtp.specs.Memory.{filled_from}
use Rattle.h26x_rtp.specs.Nack.{NackParts, pair_numbers}
use Rattle.h26x_rtp.specs.Writing.{IsBytesWritten}
use Rattle.h26x_rtp.specs.declared.error.RtpWriteError.{RtpWriteError}
use Rattle.h26x_rtp.specs.declared.error.RtpWriteError.TheVariants.{NoRoom}
use Rattle.h26x_rtp.specs.declared.nack.NackWritten.{NackWritten}
use Rattle.h26x_rtp.specs.declared.feedback.PictureLoss.{PictureLoss}
use Rattle.h26x_rtp.specs.declared.feedback.FullIntraRequest.{FullIntraRequest}
use Rattle.h26x_rtp.specs.declared.feedback.ReceiverReport.{ReceiverReport}
use Rattle.h26x_rtp.specs.declared.report.ReportBlock.{ReportBlock}
use Rattle.h26x_rtp.specs.declared.statistics.RtpStatistics.{RtpStatistics}
use Rattle.h26x_c.specs.Rtp.{rtp_write_code, written_answer}
use Rattle.h26x_c.specs.declared.rtcp.Report.{Report}
use Rattle.h26x_c.specs.declared.rtcp.Statistics.{Statistics}

-- bytes are written to the front of memory where there is room, and the answer says how many
abbrev pub IsWrittenAnswer : List ℕ → List ℕ → List ℕ → ℕ → ℕ → ℕ → Type 0
IsWrittenAnswer bytes to new_to old_len code len = (answer : Result ℕ RtpWriteError)
    × IsBytesWritten bytes to new_to answer × ((code, len) ≡ written_answer answer old_len)

-- a report block as C has it, and as it is
abbrev pub report_of : ReportBlock → Report
report_of it = record {
  ssrc = it.ssrc;
  lost = it.lost;
  highest = it.highest;
  jitter = it.jitter;
  last_sender_report = it.last_sender_report;
  delay = it.delay;
  fraction_lost = it.fraction_lost;
}

abbrev pub block_of : Report → ReportBlock
block_of it = record {
  ssrc = it.ssrc;
  fraction_lost = it.fraction_lost;
  lost = it.lost;
  highest = it.highest;
  jitter = it.jitter;
  last_sender_report = it.last_sender_report;
  delay = it.delay;
}

-- what reading a picture loss indication answers: whether it is one, who sends it, and of which source
abbrev pub picture_loss_answer : Option PictureLoss → ℕ × ℕ → Bool × (ℕ × ℕ)
picture_loss_answer None old = (false, old)
picture_loss_answer (Some it) old = (true, (it.sender, it.media))

-- a full intra request: also its number
abbrev pub intra_request_answer : Option FullIntraRequest → ℕ × (ℕ × ℕ) → Bool × (ℕ × (ℕ × ℕ))
intra_request_answer None old = (false, old)
intra_request_answer (Some it) old = (true, (it.sender, (it.media, it.number)))

-- a receiver report
abbrev pub receiver_report_answer : Option ReceiverReport → ℕ × Report → Bool × (ℕ × Report)
receiver_report_answer None old = (false, old)
receiver_report_answer (Some it) old = (true, (it.sender, report_of it.block))

-- what is told of a generic NACK: who sends it, of which source, and which numbers it asks for
pub record NackTold : Type 0 where
  pub sender : ℕ
  pub media : ℕ
  pub numbers : List ℕ
  pub count : ℕ

-- what reading one answers
abbrev pub nack_answer : Option NackParts → NackTold → Bool × NackTold
nack_answer None old = (false, old)
nack_answer (Some it) old = (
  true,
  record {
    sender = it.sender;
    media = it.media;
    numbers = filled_from 0 (flat_map pair_numbers it.pairs) old.numbers;
    count = length (flat_map pair_numbers it.pairs);
  },
)

-- what writing one answers: how many bytes it has, or would have with one pair, and how many numbers it
-- asks for
abbrev pub nack_written_answer : Result NackWritten RtpWriteError → ℕ × ℕ → ℕ × (ℕ × ℕ)
nack_written_answer (Ok it) old = (ok, (it.size, it.count))
nack_written_answer (Err (NoRoom size)) old = (no_room, (size, old.1))
nack_written_answer (Err e) old = (rtp_write_code e, old)

-- where the next packet of a compound ends, from a place on
abbrev pub next_rtcp_answer : ℕ → Option (List ℕ × List ℕ) → ℕ → Bool × ℕ
next_rtcp_answer size None old = (false, old)
next_rtcp_answer size (Some it) old = (true, size - length it.1)

-- a number that is there, and the number of one that may be there; 0 where it isn't
abbrev pub number_where : Bool → ℕ → Option ℕ
number_where is_there number = if is_there then Some number else None

abbrev pub number_or_0 : Option ℕ → ℕ
number_or_0 None = 0
number_or_0 (Some number) = number

-- what was counted, by what C holds of it
abbrev pub statistics_in : Statistics → RtpStatistics
statistics_in it = record {
  base = it.base;
  highest = it.highest;
  after_jump = number_where it.has_jumped it.after_jump;
  expected = it.expected;
  received = it.received;
  bytes = it.bytes;
  recovered = it.recovered;
  transit = number_where it.has_transit it.transit;
  jitter = it.jitter;
  expected_before = it.expected_before;
  received_before = it.received_before;
}

-- and what C holds of what was counted
abbrev pub statistics_told : RtpStatistics → Statistics
statistics_told it = record {
  expected = it.expected;
  received = it.received;
  bytes = it.bytes;
  recovered = it.recovered;
  jitter = it.jitter;
  expected_before = it.expected_before;
  received_before = it.received_before;
  transit = number_or_0 it.transit;
  base = it.base;
  highest = it.highest;
  after_jump = number_or_0 it.after_jump;
  has_transit = is_some it.transit;
  has_jumped = is_some it.after_jump;
}
