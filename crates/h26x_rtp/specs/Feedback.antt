-- What a receiver tells a sender by RTCP: reports (RFC 3550, 6.4.2), packets and pictures that are
-- missing (RFC 4585, 6.2.1 and 6.3.1), and that a keyframe is wanted (RFC 5104, 4.3.1).
use Rattle.std.specs.Prelude.{◌≡◌, ℕ, ◌+◌, ◌-◌, ◌*◌, ◌/◌, ◌%◌, ◌^◌, ◌<◌, ◌==◌, nat_lt, min, Bool, ◌&&◌, if◌then◌else◌, List, [], ◌∷◌, ◌++◌, length, slice_index, Option, Some, None, ℤ, pos, negsuc}
use Rattle.h26x_core.specs.Word.{word, long_word}
use Rattle.h26x_rtp.specs.Words.{word_at, long_at}
use Rattle.h26x_rtp.specs.declared.report.ReportBlock.{ReportBlock}
use Rattle.h26x_rtp.specs.declared.feedback.PictureLoss.{PictureLoss}
use Rattle.h26x_rtp.specs.declared.feedback.FullIntraRequest.{FullIntraRequest}
use Rattle.h26x_rtp.specs.declared.feedback.ReceiverReport.{ReceiverReport}

-- the first word of an RTCP packet: version 2 without padding, five bits of a count or a format, the
-- packet type, and how many words stand behind it (RFC 3550, 6.4.1)
abbrev pub rtcp_word : ℕ → ℕ → ℕ → List ℕ
rtcp_word format packet_type words = (128 + format) ∷ packet_type ∷ word words

-- whether bytes are an RTCP packet of this first word
abbrev pub is_rtcp_of : ℕ → ℕ → ℕ → List ℕ → Bool
is_rtcp_of format packet_type words bytes = (length bytes == 4 * words + 4)
    && ((slice_index bytes 0 == 128 + format)
    && ((slice_index bytes 1 == packet_type) && (word_at bytes 2 == words)))

-- a picture loss indication: who sends it, and of which source (RFC 4585, 6.3.1)
abbrev pub picture_loss_bytes : PictureLoss → List ℕ
picture_loss_bytes it = rtcp_word 1 206 2 ++ (long_word it.sender ++ long_word it.media)

abbrev pub picture_loss_of : List ℕ → Option PictureLoss
picture_loss_of bytes =
    if is_rtcp_of 1 206 2 bytes then Some (record {
      sender = long_at bytes 4;
      media = long_at bytes 8;
    })
    else None

-- a full intra request of one source: who sends it, no source, the source, and a number that grows with
-- each request (RFC 5104, 4.3.1)
abbrev pub intra_request_bytes : FullIntraRequest → List ℕ
intra_request_bytes it = rtcp_word 4 206 4 ++ (long_word it.sender ++ (long_word 0
    ++ (long_word it.media ++ (it.number ∷ 0 ∷ 0 ∷ 0 ∷ []))))

-- what stands in the places that are reserved isn't looked at
abbrev pub intra_request_of : List ℕ → Option FullIntraRequest
intra_request_of bytes =
    if is_rtcp_of 4 206 4 bytes then Some (record {
      sender = long_at bytes 4;
      media = long_at bytes 12;
      number = slice_index bytes 16;
    })
    else None

-- a number of packets lost in 24 bits, below zero from the highest number down (RFC 3550, 6.4.1)
abbrev pub lost_word : ℤ → ℕ
lost_word (pos n) = min n 8388607
lost_word (negsuc n) = 16777215 - min n 8388607

-- and the number of packets that 24 bits are
abbrev pub lost_in : ℕ → ℤ
lost_in n = if nat_lt n 8388608 then pos n else negsuc (16777215 - n)

-- three bytes, the high one first
abbrev pub short_word : ℕ → List ℕ
short_word n = n / 65536 % 256 ∷ n / 256 % 256 ∷ n % 256 ∷ []

-- a report block (RFC 3550, 6.4.1)
abbrev pub report_block_bytes : ReportBlock → List ℕ
report_block_bytes it = long_word it.ssrc ++ (it.fraction_lost ∷ short_word (lost_word it.lost)
    ++ (long_word it.highest ++ (long_word it.jitter
    ++ (long_word it.last_sender_report ++ long_word it.delay))))

abbrev pub report_block_in : List ℕ → ReportBlock
report_block_in bytes = record {
  ssrc = long_at bytes 8;
  fraction_lost = slice_index bytes 12;
  lost = lost_in (long_at bytes 12 % 16777216);
  highest = long_at bytes 16;
  jitter = long_at bytes 20;
  last_sender_report = long_at bytes 24;
  delay = long_at bytes 28;
}

-- what stands before the block of a receiver report of one source (RFC 3550, 6.4.2)
abbrev pub receiver_report_head : ℕ → List ℕ
receiver_report_head sender = rtcp_word 1 201 7 ++ long_word sender

-- the report
abbrev pub receiver_report_bytes : ReceiverReport → List ℕ
receiver_report_bytes it = receiver_report_head it.sender ++ report_block_bytes it.block

abbrev pub receiver_report_of : List ℕ → Option ReceiverReport
receiver_report_of bytes =
    if is_rtcp_of 1 201 7 bytes then Some (record {
      sender = long_at bytes 4;
      block = report_block_in bytes;
    })
    else None

-- what has a place in each
pub record PictureLossFits (it : PictureLoss) : Type 0 where
  pub from : it.sender < 2 ^ 32
  pub of_media : it.media < 2 ^ 32

pub record IntraRequestFits (it : FullIntraRequest) : Type 0 where
  pub from : it.sender < 2 ^ 32
  pub of_media : it.media < 2 ^ 32
  pub counted : it.number < 256

-- what is lost has 24 bits
abbrev pub LostFits : ℤ → Type 0
LostFits (pos n) = n < 8388608
LostFits (negsuc n) = n < 8388608

pub record ReportBlockFits (it : ReportBlock) : Type 0 where
  pub of_source : it.ssrc < 2 ^ 32
  pub part : it.fraction_lost < 256
  pub number : LostFits it.lost
  pub extended : it.highest < 2 ^ 32
  pub mean : it.jitter < 2 ^ 32
  pub report : it.last_sender_report < 2 ^ 32
  pub since : it.delay < 2 ^ 32

pub record ReceiverReportFits (it : ReceiverReport) : Type 0 where
  pub from : it.sender < 2 ^ 32
  pub fits : ReportBlockFits it.block
