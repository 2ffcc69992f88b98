-- What is written of reports and requests is read.
use Rattle.std.proofs.Common.{◌≡◌, ℕ, ◌+◌, ◌-◌, ◌*◌, ◌/◌, ◌%◌, ◌<◌, ◌≤◌, true, false, Some, pos, negsuc, ℤ, min, refl, ap, arith, ◌∙◌}
use Rattle.std.specs.Prelude.{nat_lt}
use Rattle.std.proofs.lemmas.Bool.Decides.{nat_tests}
use Rattle.h26x_rtp.specs.declared.feedback.PictureLoss.{PictureLoss}
use Rattle.h26x_rtp.specs.declared.feedback.FullIntraRequest.{FullIntraRequest}
use Rattle.h26x_rtp.specs.declared.feedback.ReceiverReport.{ReceiverReport}
use Rattle.h26x_rtp.specs.Feedback.{PictureLossFits, picture_loss_bytes, picture_loss_of, IntraRequestFits, intra_request_bytes, intra_request_of, LostFits, ReceiverReportFits, receiver_report_bytes, receiver_report_of, lost_in, lost_word}
use Rattle.h26x_rtp.proofs.WordLemmas.{long_again}

pub picture_loss_read : (it : PictureLoss) → PictureLossFits it → picture_loss_of (picture_loss_bytes it) ≡ Some it
picture_loss_read it fits =
    let a = long_again it.sender fits.from in
    let b = long_again it.media fits.of_media in
    rw (a, b) refl

pub intra_request_read : (it : FullIntraRequest) → IntraRequestFits it → intra_request_of (intra_request_bytes it) ≡ Some it
intra_request_read it fits =
    let a = long_again it.sender fits.from in
    let b = long_again it.media fits.of_media in
    rw (a, b) refl

-- a number in 24 bits, read back behind a byte
lost_again : (lost : ℤ) → LostFits lost → lost_in (lost_word lost) ≡ lost
lost_again (pos n) fits =
    let m : min n 8388607 ≡ n = omega (arith, fits) in
    let t : nat_lt n 8388608 ≡ true = grind (arith, nat_tests, fits) in
    rw (m, t) refl
lost_again (negsuc n) fits =
    let m : min n 8388607 ≡ n = omega (arith, fits) in
    let f : nat_lt (16777215 - n) 8388608 ≡ false = let h : 8388608 ≤ 16777215 - n = omega (arith, fits) in grind (arith, nat_tests) in
    let e : 16777215 - (16777215 - n) ≡ n = omega (arith, fits) in
    rw (m, f, e) refl

lost_low : (lost : ℤ) → LostFits lost → lost_word lost < 16777216
lost_low (pos n) fits = omega (arith, fits)
lost_low (negsuc n) fits = omega (arith, fits)

word_behind : (first n : ℕ) → first < 256 → n < 16777216 →
    ((first * 256 + n / 65536 % 256) * 65536 + (n / 256 % 256 * 256 + n % 256)) % 16777216 ≡ n
word_behind first n a b = omega arith

pub receiver_report_read : (it : ReceiverReport) → ReceiverReportFits it → receiver_report_of (receiver_report_bytes it) ≡ Some it
receiver_report_read it fits =
    let block = it.block in
    let own = fits.fits in
    let a = long_again it.sender fits.from in
    let b = long_again block.ssrc own.of_source in
    let c = word_behind block.fraction_lost (lost_word block.lost) own.part (lost_low block.lost own.number) in
    let d = lost_again block.lost own.number in
    let e = long_again block.highest own.extended in
    let f = long_again block.jitter own.mean in
    let g = long_again block.last_sender_report own.report in
    let h = long_again block.delay own.since in
    rw (a, b, c, d, e, f, g, h) refl
