use Rattle.h26x_rtp.proofs.FeedbackLemmas.{picture_loss_read, intra_request_read, receiver_report_read}
use Rattle.h26x_rtp.proofs.laws.written_feedback_is_read.Goals as goal

pub returns : goal.returns
returns c = record { picture_loss = picture_loss_read; intra_request = intra_request_read; receiver_report = receiver_report_read }
