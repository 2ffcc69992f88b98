use Rattle.std.proofs.Common.{◌∙◌, refl, ap, inl}
use Rattle.h26x_rtp_receiver.specs.RtpReception.{RtpReception}
use Rattle.h26x_handles.specs.RtpState.{RtpState}
use Rattle.h26x_handles.proofs.cases.datagrams_without_memory.Goals as goal

pub returns-clause-none : goal.returns-clause-none
returns-clause-none c = λ now it new lacks. lacks.none

pub returns-clause-stays : goal.returns-clause-stays
returns-clause-stays c = λ now it new lacks. (
  ap (λ (s : RtpState). s.codec) lacks.stands,
  ap (λ (s : RtpState). s.left) lacks.stands ∙ lacks.none,
  ap (λ (r : RtpReception). r.sources) lacks.taken.stands,
  ap (λ (r : RtpReception). r.keyframes) lacks.taken.stands,
)

pub returns-clause-kept : goal.returns-clause-kept
returns-clause-kept c = λ now codec r. record { none = refl; stands = refl; taken = record { given = inl refl; stands = refl } }
