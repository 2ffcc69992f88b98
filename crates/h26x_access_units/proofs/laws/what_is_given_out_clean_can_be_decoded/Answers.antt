use Rattle.h26x_access_units.specs.Reception.{reception_answer}
use Rattle.h26x_access_units.proofs.GivenLemmas.{push_given, next_given, begun_given, settings_given}
use Rattle.h26x_access_units.proofs.laws.what_is_given_out_clean_can_be_decoded.Goals as goal

pub returns-clause-push : goal.returns-clause-push
returns-clause-push c = λ now s new p units pushed given. push_given now units s new p (reception_answer s p) pushed given

pub returns-clause-next : goal.returns-clause-next
returns-clause-next c = λ now s new unit units next given. next_given now units s new unit next given

pub returns-clause-settings : goal.returns-clause-settings
returns-clause-settings c = λ config s units same given. settings_given config s units same given

pub returns-clause-begin : goal.returns-clause-begin
returns-clause-begin c = λ number s units given. begun_given number units s given
