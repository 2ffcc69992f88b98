use Rattle.h264_payload.proofs.FactLemmas.{is_payload_format}
use Rattle.h264_payload.proofs.laws.meets_the_facts.Goals as goal

pub returns : goal.returns
returns c = is_payload_format
