use Rattle.h265_payload.proofs.LowestLemmas.{read_alike, detected_alike, taken_alike}
use Rattle.h265_payload.proofs.laws.lowest_headers_change_no_reading.Goals as goal

pub returns : goal.returns
returns c = record { read = read_alike; detected = detected_alike; taken = taken_alike }
