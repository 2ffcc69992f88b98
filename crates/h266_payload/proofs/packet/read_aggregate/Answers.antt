use Rattle.std.proofs.Common.{◌∙◌, ap, None, rules}
use Rattle.h26x_depacketizer.specs.DepacketizerView.{taken_as}
use Rattle.h26x_depacketizer.proofs.ReceivingLemmas.{taken_refused}
use Rattle.h266_payload.specs.H266.{read}
use Rattle.h266_payload.specs.Packet.{aggregate_units, aggregate_outcome}
use Rattle.h266_payload.proofs.JudgedLemmas.{read_by_units, accepted_units}
use Rattle.h266_payload.proofs.packet.read_aggregate.Goals as goal

pub returns-in_err-size-clause-refused : goal.returns-in_err-size-clause-refused
returns-in_err-size-clause-refused c =
    let is = read_by_units c.args.has_donl c.args.packet.now c.in_ok-bytes.bytes.now c.requires.long c.requires.clear c.requires.nalu_type c.in_ok-bytes.ensures.there in
    let refused = taken_refused (read c.args.has_donl c.args.packet.now) _ (is ∙ ap taken_as (c.in_err-size.ensures.refused None)) in search rules

pub returns-clause-accepted : goal.returns-clause-accepted
returns-clause-accepted c =
    let bytes = c.in_ok-bytes.bytes.now in
    record {
      reading = read_by_units c.args.has_donl c.args.packet.now bytes c.requires.long c.requires.clear c.requires.nalu_type c.in_ok-bytes.ensures.there
          ∙ accepted_units (aggregate_units bytes) (aggregate_outcome bytes) c.in_ok-size.ensures.units c.in_ok-size.ensures.two;
      checked = c.in_ok-size.ensures.size;
    }
