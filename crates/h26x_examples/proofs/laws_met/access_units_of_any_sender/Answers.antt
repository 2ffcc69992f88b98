use Rattle.std.proofs.Common.{sym, subst, arith}
use Rattle.h26x_model.specs.Payload.Facts.{IsPayloadFormat}
use Rattle.std.specs.Prelude.{false}
use Rattle.h26x_examples.proofs.laws_met.access_units_of_any_sender.Goals as goal

pub returns : goal.returns
returns c = λ codec has_donl most limit w sent first places packets answers receives start none_expected each all stream apart.
    c.any_access_units_come_through_a_network.ensures 64 most limit w (omega arith) (omega arith)
    (subst IsPayloadFormat (sym receives) (c.formats_meet_the_facts.ensures codec has_donl)) start packets answers each
    sent first false places none_expected stream (c.places_that_come_are_near.ensures 64 places answers (omega arith) stream.near all) apart
