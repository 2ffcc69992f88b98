use Rattle.std.proofs.Common.{◌∙◌, ◌++◌, ap, sym, subst, ℕ, List}
use Rattle.h26x_core.specs.ByteStream.{byte_stream}
use Rattle.h26x_model.specs.Payload.Facts.{IsPayloadFormat}
use Rattle.h26x_model.specs.Receive.DepacketizerState.{Depacketization}
use Rattle.h26x_examples.proofs.model_laws_met.headers_of_aggregates.Goals as goal

pub returns-clause-written : goal.returns-clause-written
returns-clause-written c = λ has_donl s w calls sends receives is are carried.
    ap (λ (it : Depacketization). it.out) (c.lowest_headers_change_no_reading.ensures.taken has_donl s w calls sends receives is are carried)
    ∙ ap (λ (units : List (List ℕ)). w.out ++ byte_stream w.state.is_avc units)
    (c.what_calls_send_is_carried.ensures s w calls (subst IsPayloadFormat (sym sends) (c.meets_the_facts.ensures has_donl)) is are (receives ∙ sym sends) carried).received

pub returns-clause-behind : goal.returns-clause-behind
returns-clause-behind c = λ has_donl packet. (c.lowest_headers_are_of_the_units.ensures has_donl packet).behind

pub returns-clause-of_h266 : goal.returns-clause-of_h266
returns-clause-of_h266 c = c.aggregates_have_the_header_of_their_sets.ensures
