use Rattle.std.proofs.Common.{◌≡◌, ◌∙◌, Ok, MatchResult, ap, subst, rules}
use Rattle.h26x_stream_parameters.specs.FromStream.{h265_of_units}
use Rattle.h26x_stream_parameters.specs.FromStreamViews.{slices_view, FailsStream}
use Rattle.h26x_stream_parameters.proofs.from_stream.h265_of_payload.Goals as goal

pub returns : goal.returns
returns c =
    let (all, are, same) = c.in_ok-list.ensures in
    let items : c.as_slice.result.now ≡ c.in_ok-list.list.items = search rules in
    let said = subst (λ units. MatchResult c.h265_of_units.result (λ it. h265_of_units units ≡ Ok it) (λ error. FailsStream error (h265_of_units units))) (ap slices_view items ∙ same) c.h265_of_units.ensures in
    (all, are, said)
