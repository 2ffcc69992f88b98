use Rattle.std.proofs.Common.{Some, ◌<◌, length, sym, ap, ◌∙◌, subst}
use Rattle.std.proofs.lemmas.List.{length-map}
use Rattle.h26x_fmtp.specs.Tables.{row_of}
use Rattle.h26x_fmtp.specs.TableViews.{row_view}
use Rattle.h26x_sdp_handles.proofs.ParameterLemmas.{at_place}
use Rattle.h26x_sdp_handles.proofs.sdp_parameter.parameter_of.Goals as goal

pub returns : goal.returns
returns g c =
    let place = c.in_ok-place.place in
    let within = c.in_ok-place.ensures.within in
    let many = sym (length-map c.rows.result.now row_view) ∙ ap length c.rows.ensures in
    let here = at_place g.P.CodecParameter.place (length g.P.CodecParameter.rows) c.all.result.now place c.index-all-place.result c.all.ensures.places
    (subst (λ n. place < n) many within) in
    ap (λ p. Some (p, c.in_ok-place.kind)) (ap g.P.CodecParameter.place c.index-all-place.is ∙ here) ∙ c.in_ok-place.ensures.row
    ∙ ap (λ rows. row_of rows c.args.name.now) c.rows.ensures
