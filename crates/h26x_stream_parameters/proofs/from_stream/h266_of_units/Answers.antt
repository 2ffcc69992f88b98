use Rattle.std.proofs.Common.{◌≡◌, ◌∙◌, List, ℕ, Ok, length, ap, sym, rules}
use Rattle.h26x_fmtp.specs.Reading.{FormatParameters, none_of}
use Rattle.h26x_fmtp.specs.UnitTypes.{h266_vps, h266_sps, h266_pps}
use Rattle.h26x_sdp.specs.declared.h266.H266Parameter.TheVariants as p
use Rattle.h26x_sdp.specs.H266Rows as rows
use Rattle.h26x_stream_parameters.specs.FromStream.{with_sets, first_sets, h266_profile, h266_with_profile}
use Rattle.h26x_stream_parameters.specs.FromStreamViews.{slices_view}
use Rattle.h26x_stream_parameters.proofs.StreamLemmas.{h266_said}
use Rattle.h26x_stream_parameters.proofs.from_stream.h266_of_units.Goals as goal

pub returns : goal.returns
returns c =
    let units : List (List ℕ) = slices_view c.args.units.now in
    let profile : List ℕ = c.in_ok-profile.profile.items in
    let read : h266_profile units ≡ Ok profile = search rules in
    let none : c.in_ok-it.it ≡ none_of (length rows.rows) = search rules in
    let put : c.h266_put_profile.new.it ≡ h266_with_profile profile c.in_ok-it.it = search rules in
    let first : c.put_sets.new.it ≡ with_sets (rows.row_place p.SpropVps) (first_sets h266_vps units) c.h266_put_profile.new.it = search rules in
    let second : c.put_sets-2.new.it ≡ with_sets (rows.row_place p.SpropSps) (first_sets h266_sps units) c.put_sets.new.it = search rules in
    let third : c.put_sets-3.new.it ≡ with_sets (rows.row_place p.SpropPps) (first_sets h266_pps units) c.put_sets-2.new.it = search rules in
    h266_said units profile read ∙ ap (λ (it : FormatParameters). Ok it) (sym (third ∙ ap (with_sets (rows.row_place p.SpropPps) (first_sets h266_pps units)) (second ∙ ap (with_sets (rows.row_place p.SpropSps) (first_sets h266_sps units)) (first ∙ ap (with_sets (rows.row_place p.SpropVps) (first_sets h266_vps units)) (put ∙ ap (h266_with_profile profile) none)))))
