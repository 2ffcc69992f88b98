use Rattle.std.proofs.Common.{◌≡◌, ◌∙◌, List, ℕ, Ok, length, ap, sym, rules}
use Rattle.h26x_fmtp.specs.Reading.{FormatParameters, none_of}
use Rattle.h26x_fmtp.specs.UnitTypes.{h264_sets}
use Rattle.h26x_sdp.specs.declared.h264.H264Parameter.TheVariants as p
use Rattle.h26x_sdp.specs.H264Rows as rows
use Rattle.h26x_stream_parameters.specs.FromStream.{with_sets, first_sets, h264_profile, h264_with_profile}
use Rattle.h26x_stream_parameters.specs.FromStreamViews.{slices_view}
use Rattle.h26x_stream_parameters.proofs.StreamLemmas.{h264_said}
use Rattle.h26x_stream_parameters.proofs.from_stream.h264_of_units.Goals as goal

pub returns : goal.returns
returns c =
    let units : List (List ℕ) = slices_view c.args.units.now in
    let profile : List ℕ = c.in_ok-profile.profile.items in
    let read : h264_profile units ≡ Ok profile = search rules in
    let none : c.in_ok-it.it ≡ none_of (length rows.rows) = search rules in
    let put : c.h264_put_profile.new.it ≡ h264_with_profile profile c.in_ok-it.it = search rules in
    let first : c.put_sets.new.it ≡ with_sets (rows.row_place p.SpropParameterSets) (first_sets h264_sets units) c.h264_put_profile.new.it = search rules in
    h264_said units profile read ∙ ap (λ (it : FormatParameters). Ok it) (sym (first ∙ ap (with_sets (rows.row_place p.SpropParameterSets) (first_sets h264_sets units)) (put ∙ ap (h264_with_profile profile) none)))
