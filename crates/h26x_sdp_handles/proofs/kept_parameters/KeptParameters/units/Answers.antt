use Rattle.std.proofs.Common.{◌≡◌, ◌<◌, ◌∙◌, true, length, get_or, Some, None, Ok, Err, sym, ap, subst, arith, rules}
use Rattle.std.proofs.lemmas.List.{length-map}
use Rattle.h26x_fmtp.specs.Tables.{row_of}
use Rattle.h26x_fmtp.specs.TableViews.{row_view}
use Rattle.h26x_fmtp.specs.Units.{sprop_units_at}
use Rattle.h26x_fmtp.specs.UnitsViews.{units_view}
use Rattle.h26x_sdp_handles.specs.KeptUnits.{kept_view}
use Rattle.h26x_sdp_handles.specs.Sdp.{is_units, named_units}
use Rattle.h26x_sdp_handles.proofs.KeptUnitsLemmas.{kept_many, kept_here, named_at}
use Rattle.h26x_sdp_handles.proofs.kept_parameters.KeptParameters.units.Goals as goal

pub kept_at-requires : goal.kept_at-requires
kept_at-requires g c =
    let many : length c.rows.result.now ≡ length g.P.CodecParameter.rows = sym (length-map c.rows.result.now row_view) ∙ ap length c.rows.ensures in
    let long = kept_many (sprop_units_at g.P.CodecParameter.rows c.self.inside.parameters) (length g.P.CodecParameter.rows) c.self.inside.units.items c.self.invariant in
    let within : c.in-Some.place < length c.self.inside.units.items = omega (arith, many, long, c.in-Some.ensures.within) in
    let items : c.as_slice.result.now ≡ c.self.inside.units.items = search rules in
    subst (λ l. c.in-Some.place < length l) (sym items) within

pub returns-in-Some-Ok : goal.returns-in-Some-Ok
returns-in-Some-Ok g c =
    let many : length c.rows.result.now ≡ length g.P.CodecParameter.rows = sym (length-map c.rows.result.now row_view) ∙ ap length c.rows.ensures in
    let within : c.in-Some.place < length g.P.CodecParameter.rows = omega (arith, many, c.in-Some.ensures.within) in
    let items : c.as_slice.result.now ≡ c.self.inside.units.items = search rules in
    let at : c.kept_at.result.now ≡ get_or c.self.inside.units.items c.in-Some.place c.kept_at.result.now = c.kept_at.ensures ∙ ap (λ l. get_or l c.in-Some.place c.kept_at.result.now) items in
    let here = kept_here (sprop_units_at g.P.CodecParameter.rows c.self.inside.parameters) (length g.P.CodecParameter.rows) c.self.inside.units.items c.in-Some.place c.kept_at.result.now c.self.invariant within in
    let found : row_of g.P.CodecParameter.rows c.args.name.now ≡ Some (c.in-Some.place, c.in-Some.kind) = sym (c.in-Some.ensures.row ∙ ap (λ rows. row_of rows c.args.name.now) c.rows.ensures) in
    let is : is_units c.in-Some.kind ≡ true = search rules in
    let kept : kept_view c.kept_at.result.now ≡ Some (Ok (units_view c.in-Some-Ok.units.items)) = search rules in
    let out : c.as_slice-in-Some-Ok.result.now ≡ c.in-Some-Ok.units.items = search rules in
    let view : c.args.self.now ≡ c.self.inside.parameters = search rules in
    ap (λ it. named_units g.P.CodecParameter.rows it c.args.name.now) view
    ∙ named_at g.P.CodecParameter.rows c.self.inside.parameters c.args.name.now c.in-Some.place c.in-Some.kind (Some (Ok (units_view c.in-Some-Ok.units.items))) found is (sym here ∙ ap kept_view (sym at) ∙ kept)
    ∙ ap (λ l. Ok (units_view l)) (sym out)

pub returns-in-Some-Err : goal.returns-in-Some-Err
returns-in-Some-Err g c =
    let many : length c.rows.result.now ≡ length g.P.CodecParameter.rows = sym (length-map c.rows.result.now row_view) ∙ ap length c.rows.ensures in
    let within : c.in-Some.place < length g.P.CodecParameter.rows = omega (arith, many, c.in-Some.ensures.within) in
    let items : c.as_slice.result.now ≡ c.self.inside.units.items = search rules in
    let at : c.kept_at.result.now ≡ get_or c.self.inside.units.items c.in-Some.place c.kept_at.result.now = c.kept_at.ensures ∙ ap (λ l. get_or l c.in-Some.place c.kept_at.result.now) items in
    let here = kept_here (sprop_units_at g.P.CodecParameter.rows c.self.inside.parameters) (length g.P.CodecParameter.rows) c.self.inside.units.items c.in-Some.place c.kept_at.result.now c.self.invariant within in
    let found : row_of g.P.CodecParameter.rows c.args.name.now ≡ Some (c.in-Some.place, c.in-Some.kind) = sym (c.in-Some.ensures.row ∙ ap (λ rows. row_of rows c.args.name.now) c.rows.ensures) in
    let is : is_units c.in-Some.kind ≡ true = search rules in
    let kept : kept_view c.kept_at.result.now ≡ Some (Err c.in-Some-Err.error) = search rules in
    let view : c.args.self.now ≡ c.self.inside.parameters = search rules in
    ap (λ it. named_units g.P.CodecParameter.rows it c.args.name.now) view
    ∙ named_at g.P.CodecParameter.rows c.self.inside.parameters c.args.name.now c.in-Some.place c.in-Some.kind (Some (Err c.in-Some-Err.error)) found is (sym here ∙ ap kept_view (sym at) ∙ kept)
    ∙ ap Err (sym c.of_units.ensures)

pub returns-in-None : goal.returns-in-None
returns-in-None g c =
    let many : length c.rows.result.now ≡ length g.P.CodecParameter.rows = sym (length-map c.rows.result.now row_view) ∙ ap length c.rows.ensures in
    let within : c.in-Some.place < length g.P.CodecParameter.rows = omega (arith, many, c.in-Some.ensures.within) in
    let items : c.as_slice.result.now ≡ c.self.inside.units.items = search rules in
    let at : c.kept_at.result.now ≡ get_or c.self.inside.units.items c.in-Some.place c.kept_at.result.now = c.kept_at.ensures ∙ ap (λ l. get_or l c.in-Some.place c.kept_at.result.now) items in
    let here = kept_here (sprop_units_at g.P.CodecParameter.rows c.self.inside.parameters) (length g.P.CodecParameter.rows) c.self.inside.units.items c.in-Some.place c.kept_at.result.now c.self.invariant within in
    let found : row_of g.P.CodecParameter.rows c.args.name.now ≡ Some (c.in-Some.place, c.in-Some.kind) = sym (c.in-Some.ensures.row ∙ ap (λ rows. row_of rows c.args.name.now) c.rows.ensures) in
    let is : is_units c.in-Some.kind ≡ true = search rules in
    let kept : kept_view c.kept_at.result.now ≡ None = search rules in
    let view : c.args.self.now ≡ c.self.inside.parameters = search rules in
    ap (λ it. named_units g.P.CodecParameter.rows it c.args.name.now) view
    ∙ named_at g.P.CodecParameter.rows c.self.inside.parameters c.args.name.now c.in-Some.place c.in-Some.kind None found is (sym here ∙ ap kept_view (sym at) ∙ kept)
    ∙ ap Err (sym c.refused_with-in-None.ensures)
