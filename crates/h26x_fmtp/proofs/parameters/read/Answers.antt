use Rattle.std.proofs.Common.{◌≡◌, ◌∙◌, true, cond, map, length, Err, sym, ap, arith, rules}
use Rattle.std.proofs.lemmas.Bool.Decides.{nat_tests}
use Rattle.std.proofs.lemmas.List.{length-map}
use Rattle.std.proofs.lemmas.Result.{err_from_is_err_and}
use Rattle.h26x_fmtp.specs.declared.error.ParametersError.TheVariants.{OpenBrace}
use Rattle.h26x_fmtp.specs.Pairs.{pairs, closes}
use Rattle.h26x_fmtp.specs.PairViews.{pair_view}
use Rattle.h26x_fmtp.specs.Reading.{FormatParameters, reading, none_of, read_of}
use Rattle.h26x_fmtp.specs.ParametersViews.{view}
use Rattle.h26x_fmtp.specs.TableViews.{row_view}
use Rattle.h26x_fmtp.proofs.ReadingLemmas.{pairs_bound, goes_on, stops_at, reads_none}
use Rattle.h26x_fmtp.proofs.parameters.read.Goals as goal

pub loop-pair-init : goal.loop-pair-init
loop-pair-init c =
    let rows = map row_view c.args.rows.now in
    let list : c.into_iter-pair-iterator.result ≡ pairs c.args.text.now = search rules in
    record {
      same = ap (λ (it : FormatParameters). reading rows 0 it c.into_iter-pair-iterator.result) c.in_ok-it.ensures.none ∙ ap (reading rows 0 (none_of (length c.args.rows.now))) list;
      long = omega (arith, c.in_ok-it.ensures.long);
      place = omega (arith, ap length list, pairs_bound c.args.text.now);
    }

pub loop-pair-preserved : goal.loop-pair-preserved
loop-pair-preserved c =
    let rows = map row_view c.args.rows.now in
    record {
      same = sym (goes_on rows c.loop-pair.place (view c.loop-pair.it) (view c.take.new.it) c.loop-pair.pair-iterator (pair_view c.in-Some.pair) c.next.new.self c.in-Some.ensures.steps c.in_ok-take.ensures.taken) ∙ c.loop-pair.invariant.same;
      long = c.loop-pair.invariant.long ∙ sym c.take.ensures.long;
      place = omega (arith, c.loop-pair.invariant.place, ap length c.in-Some.ensures.steps);
    }

pub returns-in_err-take-clause-read : goal.returns-in_err-take-clause-read
returns-in_err-take-clause-read c =
    let rows = map row_view c.args.rows.now in
    let closed : closes c.args.text.now ≡ true = first_of (search rules, grind (arith, nat_tests)) in
    let whole : read_of (map row_view c.args.rows.now) c.args.text.now ≡ reading (map row_view c.args.rows.now) 0 (none_of (length c.args.rows.now)) (pairs c.args.text.now) =
    ap (λ t. cond t (reading rows 0 (none_of (length rows)) (pairs c.args.text.now)) (Err OpenBrace)) closed
    ∙ ap (λ n. reading rows 0 (none_of n) (pairs c.args.text.now)) (length-map c.args.rows.now row_view) in
    let (e, err, same) = err_from_is_err_and c.from_residual-in_err-take.result c.from_residual-in_err-take.ensures.1 in
    rw (err, same) (stops_at rows c.loop-pair.place (view c.loop-pair.it) c.loop-pair.pair-iterator (pair_view c.in-Some.pair) c.next.new.self c.in_err-take.field-0.0 (read_of (map row_view c.args.rows.now) c.args.text.now)
    c.in-Some.ensures.steps (c.loop-pair.invariant.same ∙ sym whole) c.in_err-take.ensures.taken)

pub returns-clause-read : goal.returns-clause-read
returns-clause-read c =
    let rows = map row_view c.args.rows.now in
    let closed : closes c.args.text.now ≡ true = first_of (search rules, grind (arith, nat_tests)) in
    ap (λ t. cond t (reading rows 0 (none_of (length rows)) (pairs c.args.text.now)) (Err OpenBrace)) closed
    ∙ ap (λ n. reading rows 0 (none_of n) (pairs c.args.text.now)) (length-map c.args.rows.now row_view)
    ∙ sym c.loop-pair.invariant.same
    ∙ reads_none rows c.loop-pair.place (view c.loop-pair.it) c.loop-pair.pair-iterator c.in-None.ensures.steps.0
