use Rattle.std.proofs.Common.{rules, ◌≡◌, ◌∙◌, ap, sym, ℕ, suc, ◌-◌, true, false, Some, None, arith}
use Rattle.std.specs.Prelude.{is_some}
use Rattle.h26x_access_units.specs.declared.content.Content.{Content}
use Rattle.h26x_access_units.specs.Content.{no_content, content_with_unit, first_unit, content_from}
use Rattle.h26x_access_units.proofs.ContentLemmas.{no_unit_more, slice_next, other_next}
use Rattle.h26x_access_units.proofs.content.content_of.Goals as goal

pub loop-init : goal.loop-init
loop-init c = λ left e. let same : left ≡ 64 = omega (arith, e) in ap (λ (n : ℕ). content_from c.args.is_avc c.args.extra n no_content c.args.text.now) same

pub returns-in_default : goal.returns-in_default
returns-in_default c =
    let none : first_unit c.args.is_avc c.loop.rest.now ≡ None = sym c.in_default.ensures in
    let last = c.loop-test.true in
    let left = 63 - c.loop.counter in
    sym (no_unit_more c.args.is_avc c.args.extra left c.loop.content c.loop.rest.now none) ∙ c.loop.invariant (suc left) (omega (arith, last))

pub returns-then-is_some : goal.returns-then-is_some
returns-then-is_some c =
    let there : first_unit c.args.is_avc c.loop.rest.now ≡ Some (c.in-Some.unit.now, c.in-Some.behind.now) = search rules in
    let told : c.with_unit-content.result ≡ content_with_unit c.args.extra c.loop.content c.in-Some.unit.now = c.with_unit-content.ensures in
    let is : is_some (content_with_unit c.args.extra c.loop.content c.in-Some.unit.now).slice ≡ true = ap (λ (x : Content). is_some x.slice) (sym told) ∙ sym c.is_some.ensures ∙ c.if-is_some.true in
    let last = c.loop-test.true in
    let left = 63 - c.loop.counter in
    told ∙ sym (slice_next c.args.is_avc c.args.extra left c.loop.content c.loop.rest.now c.in-Some.unit.now c.in-Some.behind.now there is) ∙ c.loop.invariant (suc left) (omega (arith, last))

pub loop-preserved : goal.loop-preserved
loop-preserved c = λ left e.
    let there : first_unit c.args.is_avc c.loop.rest.now ≡ Some (c.in-Some.unit.now, c.in-Some.behind.now) = search rules in
    let told : c.with_unit-content.result ≡ content_with_unit c.args.extra c.loop.content c.in-Some.unit.now = c.with_unit-content.ensures in
    let is : is_some (content_with_unit c.args.extra c.loop.content c.in-Some.unit.now).slice ≡ false = ap (λ (x : Content). is_some x.slice) (sym told) ∙ sym c.is_some.ensures ∙ c.if-is_some.false in
    ap (λ (x : Content). content_from c.args.is_avc c.args.extra left x c.in-Some.behind.now) told
    ∙ sym (other_next c.args.is_avc c.args.extra left c.loop.content c.loop.rest.now c.in-Some.unit.now c.in-Some.behind.now there is)
    ∙ c.loop.invariant (suc left) (omega (arith, e))

pub returns : goal.returns
returns c = let last = c.loop-test.false in c.loop.invariant 0 (omega (arith, last))
