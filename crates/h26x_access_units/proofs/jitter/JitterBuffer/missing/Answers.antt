use Rattle.std.proofs.Common.{rules, ◌≡◌, ◌∙◌, ◌<◌, ◌≤◌, ◌++◌, ap, sym, ℕ, List, Option, Some, length, subst, false, [], arith}
use Rattle.std.proofs.lemmas.List.{append-nil, drop_all}
use Rattle.h26x_reorder.specs.Rtp.{RtpBody, rtp_body}
use Rattle.h26x_reorder.specs.ReorderBuffer.{IsHeldInOrder}
use Rattle.h26x_access_units.specs.JitterBuffer.{JitterState, awaited}
use Rattle.h26x_access_units.specs.Missing.{missing_before, missing_numbers}
use Rattle.h26x_access_units.proofs.ExactLemmas.{awaited_in_order, exact_of}
use Rattle.h26x_access_units.proofs.MissingLemmas.{up_to}
use Rattle.h26x_access_units.proofs.jitter.JitterBuffer.missing.Goals as goal

pub loop-place-preserved : goal.loop-place-preserved
loop-place-preserved c =
    let held = c.self.inside.buffer.held in
    let d : ℕ × RtpBody = (0, rtp_body 0 false []) in
    let in_range : c.loop-place.place < length held = omega arith in
    c.loop-place.invariant
    ∙ up_to c.loop-place.numbers.items c.append_numbers.new.numbers.items c.loop-place.from c.number_at-number.result c.loop-place.place held d in_range (c.number_at-number.ensures d) c.in_ok-append_numbers.ensures

pub returns-clause-exact : goal.returns-clause-exact
returns-clause-exact c =
    let now = c.args.self.now in
    let held = c.self.inside.buffer.held in
    let from = c.loop-place.from in
    let numbers = c.loop-place.numbers.items in
    let end : length held ≤ c.loop-place.place = omega arith in
    let from_is : awaited now ≡ Some c.in-Some.number = search rules in
    let fresh : c.new-numbers.result.items ≡ [] = search rules in
    let is : numbers ≡ missing_numbers (awaited now) now.buffer.held =
    sym (append-nil numbers)
    ∙ sym (ap (λ (l : List (ℕ × RtpBody)). numbers ++ missing_before from l) (drop_all c.loop-place.place held end))
    ∙ sym c.loop-place.invariant
    ∙ ap (λ (l : List ℕ). l ++ missing_before c.in-Some.number held) fresh
    ∙ ap (λ (d : Option ℕ). missing_numbers d held) (sym from_is)
    ∙ ap (λ (j : JitterState). missing_numbers (awaited now) j.buffer.held) c.self.view_is in
    let order = subst (λ (j : JitterState). IsHeldInOrder j.buffer.due j.buffer.held) c.self.view_is c.self.invariant.order in
    exact_of (awaited now) now.buffer.held numbers (awaited_in_order now.has_begun now.buffer.due now.buffer.held order) is
