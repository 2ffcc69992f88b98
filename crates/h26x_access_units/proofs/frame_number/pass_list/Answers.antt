use Rattle.std.proofs.Common.{◌≡◌, ◌∙◌, ap, sym, cond, ◌-◌, ◌==◌, ℕ, suc, ◌<◌, Bool, false, List, arith}
use Rattle.h26x_access_units.specs.Bits.{code_of}
use Rattle.h26x_access_units.specs.FrameNumber.{next_scale, behind_list}
use Rattle.h26x_access_units.proofs.frame_number.pass_list.Goals as goal

-- a list ends with a value of 0, and goes on behind another
list_ends : (left last next : ℕ) (bits : List Bool) → next ≡ next_scale last (code_of bits).value → next ≡ 0 → (code_of bits).behind ≡ behind_list (suc left) last bits
list_ends left last next bits e is =
    let it = code_of bits in
    sym (ap (λ (n : ℕ). cond (n == 0) it.behind (behind_list left n it.behind)) (sym e ∙ is))

list_goes_on : (left last next : ℕ) (bits : List Bool) → next ≡ next_scale last (code_of bits).value → (next == 0) ≡ false → behind_list left next (code_of bits).behind ≡ behind_list (suc left) last bits
list_goes_on left last next bits e is =
    let it = code_of bits in
    sym (ap (λ (b : Bool). cond b it.behind (behind_list left next it.behind)) is) ∙ ap (λ (n : ℕ). cond (n == 0) it.behind (behind_list left n it.behind)) e

is_not_zero : (n : ℕ) → 0 < n → (n == 0) ≡ false
is_not_zero n p = grind (arith, p)

pub returns-then-last-eq0 : goal.returns-then-last-eq0
returns-then-last-eq0 c =
    let first = c.loop-test.true in
    let left = c.args.size - c.loop.counter - 1 in
    let next = c.next_scale-last.ensures.next ∙ ap (next_scale c.loop.last) c.code.ensures.number in
    c.code.ensures.behind ∙ list_ends left c.loop.last c.next_scale-last.result c.loop.bits next c.if-last-eq0.true
    ∙ c.loop.invariant.1 (suc left) (omega (arith, first))

pub loop-preserved : goal.loop-preserved
loop-preserved c =
    let some = c.if-last-eq0.false in
    let next = c.next_scale-last.ensures.next ∙ ap (next_scale c.loop.last) c.code.ensures.number in (
      c.next_scale-last.ensures.below,
      λ left e. ap (behind_list left c.next_scale-last.result) c.code.ensures.behind
          ∙ list_goes_on left c.loop.last c.next_scale-last.result c.loop.bits next (is_not_zero c.next_scale-last.result (omega (arith, some)))
          ∙ c.loop.invariant.1 (suc left) (omega (arith, e)),
    )

pub returns : goal.returns
returns c = let last = c.loop-test.false in let end = c.loop.auto.counter-end in c.loop.invariant.1 0 (omega (arith, last, end))
