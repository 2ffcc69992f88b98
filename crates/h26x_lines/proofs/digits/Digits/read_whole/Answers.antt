use Rattle.std.proofs.Common.{◌≡◌, ℕ, ◌*◌, ◌/◌, ◌-◌, ◌∙◌, ◌&&◌, List, ap, sym, arith, length, true, take, drop}
use Rattle.std.proofs.lemmas.List.{length-drop, take_all}
use Rattle.h26x_lines.specs.Digits.{are_digits}
use Rattle.h26x_lines.proofs.TableLemmas.{are_split, bytes_split}
use Rattle.h26x_lines.proofs.digits.Digits.read_whole.Goals as goal

-- all that stands behind a place
all_behind : (n : ℕ) (text : List ℕ) → take (length text - n) (drop n text) ≡ drop n text
all_behind n text = let long = length-drop n text in take_all (length text - n) (drop n text) (omega (arith, long))

pub returns-then-read_blocks-clause-digits : goal.returns-then-read_blocks-clause-digits
returns-then-read_blocks-clause-digits c =
    let n = 2 * (length c.args.bytes.now / 16 * 16) in
    let text = c.args.text.now in
    let front : are_digits (take n text) ≡ true = sym c.read_blocks.ensures.digits ∙ c.if-read_blocks.true in
    c.read_by_table.ensures.digits
    ∙ ap are_digits (all_behind n text)
    ∙ sym (are_split n text ∙ ap (λ b. b && are_digits (drop n text)) front)

pub returns-then-read_blocks-clause-bytes : goal.returns-then-read_blocks-clause-bytes
returns-then-read_blocks-clause-bytes c is =
    let n = length c.args.bytes.now / 16 * 16 in
    let text = c.args.text.now in
    rw (c.read_blocks.ensures.bytes c.if-read_blocks.true, c.read_by_table.ensures.bytes is, all_behind (2 * n) text) (sym (bytes_split n text (omega arith)))
