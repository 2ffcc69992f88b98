-- Bytes of a text with a run behind it.
use Rattle.std.proofs.Common.{arith, ◌≡◌, ℕ, ◌+◌, ◌≤◌, List, ◌++◌, length, take, drop, ap, ◌∙◌, append_assoc}
use Rattle.std.proofs.lemmas.List.{drop-drop}
use Rattle.std.proofs.lemmas.Slice.{take-put_mid, drop-put_mid}
use borrow.Rule.Slice.PartMut.{put_mid}

-- two writes, one behind the other
pub put_twice : (a k n : ℕ) (bytes first second : List ℕ) → length first ≡ k → length second ≡ n → a + (k + n) ≤ length bytes →
    put_mid (a + k) n (put_mid a k bytes first) second ≡ take a bytes ++ (first ++ (second ++ drop (a + (k + n)) bytes))
put_twice a k n bytes first second one other within =
    let low : a ≤ length bytes = omega (arith, within) in
    let all = put_mid a k bytes first in
    let front : take (a + k) all ≡ take a bytes ++ first = take-put_mid a k bytes first (a + k) (omega (arith, one)) low in
    let back : drop (a + k + n) all ≡ drop (a + k + n) bytes = drop-put_mid a k bytes first (a + k + n) (omega arith) low one in
    let behind : drop n (drop (a + k) all) ≡ drop (a + (k + n)) bytes = drop-drop n (a + k) all ∙ back ∙ ap (λ (m : ℕ). drop m bytes) (omega arith) in
    ap (λ (l : List ℕ). l ++ (second ++ drop n (drop (a + k) all))) front
    ∙ append_assoc (take a bytes) first (second ++ drop n (drop (a + k) all))
    ∙ ap (λ (l : List ℕ). take a bytes ++ (first ++ (second ++ l))) behind
