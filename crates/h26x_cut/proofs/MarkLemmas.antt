-- The marks of bytes are the places where 00 00 01 ends in them.
use Rattle.std.proofs.Common.{◌≡◌, ℕ, ◌+◌, ◌-◌, ◌<◌, List, ◌∷◌, ◌++◌, length, take, drop, get_or, sym, ap, ◌∙◌, arith, length-append}
use Rattle.std.proofs.lemmas.List.{get_or-append-add, drop_more, length-take-le, take-append-drop}
use Rattle.h26x_core.specs.Mark.{IsMark}
use Rattle.h26x_cut.specs.Cutting.{EndsCodeAt}

-- the byte behind so many others
byte_behind : (before after bytes : List ℕ) (n place : ℕ) → bytes ≡ before ++ after → place ≡ length before + n → get_or bytes place 0 ≡ get_or after n 0
byte_behind before after bytes n place same at = ap (λ (x : List ℕ). get_or x place 0) same ∙ ap (λ k. get_or (before ++ after) k 0) at ∙ get_or-append-add before after n 0

-- a start code has a mark at its last byte
pub code_has_mark : (bytes : List ℕ) (place : ℕ) → EndsCodeAt bytes place → IsMark bytes place
code_has_mark bytes place (before, after, same, at) =
    let long = ap length same ∙ length-append before (0 ∷ 0 ∷ 1 ∷ after) in
    record {
      behind_two = omega (arith, at);
      within = omega (arith, long, at);
      one = byte_behind before (0 ∷ 0 ∷ 1 ∷ after) bytes 2 place same at;
      zero_before = byte_behind before (0 ∷ 0 ∷ 1 ∷ after) bytes 1 (place - 1) same (omega (arith, at));
      zero_first = byte_behind before (0 ∷ 0 ∷ 1 ∷ after) bytes 0 (place - 2) same (omega (arith, at));
    }

-- the byte at a place, and those behind it
byte_at : (bytes : List ℕ) (place value : ℕ) → place < length bytes → get_or bytes place 0 ≡ value → drop place bytes ≡ value ∷ drop (place + 1) bytes
byte_at bytes place value within is = drop_more bytes place 0 within ∙ ap (λ b. b ∷ drop (place + 1) bytes) is

-- a mark stands at the last byte of a start code
pub mark_ends_code : (bytes : List ℕ) (place : ℕ) → IsMark bytes place → EndsCodeAt bytes place
mark_ends_code bytes place mark =
    let two = mark.behind_two in let within = mark.within in
    let second : place - 2 + 1 ≡ place - 1 = omega arith in
    let third : place - 1 + 1 ≡ place = omega arith in (
      take (place - 2) bytes,
      drop (place + 1) bytes,
      sym (take-append-drop (place - 2) bytes) ∙ ap (λ (x : List ℕ). take (place - 2) bytes ++ x) (
          byte_at bytes (place - 2) 0 (omega arith) mark.zero_first
          ∙ ap (λ k. 0 ∷ drop k bytes) second ∙ ap (λ (x : List ℕ). 0 ∷ x) (byte_at bytes (place - 1) 0 (omega arith) mark.zero_before
          ∙ ap (λ k. 0 ∷ drop k bytes) third ∙ ap (λ (x : List ℕ). 0 ∷ x) (byte_at bytes place 1 within mark.one))),
      omega (arith, two, within, length-take-le (place - 2) bytes (omega arith)),
    )
