-- The elements of a header extension, one by one.
use Rattle.std.proofs.Common.{◌≡◌, ℕ, zero, suc, ◌+◌, ◌-◌, ◌*◌, ◌/◌, ◌%◌, ◌<◌, ◌≤◌, Bool, true, false, List, [], ◌∷◌, ◌++◌, length, take, drop, refl, sym, ap, ◌∙◌, length-append, arith}
use Rattle.std.specs.Prelude.{slice_index, nat_eq, nat_lt, ◌==◌, ◌||◌, ◌≢◌}
use Rattle.std.proofs.lemmas.List.{drop-drop, take_at, drop_at}
use Rattle.std.proofs.lemmas.Bool.Decides.{nat_tests}
use Rattle.h26x_rtp.specs.declared.elements.ElementForm.{ElementForm}
use Rattle.h26x_rtp.specs.declared.elements.ElementForm.TheVariants.{OneByte, TwoBytes}
use Rattle.h26x_rtp.specs.Elements.{ElementParts, ElementFits, element_bytes, elements_behind, elements_in}

-- bytes that belong to the element before are passed
pub elements_passed : (form : ElementForm) (size : ℕ) (bytes : List ℕ) → elements_behind form size bytes ≡ elements_in form (drop size bytes)
elements_passed form zero bytes = refl
elements_passed form (suc size) [] = refl
elements_passed form (suc size) (byte ∷ bytes) = elements_passed form size bytes

-- an element of the form of two bytes, and those behind it
pub long_found : (bytes : List ℕ) (size : ℕ) → 2 ≤ length bytes → 0 < slice_index bytes 0 → size ≡ slice_index bytes 1 → size ≤ length (drop 2 bytes) →
    elements_in TwoBytes bytes ≡ record { id = slice_index bytes 0; bytes = take size (drop 2 bytes) } ∷ elements_in TwoBytes (drop size (drop 2 bytes))
long_found [] size long some is within = absurd (omega arith)
long_found (id ∷ []) size long some is within = absurd (omega arith)
long_found (id ∷ len ∷ bytes) size long some is within =
    let there : nat_eq id 0 ≡ false = grind (arith, nat_tests, some) in
    let fits : nat_lt (length (len ∷ bytes)) (len + 1) ≡ false = let l : len ≤ length bytes = omega (arith, is, within) in grind (arith, nat_tests, l) in
    let more : drop (len + 1) (len ∷ bytes) ≡ drop len bytes = let n : len + 1 ≡ 1 + len = omega arith in ap (λ k. drop k (len ∷ bytes)) n ∙ sym (drop-drop len 1 (len ∷ bytes)) in
    let behind : elements_behind TwoBytes (len + 1) (len ∷ bytes) ≡ elements_in TwoBytes (drop len bytes) =
    elements_passed TwoBytes (len + 1) (len ∷ bytes) ∙ ap (elements_in TwoBytes) more in
    rw (is, there, fits, behind) refl

-- neither of two tests holds
or-false : (a b : Bool) → (a || b) ≡ false → (a ≡ false) × (b ≡ false)
or-false true b h = absurd cc
or-false false b h = (refl, h)

-- an element of the form of one byte, and those behind it
pub short_found : (bytes : List ℕ) (size : ℕ) → 1 ≤ length bytes → ((slice_index bytes 0 / 16 == 0) || (slice_index bytes 0 / 16 == 15)) ≡ false →
    size ≡ slice_index bytes 0 % 16 + 1 → size ≤ length (drop 1 bytes) →
    elements_in OneByte bytes ≡ record { id = slice_index bytes 0 / 16; bytes = take size (drop 1 bytes) } ∷ elements_in OneByte (drop size (drop 1 bytes))
short_found [] size long valid is within = absurd (omega arith)
short_found (byte ∷ bytes) size long valid is within =
    let id = (or-false (nat_eq (byte / 16) 0) (nat_eq (byte / 16) 15) valid).0 in
    let there : nat_eq byte 0 ≡ false = let l : byte ≢ 0 = λ e. (let z : byte / 16 ≡ 0 = omega (arith, e) in let t : nat_eq (byte / 16) 0 ≡ true = grind (arith, nat_tests, z) in cc) in grind (arith, nat_tests, l) in
    let fits : nat_lt (length bytes) (byte % 16 + 1) ≡ false = let l : byte % 16 + 1 ≤ length bytes = omega (arith, is, within) in grind (arith, nat_tests, l) in
    let behind : elements_behind OneByte (byte % 16 + 1) bytes ≡ elements_in OneByte (drop (byte % 16 + 1) bytes) = elements_passed OneByte (byte % 16 + 1) bytes in
    rw (is, there, valid, fits, behind) refl

-- a written element is the first, before those behind it
pub element_found : (form : ElementForm) (it : ElementParts) (behind : List ℕ) → ElementFits form it →
    elements_in form (element_bytes form it ++ behind) ≡ it ∷ elements_in form behind
element_found OneByte it behind (some, few, long, short) =
    let byte = it.id * 16 + (length it.bytes - 1) in
    let id : byte / 16 ≡ it.id = omega (arith, some, few, long, short) in
    let size : length it.bytes ≡ byte % 16 + 1 = omega (arith, some, few, long, short) in
    let valid : ((byte / 16 == 0) || (byte / 16 == 15)) ≡ false =
    let a : nat_eq (byte / 16) 0 ≡ false = (let n : byte / 16 ≢ 0 = λ e. omega (arith, e, id, some) in grind (arith, nat_tests, n)) in
    let b : nat_eq (byte / 16) 15 ≡ false = (let n : byte / 16 ≢ 15 = λ e. omega (arith, e, id, few) in grind (arith, nat_tests, n)) in
    rw (a, b) refl in
    let l = length-append it.bytes behind in
    let found = short_found (byte ∷ (it.bytes ++ behind)) (length it.bytes) (omega arith) valid size (omega (arith, l)) in
    found ∙ ap (λ n. record { id = n; bytes = take (length it.bytes) (it.bytes ++ behind) } ∷ elements_in OneByte (drop (length it.bytes) (it.bytes ++ behind))) id
    ∙ ap (λ b. record { id = it.id; bytes = b } ∷ elements_in OneByte (drop (length it.bytes) (it.bytes ++ behind))) (take_at it.bytes behind (length it.bytes) refl)
    ∙ ap (λ b. it ∷ elements_in OneByte b) (drop_at it.bytes behind (length it.bytes) refl)
element_found TwoBytes it behind (some, few, short) =
    let l = length-append it.bytes behind in
    let found = long_found (it.id ∷ length it.bytes ∷ (it.bytes ++ behind)) (length it.bytes) (omega arith) some refl (omega (arith, l)) in
    found ∙ ap (λ b. record { id = it.id; bytes = b } ∷ elements_in TwoBytes (drop (length it.bytes) (it.bytes ++ behind))) (take_at it.bytes behind (length it.bytes) refl)
    ∙ ap (λ b. it ∷ elements_in TwoBytes b) (drop_at it.bytes behind (length it.bytes) refl)

-- padding before elements is passed
pub padding_passed : (form : ElementForm) (behind : List ℕ) → elements_in form (0 ∷ behind) ≡ elements_in form behind
padding_passed OneByte behind = refl
padding_passed TwoBytes behind = refl
