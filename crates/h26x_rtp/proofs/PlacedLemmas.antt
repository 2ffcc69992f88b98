-- The first element of a header extension is at its place, before the others.
use Rattle.std.proofs.Common.{◌≡◌, ℕ, zero, suc, ◌+◌, ◌-◌, ◌*◌, ◌/◌, ◌%◌, ◌<◌, ◌≤◌, Bool, true, false, cond, inl, inr, List, [], ◌∷◌, length, take, drop, Some, None, Ok, Err, refl, sym, ap, ◌∙◌, subst, arith}
use Rattle.std.specs.Prelude.{nat_eq, nat_lt, ◌==◌, ◌||◌, ◌≢◌}
use Rattle.std.proofs.lemmas.List.{drop-drop, length-take-le}
use Rattle.std.proofs.lemmas.Bool.{cases_Bool}
use Rattle.std.proofs.lemmas.Bool.Decides.{nat_tests}
use Rattle.h26x_rtp.specs.declared.elements.ElementForm.{ElementForm}
use Rattle.h26x_rtp.specs.declared.elements.ElementForm.TheVariants.{OneByte, TwoBytes}
use Rattle.h26x_rtp.specs.declared.elements.RtpElementError.{RtpElementError}
use Rattle.h26x_rtp.specs.declared.elements.RtpElementError.TheVariants.{PastTheEnd}
use Rattle.h26x_rtp.specs.Elements.{ElementParts, ElementFits, element_bytes, PlacedParts, PlacedAnswer, IsFirstPlaced, elements_in, placed_of, placed_at, first_placed}
use Rattle.h26x_rtp.proofs.ElementLemmas.{long_found, short_found}

-- what an answer gives, where it is given
abbrev given : PlacedParts → PlacedAnswer → PlacedParts
given other (Ok (Some it)) = it
given other (Ok None) = other
given other (Err e) = other

-- an element is placed where it doesn't pass the end
of_some : (b : Bool) (made it : PlacedParts) → cond b (Err PastTheEnd) (Ok (Some made)) ≡ Ok (Some it) → (b ≡ false) × (made ≡ it)
of_some true made it h = absurd cc
of_some false made it h = (refl, ap (given made) h)

-- and where it doesn't end the elements
unless_ended : (b : Bool) (behind : PlacedAnswer) (it : PlacedParts) → cond b (Ok None) behind ≡ Ok (Some it) → (b ≡ false) × (behind ≡ Ok (Some it))
unless_ended true behind it h = absurd cc
unless_ended false behind it h = (refl, h)

-- an element behind a header of so many bytes, of those at a place
first_behind : (form : ElementForm) (place head id size : ℕ) (bytes rest : List ℕ) (it : PlacedParts) → drop head bytes ≡ rest →
    placed_of id (place + head) size rest ≡ Ok (Some it) →
    (size ≤ length rest → elements_in form bytes ≡ record { id = id; bytes = take size rest } ∷ elements_in form (drop size rest)) → IsFirstPlaced form place bytes it
first_behind form place head id size bytes rest it from h found =
    let both = of_some (nat_lt (length rest) size) (record { place = place + head; parts = record { id = id; bytes = take size rest } }) it h in
    let within : size ≤ length rest = let t = both.0 in grind (arith, nat_tests, t) in
    let long : length (take size rest) ≡ size = length-take-le size rest within in
    let at : place + head - place ≡ head = omega arith in
    let end : place + head + length (take size rest) - place ≡ head + size = omega (arith, long) in
    let others : drop (place + head + length (take size rest) - place) bytes ≡ drop size rest =
    ap (λ n. drop n bytes) end ∙ sym (drop-drop size head bytes) ∙ ap (drop size) from in
    let made : IsFirstPlaced form place bytes (record { place = place + head; parts = record { id = id; bytes = take size rest } }) = record {
      behind = omega arith;
      there = ap (λ n. take (length (take size rest)) (drop n bytes)) at ∙ ap (take (length (take size rest))) from ∙ ap (λ n. take n rest) long;
      first = found within ∙ ap (λ b. record { id = id; bytes = take size rest } ∷ elements_in form b) (sym others);
    } in
    subst (IsFirstPlaced form place bytes) both.1 made

-- an element whose first byte, no padding, is at the place
first_at : (form : ElementForm) (place byte : ℕ) (bytes : List ℕ) (it : PlacedParts) → 0 < byte → placed_at form place byte bytes ≡ Ok (Some it) →
    IsFirstPlaced form place (byte ∷ bytes) it
first_at OneByte place byte bytes it some h =
    let both = unless_ended ((byte / 16 == 0) || (byte / 16 == 15)) (placed_of (byte / 16) (place + 1) (byte % 16 + 1) bytes) it h in
    first_behind OneByte place 1 (byte / 16) (byte % 16 + 1) (byte ∷ bytes) bytes it refl both.1
    (λ within. short_found (byte ∷ bytes) (byte % 16 + 1) (omega arith) both.0 refl within)
first_at TwoBytes place byte [] it some h = absurd cc
first_at TwoBytes place byte (size ∷ bytes) it some h =
    first_behind TwoBytes place 2 byte size (byte ∷ size ∷ bytes) bytes it refl h
    (λ within. long_found (byte ∷ size ∷ bytes) size (omega arith) some refl within)

-- padding before it is passed
padded : (form : ElementForm) (place : ℕ) (bytes : List ℕ) (it : PlacedParts) → elements_in form (0 ∷ bytes) ≡ elements_in form bytes → IsFirstPlaced form (place + 1) bytes it →
    IsFirstPlaced form place (0 ∷ bytes) it
padded form place bytes it same is =
    let b = is.behind in
    let at : it.place - place ≡ suc (it.place - (place + 1)) = omega (arith, b) in
    let end : it.place + length it.parts.bytes - place ≡ suc (it.place + length it.parts.bytes - (place + 1)) = omega (arith, b) in
    record {
      behind = omega (arith, b);
      there = ap (λ n. take (length it.parts.bytes) (drop n (0 ∷ bytes))) at ∙ is.there;
      first = same ∙ is.first ∙ ap (λ n. it.parts ∷ elements_in form (drop n (0 ∷ bytes))) (sym end);
    }

padding_same : (form : ElementForm) (bytes : List ℕ) → elements_in form (0 ∷ bytes) ≡ elements_in form bytes
padding_same OneByte bytes = refl
padding_same TwoBytes bytes = refl

behind_padding : (form : ElementForm) (place byte : ℕ) (bytes : List ℕ) → 0 < byte → first_placed form place (byte ∷ bytes) ≡ placed_at form place byte bytes
behind_padding form place byte bytes some = let t : nat_eq byte 0 ≡ false = grind (arith, nat_tests, some) in rw t refl

-- what is answered is the first element
pub placed_first : (form : ElementForm) (place : ℕ) (bytes : List ℕ) (it : PlacedParts) → first_placed form place bytes ≡ Ok (Some it) → IsFirstPlaced form place bytes it
placed_first form place [] it h = absurd cc
placed_first form place (zero ∷ bytes) it h = padded form place bytes it (padding_same form bytes) (placed_first form (place + 1) bytes it h)
placed_first form place (suc byte ∷ bytes) it h = first_at form place (suc byte) bytes it (omega arith) (sym (behind_padding form place (suc byte) bytes (omega arith)) ∙ h)

-- elements end where none is answered
ended_at : (form : ElementForm) (place byte : ℕ) (bytes : List ℕ) → 0 < byte → ((it : PlacedParts) → placed_at form place byte bytes ≡ Ok (Some it) → ⊥) →
    elements_in form (byte ∷ bytes) ≡ []
ended_at OneByte place byte bytes some none = elim (cases_Bool ((byte / 16 == 0) || (byte / 16 == 15))) [
  | inl ends ↦ let there : nat_eq byte 0 ≡ false = grind (arith, nat_tests, some) in rw (there, ends) refl
  | inr valid ↦ elim (cases_Bool (nat_lt (length bytes) (byte % 16 + 1))) [
    | inl past ↦ let there : nat_eq byte 0 ≡ false = grind (arith, nat_tests, some) in rw (there, valid, past) refl
    | inr fits ↦ absurd (none (record { place = place + 1; parts = record { id = byte / 16; bytes = take (byte % 16 + 1) bytes } }) (rw (valid, fits) refl))
  ]
]
ended_at TwoBytes place byte [] some none = let there : nat_eq byte 0 ≡ false = grind (arith, nat_tests, some) in rw there refl
ended_at TwoBytes place byte (size ∷ bytes) some none = elim (cases_Bool (nat_lt (length bytes) size)) [
  | inl past ↦
      let there : nat_eq byte 0 ≡ false = grind (arith, nat_tests, some) in
      let longer : nat_lt (length (size ∷ bytes)) (size + 1) ≡ true = let l : length bytes < size = grind (arith, nat_tests, past) in grind (arith, nat_tests, l) in
      rw (there, longer) refl
  | inr fits ↦ absurd (none (record { place = place + 2; parts = record { id = byte; bytes = take size bytes } }) (rw fits refl))
]

pub none_placed : (form : ElementForm) (place : ℕ) (bytes : List ℕ) → ((it : PlacedParts) → first_placed form place bytes ≡ Ok (Some it) → ⊥) → elements_in form bytes ≡ []
none_placed form place [] none = refl
none_placed form place (zero ∷ bytes) none = padding_same form bytes ∙ none_placed form (place + 1) bytes none
none_placed form place (suc byte ∷ bytes) none =
    ended_at form place (suc byte) bytes (omega arith) (λ it h. none it (behind_padding form place (suc byte) bytes (omega arith) ∙ h))

-- a header that says more bytes than there are
cut_short : (place byte : ℕ) (bytes : List ℕ) → 0 < byte → ((byte / 16 == 0) || (byte / 16 == 15)) ≡ false → length bytes < byte % 16 + 1 →
    first_placed OneByte place (byte ∷ bytes) ≡ Err PastTheEnd
cut_short place byte bytes some valid few =
    let past : nat_lt (length bytes) (byte % 16 + 1) ≡ true = grind (arith, nat_tests, few) in
    behind_padding OneByte place byte bytes some ∙ rw (valid, past) refl

cut_long : (place byte size : ℕ) (bytes : List ℕ) → 0 < byte → length bytes < size → first_placed TwoBytes place (byte ∷ size ∷ bytes) ≡ Err PastTheEnd
cut_long place byte size bytes some few =
    let past : nat_lt (length bytes) size ≡ true = grind (arith, nat_tests, few) in
    behind_padding TwoBytes place byte (size ∷ bytes) some ∙ rw past refl

-- an element that isn't there wholly passes the end
pub part_refused : (form : ElementForm) (place size : ℕ) (it : ElementParts) → ElementFits form it → 0 < size → size < length (element_bytes form it) →
    first_placed form place (take size (element_bytes form it)) ≡ Err PastTheEnd
part_refused OneByte place zero it fits some few = absurd (omega (arith, some))
part_refused OneByte place (suc size) it (positive, low, long, short) some few =
    let byte = it.id * 16 + (length it.bytes - 1) in
    let id : byte / 16 ≡ it.id = omega (arith, positive, low, long, short) in
    let valid : ((byte / 16 == 0) || (byte / 16 == 15)) ≡ false =
    let a : nat_eq (byte / 16) 0 ≡ false = (let n : byte / 16 ≢ 0 = λ e. omega (arith, e, id, positive) in grind (arith, nat_tests, n)) in
    let b : nat_eq (byte / 16) 15 ≡ false = (let n : byte / 16 ≢ 15 = λ e. omega (arith, e, id, low) in grind (arith, nat_tests, n)) in
    rw (a, b) refl in
    let l = length-take-le size it.bytes (omega (arith, few)) in
    cut_short place byte (take size it.bytes) (omega (arith, positive)) valid (omega (arith, l, few, positive, low, long, short))
part_refused TwoBytes place zero it fits some few = absurd (omega (arith, some))
part_refused TwoBytes place (suc zero) it (positive, low, short) some few = behind_padding TwoBytes place it.id [] positive
part_refused TwoBytes place (suc (suc size)) it (positive, low, short) some few =
    let l = length-take-le size it.bytes (omega (arith, few)) in
    cut_long place it.id (length it.bytes) (take size it.bytes) positive (omega (arith, l, few))

-- the first of all elements is told by its place, before those behind it
pub one_told : (form : ElementForm) (bytes : List ℕ) (it : PlacedParts) → first_placed form 0 bytes ≡ Ok (Some it) →
    elements_in form bytes ≡ it.parts ∷ elements_in form (drop (it.place + length it.parts.bytes) bytes)
one_told form bytes it is =
    let end : it.place + length it.parts.bytes - 0 ≡ it.place + length it.parts.bytes = omega arith in
    (placed_first form 0 bytes it is).first ∙ ap (λ n. it.parts ∷ elements_in form (drop n bytes)) end

-- where none is told, or a refusal, there are no elements
pub none_told : (form : ElementForm) (bytes : List ℕ) → first_placed form 0 bytes ≡ Ok None → elements_in form bytes ≡ []
none_told form bytes is = none_placed form 0 bytes (λ it h. (let e = sym is ∙ h in absurd cc))

pub refusal_told : (form : ElementForm) (bytes : List ℕ) (e : RtpElementError) → first_placed form 0 bytes ≡ Err e → elements_in form bytes ≡ []
refusal_told form bytes e is = none_placed form 0 bytes (λ it h. (let e = sym is ∙ h in absurd cc))
