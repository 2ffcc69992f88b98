-- The last ones of packets that may be held, as one more comes and the oldest go.
use Rattle.std.proofs.Common.{◌≡◌, ℕ, ◌+◌, ◌-◌, ◌<◌, ◌≤◌, Bool, true, false, ◌&&◌, if◌then◌else◌, nat_le, nat_lt, List, [], ◌∷◌, ◌++◌, length, length-append, map, drop, Option, refl, sym, ap, ap₂, ◌∙◌, arith, append_assoc, append-nil}
use Rattle.std.proofs.lemmas.Bool.Decides.{nat_tests}
use Rattle.std.proofs.lemmas.List.{map-append, length-map}
use Rattle.h26x_rtp.specs.Datagram.{DatagramParts}
use Rattle.h26x_rtp_sender.specs.declared.sent.SentPacket.{SentPacket}
use Rattle.h26x_rtp_sender.specs.Sent.{sent_view}
use Rattle.h26x_rtp_sender.specs.History.{history_bytes, are_within, last_within, has_place}

pub bytes_both : (xs ys : List DatagramParts) → history_bytes (xs ++ ys) ≡ history_bytes xs + history_bytes ys
bytes_both [] ys = omega arith
bytes_both (x ∷ xs) ys = let a = bytes_both xs ys in omega (arith, a)

and_false : (p q r s : Bool) → (r ≡ true → p ≡ true) → (s ≡ true → q ≡ true) → (p && q) ≡ false → (r && s) ≡ false
and_false p q false s f g isnt = refl
and_false p q true false f g isnt = refl
and_false p q true true f g isnt = let both : (p && q) ≡ true = rw (f refl, g refl) refl in sym both ∙ isnt

-- what may not be held may not with more behind it
within_not : (bound : ℕ) (xs ys : List DatagramParts) → are_within bound xs ≡ false → are_within bound (xs ++ ys) ≡ false
within_not bound xs ys isnt =
    let bytes = bytes_both xs ys in
    let count = length-append xs ys in
    and_false (nat_le (history_bytes xs) bound) (nat_le (length xs) 32768) (nat_le (history_bytes (xs ++ ys)) bound) (nat_le (length (xs ++ ys)) 32768)
    (λ h. grind (arith, nat_tests, h, bytes)) (λ h. grind (arith, nat_tests, h, count)) isnt

pub last_dropped : (bound : ℕ) (x : DatagramParts) (xs : List DatagramParts) → are_within bound (x ∷ xs) ≡ false → last_within bound (x ∷ xs) ≡ last_within bound xs
last_dropped bound x xs isnt = rw isnt refl

pub last_kept : (bound : ℕ) (xs : List DatagramParts) → are_within bound xs ≡ true → last_within bound xs ≡ xs
last_kept bound [] is = refl
last_kept bound (x ∷ xs) is = rw is refl

-- the last ones of the last ones with more behind them
pub last_again : (bound : ℕ) (xs ys : List DatagramParts) → last_within bound (last_within bound xs ++ ys) ≡ last_within bound (xs ++ ys)
last_again bound [] ys = refl
last_again bound (x ∷ xs) ys = by (are_within bound (x ∷ xs)) refl (last_again bound xs ys)
  where
    by : (within : Bool) → are_within bound (x ∷ xs) ≡ within → last_within bound (last_within bound xs ++ ys) ≡ last_within bound (xs ++ ys) →
        last_within bound ((if within then x ∷ xs else last_within bound xs) ++ ys) ≡ last_within bound (x ∷ (xs ++ ys))
    by true is behind = refl
    by false is behind = behind ∙ sym (last_dropped bound x (xs ++ ys) (within_not bound (x ∷ xs) ys is))

-- whether there is a place for one more
pub place_is : (bound size count more : ℕ) (xs : List DatagramParts) (it : DatagramParts) → size ≡ history_bytes xs → size ≤ bound → count ≡ length xs → more ≡ length it.payload →
    are_within bound (xs ++ it ∷ []) ≡ has_place bound size count more
place_is bound size count more xs it bytes within counted long =
    let sum : history_bytes (xs ++ it ∷ []) ≡ size + more = bytes_both xs (it ∷ []) ∙ omega (arith, bytes, long) in
    let all : length (xs ++ it ∷ []) ≡ count + 1 = length-append xs (it ∷ []) ∙ omega (arith, counted) in
    let small : nat_le (history_bytes (xs ++ it ∷ [])) bound ≡ nat_le more (bound - size) = grind (arith, nat_tests, sum, within) in
    let few : nat_le (length (xs ++ it ∷ [])) 32768 ≡ nat_lt count 32768 = grind (arith, nat_tests, all) in
    ap₂ (λ (p q : Bool). p && q) small few

-- the oldest goes where one more has no place
pub oldest_goes : (bound : ℕ) (items : List SentPacket) (it : DatagramParts) → 0 < length items → are_within bound (map sent_view items ++ it ∷ []) ≡ false →
    last_within bound (map sent_view (drop 1 items) ++ it ∷ []) ≡ last_within bound (map sent_view items ++ it ∷ [])
oldest_goes bound [] it some isnt = absurd (omega arith)
oldest_goes bound (x ∷ items) it some isnt = sym (last_dropped bound (sent_view x) (map sent_view items ++ it ∷ []) isnt)

-- the bytes of the oldest
pub oldest_bytes : (x : SentPacket) (items : List SentPacket) → history_bytes (map sent_view (x ∷ items)) ≡ length x.payload.items + history_bytes (map sent_view items)
oldest_bytes x items = refl

-- one more
pub one_held : (bound : ℕ) (items : List SentPacket) (x : SentPacket) → are_within bound (map sent_view items ++ sent_view x ∷ []) ≡ true →
    map sent_view (items ++ x ∷ []) ≡ last_within bound (map sent_view items ++ sent_view x ∷ [])
one_held bound items x is = map-append sent_view items (x ∷ []) ∙ sym (last_kept bound (map sent_view items ++ sent_view x ∷ []) is)

pub one_bytes : (items : List SentPacket) (x : SentPacket) → history_bytes (map sent_view (items ++ x ∷ [])) ≡ history_bytes (map sent_view items) + length x.payload.items
one_bytes items x = ap history_bytes (map-append sent_view items (x ∷ [])) ∙ bytes_both (map sent_view items) (sent_view x ∷ []) ∙ omega arith

pub last_twice : (bound : ℕ) (xs : List DatagramParts) → last_within bound (last_within bound xs) ≡ last_within bound xs
last_twice bound xs = ap (last_within bound) (sym (append-nil (last_within bound xs))) ∙ last_again bound xs [] ∙ ap (last_within bound) (append-nil xs)

-- one more, and then those that are left
pub one_and_rest : (bound : ℕ) (xs new rest : List DatagramParts) (x : DatagramParts) → new ≡ last_within bound (xs ++ x ∷ []) →
    last_within bound (new ++ rest) ≡ last_within bound (xs ++ x ∷ rest)
one_and_rest bound xs new rest x is = ap (λ (l : List DatagramParts). last_within bound (l ++ rest)) is ∙ last_again bound (xs ++ x ∷ []) rest ∙ ap (last_within bound) (append_assoc xs (x ∷ []) rest)

pub last_stays : (bound : ℕ) (xs new : List DatagramParts) → new ≡ last_within bound xs → last_within bound new ≡ new
last_stays bound xs new is = ap (last_within bound) is ∙ last_twice bound xs ∙ sym is
