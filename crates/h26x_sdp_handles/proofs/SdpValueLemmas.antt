-- Entries written to the front of a buffer one by one.
use Rattle.std.proofs.Common.{◌≡◌, ℕ, suc, ◌+◌, ◌<◌, ◌≤◌, List, [], ◌∷◌, ◌++◌, sym, ap, ◌∙◌, arith, get_or, map, take, drop, drop-cons, set, length, append_assoc, add-one}
use Rattle.std.proofs.Math.Seq.{take-suc}
use Rattle.std.proofs.lemmas.List.{drop_all, length-map, length-take-le, map-append, set_at, take-map, take_all}
use Rattle.h26x_codes.specs.Copies.{with_first}

-- one entry more
more : {X Y : Type 0} (f : X → Y) (xs : List X) (n : ℕ) (x : X) → n < length xs → map f (take (n + 1) xs) ≡ map f (take n xs) ++ f (get_or xs n x) ∷ []
more f xs n x within = ap (λ k. map f (take k xs)) (add-one n) ∙ ap (map f) (take-suc xs n x within) ∙ map-append f (take n xs) (get_or xs n x ∷ [])

-- an entry written behind those at the front of a buffer
pub entry_behind : {X Y : Type 0} (f : X → Y) (xs : List X) (room now : List Y) (n : ℕ) (x : X) (y : Y) → n < length xs → n < length room →
    now ≡ map f (take n xs) ++ drop n room → y ≡ f (get_or xs n x) → set now n y ≡ map f (take (n + 1) xs) ++ drop (n + 1) room
entry_behind f xs room now n x y within fits holds is =
    let front = map f (take n xs) in
    let rest = drop (suc n) room in
    let same : length front ≡ n = length-map (take n xs) f ∙ length-take-le n xs (omega (arith, within)) in
    ap (λ l. set l n y) holds ∙ ap (λ l. set (front ++ l) n y) (drop-cons room n y fits) ∙ set_at front (get_or room n y) rest y n same
    ∙ sym (append_assoc front (y ∷ []) rest) ∙ ap (λ l. l ++ rest) (ap (λ e. front ++ e ∷ []) is ∙ sym (more f xs n x within))
    ∙ ap (λ k. map f (take (n + 1) xs) ++ drop k room) (sym (add-one n))

-- all of them stand there, or there is no room for one more: the first entries do
pub all_there : {X Y : Type 0} (f : X → Y) (xs : List X) (room now : List Y) (n : ℕ) → n ≡ length xs → n ≤ length room →
    now ≡ map f (take n xs) ++ drop n room → now ≡ with_first (map f xs) room
all_there f xs room now n same fits holds =
    let long = length-map xs f in
    holds ∙ ap (λ k. map f (take k xs) ++ drop k room) same ∙ ap (λ l. map f l ++ drop (length xs) room) (take_all (length xs) xs (omega arith))
    ∙ ap (λ l. l ++ drop (length xs) room) (sym (take_all (length room) (map f xs) (omega (arith, long, same, fits))))
    ∙ ap (λ k. take (length room) (map f xs) ++ drop k room) (sym long)

pub no_room_left : {X Y : Type 0} (f : X → Y) (xs : List X) (room now : List Y) (n : ℕ) → n ≡ length room → n ≤ length xs →
    now ≡ map f (take n xs) ++ drop n room → now ≡ with_first (map f xs) room
no_room_left f xs room now n same within holds =
    let long = length-map xs f in
    holds ∙ ap (λ k. map f (take k xs) ++ drop k room) same ∙ ap (λ l. l ++ drop (length room) room) (sym (take-map f (length room) xs))
    ∙ ap (λ l. take (length room) (map f xs) ++ l) (drop_all (length room) room (omega arith) ∙ sym (drop_all (length (map f xs)) room (omega (arith, long, same, within))))
