-- Payloads by their places, and what is told of them one after the other.
use Rattle.std.proofs.Common.{◌≡◌, ◌∙◌, refl, ap, sym, ℕ, ◌<◌, ◌≤◌, List, [], ◌∷◌, ◌++◌, length, ◌+◌, take, drop, map, get_or, slice_set, arith}
use Rattle.std.proofs.Math.Seq.{take-nil}
use Rattle.std.proofs.lemmas.List.{drop_more, length-map, get_or-map}
use Rattle.h26x_codes.specs.Copies.{with_first}

-- one thing more that is told
pub next_told : {A : Type 0} → (told room : List A) (it : A) → slice_set (with_first told room) (length told) it ≡ with_first (told ++ it ∷ []) room
next_told [] [] it = refl
next_told [] (r ∷ room) it = ap (λ l. it ∷ l ++ room) (sym (take-nil (length room)))
next_told (t ∷ told) [] it = refl
next_told (t ∷ told) (r ∷ room) it = ap (λ l. t ∷ l) (next_told told room it)

-- the same at its place
pub told_more : {A : Type 0} → (told room now : List A) (place : ℕ) (it : A) → length told ≡ place → now ≡ with_first told room → slice_set now place it ≡ with_first (told ++ it ∷ []) room
told_more told room now place it count so =
    ap (λ l. slice_set l place it) so ∙ ap (λ k. slice_set (with_first told room) k it) (sym count) ∙ next_told told room it

-- nothing is told yet
pub none_told : {A : Type 0} → (room : List A) → room ≡ with_first [] room
none_told [] = refl
none_told (r ∷ room) = refl

-- what is made of an entry at a place
pub made_at : {A B : Type 0} → (f : A → B) → (l : List A) (place index : ℕ) (d : A) (it : B) → place ≡ index → index < length l → it ≡ f (get_or l index d) → get_or (map f l) place it ≡ it
made_at f l place index d it same within is = ap (λ k. get_or (map f l) k it) same ∙ get_or-map f l index d it within ∙ sym is

pub made_within : {A B : Type 0} → (f : A → B) → (l : List A) (place index : ℕ) → place ≡ index → index < length l → place < length (map f l)
made_within f l place index same within = let long : length (map f l) ≡ length l = length-map l f in omega (arith, same, within, long)

pub made_past : {A B : Type 0} → (f : A → B) → (l : List A) (place index : ℕ) → place ≡ index → length l ≤ index → length (map f l) ≤ place
made_past f l place index same past = let long : length (map f l) ≡ length l = length-map l f in omega (arith, same, past, long)

-- the entry at a place and those behind it
pub at_place : {A : Type 0} → (l : List A) (place : ℕ) (it : A) → place < length l → get_or l place it ≡ it → it ∷ drop (place + 1) l ≡ drop place l
at_place l place it within is = sym (drop_more l place it within ∙ ap (λ q. q ∷ drop (place + 1) l) is)
