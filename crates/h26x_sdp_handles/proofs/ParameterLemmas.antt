-- Parameters in the order of their places.
use Rattle.std.proofs.Common.{◌≡◌, ℕ, ◌<◌, List, map, length, get_or, sym, ap, ◌∙◌, subst, arith}
use Rattle.std.proofs.lemmas.List.{length-map, get_or-map}
use Rattle.std.proofs.lemmas.List.FromFn.{length-range_with_len, get_or-range_with_len}
use Rattle.std.specs.List.{range_with_len}

-- as many as the places
as_many : {P : Type 0} (place : P → ℕ) (n : ℕ) (list : List P) → map place list ≡ range_with_len 0 n → length list ≡ n
as_many place n list places = sym (length-map list place) ∙ ap length places ∙ length-range_with_len 0 n

-- the one at a place is of that place
pub at_place : {P : Type 0} (place : P → ℕ) (n : ℕ) (list : List P) (i : ℕ) (other : P) → map place list ≡ range_with_len 0 n → i < n →
    place (get_or list i other) ≡ i
at_place place n list i other places within =
    sym (get_or-map place list i other 0 (subst (λ k. i < k) (sym (as_many place n list places)) within)) ∙ ap (λ (l : List ℕ). get_or l i 0) places
    ∙ get_or-range_with_len 0 n i 0 within ∙ omega arith
