-- Numbers that are missing before packets that wait (RFC 4585, 6.2.1; ours).
use Rattle.std.specs.Prelude.{◌≡◌, ℕ, zero, suc, ◌^◌, ◌<◌, ◌==◌, nat_lt, Bool, not, ◌&&◌, List, [], ◌∷◌, ◌++◌, Option, Some, None}
use Rattle.std.specs.List.{list_any}
use Rattle.h26x_core.specs.Sequence.{next_sequence_number, distance_ahead}
use Rattle.h26x_reorder.specs.ReorderBuffer.{is_number_held, last_number}

-- so many numbers, from one on
abbrev pub numbers_from : ℕ → ℕ → List ℕ
numbers_from first zero = []
numbers_from first (suc count) = first ∷ numbers_from (next_sequence_number first) count

-- the numbers that are missing before packets, where a number is due
abbrev pub missing_before : {A : Type 0} → ℕ → List (ℕ × A) → List ℕ
missing_before due [] = []
missing_before due (p ∷ held) = numbers_from due (distance_ahead due p.0)
    ++ missing_before (next_sequence_number p.0) held

-- so of what waits: none before a packet came
abbrev pub missing_numbers : {A : Type 0} → Option ℕ → List (ℕ × A) → List ℕ
missing_numbers None held = []
missing_numbers (Some due) held = missing_before due held

-- whether a number is between the one that is due and the last that waits
abbrev pub is_before_last : {A : Type 0} → ℕ → List (ℕ × A) → ℕ → Bool
is_before_last due held number =
    nat_lt (distance_ahead due number) (distance_ahead due (last_number due held))

-- these numbers are exactly those between the one that is due and the last that waits that don't wait
abbrev pub AreExactlyMissing : {A : Type 0} → Option ℕ → List (ℕ × A) → List ℕ → Type 0
AreExactlyMissing None held numbers = numbers ≡ []
AreExactlyMissing (Some due) held numbers = (number : ℕ) → number < 2 ^ 16 →
    list_any (λ it. it == number) numbers
    ≡ (is_before_last due held number && not (is_number_held number held))
