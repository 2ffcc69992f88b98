-- Which of the numbers were taken that a stream has passed (RFC 3550, A.1; ours).
use Rattle.std.specs.Prelude.{ℕ, ◌+◌, ◌/◌, ◌%◌, ◌^◌, ◌<◌, ◌≤◌, ◌==◌, nat_lt, nat_le, Bool, false, ◌&&◌, List, [], ◌∷◌, Option, Some, None, slice_set, slice_index_or, min}
use Rattle.std.specs.List.{repeat, AllByRecursion}
use Rattle.h26x_core.specs.Sequence.{distance_ahead, next_sequence_number}
use Rattle.h26x_access_units.specs.declared.passed.PassedNumbers.{PassedNumbers}

-- none was
abbrev pub none_passed : PassedNumbers
none_passed = record { taken = repeat 1024 (0 ∷ []); count = 0 }

-- whether the last number that was taken of those with its rest modulo 1024 is this one
abbrev pub is_noted : List ℕ → ℕ → Bool
is_noted taken number = slice_index_or taken (number % 1024) 0 == number / 1024 + 1

-- whether a number is so far behind the one that is due, at most
abbrev pub is_behind_by : ℕ → ℕ → ℕ → Bool
is_behind_by most due number =
    nat_lt 0 (distance_ahead number due) && nat_le (distance_ahead number due) most

-- whether the stream has passed a number, and it is among the last 1024: it was taken, or is lost
abbrev pub is_passed : PassedNumbers → Option ℕ → ℕ → Bool
is_passed passed None number = false
is_passed passed (Some due) number = is_behind_by passed.count due number

-- whether it was taken
abbrev pub is_taken_before : PassedNumbers → Option ℕ → ℕ → Bool
is_taken_before passed due number = is_passed passed due number && is_noted passed.taken number

-- with a number that is taken where another is due: those between them are passed
abbrev pub passed_with : ℕ → ℕ → PassedNumbers → PassedNumbers
passed_with due number passed = record {
  taken = slice_set passed.taken (number % 1024) (number / 1024 + 1);
  count = min 1024 (passed.count + (distance_ahead due number + 1));
}

-- the number that is due behind these that were taken, the last one first, where that one was before
abbrev pub due_behind : ℕ → List ℕ → ℕ
due_behind due [] = due
due_behind due (number ∷ before) = next_sequence_number number

-- what is known then
abbrev pub passed_behind : ℕ → List ℕ → PassedNumbers
passed_behind due [] = none_passed
passed_behind due (number ∷ before) =
    passed_with (due_behind due before) number (passed_behind due before)

-- whether a number is told to have been taken behind these
abbrev pub is_told_taken : ℕ → List ℕ → ℕ → Bool
is_told_taken due numbers number =
    is_taken_before (passed_behind due numbers) (Some (due_behind due numbers)) number

-- numbers of two bytes
abbrev pub AreNumbers : List ℕ → Type 0
AreNumbers numbers = AllByRecursion (λ it. it < 2 ^ 16) numbers

-- numbers that were taken behind another one, each in its turn, and less than 1024 ahead of that one
abbrev pub AreSoonBehind : ℕ → List ℕ → Type 0
AreSoonBehind number [] = Unit {0}
AreSoonBehind number (it ∷ later) = (it < 2 ^ 16)
    × (distance_ahead number (due_behind (next_sequence_number number) later)
    ≤ distance_ahead number it)
    × (distance_ahead number it < 1024)
    × AreSoonBehind number later
