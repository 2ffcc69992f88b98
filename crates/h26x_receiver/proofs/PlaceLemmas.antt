-- Numbers of packets by their places, which are less than half of the circle apart.
use Rattle.std.proofs.Common.{◌≡◌, ℕ, ◌+◌, ◌<◌, ◌≤◌, Bool, false, Option, Some, None, refl, ap, arith}
use Rattle.std.specs.Prelude.{◌==◌}
use Rattle.std.specs.Option.{option_map}
use Rattle.std.proofs.lemmas.Bool.Decides.{nat_tests}
use Rattle.h26x_core.specs.Sequence.{distance_ahead, is_late, is_expected}
use Rattle.h26x_core.proofs.SequenceLemmas.{number_at}
use Rattle.h26x_receiver.specs.Delivery.{IsNearPlace, IsNextPlace}

-- the number that is expected, by its place
abbrev pub expected_at : ℕ → Option ℕ → Option ℕ
expected_at first expected = option_map (number_at first) expected

-- whether a place is the one expected
abbrev pub is_place : Option ℕ → ℕ → Bool
is_place None place = false
is_place (Some expected) place = place == expected

-- a place at the one expected or behind it
abbrev pub IsOn : Option ℕ → ℕ → Type 0
IsOn None place = Unit {0}
IsOn (Some expected) place = expected ≤ place

-- an earlier place has a number in the half behind
earlier_late : (first expected place : ℕ) → place < expected → expected ≤ place + 32768 → 32768 ≤ distance_ahead (number_at first expected) (number_at first place)
earlier_late first expected place before near = omega arith

-- places that are near have one number only where they are one
same_number : (first expected place : ℕ) → expected ≤ place → place < expected + 32768 → number_at first place ≡ number_at first expected → place ≡ expected
same_number first expected place on near same = omega arith

-- so a number is the one expected where its place is
follows_is : (first expected place : ℕ) → expected ≤ place → place < expected + 32768 → (number_at first place == number_at first expected) ≡ (place == expected)
follows_is first expected place on near =
    let one = same_number first expected place on near in
    let same : place ≡ expected → number_at first place ≡ number_at first expected = λ e. ap (number_at first) e in
    grind (arith, nat_tests)

-- what its number tells of a near place: if it isn't late it is the one expected or behind it, and it is the one expected where its number is
pub on_place : (first : ℕ) (expected : Option ℕ) (place : ℕ) → IsNearPlace expected place → is_late (expected_at first expected) (number_at first place) ≡ false →
    IsOn expected place × (is_expected (expected_at first expected) (number_at first place) ≡ is_place expected place)
on_place first None place near in_time = (tt, refl)
on_place first (Some expected) place (low, high) in_time =
    let late = earlier_late first expected place in
    let on : expected ≤ place = grind (arith, nat_tests) in
    (on, follows_is first expected place on low)

-- a place that is next has a number in the half distance_ahead
next_ahead : (first expected place : ℕ) → expected ≤ place → place < expected + 32768 → distance_ahead (number_at first expected) (number_at first place) < 32768
next_ahead first expected place on near = omega arith

-- so it is not late
pub next_in_time : (first : ℕ) (expected : Option ℕ) (place : ℕ) → IsNextPlace expected place → is_late (expected_at first expected) (number_at first place) ≡ false
next_in_time first None place next = refl
next_in_time first (Some expected) place (on, near) =
    let few = next_ahead first expected place on near in
    grind (arith, nat_tests)

-- and near
pub next_near : (expected : Option ℕ) (place : ℕ) → IsNextPlace expected place → IsNearPlace expected place
next_near None place next = tt
next_near (Some expected) place (on, near) = (near, omega arith)
