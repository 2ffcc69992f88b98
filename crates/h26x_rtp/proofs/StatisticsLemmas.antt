-- What is counted of packets whose numbers are near to each other.
use Rattle.std.proofs.Common.{◌≡◌, ℕ, ◌+◌, ◌-◌, ◌%◌, ◌^◌, ◌<◌, ◌≤◌, max, Bool, true, false, List, [], ◌∷◌, length, refl, ap, arith}
use Rattle.std.specs.Prelude.{◌==◌, nat_lt, nat_eq}
use Rattle.std.proofs.lemmas.Bool.Decides.{nat_tests}
use Rattle.h26x_core.specs.Sequence.{distance_ahead}
use Rattle.h26x_rtp.specs.declared.statistics.RtpStatistics.{RtpStatistics}
use Rattle.h26x_rtp.specs.Statistics.{AreAllCounted, AreNear, after_number, after_numbers, tally, goes_on, highest_number, no_statistics}

-- a number less than 3000 ahead
ahead_of : (top n : ℕ) → top ≤ n → n < top + 3000 → distance_ahead (top % 65536) (n % 65536) ≡ n - top
ahead_of top n low high = omega arith

-- a number less than 100 behind
behind_of : (top n : ℕ) → n < top → top < n + 100 → distance_ahead (n % 65536) (top % 65536) ≡ top - n
behind_of top n low high = omega arith

round_of : (top n : ℕ) → n < top → top < n + 100 → 65436 < distance_ahead (top % 65536) (n % 65536)
round_of top n low high = omega arith

-- a number that goes on
going_on : (number : ℕ) (s : RtpStatistics) → (s.received == 0) ≡ false → goes_on number s ≡ true →
    after_number number s ≡ record s {
      highest = number;
      expected = tally s.expected (distance_ahead s.highest number);
      received = tally s.received 1;
    }
going_on number s some goes = rw (some, goes) refl

-- a number a little behind the highest
misordered : (number : ℕ) (s : RtpStatistics) → (s.received == 0) ≡ false → goes_on number s ≡ false →
    nat_lt 99 (distance_ahead number s.highest) ≡ false → after_number number s ≡ record s { received = tally s.received 1 }
misordered number s some goes little = rw (some, goes, little) refl

-- what is counted up to a highest number
record IsCountedTo (first top count : ℕ) (s : RtpStatistics) : Type 0 where
  base : s.base ≡ first
  highest : s.highest ≡ top % 65536
  expected : s.expected + first ≡ top + 1
  received : s.received ≡ count

counted_same : (first top count : ℕ) (s t : RtpStatistics) → s ≡ t → IsCountedTo first top count t → IsCountedTo first top count s
counted_same first top count s t same is = rw same is

some_received : (count : ℕ) (s : RtpStatistics) → s.received ≡ count → 0 < count → (s.received == 0) ≡ false
some_received count s is some = let h : 0 < s.received = omega (arith, is, some) in grind (arith, nat_tests)

-- with a number that isn't behind the highest
counted_on : (first top n count : ℕ) (s : RtpStatistics) → IsCountedTo first top count s → top ≤ n → n < top + 3000 → n < 2 ^ 63 →
    first ≤ top → 0 < count → count < 2 ^ 63 → IsCountedTo first n (count + 1) (after_number (n % 65536) s)
counted_on first top n count s at low far bound from some few =
    let d = ahead_of top n low far in
    let e : distance_ahead s.highest (n % 65536) ≡ n - top = rw at.highest d in
    let goes : goes_on (n % 65536) s ≡ true = let h : distance_ahead s.highest (n % 65536) < 3000 = omega (arith, e, low, far) in grind (arith, nat_tests) in
    counted_same first n (count + 1) _ _ (going_on (n % 65536) s (some_received count s at.received some) goes)
    (record {
      base = at.base;
      highest = refl;
      expected = let x = at.expected in omega (arith, e, x, low, bound);
      received = let x = at.received in omega (arith, x, few);
    })

-- with one a little behind it
counted_behind : (first top n count : ℕ) (s : RtpStatistics) → IsCountedTo first top count s → n < top → top < n + 100 →
    0 < count → count < 2 ^ 63 → IsCountedTo first top (count + 1) (after_number (n % 65536) s)
counted_behind first top n count s at low near some few =
    let r = round_of top n low near in
    let b = behind_of top n low near in
    let e : 65436 < distance_ahead s.highest (n % 65536) = rw at.highest r in
    let f : distance_ahead (n % 65536) s.highest ≡ top - n = rw at.highest b in
    let goes : goes_on (n % 65536) s ≡ false = grind (arith, nat_tests) in
    let little : nat_lt 99 (distance_ahead (n % 65536) s.highest) ≡ false = let h : distance_ahead (n % 65536) s.highest ≤ 99 = omega (arith, f, low, near) in grind (arith, nat_tests) in
    counted_same first top (count + 1) _ _ (misordered (n % 65536) s (some_received count s at.received some) goes little)
    (record {
      base = at.base;
      highest = at.highest;
      expected = at.expected;
      received = let x = at.received in omega (arith, x, few);
    })

counted_step : (behind : Bool) (first top n count : ℕ) (s : RtpStatistics) → nat_lt n top ≡ behind → IsCountedTo first top count s → top < n + 100 → n < top + 3000 →
    max top n < 2 ^ 63 → first ≤ top → 0 < count → count < 2 ^ 63 → IsCountedTo first (max top n) (count + 1) (after_number (n % 65536) s)
counted_step true first top n count s is at near far bound from some few =
    let low : n < top = grind (arith, nat_tests) in
    let m : max top n ≡ top = omega (arith, low) in
    rw m (counted_behind first top n count s at low near some few)
counted_step false first top n count s is at near far bound from some few =
    let low : top ≤ n = grind (arith, nat_tests) in
    let m : max top n ≡ n = omega (arith, low) in
    rw m (counted_on first top n count s at low far (omega (arith, m, bound)) from some few)

highest_at_least : (number : ℕ) (numbers : List ℕ) → number ≤ highest_number number numbers
highest_at_least number [] = omega arith
highest_at_least number (n ∷ numbers) = omega (arith, highest_at_least (max number n) numbers)

counted_all : (first top count : ℕ) (numbers : List ℕ) (s : RtpStatistics) → IsCountedTo first top count s → AreNear top numbers →
    highest_number top numbers < 2 ^ 63 → first ≤ top → 0 < count → count + length numbers ≤ 2 ^ 63 →
    IsCountedTo first (highest_number top numbers) (count + length numbers) (after_numbers numbers s)
counted_all first top count [] s at near bound from some few = record {
  base = at.base;
  highest = at.highest;
  expected = at.expected;
  received = let x = at.received in omega (arith, x);
}
counted_all first top count (n ∷ numbers) s at near bound from some few =
    let h = highest_at_least (max top n) numbers in
    let one = counted_step (nat_lt n top) first top n count s refl at near.0 near.1 (omega (arith, h, bound)) from some (omega (arith, few)) in
    let all = counted_all first (max top n) (count + 1) numbers (after_number (n % 65536) s) one near.2 bound (omega (arith, from)) (omega arith) (omega (arith, few)) in
    record {
      base = all.base;
      highest = all.highest;
      expected = all.expected;
      received = let x = all.received in omega (arith, x);
    }

-- all packets, from the first on
pub all_counted : (first : ℕ) (numbers : List ℕ) → first < 2 ^ 16 → AreNear first numbers → highest_number first numbers < 2 ^ 63 →
    length numbers < 2 ^ 63 → AreAllCounted first (highest_number first numbers) (length numbers + 1) (after_numbers (first ∷ numbers) no_statistics)
all_counted first numbers small near bound few =
    let m : first % 65536 ≡ first = omega (arith, small) in
    let begun : IsCountedTo first first 1 (after_number (first % 65536) no_statistics) = record { base = m; highest = refl; expected = omega (arith, m); received = refl } in
    let all = counted_all first first 1 numbers (after_number (first % 65536) no_statistics) begun near bound (omega arith) (omega arith) (omega (arith, few)) in
    let h = highest_at_least first numbers in
    let b = all.base in
    let e = all.expected in
    let r = all.received in
    let t = after_numbers (first ∷ numbers) no_statistics in
    let sum : t.base + (t.expected - 1) ≡ highest_number first numbers = omega (arith, b, e, h) in
    record {
      highest = ap (λ n. n % 2 ^ 32) sum;
      expected = omega (arith, e, h);
      received = omega (arith, r);
    }
