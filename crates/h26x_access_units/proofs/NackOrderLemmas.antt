-- Of numbers in order each is known by what was known of it.
use Rattle.std.proofs.Common.{◌≡◌, ◌∙◌, ap, sym, refl, ℕ, ◌+◌, ◌<◌, ◌≤◌, Bool, true, false, if◌then◌else◌, List, [], ◌∷◌, Some, arith}
use Rattle.std.specs.Prelude.{◌==◌, nat_lt, map}
use Rattle.std.proofs.lemmas.Bool.Decides.{nat_tests}
use Rattle.h26x_core.specs.Sequence.{is_late, distance_ahead}
use Rattle.h26x_access_units.specs.declared.nacks.Nack.{Nack}
use Rattle.h26x_access_units.specs.Nacks.{fresh_nack, from_number, nack_of, nacks_now, nack_among, AreNumbersInOrder}

-- the numbers of what is known
abbrev numbers_of : List Nack → List ℕ
numbers_of known = map (λ (n : Nack). n.number) known

-- one is behind another where it is nearer
nearer_is_behind : (from number other : ℕ) → from < 65536 → number < 65536 → other < 65536 → distance_ahead from number < 32768 → distance_ahead from other < distance_ahead from number →
    is_late (Some number) other ≡ true
nearer_is_behind from number other f n o small less =
    let far : 32768 ≤ distance_ahead number other = omega (arith, f, n, o, small, less) in
    grind (arith, nat_tests, far)

further_is_not : (from number other : ℕ) → from < 65536 → number < 65536 → other < 65536 → distance_ahead from other < 32768 → distance_ahead from number ≤ distance_ahead from other →
    is_late (Some number) other ≡ false
further_is_not from number other f n o small more =
    let near : distance_ahead number other < 32768 = omega (arith, f, n, o, small, more) in
    grind (arith, nat_tests, near)

-- none is known of a number before all
none_among : (now from number near : ℕ) (known : List Nack) → AreNumbersInOrder from near (numbers_of known) → distance_ahead from number < near → nack_among now number known ≡ fresh_nack now number
none_among now from number near [] order less = refl
none_among now from number near (n ∷ known) (small, far, half, rest) less =
    let other : (n.number == number) ≡ false = elim (n.number == number) as (λ b. (n.number == number) ≡ b → (n.number == number) ≡ false) [
      | true ↦ λ e.
          let same : n.number ≡ number = grind (arith, nat_tests, e) in
          let at : distance_ahead from n.number ≡ distance_ahead from number = ap (distance_ahead from) same in
          absurd (omega (arith, at, far, less))
      | false ↦ λ e. e
    ] refl in
    let further : distance_ahead from number < distance_ahead from n.number + 1 = omega (arith, far, less) in
    rw other (none_among now from number (distance_ahead from n.number + 1) known rest further)

-- where all are as far at least, one that stands first is known, or none
first_among : (now from number : ℕ) (known : List Nack) → AreNumbersInOrder from (distance_ahead from number) (numbers_of known) → nack_of now number known ≡ nack_among now number known
first_among now from number [] order = refl
first_among now from number (n ∷ known) (small, far, half, rest) = elim (n.number == number) as (λ b. (n.number == number) ≡ b → nack_of now number (n ∷ known) ≡ nack_among now number (n ∷ known)) [
  | true ↦ λ e. rw e refl
  | false ↦ λ e.
      let further : distance_ahead from number < distance_ahead from n.number + 1 = omega (arith, far) in
      rw e (sym (none_among now from number (distance_ahead from n.number + 1) known rest further))
] refl

-- what stands behind those that are passed over: it is in order, and what is known of numbers as far stays
record IsLeft (now from number : ℕ) (known left : List Nack) : Type 0 where
  order : AreNumbersInOrder from (distance_ahead from number) (numbers_of left)
  known_as : (other : ℕ) → distance_ahead from number ≤ distance_ahead from other → nack_among now other left ≡ nack_among now other known

left_of : (now from number near : ℕ) (known : List Nack) → from < 65536 → number < 65536 → distance_ahead from number < 32768 → AreNumbersInOrder from near (numbers_of known) →
    IsLeft now from number known (from_number number known)
left_of now from number near [] f s h order = record { order = tt; known_as = λ other more. refl }
left_of now from number near (n ∷ known) f s h (small, far, half, rest) =
    elim (is_late (Some number) n.number) as (λ b. is_late (Some number) n.number ≡ b → IsLeft now from number (n ∷ known) (if b then from_number number known else n ∷ known)) [
      | true ↦ λ e.
          let it = left_of now from number (distance_ahead from n.number + 1) known f s h rest in
          record {
            order = it.order;
            known_as = λ other more.
                let less : distance_ahead from n.number < distance_ahead from number = before e in
                let is : (n.number == other) ≡ false = elim (n.number == other) as (λ b. (n.number == other) ≡ b → (n.number == other) ≡ false) [
                  | true ↦ λ q.
                      let same : n.number ≡ other = grind (arith, nat_tests, q) in
                      let at : distance_ahead from n.number ≡ distance_ahead from other = ap (distance_ahead from) same in
                      absurd (omega (arith, at, more, less))
                  | false ↦ λ q. q
                ] refl in
                it.known_as other more ∙ sym (ap (λ (b : Bool). if b then n else nack_among now other known) is);
          }
      | false ↦ λ e. record {
        order = (small, behind e, half, rest);
        known_as = λ other more. refl;
      }
    ] refl
  where
    before : is_late (Some number) n.number ≡ true → distance_ahead from n.number < distance_ahead from number
    before e = elim (nat_lt (distance_ahead from n.number) (distance_ahead from number)) as (λ b. nat_lt (distance_ahead from n.number) (distance_ahead from number) ≡ b → distance_ahead from n.number < distance_ahead from number) [
      | true ↦ λ q. grind (arith, nat_tests, q)
      | false ↦ λ q.
          let more : distance_ahead from number ≤ distance_ahead from n.number = grind (arith, nat_tests, q) in
          let not : is_late (Some number) n.number ≡ false = further_is_not from number n.number f s small half more in
          absurd (let bad : true ≡ false = sym e ∙ not in cc)
    ] refl

    behind : is_late (Some number) n.number ≡ false → distance_ahead from number ≤ distance_ahead from n.number
    behind e = elim (nat_lt (distance_ahead from n.number) (distance_ahead from number)) as (λ b. nat_lt (distance_ahead from n.number) (distance_ahead from number) ≡ b → distance_ahead from number ≤ distance_ahead from n.number) [
      | true ↦ λ q.
          let less : distance_ahead from n.number < distance_ahead from number = grind (arith, nat_tests, q) in
          let late : is_late (Some number) n.number ≡ true = nearer_is_behind from number n.number f s small h less in
          absurd (let bad : true ≡ false = sym late ∙ e in cc)
      | false ↦ λ q. grind (arith, nat_tests, q)
    ] refl

-- of those as far as the first of them at least, what is known of each stays
among_all : (now from near : ℕ) (missing : List ℕ) (left known : List Nack) → ((other : ℕ) → near ≤ distance_ahead from other → nack_among now other left ≡ nack_among now other known) →
    AreNumbersInOrder from near missing → map (λ (n : ℕ). nack_among now n left) missing ≡ map (λ (n : ℕ). nack_among now n known) missing
among_all now from near [] left known same order = refl
among_all now from near (n ∷ missing) left known same (small, far, half, rest) =
    ap (λ (x : Nack). x ∷ map (λ (n : ℕ). nack_among now n left) missing) (same n far)
    ∙ ap (λ (l : List Nack). nack_among now n known ∷ l) (among_all now from (distance_ahead from n + 1) missing left known (λ other more. same other (omega (arith, more, far))) rest)

pub known_as_before : (now from near nearest : ℕ) (known : List Nack) (missing : List ℕ) → from < 65536 → AreNumbersInOrder from near (numbers_of known) → AreNumbersInOrder from nearest missing →
    nacks_now now known missing ≡ map (λ (n : ℕ). nack_among now n known) missing
known_as_before now from near nearest known [] f of_known of_missing = refl
known_as_before now from near nearest known (number ∷ missing) f of_known (small, far, half, rest) =
    let left = from_number number known in
    let it = left_of now from number near known f small half of_known in
    let same : (other : ℕ) → distance_ahead from number + 1 ≤ distance_ahead from other → nack_among now other left ≡ nack_among now other known = λ other more. it.known_as other (omega (arith, more)) in
    ap (λ (x : Nack). x ∷ nacks_now now left missing) (first_among now from number left it.order ∙ it.known_as number (omega arith))
    ∙ ap (λ (l : List Nack). nack_among now number known ∷ l)
    (known_as_before now from (distance_ahead from number) (distance_ahead from number + 1) left missing f it.order rest
    ∙ among_all now from (distance_ahead from number + 1) missing left known same rest)
