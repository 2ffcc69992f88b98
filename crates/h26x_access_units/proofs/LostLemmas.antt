-- What frame numbers tell of pictures that are lost.
use Rattle.std.proofs.Common.{◌≡◌, ◌∙◌, ap, refl, ◌≤◌, ◌<◌, ◌+◌, ◌%◌, ℕ, Bool, true, false, cond, List, [], ◌∷◌, inl, inr, arith, mod-eq_of_lt, mod-lt, eq-or-lt_of_le}
use Rattle.std.proofs.Math.Nat.{mod_self}
use Rattle.std.specs.Prelude.{◌⊎◌, ◌&&◌, ◌==◌, nat_lt}
use Rattle.std.specs.List.{AllByRecursion}
use Rattle.std.proofs.lemmas.Bool.{eqb-true, ltb-true}
use Rattle.h26x_access_units.specs.LostPictures.{SentPicture, number_behind, number_behind_all, packets_missing, IsUnreferenced, MayBeLost, IsToldWithoutLoss}

-- the number behind one below `most`
step : (most before : ℕ) → before < most → (((before + 1) % most ≡ before + 1) × (before + 1 < most)) ⊎ (((before + 1) % most ≡ 0) × (before + 1 ≡ most))
step most before small = elim (eq-or-lt_of_le {n = before + 1} {m = most} (omega (arith, small))) [
  | inl same ↦ inr (ap (λ (n : ℕ). n % most) same ∙ mod_self most, same)
  | inr less ↦ inl (mod-eq_of_lt less, less)
]

-- the number behind is below it, and no other has the same
step_below : (most before : ℕ) → before < most → (before + 1) % most < most
step_below most before small = mod-lt (before + 1) {m = most} (omega (arith, small))

same_step : (most a b : ℕ) → a < most → b < most → (a + 1) % most ≡ (b + 1) % most → a ≡ b
same_step most a b p q e = elim (step most a p) [
  | inl x ↦ elim (step most b q) [
    | inl y ↦ let f = x.0 in let g = y.0 in omega (arith, e, f, g)
    | inr y ↦ let f = x.0 in let g = y.0 in absurd (omega (arith, e, f, g))
  ]
  | inr x ↦ elim (step most b q) [
    | inl y ↦ let f = x.0 in let g = y.0 in absurd (omega (arith, e, f, g))
    | inr y ↦ let f = x.1 in let g = y.1 in omega (arith, f, g)
  ]
]

-- What the number behind pictures tells: they hold no reference picture; or so many came, and it went
-- round once or not; or it began anew behind one, and as many are missing.
data Behind (most key before : ℕ) (pictures : List SentPicture) : Type 0 where
  has_none : AllByRecursion IsUnreferenced pictures → number_behind_all most before pictures ≡ before → Behind most key before pictures
  has_some : (count : ℕ) → 1 ≤ count → count ≤ packets_missing pictures → (number_behind_all most before pictures ≡ before + count) ⊎ (number_behind_all most before pictures + most ≡ before + count) → Behind most key before pictures
  has_reset : number_behind_all most before pictures + key ≤ packets_missing pictures → Behind most key before pictures

-- behind a picture more, by what stands behind it
abbrev Step : ℕ → ℕ → ℕ → SentPicture → List SentPicture → Type 0
Step most key before it later = before < most → it.missing + packets_missing later < most → MayBeLost key it →
    Behind most key (number_behind most before it) later → Behind most key before (it ∷ later)

step_reset : (most key before missing : ℕ) (reference : Bool) (later : List SentPicture) → Step most key before (record { is_reference = reference; is_reset = true; missing = missing }) later
step_reset most key before missing reference later small room it behind =
    let long = it.long refl in
    let number = number_behind_all most 0 later in
    let sum = packets_missing later in
    elim behind [
      | has_none all e ↦ let d : number + key ≤ missing + sum = omega (arith, e, long) in has_reset d
      | has_some count first few place ↦ elim place [
        | inl e ↦ let d : number + key ≤ missing + sum = omega (arith, e, long, few) in has_reset d
        | inr e ↦ absurd (omega (arith, e, few, room))
      ]
      | has_reset e ↦ let d : number + key ≤ missing + sum = omega (arith, e) in has_reset d
    ]

step_reference : (most key before missing : ℕ) (later : List SentPicture) → Step most key before (record { is_reference = true; is_reset = false; missing = missing }) later
step_reference most key before missing later small room it behind =
    let lost : 1 ≤ missing = elim (it.lost) [
      | inl packets ↦ packets
      | inr un ↦ absurd (let bad = un.1 in cc)
    ] in
    let next = (before + 1) % most in
    let number = number_behind_all most next later in
    let sum = packets_missing later in
    elim behind [
      | has_none all e ↦
          let one : 1 ≤ missing + sum = omega (arith, lost) in
          let place : (number ≡ before + 1) ⊎ (number + most ≡ before + 1) = elim (step most before small) [
            | inl x ↦ let f = x.0 in inl (omega (arith, e, f))
            | inr x ↦ let f = x.0 in let g = x.1 in inr (omega (arith, e, f, g))
          ] in
          has_some 1 (omega arith) one place
      | has_some count first few at ↦
          let more : count + 1 ≤ missing + sum = omega (arith, lost, few) in
          let place : (number ≡ before + (count + 1)) ⊎ (number + most ≡ before + (count + 1)) = elim (step most before small) [
            | inl x ↦ let f = x.0 in elim at [
              | inl e ↦ inl (omega (arith, e, f))
              | inr e ↦ inr (omega (arith, e, f))
            ]
            | inr x ↦ let f = x.0 in let g = x.1 in elim at [
              | inl e ↦ inr (omega (arith, e, f, g))
              | inr e ↦ absurd (omega (arith, e, f, few, room))
            ]
          ] in
          has_some (count + 1) (omega arith) more place
      | has_reset e ↦ let d : number + key ≤ missing + sum = omega (arith, e) in has_reset d
    ]

step_other : (most key before missing : ℕ) (later : List SentPicture) → Step most key before (record { is_reference = false; is_reset = false; missing = missing }) later
step_other most key before missing later small room it behind =
    let number = number_behind_all most before later in
    let sum = packets_missing later in
    elim behind [
      | has_none all e ↦ has_none ((refl, refl), all) e
      | has_some count first few place ↦ let more : count ≤ missing + sum = omega (arith, few) in has_some count first more place
      | has_reset e ↦ let d : number + key ≤ missing + sum = omega (arith, e) in has_reset d
    ]

step_any : (most key before : ℕ) (it : SentPicture) (later : List SentPicture) → Step most key before it later
step_any most key before it later = by it.is_reset it.is_reference
  where
    by : (reset reference : Bool) → Step most key before (record { is_reference = reference; is_reset = reset; missing = it.missing }) later
    by true reference = step_reset most key before it.missing reference later
    by false true = step_reference most key before it.missing later
    by false false = step_other most key before it.missing later

below_behind : (most before : ℕ) (it : SentPicture) → before < most → number_behind most before it < most
below_behind most before it small = by it.is_reset it.is_reference
  where
    by : (reset reference : Bool) → cond reset 0 (cond reference ((before + 1) % most) before) < most
    by true reference = omega (arith, small)
    by false true = step_below most before small
    by false false = small

behind_all : (most key before : ℕ) (pictures : List SentPicture) → before < most → packets_missing pictures < most → AllByRecursion (MayBeLost key) pictures → Behind most key before pictures
behind_all most key before [] small room all = has_none tt refl
behind_all most key before (it ∷ later) small room all =
    step_any most key before it later small room all.0
    (behind_all most key (number_behind most before it) later (below_behind most before it small) (omega (arith, room)) all.1)

below_all : (most before : ℕ) (pictures : List SentPicture) → before < most → number_behind_all most before pictures < most
below_all most before [] small = small
below_all most before (it ∷ later) small = below_all most (number_behind most before it) later (below_behind most before it small)

both : (a b : Bool) → (a && b) ≡ true → (a ≡ true) × (b ≡ true)
both true b e = (refl, e)
both false b e = absurd (let bad = e in cc)

pub none_is_lost : (most key last missing : ℕ) (pictures : List SentPicture) → IsToldWithoutLoss most key last missing pictures
none_is_lost most key last missing pictures least small lost count told =
    let number = number_behind_all most last pictures in
    let a = both ((number + 1) % most == (last + 1) % most) (nat_lt missing most && nat_lt missing (last + key)) told in
    let b = both (nat_lt missing most) (nat_lt missing (last + key)) a.1 in
    let same : number ≡ last = same_step most number last (below_all most last pictures small) small (eqb-true ((number + 1) % most) ((last + 1) % most) a.0) in
    let below : missing < most = ltb-true missing most b.0 in
    let few : missing < last + key = ltb-true missing (last + key) b.1 in
    elim (behind_all most key last pictures small (omega (arith, count, below)) lost) [
      | has_none all e ↦ all
      | has_some times first most' place ↦ elim place [
        | inl e ↦ absurd (omega (arith, e, same, first))
        | inr e ↦ absurd (omega (arith, e, same, most', count, below))
      ]
      | has_reset e ↦ absurd (omega (arith, e, same, count, few))
    ]
