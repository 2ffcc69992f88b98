use Rattle.std.proofs.Common.{◌≡◌, ◌∙◌, ap, sym, subst, refl, ℕ, true, false, List, [], ◌∷◌, Option, Some, None, arith}
use Rattle.h26x_reorder.specs.Rtp.{RtpBody, rtp_body}
use Rattle.h26x_access_units.specs.WholeSent.{sent_at, IsUnitFront, IsFrontNumber}
use Rattle.h26x_access_units.specs.ToldWhole.{IsFrontDue, AreOfSenderAtFronts, ToldFirst, none_done, took_packet, ended_its_stream, told_its_first}
use Rattle.h26x_access_units.proofs.told_cases.numbers_told_of_fronts.Goals as goal

abbrev b : RtpBody
b = rtp_body 5 true (1 ∷ [])

abbrev two : List RtpBody
two = rtp_body 4 true (1 ∷ []) ∷ b ∷ []

-- the second of two packets, with another timestamp
front : IsUnitFront two 1
front before is same =
    let first : before ≡ 0 = omega (arith, is) in
    let bad : 4 ≡ 5 = subst (λ (x : ℕ). (sent_at two x).timestamp ≡ 5) first same in
    omega (arith, bad)

second : IsFrontDue two 65535 0 (Some 1)
second = record { front = record { place = 1; within = omega arith; number_is = refl; front = front }; due_is = refl }

pub returns-clause-told : goal.returns-clause-told
returns-clause-told c = told_its_first 0 second refl none_done

pub returns-clause-taken : goal.returns-clause-taken
returns-clause-taken c = took_packet (0, b) (record { place = 1; within = omega arith; number = refl; body = refl }) (omega arith, omega arith) (told_its_first 0 second refl (ended_its_stream none_done))

-- the place is due
is_due : (due : Option ℕ) → AreOfSenderAtFronts two 65535 due (ToldFirst 0 ∷ []) → due ≡ None → ⊥
is_due due (told_its_first number told is_new of) is = let bad = sym is ∙ told.due_is in cc

pub returns-clause-due : goal.returns-clause-due
returns-clause-due c it = is_due None it refl

abbrev one_unit : List RtpBody
one_unit = rtp_body 4 false (1 ∷ []) ∷ rtp_body 4 true (1 ∷ []) ∷ []

not_within : IsFrontNumber one_unit 65535 0 → ⊥
not_within it =
    let within = it.within in
    let number = it.number_is in
    let place : it.place ≡ 1 = omega (arith, within, number) in
    it.front 0 place (ap (λ (x : ℕ). (sent_at one_unit x).timestamp) (sym place))

pub returns-clause-within : goal.returns-clause-within
returns-clause-within c due (told_its_first number told is_new of) = not_within told.front

pub returns-clause-behind : goal.returns-clause-behind
returns-clause-behind c due (told_its_first number told is_new of) = let bad = is_new in cc

not_sent : IsFrontNumber (rtp_body 4 true (1 ∷ []) ∷ []) 7 8 → ⊥
not_sent it = let within = it.within in let number = it.number_is in omega (arith, within, number)

pub returns-clause-unsent : goal.returns-clause-unsent
returns-clause-unsent c due (told_its_first number told is_new of) = not_sent told.front
