-- Of packets in order those that were taken.
use Rattle.std.proofs.Common.{◌≡◌, ℕ, ◌+◌, ◌<◌, ◌≤◌, Bool, true, false, cond, List, [], ◌∷◌, map, Option, None, Some, Result, Ok, Err, refl, sym, ap, subst, arith}
use Rattle.std.specs.List.{AllByRecursion}
use Rattle.h26x_core.specs.declared.error.PacketError.{PacketError}
use Rattle.h26x_receiver.specs.declared.received.Received.{Received}
use Rattle.h26x_receiver.specs.declared.received.Received.TheVariants.{InOrder, Gap, TooLong, Late}
use Rattle.h26x_receiver.specs.Delivery.{taken_places, IsNearPlace, AreNearPlaces, IsNextPlace, AreNextPlaces, NoneIsRefused}
use Rattle.h26x_receiver.specs.Sequenced.{is_taken}
use Rattle.h26x_receiver.proofs.DeliveryLemmas.{GoUp}
use Rattle.h26x_receiver.proofs.PlaceLemmas.{IsOn, next_near}
use Rattle.h26x_reorder.specs.Rtp.{RtpBody}
use Rattle.h26x_assembler.specs.AccessUnit.{Assembly, after_rtp, after_all_rtp, HaveAssemblyAnswers}
use Rattle.h26x_assembler.specs.StampedCalls.{body_of_place}

-- the packets that were taken
abbrev pub taken_packets : List (ℕ × RtpBody) → List (Result Received PacketError) → List (ℕ × RtpBody)
taken_packets (p ∷ packets) (a ∷ answers) = cond (is_taken a) (p ∷ taken_packets packets answers) (taken_packets packets answers)
taken_packets packets answers = []

-- their answers
abbrev pub taken_answers : List (Result Received PacketError) → List (Result Received PacketError)
taken_answers [] = []
taken_answers (a ∷ answers) = cond (is_taken a) (a ∷ taken_answers answers) (taken_answers answers)

-- the others leave everything
pub record IsOnlyTaken (most limit : ℕ) (s : Assembly) (packets : List (ℕ × RtpBody)) (answers : List (Result Received PacketError)) : Type 0 where
  pub each : HaveAssemblyAnswers most limit s (taken_packets packets answers) (taken_answers answers)
  pub none : NoneIsRefused (taken_answers answers)
  pub same : after_all_rtp most limit s (taken_packets packets answers) (taken_answers answers) ≡ after_all_rtp most limit s packets answers

pub only_taken : (most limit : ℕ) (s : Assembly) (packets : List (ℕ × RtpBody)) (answers : List (Result Received PacketError)) → HaveAssemblyAnswers most limit s packets answers →
    IsOnlyTaken most limit s packets answers
only_taken most limit s [] [] each = record { each = tt; none = tt; same = refl }
only_taken most limit s [] (a ∷ answers) each = absurd each
only_taken most limit s (p ∷ packets) [] each = absurd each
only_taken most limit s (p ∷ packets) (Err e ∷ answers) each =
    let rest = only_taken most limit s packets answers each.1 in record { each = rest.each; none = rest.none; same = rest.same }
only_taken most limit s (p ∷ packets) (Ok (Late n) ∷ answers) each =
    let rest = only_taken most limit s packets answers each.1 in record { each = rest.each; none = rest.none; same = rest.same }
only_taken most limit s (p ∷ packets) (Ok InOrder ∷ answers) each =
    let rest = only_taken most limit (after_rtp most limit s p (Ok InOrder)) packets answers each.1 in record { each = (each.0, rest.each); none = (refl, rest.none); same = rest.same }
only_taken most limit s (p ∷ packets) (Ok (Gap n) ∷ answers) each =
    let rest = only_taken most limit (after_rtp most limit s p (Ok (Gap n))) packets answers each.1 in record { each = (each.0, rest.each); none = (refl, rest.none); same = rest.same }
only_taken most limit s (p ∷ packets) (Ok (TooLong n) ∷ answers) each =
    let rest = only_taken most limit (after_rtp most limit s p (Ok (TooLong n))) packets answers each.1 in record { each = (each.0, rest.each); none = (refl, rest.none); same = rest.same }

-- by their places
pub taken_at : (sent : List RtpBody) (first : ℕ) (places : List ℕ) (answers : List (Result Received PacketError)) →
    taken_packets (map (body_of_place sent first) places) answers ≡ map (body_of_place sent first) (taken_places places answers)
taken_at sent first [] answers = refl
taken_at sent first (place ∷ places) [] = refl
taken_at sent first (place ∷ places) (a ∷ answers) =
    let rest = taken_at sent first places answers in
    elim (is_taken a) as (λ b. cond b (body_of_place sent first place ∷ taken_packets (map (body_of_place sent first) places) answers) (taken_packets (map (body_of_place sent first) places) answers)
    ≡ map (body_of_place sent first) (cond b (place ∷ taken_places places answers) (taken_places places answers))) [
      | true ↦ ap (λ (l : List (ℕ × RtpBody)). body_of_place sent first place ∷ l) rest
      | false ↦ rest
    ]

-- those of packets sent are places of packets sent
pub taken_below : (most : ℕ) (places : List ℕ) (answers : List (Result Received PacketError)) → AllByRecursion (λ place. place < most) places →
    AllByRecursion (λ place. place < most) (taken_places places answers)
taken_below most [] answers each = tt
taken_below most (place ∷ places) [] each = tt
taken_below most (place ∷ places) (a ∷ answers) (here, each) =
    let rest = taken_below most places answers each in
    elim (is_taken a) as (λ b. AllByRecursion (λ place. place < most) (cond b (place ∷ taken_places places answers) (taken_places places answers))) [
      | true ↦ (here, rest)
      | false ↦ rest
    ]

-- places that go up from a place on go up from an earlier one
up_more : (e : Option ℕ) (place : ℕ) (places : List ℕ) → IsOn e place → GoUp (Some (place + 1)) places → GoUp e places
up_more e place [] on up = tt
up_more None place (q ∷ places) on up = (tt, up.1)
up_more (Some k) place (q ∷ places) on up = let low : place + 1 ≤ q = up.0 in (omega (arith, on, low), up.1)

next_of : (e : Option ℕ) (place : ℕ) → IsOn e place → IsNearPlace e place → IsNextPlace e place
next_of None place on near = tt
next_of (Some k) place on near = (on, near.0)

-- where they are near, those taken follow each other in short gaps
pub taken_next : (e : Option ℕ) (places : List ℕ) (answers : List (Result Received PacketError)) → GoUp e places → AreNearPlaces e places answers → AreNextPlaces e (taken_places places answers)
taken_next e [] answers up near = tt
taken_next e (place ∷ places) [] up near = tt
taken_next e (place ∷ places) (a ∷ answers) up near =
    elim (is_taken a) as (λ b. AreNearPlaces (cond b (Some (place + 1)) e) places answers → AreNextPlaces e (cond b (place ∷ taken_places places answers) (taken_places places answers))) [
      | true ↦ λ later. (next_of e place up.0 near.0, taken_next (Some (place + 1)) places answers up.1 later)
      | false ↦ λ later. taken_next e places answers (up_more e place places up.0 up.1) later
    ] near.1

-- where all are taken, places that follow each other in short gaps are near
pub all_near : (e : Option ℕ) (places : List ℕ) (answers : List (Result Received PacketError)) → AreNextPlaces e places → AllByRecursion (λ a. is_taken a ≡ true) answers → AreNearPlaces e places answers
all_near e [] answers next all = tt
all_near e (place ∷ places) [] next all = tt
all_near e (place ∷ places) (a ∷ answers) next all =
    (next_near e place next.0, subst (λ (b : Bool). AreNearPlaces (cond b (Some (place + 1)) e) places answers) (sym all.0) (all_near (Some (place + 1)) places answers next.1 all.1))
