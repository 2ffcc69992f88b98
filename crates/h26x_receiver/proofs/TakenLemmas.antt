-- What packets change beside the run, one by one.
use Rattle.std.proofs.Common.{◌≡◌, ℕ, true, List, [], ◌∷◌, ◌++◌, length, take, get_or, Option, None, Result, Ok, Err, ◌<◌, ◌+◌, refl, sym, ap, ◌∙◌, arith}
use Rattle.std.specs.Prelude.{if◌then◌else◌, OnErr}
use Rattle.std.proofs.lemmas.List.{length-take-le}
use Rattle.std.proofs.lemmas.Grind.{take_at_read}
use Rattle.h26x_core.specs.declared.error.PacketError.{PacketError}
use Rattle.h26x_receiver.specs.declared.received.Received.{Received}
use Rattle.h26x_receiver.specs.declared.received.Received.TheVariants.{InOrder, Gap, TooLong, Late}
use Rattle.h26x_receiver.specs.Sequenced.{is_taken, having_taken_all}
use Rattle.h26x_receiver.proofs.AnswerLemmas.{accepted}

-- one packet more, and its answer
taken_more : {A : Type 0} → (having : List ℕ → A → A) (packets : List (List ℕ)) (answers : List (Result Received PacketError)) (packet : List ℕ) (answer : Result Received PacketError) (it : A) →
    length packets ≡ length answers → having_taken_all having (packets ++ packet ∷ []) (answers ++ answer ∷ []) it
    ≡ (if is_taken answer then having packet (having_taken_all having packets answers it) else having_taken_all having packets answers it)
taken_more having [] [] packet answer it same = refl
taken_more having [] (a ∷ answers) packet answer it same = absurd (omega arith)
taken_more having (p ∷ packets) [] packet answer it same = absurd (omega arith)
taken_more having (p ∷ packets) (a ∷ answers) packet answer it same =
    taken_more having packets answers packet answer (if is_taken a then having p it else it) (omega arith)

-- what a packet leaves beside the run, if it was taken; else all is as it was
taken_step : {A : Type 0} → (with_run : Option (List ℕ) → A → A) (having : List ℕ → A → A) (packet : List ℕ) (answer : Result Received PacketError) (old new so_far : A) →
    ((run : Option (List ℕ)) (it : A) → having packet (with_run run it) ≡ with_run run (having packet it)) →
    with_run None old ≡ with_run None so_far → (is_taken answer ≡ true → with_run None new ≡ with_run None (having packet old)) →
    ((n : ℕ) → answer ≡ accepted (Late n) → new ≡ old) → OnErr answer (new ≡ old) →
    with_run None new ≡ with_run None (if is_taken answer then having packet so_far else so_far)
taken_step with_run having packet (Err e) old new so_far beside same taken late kept = ap (with_run None) kept ∙ same
taken_step with_run having packet (Ok (Late n)) old new so_far beside same taken late kept = ap (with_run None) (late n refl) ∙ same
taken_step with_run having packet (Ok InOrder) old new so_far beside same taken late kept =
    taken refl ∙ sym (beside None old) ∙ ap (having packet) same ∙ beside None so_far
taken_step with_run having packet (Ok (Gap n)) old new so_far beside same taken late kept =
    taken refl ∙ sym (beside None old) ∙ ap (having packet) same ∙ beside None so_far
taken_step with_run having packet (Ok (TooLong n)) old new so_far beside same taken late kept =
    taken refl ∙ sym (beside None old) ∙ ap (having packet) same ∙ beside None so_far

-- the same of the packets so far
pub taken_on : {A : Type 0} → (with_run : Option (List ℕ) → A → A) (having : List ℕ → A → A) (packets : List (List ℕ)) (i : ℕ) (packet : List ℕ) (answers : List (Result Received PacketError))
    (answer : Result Received PacketError) (first old new : A) → i < length packets → get_or packets i packet ≡ packet → length answers ≡ i →
    ((run : Option (List ℕ)) (it : A) → having packet (with_run run it) ≡ with_run run (having packet it)) →
    with_run None old ≡ with_run None (having_taken_all having (take i packets) answers first) → (is_taken answer ≡ true → with_run None new ≡ with_run None (having packet old)) →
    ((n : ℕ) → answer ≡ accepted (Late n) → new ≡ old) → OnErr answer (new ≡ old) →
    with_run None new ≡ with_run None (having_taken_all having (take (i + 1) packets) (answers ++ answer ∷ []) first)
taken_on with_run having packets i packet answers answer first old new within here count beside same taken late kept =
    let front = take i packets in
    let more : take (i + 1) packets ≡ front ++ packet ∷ [] = (take_at_read packets i packet within).1 ∙ ap (λ (p : List ℕ). front ++ p ∷ []) here in
    let long = length-take-le i packets (omega (arith, within)) in
    taken_step with_run having packet answer old new (having_taken_all having front answers first) beside same taken late kept
    ∙ ap (with_run None) (sym (taken_more having front answers packet answer first (omega (arith, long, count))))
    ∙ ap (λ (l : List (List ℕ)). with_run None (having_taken_all having l (answers ++ answer ∷ []) first)) (sym more)
