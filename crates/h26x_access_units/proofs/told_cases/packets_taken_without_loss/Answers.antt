use Rattle.std.proofs.Common.{◌≡◌, ap, sym, subst, ℕ, zero, suc, ◌+◌, ◌≤◌, ◌<◌, Bool, true, false, List, [], ◌∷◌, ◌++◌, refl, inl, inr, arith}
use Rattle.std.specs.Prelude.{◌==◌, ◌⊎◌}
use Rattle.std.specs.List.{Contains}
use Rattle.std.proofs.lemmas.Bool.Decides.{nat_tests}
use Rattle.std.proofs.lemmas.List.Elements.{Contains-append_left, Contains-append_right}
use Rattle.h26x_model.specs.Receive.DepacketizerState.{DepacketizerState}
use Rattle.h26x_reorder.specs.Rtp.{RtpBody, rtp_body}
use Rattle.h26x_access_units.specs.WholeSent.{bears_slice, sent_at}
use Rattle.h26x_access_units.specs.ToldWhole.{Deed, TookPacket, PassedPacket, EndedBefore, EndedStream, ToldFirst, DroppedAll, took_place, took_places, IsEndedSo, by_own_marker, by_next, as_first_told}
use Rattle.h26x_access_units.proofs.told_cases.packets_taken_without_loss.Goals as goal

abbrev two : List RtpBody
two = rtp_body 4 true (1 ∷ []) ∷ rtp_body 5 true (2 ∷ []) ∷ []

none_dropped : Contains [] DroppedAll → ⊥
none_dropped (k, within, same) = omega (arith, within)

not_dropped : Contains (EndedStream ∷ []) DroppedAll → ⊥
not_dropped (zero, within, same) = let bad = same in cc
not_dropped (suc k, within, same) = omega (arith, within)

pub returns-clause-all : goal.returns-clause-all
returns-clause-all c r = record {
  start = 0;
  taken = 3;
  later = EndedStream ∷ [];
  before = [];
  deeds_are = refl;
  few = omega arith;
  behind = omega arith;
  within = omega arith;
  begun = λ e. absurd (omega (arith, e));
  ended = inl (omega arith);
  stays = not_dropped;
}

pub returns-clause-later : goal.returns-clause-later
returns-clause-later c r = record {
  start = 1;
  taken = 2;
  later = [];
  before = ToldFirst 0 ∷ [];
  deeds_are = refl;
  few = omega arith;
  behind = omega arith;
  within = omega arith;
  begun = λ e. as_first_told [];
  ended = inl (omega arith);
  stays = none_dropped;
}

pub returns-clause-last : goal.returns-clause-last
returns-clause-last c r bears = record {
  start = 0;
  taken = 2;
  later = [];
  before = [];
  deeds_are = refl;
  few = omega arith;
  behind = omega arith;
  within = omega arith;
  begun = λ e. absurd (omega (arith, e));
  ended = inr (by_own_marker 0 0 refl refl (omega arith) bears);
  stays = none_dropped;
}

not_both : (x : Bool) → x ≡ false → x ≡ true → ⊥
not_both true is e = let bad = is in cc
not_both false is e = let bad = e in cc

-- without a slice the marker of the last packet ends nothing
not_ended : (r : DepacketizerState) (taken : ℕ) (later : List Deed) → bears_slice r.format (2 ∷ []) ≡ false → taken ≤ 2 → (2 < taken) ⊎ IsEndedSo r two 65535 1 1 later → ⊥
not_ended r taken later none few (inl less) = omega (arith, few, less)
not_ended r taken later none few (inr (by_own_marker last k last_is marker less bears)) =
    let first : 1 + k ≡ 1 = omega (arith, less) in
    not_both _ none (subst (λ (x : ℕ). bears_slice r.format (sent_at two x).payload ≡ true) first bears)
not_ended r taken later none few (inr (by_next since later_is less)) = omega (arith, less)

pub returns-clause-open : goal.returns-clause-open
returns-clause-open c r none it = not_ended r (it.start + it.taken) it.later none it.few it.ended

-- each place of those that were taken is among them
in_places : (sent : List RtpBody) (first start n k : ℕ) → start ≤ k → k < start + n → Contains (took_places sent first start n) (took_place sent first k)
in_places sent first start zero k le lt = absurd (omega (arith, le, lt))
in_places sent first start (suc n) k le lt = elim (k == start + n) as (λ b. (k == start + n) ≡ b → Contains (took_places sent first start (suc n)) (took_place sent first k)) [
  | true ↦ λ e. let is : start + n ≡ k = grind (arith, nat_tests) in (zero, omega arith, ap (took_place sent first) is)
  | false ↦ λ e. let less : k < start + n = grind (arith, nat_tests, lt) in let (j, within, same) = in_places sent first start n k le less in (suc j, omega (arith, within), same)
] refl

-- the number of a packet that was taken
abbrev taken_number : Deed → ℕ
taken_number (TookPacket p) = p.0
taken_number (PassedPacket p) = 0
taken_number (EndedBefore p) = 0
taken_number EndedStream = 0
taken_number (ToldFirst number) = number
taken_number DroppedAll = 0

none_lost : (a c b : RtpBody) → Contains (TookPacket (1, c) ∷ TookPacket (65535, a) ∷ []) (TookPacket (0, b)) → ⊥
none_lost a c b (zero, within, same) = let bad : 1 ≡ 0 = ap taken_number same in omega (arith, bad)
none_lost a c b (suc zero, within, same) = let bad : 65535 ≡ 0 = ap taken_number same in omega (arith, bad)
none_lost a c b (suc (suc k), within, same) = omega (arith, within)

pub returns-clause-lost : goal.returns-clause-lost
returns-clause-lost c r it =
    let sent = rtp_body 4 true (1 ∷ []) ∷ rtp_body 5 true (2 ∷ []) ∷ rtp_body 6 true (3 ∷ []) ∷ [] in
    let behind = it.behind in
    let within = it.within in
    let places = took_places sent 65535 it.start it.taken in
    let is = in_places sent 65535 it.start it.taken 1 behind (omega (arith, within)) in
    none_lost (rtp_body 4 true (1 ∷ [])) (rtp_body 6 true (3 ∷ [])) (rtp_body 5 true (2 ∷ []))
    (subst (λ (ds : List Deed). Contains ds (TookPacket (0, rtp_body 5 true (2 ∷ [])))) (sym it.deeds_are)
    (Contains-append_right it.later (places ++ it.before) (TookPacket (0, rtp_body 5 true (2 ∷ []))) (Contains-append_left places it.before (TookPacket (0, rtp_body 5 true (2 ∷ []))) is)))

same_head : (x y : Deed) (a b : List Deed) → x ∷ a ≡ y ∷ b → x ≡ y
same_head x y a b e = cc

pub returns-clause-dropped : goal.returns-clause-dropped
returns-clause-dropped c r it = by it.start it.taken it.later it.before it.deeds_are it.behind it.within it.stays
  where
    by : (start taken : ℕ) (later before : List Deed) → DroppedAll ∷ TookPacket (0, rtp_body 5 true (2 ∷ [])) ∷ TookPacket (65535, rtp_body 4 true (1 ∷ [])) ∷ ToldFirst 65535 ∷ [] ≡ later ++ (took_places two 65535 start taken ++ before) →
        start ≤ 0 → 1 ≤ start + taken → (Contains later DroppedAll → ⊥) → ⊥
    by start zero [] before e le within stays = omega (arith, le, within)
    by start (suc n) [] before e le within stays = let bad = same_head DroppedAll (took_place two 65535 (start + n)) _ _ e in cc
    by start taken (l ∷ later) before e le within stays = stays (zero, omega arith, sym (same_head DroppedAll l _ _ e))
