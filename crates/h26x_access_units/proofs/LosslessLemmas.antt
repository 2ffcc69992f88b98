-- Where packets were taken without a loss each access unit that ended is told whole.
use Rattle.std.proofs.Common.{◌≡◌, ◌∙◌, ap, sym, subst, refl, ℕ, zero, suc, ◌+◌, ◌-◌, ◌≤◌, ◌<◌, List, [], ◌∷◌, ◌++◌, length, append_assoc, arith, inl, inr}
use Rattle.std.specs.Prelude.{◌⊎◌}
use Rattle.std.specs.List.{Contains}
use Rattle.std.proofs.lemmas.List.{append-nil}
use Rattle.h26x_model.specs.Receive.DepacketizerState.{DepacketizerState}
use Rattle.h26x_reorder.specs.Rtp.{RtpBody}
use Rattle.h26x_access_units.specs.ToldWhole.{Deed, DroppedAll, took_place, took_places, sent_text, IsUnitSent, IsBegunSo, behind_packet, IsEndedSo, by_next, WereAllTaken, WereTakenWithoutLoss}

module _ (sent : List RtpBody) (first : ℕ) where
  -- so many, and those behind them
  took_split : (b a n start : ℕ) → n ≡ a + b → took_places sent first start n ≡ took_places sent first (start + a) b ++ took_places sent first start a
  took_split zero a n start is = ap (took_places sent first start) (omega (arith, is))
  took_split (suc b) a zero start is = absurd (omega (arith, is))
  took_split (suc b) a (suc n) start is =
      ap (λ (x : ℕ). took_place sent first x ∷ took_places sent first start n) (omega (arith, is))
      ∙ ap (λ (x : List Deed). took_place sent first (start + a + b) ∷ x) (took_split b a n start (omega (arith, is)))

  -- the first of them is the last
  took_first : (m a : ℕ) → took_places sent first a (suc m) ≡ took_places sent first (a + 1) m ++ took_place sent first a ∷ []
  took_first zero a = ap (λ (x : ℕ). took_place sent first x ∷ []) (omega arith)
  took_first (suc m) a =
      ap (λ (x : ℕ). took_place sent first x ∷ took_places sent first a (suc m)) (omega arith)
      ∙ ap (λ (x : List Deed). took_place sent first (a + 1 + m) ∷ x) (took_first m a)

  -- none is dropped by these, behind others by which none is
  none_dropped : (m a : ℕ) (later : List Deed) → (Contains later DroppedAll → ⊥) → Contains (later ++ took_places sent first a m) DroppedAll → ⊥
  none_dropped m a [] none is = by m is
    where
      by : (m : ℕ) → Contains (took_places sent first a m) DroppedAll → ⊥
      by zero (k, within, same) = omega (arith, within)
      by (suc m) (zero, within, same) = let bad = same in cc
      by (suc m) (suc k, within, same) = by m (k, omega (arith, within), same)
  none_dropped m a (l ∷ later) none (zero, within, same) = none (zero, omega arith, same)
  none_dropped m a (l ∷ later) none (suc k, within, same) = none_dropped m a later (λ (j, less, is). none (suc j, omega (arith, less), is)) (k, omega (arith, within), same)

  module _ (r : DepacketizerState) (place count start n : ℕ) (deeds later before : List Deed) (all : deeds ≡ later ++ (took_places sent first start n ++ before)) (unit : IsUnitSent sent place count) where
    abbrev Begun : List Deed → Type 0
    Begun ds = IsBegunSo r sent first place (sent_text r sent place count) ds

    begun_by : (k : ℕ) → place ≡ start + k → (place ≡ start → Begun before) → Begun (took_places sent first start k ++ before)
    begun_by zero is begun = begun (omega (arith, is))
    begun_by (suc k) is begun = behind_packet (start + k) (took_places sent first start k ++ before) (omega (arith, is))

    abbrev own : List Deed
    own = took_places sent first place count

    last_ones : (j m : ℕ) → place ≡ start + j → n ≡ j + count + m → deeds ≡ (later ++ took_places sent first (place + count) m) ++ (own ++ (took_places sent first start j ++ before))
    last_ones j m j_is is =
        let behind = took_places sent first (start + (j + count)) m in
        let two : took_places sent first start n ≡ behind ++ (took_places sent first (start + j) count ++ took_places sent first start j) =
        took_split m (j + count) n start is ∙ ap (λ (x : List Deed). behind ++ x) (took_split count j (j + count) start refl) in
        let place_is : start + j ≡ place = omega (arith, j_is) in
        let end_is : start + (j + count) ≡ place + count = omega (arith, j_is) in
        let three : took_places sent first start n ≡ took_places sent first (place + count) m ++ (own ++ took_places sent first start j) =
        two ∙ ap (λ (x : ℕ). took_places sent first x m ++ (took_places sent first (start + j) count ++ took_places sent first start j)) end_is
        ∙ ap (λ (x : ℕ). took_places sent first (place + count) m ++ (took_places sent first x count ++ took_places sent first start j)) place_is in
        all
        ∙ ap (λ (x : List Deed). later ++ (x ++ before)) three
        ∙ ap (λ (x : List Deed). later ++ x) (append_assoc (took_places sent first (place + count) m) (own ++ took_places sent first start j) before)
        ∙ ap (λ (x : List Deed). later ++ (took_places sent first (place + count) m ++ x)) (append_assoc own (took_places sent first start j) before)
        ∙ sym (append_assoc later (took_places sent first (place + count) m) (own ++ (took_places sent first start j ++ before)))

    ended_by : (m : ℕ) → start + n ≡ place + count + m → start + n ≤ length sent → (place + count < start + n) ⊎ IsEndedSo r sent first place count later → IsEndedSo r sent first place count (later ++ took_places sent first (place + count) m)
    ended_by zero is few (inl less) = absurd (omega (arith, is, less))
    ended_by zero is few (inr ended) = subst (IsEndedSo r sent first place count) (sym (append-nil later)) ended
    ended_by (suc m) is few either =
        by_next (later ++ took_places sent first (place + count + 1) m)
        (ap (λ (x : List Deed). later ++ x) (took_first m (place + count)) ∙ sym (append_assoc later (took_places sent first (place + count + 1) m) (took_place sent first (place + count) ∷ [])))
        (omega (arith, is, few))

    were_taken : (j m : ℕ) → place ≡ start + j → n ≡ j + count + m → start + n ≤ length sent → (place ≡ start → Begun before) → (place + count < start + n) ⊎ IsEndedSo r sent first place count later → (Contains later DroppedAll → ⊥) → WereAllTaken r sent first place count deeds
    were_taken j m j_is is few begun ended stays = record {
      later = later ++ took_places sent first (place + count) m;
      before = took_places sent first start j ++ before;
      split = last_ones j m j_is is;
      begun = begun_by j j_is begun;
      ended = ended_by m (omega (arith, is, j_is)) few ended;
      stays = none_dropped m (place + count) later stays;
    }

pub lossless_taken : (r : DepacketizerState) (sent : List RtpBody) (first place count : ℕ) (deeds : List Deed) → IsUnitSent sent place count → WereTakenWithoutLoss r sent first place count deeds → WereAllTaken r sent first place count deeds
lossless_taken r sent first place count deeds unit it =
    let within = it.within in
    let behind = it.behind in
    were_taken sent first r place count it.start it.taken deeds it.later it.before it.deeds_are unit (place - it.start) (it.start + it.taken - (place + count)) (omega (arith, behind)) (omega (arith, within, behind)) it.few it.begun it.ended it.stays
