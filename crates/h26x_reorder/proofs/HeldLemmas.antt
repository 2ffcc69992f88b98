-- Where among packets in the order of their numbers one belongs.
use Rattle.std.proofs.Common.{◌≡◌, ℕ, zero, suc, ◌+◌, ◌-◌, ◌<◌, ◌≤◌, Bool, true, false, List, [], ◌∷◌, length, get_or, refl, sym, ap, ◌∙◌, arith}
use Rattle.std.specs.Prelude.{◌==◌, ◌||◌, nat_lt}
use Rattle.std.specs.List.{insert}
use Rattle.std.proofs.lemmas.Bool.Decides.{nat_tests}
use Rattle.h26x_core.specs.Sequence.{distance_ahead}
use Rattle.h26x_reorder.specs.Rtp.{RtpBody}
use Rattle.h26x_reorder.specs.ReorderBuffer.{put_packet, is_number_held, AreHeldInOrder}

-- numbers at one distance are one
pub same_distance : (due a b : ℕ) → due < 65536 → a < 65536 → b < 65536 → distance_ahead due a ≡ distance_ahead due b → a ≡ b
same_distance due a b d x y same = omega arith

-- the distance of a packet held
abbrev pub distance_of : ℕ → ℕ × RtpBody → ℕ
distance_of due p = distance_ahead due p.0

-- each is at least so far ahead, and its number is one
pub at_least : (due from : ℕ) (held : List (ℕ × RtpBody)) → AreHeldInOrder due from held → (i : ℕ) (d : ℕ × RtpBody) → i < length held →
    (from ≤ distance_of due (get_or held i d)) × ((get_or held i d).0 < 65536)
at_least due from [] order i d in_range = absurd (omega arith)
at_least due from (q ∷ held) order zero d in_range = (order.1, order.0)
at_least due from (q ∷ held) order (suc i) d in_range =
    let rest = at_least due (distance_of due q + 1) held order.3 i d (omega arith) in
    (omega (arith, rest.0, order.1), rest.1)

-- distances rise along the list
pub rise : (due from : ℕ) (held : List (ℕ × RtpBody)) → AreHeldInOrder due from held → (i j : ℕ) (d : ℕ × RtpBody) → i ≤ j → j < length held →
    distance_of due (get_or held i d) ≤ distance_of due (get_or held j d)
rise due from [] order i j d le in_range = absurd (omega arith)
rise due from (q ∷ held) order zero zero d le in_range = omega arith
rise due from (q ∷ held) order zero (suc j) d le in_range =
    let rest = at_least due (distance_of due q + 1) held order.3 j d (omega arith) in omega (arith, rest.0)
rise due from (q ∷ held) order (suc i) zero d le in_range = absurd (omega arith)
rise due from (q ∷ held) order (suc i) (suc j) d le in_range = rise due (distance_of due q + 1) held order.3 i j d (omega arith) (omega arith)

-- one that stands at a place is held
pub found_at : (due number : ℕ) (held : List (ℕ × RtpBody)) (at : ℕ) → due < 65536 → number < 65536 → at < length held →
    ((d : ℕ × RtpBody) → (distance_of due (get_or held at d) ≡ distance_ahead due number) × ((get_or held at d).0 < 65536)) →
    is_number_held number held ≡ true
found_at due number [] at small one in_range same = absurd (omega arith)
found_at due number (q ∷ held) zero small one in_range same =
    let h = same q in
    let e : q.0 ≡ number = same_distance due q.0 number small h.1 one h.0 in
    let t : (q.0 == number) ≡ true = grind (arith, nat_tests) in
    rw t refl
found_at due number (q ∷ held) (suc at) small one in_range same =
    ap (λ (b : Bool). (q.0 == number) || b) (found_at due number held at small one (omega arith) same) ∙ or_true (q.0 == number)
  where
    or_true : (b : Bool) → (b || true) ≡ true
    or_true true = refl
    or_true false = refl

-- between those before a place and those behind it
pub record BelongsAt (due number : ℕ) (held : List (ℕ × RtpBody)) (at : ℕ) : Type 0 where
  pub in_range : at ≤ length held
  pub before : (k : ℕ) (d : ℕ × RtpBody) → k < at → distance_of due (get_or held k d) < distance_ahead due number
  pub behind : (k : ℕ) (d : ℕ × RtpBody) → at ≤ k → k < length held → distance_ahead due number < distance_of due (get_or held k d)

-- none of several has the number
pub not_held : (due number : ℕ) (held : List (ℕ × RtpBody)) (at : ℕ) → BelongsAt due number held at → is_number_held number held ≡ false
not_held due number [] at belongs = refl
not_held due number (q ∷ held) zero belongs =
    let b = belongs.behind 0 q (omega arith) (omega arith) in
    let t : (q.0 == number) ≡ false = grind (arith, nat_tests, λ (e : q.0 ≡ number). ap (distance_ahead due) e) in
    rw t (not_held due number held 0 (record {
      in_range = omega arith;
      before = λ k d lt. absurd (omega arith);
      behind = λ k d le lt. belongs.behind (suc k) d (omega arith) (omega arith);
    }))
not_held due number (q ∷ held) (suc at) belongs =
    let b = belongs.before 0 q (omega arith) in
    let t : (q.0 == number) ≡ false = grind (arith, nat_tests, λ (e : q.0 ≡ number). ap (distance_ahead due) e) in
    rw t (not_held due number held at (record {
      in_range = let h = belongs.in_range in omega arith;
      before = λ k d lt. belongs.before (suc k) d (omega arith);
      behind = λ k d le lt. belongs.behind (suc k) d (omega arith) (omega arith);
    }))

-- a packet put there
pub put_at : (due number : ℕ) (packet : RtpBody) (held : List (ℕ × RtpBody)) (at : ℕ) → BelongsAt due number held at →
    insert held at (number, packet) ≡ put_packet due (number, packet) held
put_at due number packet [] zero belongs = refl
put_at due number packet [] (suc at) belongs = absurd (let h = belongs.in_range in omega arith)
put_at due number packet (q ∷ held) zero belongs =
    let b = belongs.behind 0 q (omega arith) (omega arith) in
    let t : nat_lt (distance_ahead due number) (distance_ahead due q.0) ≡ true = grind (arith, nat_tests) in
    rw t refl
put_at due number packet (q ∷ held) (suc at) belongs =
    let b = belongs.before 0 q (omega arith) in
    let t : nat_lt (distance_ahead due number) (distance_ahead due q.0) ≡ false = grind (arith, nat_tests) in
    let s : (number == q.0) ≡ false = grind (arith, nat_tests, λ (e : number ≡ q.0). ap (distance_ahead due) e) in
    rw (t, s) (ap (λ (l : List (ℕ × RtpBody)). q ∷ l) (put_at due number packet held at (record {
      in_range = let h = belongs.in_range in omega arith;
      before = λ k d lt. belongs.before (suc k) d (omega arith);
      behind = λ k d le lt. belongs.behind (suc k) d (omega arith) (omega arith);
    })))

-- What a search by halves knows of the packet in the middle.
module _ (due number : ℕ) (held : List (ℕ × RtpBody)) (order : AreHeldInOrder due 0 held) (middle there : ℕ) (in_range : middle < length held) (is : (d : ℕ × RtpBody) → there ≡ distance_ahead due (get_or held middle d).0) where
  -- those up to it are nearer where it is
  pub nearer_up_to : there < distance_ahead due number → (k : ℕ) (d : ℕ × RtpBody) → k < middle + 1 → distance_ahead due (get_or held k d).0 < distance_ahead due number
  nearer_up_to near k d lt =
      let up = rise due 0 held order k middle d (omega arith) in_range in
      let at = is d in
      omega arith

  -- those from it on are further ahead where it is
  pub further_from : distance_ahead due number < there → (k : ℕ) (d : ℕ × RtpBody) → middle ≤ k → k < length held → distance_ahead due number < distance_ahead due (get_or held k d).0
  further_from far k d le within =
      let up = rise due 0 held order middle k d le within in
      let at = is d in
      omega arith

  -- it has the number where it is as far ahead
  pub found_in_middle : due < 65536 → number < 65536 → there ≡ distance_ahead due number → is_number_held number held ≡ true
  found_in_middle small one same = found_at due number held middle small one in_range (λ d. (sym (is d) ∙ same, (at_least due 0 held order middle d in_range).1))

-- a packet that is ahead of the last one, or the first of all, belongs behind them
pub behind_none : (due number : ℕ) (held : List (ℕ × RtpBody)) (len : ℕ) → len ≡ length held → len ≡ 0 → BelongsAt due number held len
behind_none due number held len is none = record {
  in_range = omega arith;
  before = λ k d lt. absurd (omega arith);
  behind = λ k d le lt. absurd (omega arith);
}

pub behind_last : (due number : ℕ) (held : List (ℕ × RtpBody)) (len there : ℕ) → AreHeldInOrder due 0 held → len ≡ length held → 0 < len →
    ((d : ℕ × RtpBody) → there ≡ distance_ahead due (get_or held (len - 1) d).0) → there < distance_ahead due number → BelongsAt due number held len
behind_last due number held len there order is some at near = record {
  in_range = omega arith;
  before = λ k d lt. nearer_up_to due number held order (len - 1) there (omega arith) at near k d (omega arith);
  behind = λ k d le lt. absurd (omega arith);
}
