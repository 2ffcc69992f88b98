-- Packets that come behind all that are held.
use Rattle.std.proofs.Common.{◌≡◌, ◌∙◌, ap, sym, subst, refl, ℕ, ◌+◌, ◌-◌, ◌<◌, Bool, true, false, cond, List, [], ◌∷◌, ◌++◌, append_assoc, length, get_or, map, Option, Some, None, arith}
use Rattle.std.specs.Prelude.{◌==◌, ◌&&◌, nat_lt}
use Rattle.std.proofs.lemmas.Bool.Decides.{nat_tests}
use Rattle.std.proofs.lemmas.List.{get_or_default, length-append}
use Rattle.std.proofs.lemmas.List.Edits.{insert_end}
use Rattle.std.proofs.Math.Seq.{get_or-append_seam}
use Rattle.h26x_core.specs.Sequence.{distance_ahead, is_late}
use Rattle.h26x_reorder.specs.Rtp.{RtpBody, rtp_body}
use Rattle.h26x_reorder.specs.declared.pushed.Pushed.TheVariants as pushes
use Rattle.h26x_reorder.specs.ReorderBuffer.{BufferState, buffer_state, newest_of, is_ahead_of, is_beyond, are_beyond, is_number_held, put_packet, push_answer, after_push, AreHeldInOrder, IsHeldInOrder}
use Rattle.h26x_reorder.proofs.HeldLemmas.{BelongsAt, behind_none, behind_last, not_held, put_at}
use Rattle.h26x_reorder.proofs.BufferLemmas.{put_in_order, pushed_is}

-- what two tests say together
pub both_of : (a b : Bool) → (a && b) ≡ true → (a ≡ true) × (b ≡ true)
both_of true true e = (refl, refl)
both_of true false e = absurd (let bad = e in cc)
both_of false b e = absurd (let bad = e in cc)

-- a number farther ahead than another, and not late
pub record IsAhead (due other number : ℕ) : Type 0 where
  pub farther : distance_ahead due other < distance_ahead due number
  pub near : distance_ahead due number < 32768

pub ahead_is : (due other number : ℕ) → is_ahead_of due other number ≡ true → IsAhead due other number
ahead_is due other number e =
    let b = both_of (nat_lt (distance_ahead due other) (distance_ahead due number)) (nat_lt (distance_ahead due number) 32768) e in
    let first = b.0 in
    let second = b.1 in
    record { farther = grind (arith, nat_tests); near = grind (arith, nat_tests) }

-- one ahead of the newest belongs behind all
abbrev none : ℕ × RtpBody
none = (0, rtp_body 0 false [])

belongs_last : (due number : ℕ) (held : List (ℕ × RtpBody)) → AreHeldInOrder due 0 held → distance_ahead due (newest_of due held) < distance_ahead due number →
    BelongsAt due number held (length held)
belongs_last due number held order near =
    elim (length held == 0) as (λ b. (length held == 0) ≡ b → distance_ahead due (cond b due (get_or held (length held - 1) none).0) < distance_ahead due number → BelongsAt due number held (length held)) [
      | true ↦ λ e n. behind_none due number held (length held) refl (grind (arith, nat_tests))
      | false ↦ λ e n.
          let some : 0 < length held = grind (arith, nat_tests) in
          behind_last due number held (length held) (distance_ahead due (get_or held (length held - 1) none).0) order refl some
          (λ d. ap (λ (p : ℕ × RtpBody). distance_ahead due p.0) (get_or_default held (length held - 1) none d (omega (arith, some)))) n
    ] refl near

-- so it is put there
record IsLast (due : ℕ) (held : List (ℕ × RtpBody)) (p : ℕ × RtpBody) : Type 0 where
  put : put_packet due p held ≡ held ++ p ∷ []
  order : AreHeldInOrder due 0 (held ++ p ∷ [])
  absent : is_number_held p.0 held ≡ false

put_last : (due : ℕ) (held : List (ℕ × RtpBody)) (p : ℕ × RtpBody) → due < 65536 → p.0 < 65536 → AreHeldInOrder due 0 held → BelongsAt due p.0 held (length held) →
    distance_ahead due p.0 < 32768 → IsLast due held p
put_last due held p small one order at near =
    let put : put_packet due p held ≡ held ++ p ∷ [] = sym (put_at due p.0 p.1 held (length held) at) ∙ insert_end held p in
    record {
      put = put;
      order = subst (AreHeldInOrder due 0) put (put_in_order due 0 p held small one (omega arith) near order);
      absent = not_held due p.0 held (length held) at;
    }

-- and one farther ahead behind it
belongs_next : (due number : ℕ) (held : List (ℕ × RtpBody)) (p : ℕ × RtpBody) → AreHeldInOrder due 0 (held ++ p ∷ []) → distance_ahead due p.0 < distance_ahead due number →
    BelongsAt due number (held ++ p ∷ []) (length (held ++ p ∷ []))
belongs_next due number held p order near =
    let len : length (held ++ p ∷ []) ≡ length held + 1 = length-append held (p ∷ []) in
    behind_last due number (held ++ p ∷ []) (length (held ++ p ∷ [])) (distance_ahead due p.0) order refl (omega (arith, len))
    (λ d. ap (λ (q : ℕ × RtpBody). distance_ahead due q.0) (sym (get_or-append_seam held p [] d) ∙ ap (λ (n : ℕ). get_or (held ++ p ∷ []) n d) (omega (arith, len)))) near

-- one that is neither late nor held is answered so
held_if : (window due number : ℕ) (held : List (ℕ × RtpBody)) → distance_ahead due number < 32768 → is_number_held number held ≡ false → push_answer (buffer_state window (Some due) held) number ≡ pushes.Held
held_if window due number held near absent =
    let early : is_late (Some due) number ≡ false = grind (arith, nat_tests) in
    rw (early, absent) refl

-- a number ahead of all is
beyond_held_at : (window due : ℕ) (held : List (ℕ × RtpBody)) (number : ℕ) → AreHeldInOrder due 0 held → is_ahead_of due (newest_of due held) number ≡ true →
    push_answer (buffer_state window (Some due) held) number ≡ pushes.Held
beyond_held_at window due held number order is =
    let at = ahead_is due (newest_of due held) number is in
    held_if window due number held at.near (not_held due number held (length held) (belongs_last due number held order at.farther))

pub beyond_held : (b : BufferState RtpBody) (number : ℕ) → IsHeldInOrder b.due b.held → is_beyond b number ≡ true → push_answer b number ≡ pushes.Held
beyond_held b number order is = by b.due order is
  where
    by : (due : Option ℕ) → IsHeldInOrder due b.held → is_beyond (buffer_state b.window due b.held) number ≡ true → push_answer (buffer_state b.window due b.held) number ≡ pushes.Held
    by None order is = absurd (let bad = is in cc)
    by (Some due) order is = beyond_held_at b.window due b.held number order.1 is

-- two packets ahead of all, put one behind the other
pub record ArePutLast (b : BufferState RtpBody) (p q : ℕ × RtpBody) : Type 0 where
  pub is : buffer_state b.window b.due (b.held ++ p ∷ q ∷ []) ≡ after_push (after_push b p) q
  pub order : IsHeldInOrder b.due (b.held ++ p ∷ q ∷ [])
  pub first : push_answer b p.0 ≡ pushes.Held
  pub second : push_answer (after_push b p) q.0 ≡ pushes.Held

two_last_at : (window due : ℕ) (held : List (ℕ × RtpBody)) (p q : ℕ × RtpBody) → p.0 < 65536 → q.0 < 65536 → due < 65536 → AreHeldInOrder due 0 held →
    IsAhead due (newest_of due held) p.0 → IsAhead due p.0 q.0 → ArePutLast (buffer_state window (Some due) held) p q
two_last_at window due held p q p_small q_small small order first second =
    let one = put_last due held p small p_small order (belongs_last due p.0 held order first.farther) first.near in
    let more = held ++ p ∷ [] in
    let two = put_last due more q small q_small one.order (belongs_next due q.0 held p one.order second.farther) second.near in
    let seam : more ++ q ∷ [] ≡ held ++ p ∷ q ∷ [] = append_assoc held (p ∷ []) (q ∷ []) in
    let b = buffer_state window (Some due) held in
    let pushed : after_push b p ≡ buffer_state window (Some due) more = pushed_is b p first.near ∙ ap (buffer_state window (Some due)) one.put in
    let again : after_push (buffer_state window (Some due) more) q ≡ buffer_state window (Some due) (held ++ p ∷ q ∷ []) = pushed_is (buffer_state window (Some due) more) q second.near ∙ ap (buffer_state window (Some due)) (two.put ∙ seam) in
    record {
      is = sym (ap (λ (s : BufferState RtpBody). after_push s q) pushed ∙ again);
      order = (small, subst (AreHeldInOrder due 0) seam two.order);
      first = held_if window due p.0 held first.near one.absent;
      second = ap (λ (s : BufferState RtpBody). push_answer s q.0) pushed ∙ held_if window due q.0 more second.near two.absent;
    }

pub two_last : (b : BufferState RtpBody) (p q : ℕ × RtpBody) → p.0 < 65536 → q.0 < 65536 → IsHeldInOrder b.due b.held → are_beyond b p.0 q.0 ≡ true → ArePutLast b p q
two_last b p q p_small q_small order is = by b.due order is
  where
    by : (due : Option ℕ) → IsHeldInOrder due b.held → are_beyond (buffer_state b.window due b.held) p.0 q.0 ≡ true → ArePutLast (buffer_state b.window due b.held) p q
    by None order is = absurd (let bad = is in cc)
    by (Some due) order is =
        let t = both_of (is_ahead_of due (newest_of due b.held) p.0) (is_ahead_of due p.0 q.0) is in
        two_last_at b.window due b.held p q p_small q_small order.0 order.1 (ahead_is due (newest_of due b.held) p.0 t.0) (ahead_is due p.0 q.0 t.1)

-- the values of a list with two more
pub map_two : {A : Type 0} (f : A → ℕ × RtpBody) (packets : List A) (p q : A) → map f (packets ++ p ∷ q ∷ []) ≡ map f packets ++ f p ∷ f q ∷ []
map_two f [] p q = refl
map_two f (r ∷ packets) p q = ap (λ (l : List (ℕ × RtpBody)). f r ∷ l) (map_two f packets p q)
