-- An access unit past its limit is its own loss: what else is given out is the same.
use Rattle.std.proofs.Common.{◌≡◌, ℕ, ◌<◌, ◌≤◌, Bool, true, false, cond, List, [], ◌∷◌, ◌++◌, length, length-append, Option, Some, None, sym, ap, ◌∙◌, subst, arith, refl, append_assoc, inl, inr}
use Rattle.std.specs.Prelude.{◌==◌, ◌&&◌, nat_lt}
use Rattle.std.proofs.lemmas.Bool.Decides.{nat_tests}
use Rattle.h26x_model.specs.Receive.DepacketizerState.{DepacketizerState}
use Rattle.h26x_receiver.specs.Sequenced.{after_taken_packet}
use Rattle.h26x_reorder.specs.Rtp.{RtpBody}
use Rattle.h26x_assembler.specs.AccessUnit.{AccessUnitValue, whole_if, Assembly, is_run_closed, taken_by, unit_with, unit_within, with_unit_within, without_text, given_out, ended_by, follows, after_taken_rtp}
use Rattle.h26x_assembler.specs.StampedCalls.{IsGivenOut, AreGivenOut, AreUnitsWithin}
use Rattle.h26x_assembler.proofs.TakeLemmas.{at_gap}
use Rattle.h26x_assembler.proofs.GivenLemmas.{own_ended, given_by, given_from}

-- what stands after packets that are taken, where the text of what is open is measured after each
abbrev pub after_all_measured : ℕ → ℕ → Assembly → List (ℕ × RtpBody) → Assembly
after_all_measured most limit s [] = s
after_all_measured most limit s (p ∷ packets) = after_all_measured most limit (with_unit_within limit (after_taken_rtp most s p)) packets

-- what is given out then
abbrev pub measured_from : ℕ → ℕ → Assembly → List (ℕ × RtpBody) → List AccessUnitValue
measured_from most limit s [] = given_out false s.unit
measured_from most limit s (p ∷ packets) = given_by most s p ++ measured_from most limit (with_unit_within limit (after_taken_rtp most s p)) packets

pub measured_all : (most limit : ℕ) (s : Assembly) (packets : List (ℕ × RtpBody)) →
    (after_all_measured most limit s packets).ended ++ given_out false (after_all_measured most limit s packets).unit ≡ s.ended ++ measured_from most limit s packets
measured_all most limit s [] = refl
measured_all most limit s (p ∷ packets) =
    let before = ended_by s p in
    let own = cond p.1.marker (own_ended most s p ∷ []) [] in
    let next = with_unit_within limit (after_taken_rtp most s p) in
    let later = measured_from most limit next packets in
    measured_all most limit next packets
    ∙ append_assoc (s.ended ++ before) own later ∙ append_assoc s.ended before (own ++ later) ∙ ap (λ (l : List AccessUnitValue). s.ended ++ l) (sym (append_assoc before own later))

-- access units given out, one after the other
out_append : (limit : ℕ) (a b c d : List AccessUnitValue) → AreGivenOut limit a b → AreGivenOut limit c d → AreGivenOut limit (a ++ c) (b ++ d)
out_append limit [] [] c d x y = y
out_append limit [] (v ∷ b) c d x y = absurd x
out_append limit (u ∷ a) [] c d x y = absurd x
out_append limit (u ∷ a) (v ∷ b) c d x y = (x.0, out_append limit a b c d x.1 y)

-- the same are
pub out_same : (limit : ℕ) (a : List AccessUnitValue) → AreGivenOut limit a a
out_same limit [] = tt
out_same limit (u ∷ a) = (inl refl, out_same limit a)

-- what is open, as far as it is given out of what would be without a limit
abbrev pub IsOpenOut : ℕ → Option AccessUnitValue → Option AccessUnitValue → Type 0
IsOpenOut limit None None = Unit {0}
IsOpenOut limit (Some u) (Some v) = IsGivenOut limit u v
IsOpenOut limit x y = ⊥

-- a text past its limit
past : (limit : ℕ) (u v : AccessUnitValue) → limit < length v.bytes → u.timestamp ≡ v.timestamp → u.is_whole ≡ false → IsGivenOut limit u v
past limit u v long stamp isnt = inr (long, stamp, isnt)

-- what is known of one that isn't whole
still_not : (a b : Bool) → a ≡ false → (a && b) ≡ false
still_not true b isnt = absurd (let bad = isnt in cc)
still_not false b isnt = refl

-- it stays so where less is known of it
whole_past : (limit : ℕ) (holds : Bool) (u v : AccessUnitValue) → limit < length v.bytes → u.timestamp ≡ v.timestamp → u.is_whole ≡ false → IsGivenOut limit (whole_if holds u) (whole_if holds v)
whole_past limit holds u v long stamp isnt = past limit (whole_if holds u) (whole_if holds v) long stamp (still_not u.is_whole holds isnt)

-- where it is measured
measured : (limit : ℕ) (u v : AccessUnitValue) → IsGivenOut limit u v → IsOpenOut limit (unit_within limit (Some u)) (Some v)
measured limit u v (inr (long, stamp, isnt)) = elim (nat_lt limit (length u.bytes)) as (λ b. IsGivenOut limit (cond b (without_text u) u) v) [
  | true ↦ past limit (without_text u) v long stamp refl
  | false ↦ past limit u v long stamp isnt
]
measured limit u v (inl same) = subst (λ (x : AccessUnitValue). IsGivenOut limit (cond (nat_lt limit (length x.bytes)) (without_text x) x) v) (sym same) (
    elim (nat_lt limit (length v.bytes)) as (λ b. nat_lt limit (length v.bytes) ≡ b → IsGivenOut limit (cond b (without_text v) v) v) [
      | true ↦ λ long. past limit (without_text v) v (grind (arith, nat_tests)) refl refl
      | false ↦ λ short. inl refl
    ] refl
    )

-- what one packet ends, and what is open then
record IsStepOut (limit : ℕ) (old_given new_given : List AccessUnitValue) (old_unit new_unit : Option AccessUnitValue) : Type 0 where
  given : AreGivenOut limit old_given new_given
  unit : IsOpenOut limit old_unit new_unit

-- of a packet's own access unit
own_out : (limit : ℕ) (marker holds : Bool) (u v : AccessUnitValue) (before after : List AccessUnitValue) → AreGivenOut limit before after → IsGivenOut limit u v → IsGivenOut limit (whole_if holds u) (whole_if holds v) →
    IsStepOut limit (before ++ cond marker (whole_if holds u ∷ []) []) (after ++ cond marker (whole_if holds v ∷ []) []) (unit_within limit (cond marker None (Some u))) (cond marker None (Some v))
own_out limit true holds u v before after ended is whole = record {
  given = out_append limit before after (whole_if holds u ∷ []) (whole_if holds v ∷ []) ended (whole, tt);
  unit = tt;
}
own_out limit false holds u v before after ended is whole = record {
  given = out_append limit before after [] [] ended tt;
  unit = measured limit u v is;
}

-- two assemblers that differ in what is open, and in what ended
pub record AreAlike (limit : ℕ) (x y : Assembly) : Type 0 where
  pub state : x.state ≡ y.state
  pub expected : x.expected ≡ y.expected
  pub gap : x.is_gap ≡ y.is_gap
  pub closed : x.closed ≡ y.closed
  pub unit : IsOpenOut limit x.unit y.unit

-- a packet that both take
record IsTakenAlike (most limit : ℕ) (x y : Assembly) (p : ℕ × RtpBody) : Type 0 where
  pub given : AreGivenOut limit (given_by most x p) (given_by most y p)
  pub next : AreAlike limit (with_unit_within limit (after_taken_rtp most x p)) (after_taken_rtp most y p)

-- where the same is open
same_open_taken : (most limit : ℕ) (gap : Bool) (closed : Option ℕ) (state : DepacketizerState) (expected : Option ℕ) (unit : Option AccessUnitValue) (a b : List AccessUnitValue) (p : ℕ × RtpBody) →
    IsTakenAlike most limit (at_gap gap closed state expected unit a) (at_gap gap closed state expected unit b) p
same_open_taken most limit gap closed state expected unit a b p =
    let x = at_gap gap closed state expected unit a in
    let work = after_taken_packet most (taken_by x p.1.timestamp) p.0 p.1.payload in
    let u = unit_with most x p in
    let step = own_out limit p.1.marker (is_run_closed work.at_work.state.run) u u (ended_by x p) (ended_by x p) (out_same limit (ended_by x p)) (inl refl) (inl refl) in
    record {
      given = step.given;
      next = record { state = refl; expected = refl; gap = refl; closed = refl; unit = step.unit };
    }

-- a text past its limit stays so with more behind it
still_past : (limit : ℕ) (a b : List ℕ) → limit < length a → limit < length (a ++ b)
still_past limit a b long = let both = length-append a b in omega (arith, both, long)

-- where the text of what is open is past the limit
past_open_taken : (most limit : ℕ) (gap : Bool) (closed : Option ℕ) (state : DepacketizerState) (expected : Option ℕ) (u v : AccessUnitValue) (a b : List AccessUnitValue) (p : ℕ × RtpBody) →
    limit < length v.bytes → u.timestamp ≡ v.timestamp → u.is_whole ≡ false →
    IsTakenAlike most limit (at_gap gap closed state expected (Some u) a) (at_gap gap closed state expected (Some v) b) p
past_open_taken most limit gap closed state expected u v a b p long stamp isnt =
    let x = at_gap gap closed state expected (Some u) a in
    let y = at_gap gap closed state expected (Some v) b in
    elim (v.timestamp == p.1.timestamp) as (λ t. (v.timestamp == p.1.timestamp) ≡ t → IsTakenAlike most limit x y p) [
      | true ↦ λ at.
          let here : (u.timestamp == p.1.timestamp) ≡ true = ap (λ (t : ℕ). t == p.1.timestamp) stamp ∙ at in
          let same_state : (after_taken_packet most (taken_by x p.1.timestamp) p.0 p.1.payload).at_work.state ≡ (after_taken_packet most (taken_by y p.1.timestamp) p.0 p.1.payload).at_work.state = rw (here, at) refl in
          let one = unit_with most x p in
          let two = unit_with most y p in
          let grown : limit < length two.bytes = rw at (still_past limit v.bytes _ long) in
          let stamps : one.timestamp ≡ two.timestamp = rw (here, at) stamp in
          let not_whole : one.is_whole ≡ false = rw here (still_not u.is_whole _ isnt) in
          let none_ended : ended_by x p ≡ [] = rw here refl in
          let none_ended_too : ended_by y p ≡ [] = rw at refl in
          let closed_then = is_run_closed (after_taken_packet most (taken_by y p.1.timestamp) p.0 p.1.payload).at_work.state.run in
          let step = own_out limit p.1.marker closed_then one two [] [] tt (past limit one two grown stamps not_whole) (whole_past limit closed_then one two grown stamps not_whole) in
          record {
            given = subst (λ (l : List AccessUnitValue). AreGivenOut limit (l ++ cond p.1.marker (own_ended most x p ∷ []) []) (given_by most y p)) (sym none_ended)
                (subst (λ (l : List AccessUnitValue). AreGivenOut limit (cond p.1.marker (own_ended most x p ∷ []) []) (l ++ cond p.1.marker (own_ended most y p ∷ []) [])) (sym none_ended_too)
                (subst (λ (s : DepacketizerState). AreGivenOut limit (cond p.1.marker (whole_if (is_run_closed s.run) one ∷ []) []) (cond p.1.marker (own_ended most y p ∷ []) [])) (sym same_state) step.given));
            next = record { state = same_state; expected = refl; gap = refl; closed = refl; unit = step.unit };
          }
      | false ↦ λ other.
          let here : (u.timestamp == p.1.timestamp) ≡ false = ap (λ (t : ℕ). t == p.1.timestamp) stamp ∙ other in
          let same_work : taken_by x p.1.timestamp ≡ taken_by y p.1.timestamp = rw (here, other) refl in
          let one = unit_with most x p in
          let two = unit_with most y p in
          let same_unit : one ≡ two = rw (here, other) refl in
          let follow = follows x p && is_run_closed state.run in
          let ended : ended_by x p ≡ whole_if follow u ∷ [] = rw here refl in
          let ended_too : ended_by y p ≡ whole_if follow v ∷ [] = rw other refl in
          let same_state = ap (λ w. (after_taken_packet most w p.0 p.1.payload).at_work.state) same_work in
          let closed_then = is_run_closed (after_taken_packet most (taken_by y p.1.timestamp) p.0 p.1.payload).at_work.state.run in
          let is = whole_past limit follow u v long stamp isnt in
          let step = own_out limit p.1.marker closed_then one two (whole_if follow u ∷ []) (whole_if follow v ∷ []) (is, tt) (inl same_unit) (inl (ap (whole_if closed_then) same_unit)) in
          record {
            given = subst (λ (l : List AccessUnitValue). AreGivenOut limit (l ++ cond p.1.marker (own_ended most x p ∷ []) []) (given_by most y p)) (sym ended)
                (subst (λ (l : List AccessUnitValue). AreGivenOut limit ((whole_if follow u ∷ []) ++ cond p.1.marker (own_ended most x p ∷ []) []) (l ++ cond p.1.marker (own_ended most y p ∷ []) [])) (sym ended_too)
                (subst (λ (s : DepacketizerState). AreGivenOut limit ((whole_if follow u ∷ []) ++ cond p.1.marker (whole_if (is_run_closed s.run) one ∷ []) []) ((whole_if follow v ∷ []) ++ cond p.1.marker (own_ended most y p ∷ []) [])) (sym same_state) step.given));
            next = record { state = same_state; expected = refl; gap = refl; closed = refl; unit = step.unit };
          }
    ] refl

-- whatever is open
open_taken : (most limit : ℕ) (gap : Bool) (closed : Option ℕ) (state : DepacketizerState) (expected : Option ℕ) (x y : Option AccessUnitValue) (a b : List AccessUnitValue) (p : ℕ × RtpBody) → IsOpenOut limit x y →
    IsTakenAlike most limit (at_gap gap closed state expected x a) (at_gap gap closed state expected y b) p
open_taken most limit gap closed state expected None None a b p is = same_open_taken most limit gap closed state expected None a b p
open_taken most limit gap closed state expected None (Some v) a b p is = absurd is
open_taken most limit gap closed state expected (Some u) None a b p is = absurd is
open_taken most limit gap closed state expected (Some u) (Some v) a b p (inl same) =
    subst (λ (w : AccessUnitValue). IsTakenAlike most limit (at_gap gap closed state expected (Some w) a) (at_gap gap closed state expected (Some v) b) p) (sym same) (same_open_taken most limit gap closed state expected (Some v) a b p)
open_taken most limit gap closed state expected (Some u) (Some v) a b p (inr (long, stamp, isnt)) = past_open_taken most limit gap closed state expected u v a b p long stamp isnt

alike_taken : (most limit : ℕ) (x y : Assembly) (p : ℕ × RtpBody) → AreAlike limit x y → IsTakenAlike most limit x y p
alike_taken most limit x y p it =
    let same : at_gap y.is_gap y.closed y.state y.expected x.unit x.ended ≡ x =
    ap (λ (g : Bool). at_gap g y.closed y.state y.expected x.unit x.ended) (sym it.gap)
    ∙ ap (λ (k : Option ℕ). at_gap x.is_gap k y.state y.expected x.unit x.ended) (sym it.closed)
    ∙ ap (λ (s : DepacketizerState). at_gap x.is_gap x.closed s y.expected x.unit x.ended) (sym it.state)
    ∙ ap (λ (e : Option ℕ). at_gap x.is_gap x.closed x.state e x.unit x.ended) (sym it.expected) in
    subst (λ (s : Assembly). IsTakenAlike most limit s y p) same (open_taken most limit y.is_gap y.closed y.state y.expected x.unit y.unit x.ended y.ended p it.unit)

-- at the end what is open is given out
end_out : (limit : ℕ) (x y : Option AccessUnitValue) → IsOpenOut limit x y → AreGivenOut limit (given_out false x) (given_out false y)
end_out limit None None is = tt
end_out limit None (Some v) is = absurd is
end_out limit (Some u) None is = absurd is
end_out limit (Some u) (Some v) (inl same) = (inl (ap (whole_if false) same), tt)
end_out limit (Some u) (Some v) (inr (long, stamp, isnt)) = (whole_past limit false u v long stamp isnt, tt)

-- so what is given out of packets
pub all_out : (most limit : ℕ) (x y : Assembly) (packets : List (ℕ × RtpBody)) → AreAlike limit x y → AreGivenOut limit (measured_from most limit x packets) (given_from most y packets)
all_out most limit x y [] it = end_out limit x.unit y.unit it.unit
all_out most limit x y (p ∷ packets) it =
    let step = alike_taken most limit x y p it in
    let next = with_unit_within limit (after_taken_rtp most x p) in
    out_append limit (given_by most x p) (given_by most y p) (measured_from most limit next packets) (given_from most (after_taken_rtp most y p) packets) step.given
    (all_out most limit next (after_taken_rtp most y p) packets step.next)

-- where no access unit is open at first
pub none_out : (most limit : ℕ) (s : Assembly) (packets : List (ℕ × RtpBody)) → s.unit ≡ None → AreGivenOut limit (measured_from most limit s packets) (given_from most s packets)
none_out most limit s packets none = all_out most limit s s packets (record {
  state = refl;
  expected = refl;
  gap = refl;
  closed = refl;
  unit = subst (λ (u : Option AccessUnitValue). IsOpenOut limit u u) (sym none) tt;
})

-- those within the limit are the same
one_within : (limit : ℕ) (u v : AccessUnitValue) → IsGivenOut limit u v → length v.bytes ≤ limit → u ≡ v
one_within limit u v (inl same) short = same
one_within limit u v (inr (long, stamp, isnt)) short = absurd (omega (arith, long, short))

pub within_same : (limit : ℕ) (a b : List AccessUnitValue) → AreGivenOut limit a b → AreUnitsWithin limit b → a ≡ b
within_same limit [] [] is short = refl
within_same limit [] (v ∷ b) is short = absurd is
within_same limit (u ∷ a) [] is short = absurd is
within_same limit (u ∷ a) (v ∷ b) is short =
    ap (λ (x : AccessUnitValue). x ∷ a) (one_within limit u v is.0 short.0) ∙ ap (λ (l : List AccessUnitValue). v ∷ l) (within_same limit a b is.1 short.1)
