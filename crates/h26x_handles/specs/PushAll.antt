-- Packets for a receiver of access units, many in one call (ours).
use Rattle.std.specs.Prelude.{◌≡◌, ℕ, ◌+◌, Bool, true, false, List, [], ◌∷◌, map}
use Rattle.h26x_access_units.specs.declared.pushed.Pushed.{Pushed}
use Rattle.h26x_access_units.specs.declared.pushed.Pushed.TheVariants as pushes
use Rattle.h26x_reorder.specs.Rtp.{RtpBody}
use Rattle.h26x_codes.specs.Codes.{ok, out_of_memory}
use Rattle.h26x_codes.specs.Copies.{with_first}
use Rattle.h26x_handles.specs.UnitsState.{UnitsState, pushed_numbers, units_push_answer, IsUnitsPushed}
use Rattle.h26x_handles.specs.declared.push_all.PushTold.{PushTold}

-- whether a packet is to be given again
abbrev pub is_full : Pushed → Bool
is_full pushes.Full = true
is_full answer = false

-- what is told of a packet
abbrev pub push_told : Pushed → PushTold
push_told answer = record { pushed = (pushed_numbers answer).0; behind = (pushed_numbers answer).1 }

-- Packets were pushed at this tick, one call after the other, up to the first that is full or for which
-- memory lacks: the answers of these calls, what stands then, the code of the last one, and how many
-- packets are not to be given again.
pub data ArePushedInTurn (now : ℕ) : List (ℕ × RtpBody) → UnitsState → List Pushed → UnitsState →
    ℕ → ℕ → Type 0 where
  all_pushed : {it : UnitsState} → ArePushedInTurn now [] it [] it ok 0
  ends_full : {p : ℕ × RtpBody} {packets : List (ℕ × RtpBody)} {it new : UnitsState} →
      IsUnitsPushed now p it new → units_push_answer it p ≡ pushes.Full →
      ArePushedInTurn now (p ∷ packets) it (pushes.Full ∷ []) new ok 0
  ends_without_memory : {p : ℕ × RtpBody} {packets : List (ℕ × RtpBody)} {it : UnitsState} →
      ArePushedInTurn now (p ∷ packets) it [] it out_of_memory 0
  pushed_and : {p : ℕ × RtpBody} {packets : List (ℕ × RtpBody)} {it next new : UnitsState}
      {answers : List Pushed} {code taken : ℕ} →
      IsUnitsPushed now p it next → is_full (units_push_answer it p) ≡ false →
      ArePushedInTurn now packets next answers new code taken →
      ArePushedInTurn now (p ∷ packets) it (units_push_answer it p ∷ answers) new code (1 + taken)

-- so they were, and a buffer tells of the first ones, as many as it has room for
pub record AreToldPushed (now : ℕ) (packets : List (ℕ × RtpBody)) (it new : UnitsState)
    (told new_told : List PushTold) (code taken : ℕ) : Type 0 where
  pub answers : List Pushed
  pub pushed : ArePushedInTurn now packets it answers new code taken
  pub tells : new_told ≡ with_first (map push_told answers) told
