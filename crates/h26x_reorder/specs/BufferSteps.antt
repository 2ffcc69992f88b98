-- What a buffer of packets gives out, whatever comes and whoever takes out (ours).
use Rattle.std.specs.Prelude.{ℕ, ◌^◌, ◌<◌, Bool, true, false, if◌then◌else◌, List, [], ◌∷◌, ◌++◌, IsPermutation}
use Rattle.h26x_core.specs.Sequence.{next_sequence_number, distance_ahead}
use Rattle.h26x_reorder.specs.declared.pushed.Pushed.{Pushed}
use Rattle.h26x_reorder.specs.declared.pushed.Pushed.TheVariants as pushes
use Rattle.h26x_reorder.specs.Rtp.{RtpBody}
use Rattle.h26x_reorder.specs.ReorderBuffer.{BufferState, push_answer, after_push, without_first}

-- a packet comes, or the first that is held is taken out, whether it may go or not
pub data BufferStep : Type 0 where
  Comes : (packet : ℕ × RtpBody) → BufferStep
  GoesOut : BufferStep

-- the buffer after a step
abbrev pub after_step : BufferState RtpBody → BufferStep → BufferState RtpBody
after_step b (Comes packet) = after_push b packet
after_step b GoesOut = without_first b

-- after steps
abbrev pub after_steps : BufferState RtpBody → List BufferStep → BufferState RtpBody
after_steps b [] = b
after_steps b (step ∷ steps) = after_steps (after_step b step) steps

-- the first of packets, if there is one
abbrev pub first_held : List (ℕ × RtpBody) → List (ℕ × RtpBody)
first_held [] = []
first_held (packet ∷ packets) = packet ∷ []

-- what is taken out by steps
abbrev pub steps_out : BufferState RtpBody → List BufferStep → List (ℕ × RtpBody)
steps_out b [] = []
steps_out b (Comes packet ∷ steps) = steps_out (after_push b packet) steps
steps_out b (GoesOut ∷ steps) = first_held b.held ++ steps_out (without_first b) steps

-- whether an answer says that a packet is held
abbrev pub is_held_answer : Pushed → Bool
is_held_answer pushes.Held = true
is_held_answer answer = false

-- the packets that were answered Held, in the order in which they came
abbrev pub steps_held : BufferState RtpBody → List BufferStep → List (ℕ × RtpBody)
steps_held b [] = []
steps_held b (Comes packet ∷ steps) = if is_held_answer (push_answer b packet.0)
    then packet ∷ steps_held (after_push b packet) steps else steps_held (after_push b packet) steps
steps_held b (GoesOut ∷ steps) = steps_held (without_first b) steps

-- each packet's number is less than half of the numbers' circle ahead of the one that is due, and then
-- the one behind it is due
abbrev pub AreAheadOf : ℕ → List (ℕ × RtpBody) → Type 0
AreAheadOf due [] = Unit {0}
AreAheadOf due (packet ∷ packets) = (distance_ahead due packet.0 < 2 ^ 15)
    × AreAheadOf (next_sequence_number packet.0) packets

-- packets in the order of their numbers, whichever is the first
abbrev pub AreInTurn : List (ℕ × RtpBody) → Type 0
AreInTurn [] = Unit {0}
AreInTurn (packet ∷ packets) = AreAheadOf (next_sequence_number packet.0) packets

-- packets that come have numbers of two bytes
abbrev pub AreNumbered : List BufferStep → Type 0
AreNumbered [] = Unit {0}
AreNumbered (Comes packet ∷ steps) = (packet.0 < 2 ^ 16) × AreNumbered steps
AreNumbered (GoesOut ∷ steps) = AreNumbered steps

-- Whatever comes, however late or often, and whoever takes out the first before it may go: what is
-- given out, with what is held at the end, are exactly the packets that were answered Held, each once,
-- in the order of their numbers.
pub record GivesOutThoseHeld (b : BufferState RtpBody) (steps : List BufferStep) : Type 0 where
  pub exact : IsPermutation (steps_held b steps) (steps_out b steps ++ (after_steps b steps).held)
  pub order : AreInTurn (steps_out b steps ++ (after_steps b steps).held)
