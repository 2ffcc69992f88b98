-- Where a packet belongs among those that a buffer holds (ours).
use Rattle.std.specs.Prelude.{◌≡◌, ℕ, ◌<◌, ◌≤◌, ◌^◌, false, List, length, Some, true, Result, MatchResult}
use Rattle.std.specs.List.{insert}
use Rattle.h26x_core.specs.Sequence.{is_late}
use Rattle.h26x_reorder.specs.Rtp.{RtpBody}
use Rattle.h26x_reorder.specs.ReorderBuffer.{BufferState, IsBufferState, last_number, due_at, is_number_held, put_packet}

-- No packet with this number is held, and one belongs at this place.
pub record IsPlaceAmong (held : List (ℕ × RtpBody)) (due number place : ℕ) : Type 0 where
  pub absent : is_number_held number held ≡ false
  pub in_range : place ≤ length held
  pub put : (packet : RtpBody) → insert held place (number, packet)
      ≡ put_packet due (number, packet) held

-- what is held of a buffer's packets, with the number of the last one, where there is one
pub record IsNumberOrder (newest : ℕ) (b : BufferState RtpBody) : Type 0 where
  pub buffer : IsBufferState b
  pub last : last_number newest b.held ≡ newest

-- what a search for a number answers: one with it is held; or none is, and where it belongs
abbrev pub IsSearchResult : List (ℕ × RtpBody) → ℕ → ℕ → Result ℕ ℕ → Type 0
IsSearchResult held due number result = MatchResult result (λ _. is_number_held number held ≡ true)
    (λ place. IsPlaceAmong held due number place)

-- A packet with this number is neither late nor held: where it is put this number is due, and it
-- belongs at this place.
pub record IsPlaceOf (b : BufferState RtpBody) (number due place : ℕ) : Type 0 where
  pub due_is : due ≡ due_at b.window b.due number
  pub small : number < 2 ^ 16
  pub early : is_late (Some due) number ≡ false
  pub in_range : place ≤ length b.held
  pub put : (packet : RtpBody) → insert b.held place (number, packet)
      ≡ put_packet due (number, packet) b.held
