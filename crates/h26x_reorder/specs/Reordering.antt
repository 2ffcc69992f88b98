-- Packets that are held until those before them come, or until a window has passed (a jitter
-- buffer), by their places in the order of sending.
use Rattle.std.specs.Prelude.{◌≡◌, ℕ, ◌+◌, ◌<◌, ◌≤◌, ◌^◌, ◌==◌, nat_lt, nat_le, max, if◌then◌else◌, List, [], ◌∷◌, ◌++◌}

-- places with one more, each once, in order
abbrev pub put : ℕ → List ℕ → List ℕ
put place [] = place ∷ []
put place (p ∷ places) =
    if nat_lt place p then place ∷ p ∷ places
    else (if place == p then p ∷ places else p ∷ put place places)

-- places put one after the other to others that are in order
abbrev pub puts : List ℕ → List ℕ → List ℕ
puts [] held = held
puts (place ∷ places) held = puts places (put place held)

-- places, each once, in order
abbrev pub in_order : List ℕ → List ℕ
in_order places = puts places []

-- Each packet comes before any that was sent a window or more behind it: the first argument is one
-- more than the newest place so far.
abbrev pub AreWithinWindow : ℕ → ℕ → List ℕ → Type 0
AreWithinWindow window newest [] = Unit {0}
AreWithinWindow window newest (place ∷ places) = (newest < place + window + 1)
    × AreWithinWindow window (max newest (place + 1)) places

-- what a buffer holds: the place that is due, one more than the newest that came, and the places held
pub record Buffer : Type 0 where
  pub due : ℕ
  pub newest : ℕ
  pub held : List ℕ

-- the front of the places held that may go: those that are due one after the other, and all that a
-- window has passed
abbrev pub given : ℕ → ℕ → ℕ → List ℕ → List ℕ
given window newest due [] = []
given window newest due (place ∷ places) =
    if nat_le place due then place ∷ given window newest (place + 1) places
    else (if nat_le (place + window) newest then place ∷ given window newest (place + 1) places
    else [])

-- those that stay
abbrev pub kept_back : ℕ → ℕ → ℕ → List ℕ → List ℕ
kept_back window newest due [] = []
kept_back window newest due (place ∷ places) =
    if nat_le place due then kept_back window newest (place + 1) places
    else (if nat_le (place + window) newest then kept_back window newest (place + 1) places
    else place ∷ places)

-- one more than the last of these places, or the place that was due
abbrev pub due_after : ℕ → List ℕ → ℕ
due_after due [] = due
due_after due (place ∷ places) = due_after (place + 1) places

-- what is given out when a packet comes, and the buffer then
pub record Step : Type 0 where
  pub out : List ℕ
  pub buffer : Buffer

-- so of a packet at this place; one that is late, or held, is not taken
abbrev pub pushed : ℕ → Buffer → ℕ → Step
pushed window b place =
    if nat_lt place b.due then record { out = []; buffer = b }
    else record {
      out = given window (max b.newest (place + 1)) b.due (put place b.held);
      buffer = record {
        due = due_after b.due (given window (max b.newest (place + 1)) b.due (put place b.held));
        newest = max b.newest (place + 1);
        held = kept_back window (max b.newest (place + 1)) b.due (put place b.held);
      };
    }

-- before any packet came
abbrev pub empty_buffer : Buffer
empty_buffer = record { due = 0; newest = 0; held = [] }

-- what is given out of places as they come, and at the end all that is held
abbrev pub released : ℕ → Buffer → List ℕ → List ℕ
released window b [] = b.held
released window b (place ∷ places) = (pushed window b place).out
    ++ released window (pushed window b place).buffer places

-- Where each packet comes within the window, what is given out is what came, each once, in order.
abbrev pub ReordersWithinWindow : ℕ → Type 0
ReordersWithinWindow window = (places : List ℕ) → AreWithinWindow window 0 places →
    released window empty_buffer places ≡ in_order places

-- None comes so far ahead of the newest before it, one more than whose place the second argument is,
-- that this and the window are more than a quarter of the numbers' circle.
abbrev pub AreJumpsShort : ℕ → ℕ → List ℕ → Type 0
AreJumpsShort window newest [] = Unit {0}
AreJumpsShort window newest (place ∷ places) = (place + window ≤ newest + 2 ^ 14)
    × AreJumpsShort window (max newest (place + 1)) places

-- The places, in the order in which they come, of packets that a network brings: any may be the first,
-- and any may be lost, come again soon, or come before others that were sent earlier, but less than a
-- window apart.
abbrev pub IsReordered : ℕ → List ℕ → Type 0
IsReordered window [] = Unit {0}
IsReordered window (place ∷ places) = AreWithinWindow window (place + 1) places
    × AreJumpsShort window (place + 1) places
