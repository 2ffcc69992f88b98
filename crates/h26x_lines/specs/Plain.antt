-- What ends do that send and receive payloads as they are.
use Rattle.std.specs.Prelude.{ℕ, if◌then◌else◌, List, [], ◌∷◌}
use Rattle.h26x_core.specs.ByteStream.{is_not_empty}

-- the packets of a payload: itself, and none where it is empty
abbrev pub plain_packets : List ℕ → List (List ℕ)
plain_packets payload = if is_not_empty payload then payload ∷ [] else []
