-- Memory of a caller that is written to.
use Rattle.std.specs.Prelude.{ℕ, ◌+◌, ◌-◌, List, ◌++◌, length, take, drop}

-- memory with bytes at a place, all else as it was
abbrev pub overwritten : ℕ → List ℕ → List ℕ → List ℕ
overwritten place bytes memory = take place memory ++ (bytes ++ drop (place + length bytes) memory)

-- memory with numbers from a place on as far as there is room, all else as it was
abbrev pub filled_from : ℕ → List ℕ → List ℕ → List ℕ
filled_from place numbers memory = take place memory
    ++ (take (length memory - place) numbers ++ drop (place + length numbers) memory)
