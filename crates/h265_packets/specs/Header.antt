-- Headers made from others (RFC 7798, 1.1.4).
use Rattle.std.specs.Prelude.{ℕ, ◌+◌, ◌*◌}
use Rattle.h26x_core.specs.Word.{field}

-- the high byte of a header with another type: F clear, the layer's highest bit kept
abbrev pub with_type : ℕ → ℕ → ℕ
with_type high type = type * 2 + field high 0 0
