use Rattle.std.proofs.Common.{◌≡◌, ℕ, ◌+◌}
use Rattle.h26x_access_units.specs.Content.{content_from, content_of}
use Rattle.h26x_access_units.proofs.content.content_of.Given as goal

-- what was told so far, and what is left to tell
abbrev pub invariant-loop : goal.invariant-loop
invariant-loop l = (left : ℕ) → l.counter + left ≡ 64 →
    content_from l.is_avc l.extra left l.content l.rest ≡ content_of l.fn.is_avc l.fn.extra l.fn.text
