-- When a keyframe is asked for (PLI, RFC 4585, 6.3.1; FIR, RFC 5104, 4.3.1; ours).
use Rattle.std.specs.Prelude.{ℕ, ◌+◌, ◌-◌, ◌%◌, ◌^◌, nat_le, Bool, true, false, not, ◌&&◌, ◌||◌, if◌then◌else◌, Option, Some, None}
use Rattle.h26x_rtp_receiver.specs.declared.keyframes.KeyframeRequests.{KeyframeRequests}

-- before any access unit
abbrev pub no_requests : KeyframeRequests
no_requests = record { has_begun = false; goes_on = false; asked = None }

-- Once an access unit was given out: a decoder can go on where it can show this one, or where no
-- picture refers to it and it could go on before.
abbrev pub requests_after : Bool → Bool → KeyframeRequests → KeyframeRequests
requests_after is_clean is_disposable k = record k {
  has_begun = true;
  goes_on = is_clean || (is_disposable && k.goes_on);
}

-- whether none that was asked for may be on its way: so many ticks passed since
abbrev pub may_ask : ℕ → ℕ → Option ℕ → Bool
may_ask again now None = true
may_ask again now (Some at) = nat_le again ((now + (2 ^ 32 - at)) % 2 ^ 32)

-- whether a keyframe is to be asked for: no decoder can go on, and none may be on its way
abbrev pub is_keyframe_due : ℕ → ℕ → KeyframeRequests → Bool
is_keyframe_due again now k = (k.has_begun && not k.goes_on) && may_ask again now k.asked

-- once it was asked for where it is
abbrev pub requests_asked : ℕ → ℕ → KeyframeRequests → KeyframeRequests
requests_asked again now k =
    if is_keyframe_due again now k then record k { asked = Some now } else k
