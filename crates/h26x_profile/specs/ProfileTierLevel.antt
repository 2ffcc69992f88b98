-- A profile, a tier and a level.
use Rattle.std.specs.Prelude.{Option, Some}
use Rattle.std.specs.Option.{option_and_then}

-- a profile, a tier and a level
pub record ProfileTierLevel (P T L : Type 0) : Type 0 where
  pub profile : P
  pub tier : T
  pub level : L

-- all three, where each is known
abbrev pub all_known : {P T L : Type 0} → Option P → Option T → Option L →
    Option (ProfileTierLevel P T L)
all_known profile tier level =
    option_and_then (λ p. option_and_then (λ t. option_and_then (λ l. Some (record {
      profile = p;
      tier = t;
      level = l;
    })) level) tier) profile
