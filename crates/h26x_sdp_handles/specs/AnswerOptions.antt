-- How an answerer answers, as the bits of a number (the library's rule).
use Rattle.std.specs.Prelude.{ℕ, ◌/◌, ◌%◌, ◌==◌, nat_lt, Bool, if◌then◌else◌, Option, Some, None}
use Rattle.std.specs.Option.{option_map}
use Rattle.h26x_answers.specs.declared.answer.AnswerConfig.{AnswerConfig}
use Rattle.h26x_answers.specs.declared.answer.AnswerRules.{AnswerRules}
use Rattle.h26x_answers.specs.declared.answer.AnswerRules.TheVariants.{Rfc, Webrtc}
use Rattle.h26x_answers.specs.declared.direction.Direction.{Direction}
use Rattle.h26x_answers.specs.declared.direction.Direction.TheVariants.{SendRecv, SendOnly, RecvOnly}

-- the rules by which it answers
abbrev pub rules_with : Bool → AnswerRules
rules_with webrtc = if webrtc then Webrtc else Rfc

-- the direction that two bits ask for: one that sends alone, one that receives alone
abbrev pub direction_with_number : ℕ → Option Direction
direction_with_number n = if n == 0 then Some SendRecv
    else (if n == 1 then Some SendOnly else (if n == 2 then Some RecvOnly else None))

-- from the lowest bit on: whether units may come in any order, whether WebRTC's peers' rules hold, two
-- of the direction, and whether media go by multicast; other bits are no options
abbrev pub config_with_options : ℕ → Option AnswerConfig
config_with_options options = if nat_lt options 32 then option_map (λ direction. record {
  any_order = options % 2 == 1;
  rules = rules_with (options / 2 % 2 == 1);
  direction = direction;
  multicast = options / 16 == 1;
}) (direction_with_number (options / 4 % 4)) else None
