use Rattle.std.proofs.Common.{◌≡◌, ◌+◌, length, []}
use Rattle.std.specs.List.{list_all}
use Rattle.std.specs.Option.{option_map_or}
use Rattle.h26x_fmtp.specs.Units.{pieces}
use Rattle.h26x_answers.specs.OwnH265.{is_hash_type}
use Rattle.h26x_answers.proofs.answer.own_h265.are_hash_types.Given as goal

abbrev pub invariant-loop-rest : goal.invariant-loop-rest
invariant-loop-rest l =
    list_all is_hash_type (option_map_or (λ rest. pieces rest.now) l.rest [])
    ≡ list_all is_hash_type (pieces l.text)

abbrev pub decreases-loop-rest : goal.decreases-loop-rest
decreases-loop-rest l = option_map_or (λ rest. length rest.now + 1) l.rest 0
