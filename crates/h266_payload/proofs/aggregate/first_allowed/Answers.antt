use Rattle.std.proofs.Common.{◌≡◌, ◌++◌, length, length-append, ap, arith, sym, ◌∙◌, drop}
use Rattle.std.proofs.lemmas.List.{length-drop}
use Rattle.h266_payload.proofs.JudgedLemmas.{first_allowed}
use Rattle.h266_payload.proofs.aggregate.first_allowed.Goals as goal

pub returns-in-Ok-3-clause-allowed : goal.returns-in-Ok-3-clause-allowed
returns-in-Ok-3-clause-allowed c =
    first_allowed c.args.bytes.now c.in-Ok.unit.now c.in-Ok.field-0-1.now c.in-Ok.ensures.whole (omega arith) (sym c.is_packet.ensures ∙ c.if-is_packet.false)

-- a length of two bytes stands before the unit
pub returns-in-Ok-3-clause-size : goal.returns-in-Ok-3-clause-size
returns-in-Ok-3-clause-size c =
    let unit = c.in-Ok.unit.now in
    let behind = c.in-Ok.field-0-1.now in
    let same : length (drop 2 c.args.bytes.now) ≡ length (unit ++ behind) = ap length c.in-Ok.ensures.parts in
    let left = length-drop 2 c.args.bytes.now in
    let joined = length-append unit behind in
    omega (arith, same, left, joined)
