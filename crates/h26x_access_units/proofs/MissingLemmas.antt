-- Numbers that are missing, packet by packet.
use Rattle.std.proofs.Common.{◌≡◌, ◌∙◌, ap, sym, ℕ, ◌+◌, ◌<◌, List, ◌++◌, length, get_or, drop, append_assoc}
use Rattle.std.proofs.lemmas.List.{drop_more}
use Rattle.h26x_core.specs.Sequence.{next_sequence_number, distance_ahead}
use Rattle.h26x_reorder.specs.Rtp.{RtpBody}
use Rattle.h26x_access_units.specs.Missing.{numbers_from, missing_before}

-- before a packet those up to its number are missing, and behind it those before the next
pub up_to : (before after : List ℕ) (from number place : ℕ) (held : List (ℕ × RtpBody)) (d : ℕ × RtpBody) → place < length held → number ≡ (get_or held place d).0 →
    after ≡ before ++ numbers_from from (distance_ahead from number) →
    before ++ missing_before from (drop place held) ≡ after ++ missing_before (next_sequence_number number) (drop (place + 1) held)
up_to before after from number place held d in_range is told =
    let p = get_or held place d in
    let rest = drop (place + 1) held in
    ap (λ (l : List (ℕ × RtpBody)). before ++ missing_before from l) (drop_more held place d in_range)
    ∙ sym (append_assoc before (numbers_from from (distance_ahead from p.0)) (missing_before (next_sequence_number p.0) rest))
    ∙ ap (λ (n : ℕ). (before ++ numbers_from from (distance_ahead from n)) ++ missing_before (next_sequence_number n) rest) (sym is)
    ∙ ap (λ (l : List ℕ). l ++ missing_before (next_sequence_number number) rest) (sym told)
