-- Where the parts of a packet are.
use Rattle.std.proofs.Common.{◌≡◌, ℕ, ◌-◌, List, ◌++◌, length, take, drop, ap, ◌∙◌, arith}
use Rattle.std.proofs.Math.Seq.{drop-append_seam, take-append_seam}
use Rattle.std.proofs.lemmas.List.{length-append}
use Rattle.h26x_rtp.specs.Datagram.{DatagramParts, IsDatagram, datagram_header, is_there}
use Rattle.h26x_c.specs.Rtp.{part_at}

part_behind : (head part behind : List ℕ) →
    part_at (head ++ (part ++ behind)) (length (head ++ (part ++ behind)) - length behind - length part) (length part) ≡ part
part_behind head part behind =
    let a = length-append head (part ++ behind) in
    let b = length-append part behind in
    let n : length (head ++ (part ++ behind)) - length behind - length part ≡ length head = omega (arith, a, b) in
    ap (λ k. take (length part) (drop k (head ++ (part ++ behind)))) n
    ∙ ap (take (length part)) (drop-append_seam head (part ++ behind)) ∙ take-append_seam part behind

-- the payload stands before the padding
pub payload_at : (bytes : List ℕ) (it : DatagramParts) → IsDatagram bytes it →
    part_at bytes (length bytes - length it.padding - length it.payload) (length it.payload) ≡ it.payload
payload_at bytes it is =
    let head = datagram_header it.header (is_there it.padding) in
    ap (λ b. part_at b (length b - length it.padding - length it.payload) (length it.payload)) is.spelled
    ∙ part_behind head it.payload it.padding
