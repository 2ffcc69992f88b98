-- A unit that is fragmented takes the fewest fragments that there could be.
use Rattle.std.proofs.Common.{◌≡◌, ℕ, ◌+◌, ◌-◌, ◌*◌, ◌/◌, ◌<◌, ◌≤◌, true, false, List, [], ◌∷◌, length, refl, ap, ◌∙◌, arith, length-append}
use Rattle.std.specs.List.{AllByRecursion, flat_map}
use Rattle.std.proofs.lemmas.Nat.{div_below}
use Rattle.std.proofs.lemmas.Bool.{leb-false}
use Rattle.std.proofs.lemmas.List.{length-drop}
use Rattle.h26x_model.specs.Payload.Reading.{Reading, Fragment, IsFragment, body_of, is_start}
use Rattle.h26x_model.specs.Payload.Format.{Format, fragment_header_len, donl_len}
use Rattle.h26x_model.specs.Send.Plan.{fits_one_packet, is_dropped}
use Rattle.h26x_model.specs.Send.Packets.{fragment_room, pieces_needed}
use Rattle.h26x_model.specs.Send.Rival.{FirstStarts, TakesFewestFragments}
use Rattle.h26x_model.specs.Payload.Facts.{HeadersTakeRoom}

-- a fragment is longer than its data by its headers at least
body_fits : (f : Format) (packet : List ℕ) (reading : Reading) → HeadersTakeRoom f → f.read packet ≡ reading → IsFragment reading →
    length (body_of reading) + fragment_header_len f ≤ length packet
body_fits f packet (Fragment start end head don body) takes e is = omega (arith, takes packet head body start end don e)
body_fits f packet reading takes e is = absurd is

-- a start is longer than its data by its headers and a number
start_fits : (f : Format) (packet : List ℕ) (reading : Reading) → HeadersTakeRoom f → f.read packet ≡ reading → is_start reading ≡ true →
    length (body_of reading) + (fragment_header_len f + donl_len f) ≤ length packet
start_fits f packet (Fragment true end head don body) takes e is = takes packet head body true end don e
start_fits f packet reading takes e is = absurd cc

-- the data of fragments within the limit take at most the room of each
carried : (f : Format) (limit : ℕ) (packets : List (List ℕ)) → HeadersTakeRoom f →
    AllByRecursion (λ packet. length packet ≤ limit) packets → AllByRecursion (λ packet. IsFragment (f.read packet)) packets →
    length (flat_map (λ packet. body_of (f.read packet)) packets) ≤ length packets * fragment_room f limit
carried f limit [] takes within each = omega arith
carried f limit (packet ∷ packets) takes within each =
    let here : length (body_of (f.read packet)) + fragment_header_len f ≤ length packet = body_fits f packet (f.read packet) takes refl each.0 in
    let later = carried f limit packets takes within.1 each.1 in
    let few = within.0 in
    simp length-append (omega arith)

-- what k pieces can hold needs at most k pieces
pub needed_le : (x c k : ℕ) → 0 < c → x ≤ k * c → pieces_needed c x ≤ k
needed_le x c k pos h = let b : (x + (c - 1)) / c < k + 1 = div_below (x + (c - 1)) c (k + 1) pos (omega arith) in omega arith

-- where a unit is fragmented, a fragment with a number has room for data
pub has_room : (f : Format) (limit : ℕ) (unit : List ℕ) → fits_one_packet f limit unit ≡ false → is_dropped f limit unit ≡ false →
    fragment_header_len f + donl_len f < limit
has_room f limit unit unfit kept = leb-false limit (fragment_header_len f + donl_len f) (rw unfit at kept)

-- where the first of them starts, a number and their data take at most the room of each
carried_all : (f : Format) (limit : ℕ) (packets : List (List ℕ)) → HeadersTakeRoom f → fragment_header_len f + donl_len f < limit →
    AllByRecursion (λ packet. length packet ≤ limit) packets → AllByRecursion (λ packet. IsFragment (f.read packet)) packets → FirstStarts f packets →
    donl_len f + length (flat_map (λ packet. body_of (f.read packet)) packets) ≤ length packets * fragment_room f limit
carried_all f limit [] takes large within each first = absurd first
carried_all f limit (packet ∷ packets) takes large within each first =
    let here : length (body_of (f.read packet)) + (fragment_header_len f + donl_len f) ≤ length packet =
    start_fits f packet (f.read packet) takes refl first in
    let later = carried f limit packets takes within.1 each.1 in
    let few = within.0 in
    simp length-append (omega arith)

-- no rival of a unit that is fragmented has fewer packets than the packetizer
pub takes_fewest : (f : Format) → HeadersTakeRoom f → TakesFewestFragments f
takes_fewest f takes limit unit packets unfit kept rival =
    let large = has_room f limit unit unfit kept in
    let all = carried_all f limit packets takes large rival.within rival.each rival.first in
    let whole : length (flat_map (λ packet. body_of (f.read packet)) packets) ≡ length unit - f.header_len =
    ap length rival.joined ∙ length-drop f.header_len unit in
    needed_le (donl_len f + (length unit - f.header_len)) (fragment_room f limit) (length packets) (omega arith) (omega arith)
