-- Packets behind each other in one buffer, as one more comes or the last ones go.
use Rattle.std.proofs.Common.{◌≡◌, ℕ, zero, suc, ◌+◌, ◌-◌, ◌*◌, ◌<◌, ◌≤◌, max, List, [], ◌∷◌, ◌++◌, length, length-append, get_or, take, drop, refl, sym, ap, ◌∙◌, arith, append_assoc}
use Rattle.std.specs.List.{between}
use Rattle.std.proofs.lemmas.List.{length-drop, take-take, length-take-le, take-append-drop, take-append-le, drop-append-le, drop_at, take_all}
use Rattle.std.proofs.lemmas.List.Sums.{sum_by-cons}
use borrow.Rule.Slice.PartMut.{put_mid}
use Rattle.std.proofs.lemmas.Slice.{drop-put_mid, take-put_mid, take-put_mid_below, between_is}
use Rattle.h26x_packetizer.specs.Buffer.{packets_from, headrooms_from, last_end, packet_ends, ArePacketEnds, IsBuffer, HoldPackets, HoldHeadrooms, packets_len, headed, headed_at, IsMemoryFor}
use Rattle.h26x_packetizer.specs.declared.buffer.memory.BufferMemory.{BufferMemory}

-- ends are in order
pub start_le_last : (h s : ℕ) (ends : List ℕ) → ArePacketEnds h s ends → s ≤ last_end s ends
start_le_last h s [] are = omega arith
start_le_last h s (e ∷ ends) (here, more) = let a = start_le_last h e ends more in omega (arith, a, here)

-- a part that more bytes do not reach
between_kept : (i j : ℕ) (bytes more : List ℕ) → j ≤ length bytes → between i j (bytes ++ more) ≡ between i j bytes
between_kept i j bytes more le = between_is (bytes ++ more) i j ∙ ap (drop i) (take-append-le j bytes more le) ∙ sym (between_is bytes i j)

-- the packets of before stay where more bytes come
pub packets_kept : (h s : ℕ) (bytes more ends : List ℕ) → ArePacketEnds h s ends → last_end s ends ≤ length bytes → packets_from h s (bytes ++ more) ends ≡ packets_from h s bytes ends
packets_kept h s bytes more [] are le = refl
packets_kept h s bytes more (e ∷ ends) (here, are) le =
    let a = start_le_last h e ends are in
    rw (between_kept (s + h) e bytes more (omega (arith, a, le)), packets_kept h e bytes more ends are le) refl

-- so do their headrooms
headrooms_kept : (h s : ℕ) (bytes more ends : List ℕ) → ArePacketEnds h s ends → last_end s ends ≤ length bytes → headrooms_from h s (bytes ++ more) ends ≡ headrooms_from h s bytes ends
headrooms_kept h s bytes more [] are le = refl
headrooms_kept h s bytes more (e ∷ ends) (here, are) le =
    let a = start_le_last h e ends are in
    rw (between_kept s (s + h) bytes more (omega (arith, a, here, le)), headrooms_kept h e bytes more ends are le) refl

-- one packet more
packets_push : (h s : ℕ) (bytes ends : List ℕ) (e : ℕ) → packets_from h s bytes (ends ++ e ∷ []) ≡ packets_from h s bytes ends ++ between (last_end s ends + h) e bytes ∷ []
packets_push h s bytes [] e = refl
packets_push h s bytes (x ∷ ends) e = ap (λ (l : List (List ℕ)). between (s + h) x bytes ∷ l) (packets_push h x bytes ends e)

headrooms_push : (h s : ℕ) (bytes ends : List ℕ) (e : ℕ) → headrooms_from h s bytes (ends ++ e ∷ []) ≡ headrooms_from h s bytes ends ++ between (last_end s ends) (last_end s ends + h) bytes ∷ []
headrooms_push h s bytes [] e = refl
headrooms_push h s bytes (x ∷ ends) e = ap (λ (l : List (List ℕ)). between s (s + h) bytes ∷ l) (headrooms_push h x bytes ends e)

last_push : (s : ℕ) (ends : List ℕ) (e : ℕ) → last_end s (ends ++ e ∷ []) ≡ e
last_push s [] e = refl
last_push s (x ∷ ends) e = last_push x ends e

ends_push : (h s : ℕ) (ends : List ℕ) (e : ℕ) → ArePacketEnds h s ends → last_end s ends + h ≤ e → ArePacketEnds h s (ends ++ e ∷ [])
ends_push h s [] e are le = (le, tt)
ends_push h s (x ∷ ends) e (here, are) le = (here, ends_push h x ends e are le)

-- what stands behind bytes and their headroom
between_behind : (bytes room packet : List ℕ) (i j : ℕ) → i ≡ length bytes + length room → j ≡ i + length packet → between i j (bytes ++ (room ++ packet)) ≡ packet
between_behind bytes room packet i j is end =
    let all : length ((bytes ++ room) ++ packet) ≡ j = length-append (bytes ++ room) packet ∙ ap (λ k. k + length packet) (length-append bytes room) ∙ omega (arith, is, end) in
    ap (between i j) (sym (append_assoc bytes room packet)) ∙ between_is ((bytes ++ room) ++ packet) i j
    ∙ ap (drop i) (take_all j ((bytes ++ room) ++ packet) (omega (arith, all))) ∙ drop_at (bytes ++ room) packet i (length-append bytes room ∙ sym is)

-- the headroom behind bytes
room_behind : (bytes room packet : List ℕ) (i j : ℕ) → i ≡ length bytes → j ≡ i + length room → between i j (bytes ++ (room ++ packet)) ≡ room
room_behind bytes room packet i j is end =
    let all : length (bytes ++ room) ≡ j = length-append bytes room ∙ omega (arith, is, end) in
    ap (between i j) (sym (append_assoc bytes room packet)) ∙ between_kept i j (bytes ++ room) packet (omega (arith, all))
    ∙ between_behind bytes [] room i j (omega (arith, is)) end

-- a packet more behind its headroom
pub buffer_push : (h : ℕ) (bytes ends room packet all : List ℕ) (e : ℕ) → IsBuffer h bytes ends → length room ≡ h → all ≡ bytes ++ (room ++ packet) → e ≡ length all →
    (IsBuffer h all (ends ++ e ∷ [])) × (packets_from h 0 all (ends ++ e ∷ []) ≡ packets_from h 0 bytes ends ++ packet ∷ [])
    × (headrooms_from h 0 all (ends ++ e ∷ []) ≡ headrooms_from h 0 bytes ends ++ room ∷ [])
buffer_push h bytes ends room packet all e is long same end =
    let count : length all ≡ length bytes + (h + length packet) = ap length same ∙ length-append bytes (room ++ packet) ∙ ap (λ k. length bytes + k) (length-append room packet ∙ ap (λ k. k + length packet) long) in
    let last = is.to_the_end in (
      record { in_order = ends_push h 0 ends e is.in_order (omega (arith, last, count, end)); to_the_end = last_push 0 ends e ∙ end },
      packets_push h 0 all ends e
          ∙ ap (λ (l : List (List ℕ)). l ++ between (last_end 0 ends + h) e all ∷ []) (ap (λ (b : List ℕ). packets_from h 0 b ends) same ∙ packets_kept h 0 bytes (room ++ packet) ends is.in_order (omega (arith, last)))
          ∙ ap (λ (p : List ℕ). packets_from h 0 bytes ends ++ p ∷ []) (ap (between (last_end 0 ends + h) e) same ∙ between_behind bytes room packet (last_end 0 ends + h) e (omega (arith, last, long)) (omega (arith, last, count, end))),
      headrooms_push h 0 all ends e
          ∙ ap (λ (l : List (List ℕ)). l ++ between (last_end 0 ends) (last_end 0 ends + h) all ∷ []) (ap (λ (b : List ℕ). headrooms_from h 0 b ends) same ∙ headrooms_kept h 0 bytes (room ++ packet) ends is.in_order (omega (arith, last)))
          ∙ ap (λ (p : List ℕ). headrooms_from h 0 bytes ends ++ p ∷ []) (ap (between (last_end 0 ends) (last_end 0 ends + h)) same ∙ room_behind bytes room packet (last_end 0 ends) (last_end 0 ends + h) last (omega (arith, long))),
    )

-- the first packets
packets_take : (h s : ℕ) (bytes ends : List ℕ) (n : ℕ) → packets_from h s bytes (take n ends) ≡ take n (packets_from h s bytes ends)
packets_take h s bytes ends zero = refl
packets_take h s bytes [] (suc n) = refl
packets_take h s bytes (e ∷ ends) (suc n) = ap (λ (l : List (List ℕ)). between (s + h) e bytes ∷ l) (packets_take h e bytes ends n)

headrooms_take : (h s : ℕ) (bytes ends : List ℕ) (n : ℕ) → headrooms_from h s bytes (take n ends) ≡ take n (headrooms_from h s bytes ends)
headrooms_take h s bytes ends zero = refl
headrooms_take h s bytes [] (suc n) = refl
headrooms_take h s bytes (e ∷ ends) (suc n) = ap (λ (l : List (List ℕ)). between s (s + h) bytes ∷ l) (headrooms_take h e bytes ends n)

ends_take : (h s : ℕ) (ends : List ℕ) (n : ℕ) → ArePacketEnds h s ends → ArePacketEnds h s (take n ends)
ends_take h s ends zero are = tt
ends_take h s [] (suc n) are = tt
ends_take h s (e ∷ ends) (suc n) (here, are) = (here, ends_take h e ends n are)

last_take : (h s : ℕ) (ends : List ℕ) (n : ℕ) → ArePacketEnds h s ends → last_end s (take n ends) ≤ last_end s ends
last_take h s ends zero are = start_le_last h s ends are
last_take h s [] (suc n) are = omega arith
last_take h s (e ∷ ends) (suc n) (here, are) = last_take h e ends n are

-- the first packets, and their bytes alone
pub buffer_take : (h : ℕ) (bytes ends : List ℕ) (n k : ℕ) → IsBuffer h bytes ends → k ≡ last_end 0 (take n ends) →
    (IsBuffer h (take k bytes) (take n ends)) × (packets_from h 0 (take k bytes) (take n ends) ≡ take n (packets_from h 0 bytes ends))
    × (headrooms_from h 0 (take k bytes) (take n ends) ≡ take n (headrooms_from h 0 bytes ends))
buffer_take h bytes ends n k is end =
    let a = last_take h 0 ends n is.in_order in
    let last = is.to_the_end in
    let le : k ≤ length bytes = omega (arith, a, last, end) in
    let long : length (take k bytes) ≡ k = length-take-le k bytes le in
    let are = ends_take h 0 ends n is.in_order in (
      record { in_order = are; to_the_end = sym end ∙ sym long },
      sym (packets_kept h 0 (take k bytes) (drop k bytes) (take n ends) are (omega (arith, long, end)))
          ∙ ap (λ (b : List ℕ). packets_from h 0 b (take n ends)) (take-append-drop k bytes) ∙ packets_take h 0 bytes ends n,
      sym (headrooms_kept h 0 (take k bytes) (drop k bytes) (take n ends) are (omega (arith, long, end)))
          ∙ ap (λ (b : List ℕ). headrooms_from h 0 b (take n ends)) (take-append-drop k bytes) ∙ headrooms_take h 0 bytes ends n,
    )

-- how many packets there are
pub packets_count : (h s : ℕ) (bytes ends : List ℕ) → length (packets_from h s bytes ends) ≡ length ends
packets_count h s bytes [] = refl
packets_count h s bytes (e ∷ ends) = ap suc (packets_count h e bytes ends)

pub headrooms_count : (h s : ℕ) (bytes ends : List ℕ) → length (headrooms_from h s bytes ends) ≡ length ends
headrooms_count h s bytes [] = refl
headrooms_count h s bytes (e ∷ ends) = ap suc (headrooms_count h e bytes ends)

-- where the first so many end, by the place in the list
pub last_at : (s : ℕ) (ends : List ℕ) (i : ℕ) → i < length ends → last_end s (take (suc i) ends) ≡ get_or ends i 0
last_at s [] i lt = absurd (omega arith)
last_at s (e ∷ ends) zero lt = refl
last_at s (e ∷ ends) (suc i) lt = last_at e ends i (omega arith)

-- the packet at a place
pub packet_at : (h s : ℕ) (bytes ends : List ℕ) (i : ℕ) → i < length ends → get_or (packets_from h s bytes ends) i [] ≡ between (last_end s (take i ends) + h) (get_or ends i 0) bytes
packet_at h s bytes [] i lt = absurd (omega arith)
packet_at h s bytes (e ∷ ends) zero lt = refl
packet_at h s bytes (e ∷ ends) (suc i) lt = packet_at h e bytes ends i (omega arith)

-- its headroom
pub headroom_at : (h s : ℕ) (bytes ends : List ℕ) (i : ℕ) → i < length ends → get_or (headrooms_from h s bytes ends) i [] ≡ between (last_end s (take i ends)) (last_end s (take i ends) + h) bytes
headroom_at h s bytes [] i lt = absurd (omega arith)
headroom_at h s bytes (e ∷ ends) zero lt = refl
headroom_at h s bytes (e ∷ ends) (suc i) lt = headroom_at h e bytes ends i (omega arith)

-- its place lies within the bytes
pub packet_within : (h s : ℕ) (ends : List ℕ) (i : ℕ) → ArePacketEnds h s ends → i < length ends → (last_end s (take i ends) + h ≤ get_or ends i 0) × (get_or ends i 0 ≤ last_end s ends)
packet_within h s [] i are lt = absurd (omega arith)
packet_within h s (e ∷ ends) zero (here, are) lt = (here, start_le_last h e ends are)
packet_within h s (e ∷ ends) (suc i) (here, are) lt = packet_within h e ends i are (omega arith)

-- what is written below a place leaves the packets that begin behind it
packets_behind : (h s : ℕ) (bytes ends ys : List ℕ) (a k : ℕ) → ArePacketEnds h s ends → a + k ≤ s → length ys ≡ k → a ≤ length bytes → packets_from h s (put_mid a k bytes ys) ends ≡ packets_from h s bytes ends
packets_behind h s bytes [] ys a k are le long within = refl
packets_behind h s bytes (e ∷ ends) ys a k (here, are) le long within =
    rw (drop-put_mid a k bytes ys (s + h) (omega (arith, le)) within long, packets_behind h e bytes ends ys a k are (omega (arith, le, here)) long within) refl

-- what is written into the headroom of a packet leaves every packet
pub packets_headed : (h s : ℕ) (bytes ends ys : List ℕ) (a k i : ℕ) → ArePacketEnds h s ends → i < length ends → last_end s (take i ends) ≤ a → a + k ≤ last_end s (take i ends) + h → length ys ≡ k →
    a ≤ length bytes → packets_from h s (put_mid a k bytes ys) ends ≡ packets_from h s bytes ends
packets_headed h s bytes [] ys a k i are lt low high long within = refl
packets_headed h s bytes (e ∷ ends) ys a k zero (here, are) lt low high long within =
    rw (drop-put_mid a k bytes ys (s + h) high within long, packets_behind h e bytes ends ys a k are (omega (arith, high, here)) long within) refl
packets_headed h s bytes (e ∷ ends) ys a k (suc i) (here, are) lt low high long within =
    let below = start_le_last h e (take i ends) (ends_take h e ends i are) in
    let first : between (s + h) e (put_mid a k bytes ys) ≡ between (s + h) e bytes =
    between_is (put_mid a k bytes ys) (s + h) e ∙ ap (drop (s + h)) (take-put_mid_below a k bytes ys e (omega (arith, below, low)) within) ∙ sym (between_is bytes (s + h) e) in
    rw (first, packets_headed h e bytes ends ys a k i are (omega arith) low high long within) refl

-- a part of bytes is as long as its bounds say
pub between_long : (i j : ℕ) (bytes : List ℕ) → j ≤ length bytes → length (between i j bytes) ≡ j - i
between_long i j bytes le = ap length (between_is bytes i j) ∙ length-drop i (take j bytes) ∙ ap (λ k. k - i) (length-take-le j bytes le)

-- the first bytes of a part
front_of_between : (s a j m : ℕ) (bytes : List ℕ) → m ≡ a - s → a ≤ j → take m (between s j bytes) ≡ between s a bytes
front_of_between s a j m bytes is le = take-take m (j - s) (drop s bytes) (omega (arith, is, le)) ∙ ap (λ n. take n (drop s bytes)) is

-- what is written below a place leaves the headrooms that begin behind it
headrooms_behind : (h s : ℕ) (bytes ends ys : List ℕ) (a k : ℕ) → ArePacketEnds h s ends → a + k ≤ s → length ys ≡ k → a ≤ length bytes → headrooms_from h s (put_mid a k bytes ys) ends ≡ headrooms_from h s bytes ends
headrooms_behind h s bytes [] ys a k are le long within = refl
headrooms_behind h s bytes (e ∷ ends) ys a k (here, are) le long within =
    rw (drop-put_mid a k bytes ys s le within long, headrooms_behind h e bytes ends ys a k are (omega (arith, le, here)) long within) refl

-- a headroom of which the last bytes are written over
room_headed : (s a k h : ℕ) (bytes ys : List ℕ) → a + k ≡ s + h → k ≤ h → length ys ≡ k → s + h ≤ length bytes → between s (s + h) (put_mid a k bytes ys) ≡ headed ys (between s (s + h) bytes)
room_headed s a k h bytes ys at room long within =
    let le : a ≤ length bytes = omega (arith, at, within) in
    let all : length (between s (s + h) bytes) ≡ (s + h) - s = between_long s (s + h) bytes within in
    let front = length-take-le a bytes le in
    between_is (put_mid a k bytes ys) s (s + h) ∙ ap (drop s) (take-put_mid a k bytes ys (s + h) (omega (arith, at, long)) le)
    ∙ drop-append-le s (take a bytes) ys (omega (arith, at, room, front)) ∙ ap (λ (l : List ℕ). l ++ ys) (sym (between_is bytes s a))
    ∙ ap (λ (l : List ℕ). l ++ ys) (sym (front_of_between s a (s + h) (length (between s (s + h) bytes) - length ys) bytes (omega (arith, all, long, at, room)) (omega (arith, at))))

-- what is written at the end of a headroom is its header, and leaves every other headroom
pub headrooms_headed : (h s : ℕ) (bytes ends ys : List ℕ) (a k i : ℕ) → ArePacketEnds h s ends → i < length ends → a + k ≡ last_end s (take i ends) + h → k ≤ h → length ys ≡ k →
    last_end s ends ≤ length bytes → headrooms_from h s (put_mid a k bytes ys) ends ≡ headed_at i ys (headrooms_from h s bytes ends)
headrooms_headed h s bytes [] ys a k i are lt at room long within = refl
headrooms_headed h s bytes (e ∷ ends) ys a k zero (here, are) lt at room long within =
    let last = start_le_last h e ends are in
    rw (room_headed s a k h bytes ys at room long (omega (arith, here, last, within)), headrooms_behind h e bytes ends ys a k are (omega (arith, at, here)) long (omega (arith, at, here, last, within))) refl
headrooms_headed h s bytes (e ∷ ends) ys a k (suc i) (here, are) lt at room long within =
    let below = start_le_last h e (take i ends) (ends_take h e ends i are) in
    let all = last_take h e ends i are in
    let more = packet_within h e ends i are (omega arith) in
    let last = more.1 in
    let first : between s (s + h) (put_mid a k bytes ys) ≡ between s (s + h) bytes =
    between_is (put_mid a k bytes ys) s (s + h)
    ∙ ap (drop s) (take-put_mid_below a k bytes ys (s + h) (omega (arith, below, at, room, here)) (omega (arith, at, room, more.0, last, within))) ∙ sym (between_is bytes s (s + h)) in
    rw (first, headrooms_headed h e bytes ends ys a k i are (omega arith) at room long within) refl

-- what is written into a part leaves the length
pub length_put : (a k : ℕ) (xs ys : List ℕ) → length ys ≡ k → a + k ≤ length xs → length (put_mid a k xs ys) ≡ length xs
length_put a k xs ys long le =
    let two = length-append ys (drop k (drop a xs)) in
    let three = length-take-le a xs (omega (arith, le)) in
    let four = length-drop k (drop a xs) in
    let five = length-drop a xs in
    length-append (take a xs) (ys ++ drop k (drop a xs)) ∙ omega (arith, two, three, four, five, long, le)

-- packets tell where they end
ends_told : (h s : ℕ) (bytes ends : List ℕ) → ArePacketEnds h s ends → last_end s ends ≤ length bytes → packet_ends h s (packets_from h s bytes ends) ≡ ends
ends_told h s bytes [] are le = refl
ends_told h s bytes (e ∷ ends) (here, are) le =
    let a = start_le_last h e ends are in
    let long = between_long (s + h) e bytes (omega (arith, a, le)) in
    let end : s + h + length (between (s + h) e bytes) ≡ e = omega (arith, long, here) in
    rw end (ap (λ (l : List ℕ). e ∷ l) (ends_told h e bytes ends are le))

-- so do those of a buffer, and its bytes hold them
pub buffer_ends : (h : ℕ) (bytes ends : List ℕ) → IsBuffer h bytes ends → ends ≡ packet_ends h 0 (packets_from h 0 bytes ends)
buffer_ends h bytes ends is = let all = is.to_the_end in sym (ends_told h 0 bytes ends is.in_order (omega (arith, all)))

pub buffer_holds : (h : ℕ) (bytes ends : List ℕ) → IsBuffer h bytes ends → HoldPackets h (packets_from h 0 bytes ends) bytes
buffer_holds h bytes ends is =
    let same = sym (buffer_ends h bytes ends is) in
    record { there = ap (packets_from h 0 bytes) same; to_the_end = ap (last_end 0) same ∙ is.to_the_end }

pub buffer_holds_rooms : (h : ℕ) (bytes ends : List ℕ) → IsBuffer h bytes ends → HoldHeadrooms h (packets_from h 0 bytes ends) (headrooms_from h 0 bytes ends) bytes
buffer_holds_rooms h bytes ends is = ap (headrooms_from h 0 bytes) (sym (buffer_ends h bytes ends is))

-- how many bytes packets of a buffer take
pub packets_len_from : (h s : ℕ) (bytes ends : List ℕ) → ArePacketEnds h s ends → last_end s ends ≤ length bytes → s + packets_len h (packets_from h s bytes ends) ≡ last_end s ends
packets_len_from h s bytes [] are le = omega arith
packets_len_from h s bytes (e ∷ ends) (here, are) le =
    let a = start_le_last h e ends are in
    let long = between_long (s + h) e bytes (omega (arith, a, le)) in
    let more = packets_len_from h e bytes ends are le in
    let cons = sum_by-cons (λ (packet : List ℕ). h + length packet) (between (s + h) e bytes) (packets_from h e bytes ends) in
    omega (arith, long, here, more, cons)

pub buffer_len : (h : ℕ) (bytes ends : List ℕ) → IsBuffer h bytes ends → packets_len h (packets_from h 0 bytes ends) ≡ length bytes
buffer_len h bytes ends is = let all = is.to_the_end in let len = packets_len_from h 0 bytes ends is.in_order (omega (arith, all)) in omega (arith, all, len)

-- memory is for twice as much as stands in a buffer at most, by its bytes and ends
pub memory_for : (h : ℕ) (bytes ends : List ℕ) (old new : BufferMemory) → IsBuffer h bytes ends → new.bytes ≤ max old.bytes (2 * length bytes) → new.ends ≤ max old.ends (2 * (length ends + 8)) →
    IsMemoryFor h (packets_from h 0 bytes ends) old new
memory_for h bytes ends old new is few_bytes few_ends =
    let len = buffer_len h bytes ends is in
    let count = packets_count h 0 bytes ends in
    record { bytes = rw len few_bytes; ends = rw count few_ends }

pub memory_of : (h : ℕ) (bytes ends : List ℕ) (old new : BufferMemory) → IsBuffer h bytes ends → IsMemoryFor h (packets_from h 0 bytes ends) old new →
    (new.bytes ≤ max old.bytes (2 * length bytes)) × (new.ends ≤ max old.ends (2 * (length ends + 8)))
memory_of h bytes ends old new is few =
    let len = buffer_len h bytes ends is in
    let count = packets_count h 0 bytes ends in
    (rw len at few.bytes, rw count at few.ends)
