-- Packets laid over memory, as one more comes.
use Rattle.std.proofs.Common.{◌≡◌, ℕ, zero, suc, ◌+◌, ◌<◌, ◌≤◌, List, [], ◌∷◌, ◌++◌, length, length-append, get_or, take, drop, drop-cons, set, refl, sym, ap, ◌∙◌, arith, add-one, append_assoc}
use Rattle.std.proofs.Math.Seq.{take-suc, set-append_seam}
use Rattle.std.proofs.lemmas.List.{length-drop, drop-drop, length-take-le}
use borrow.Rule.Slice.PartMut.{put_mid}
use Rattle.h26x_packetizer.specs.Buffer.{packet_ends}
use Rattle.h26x_packetizer.specs.Placement.{laid_size, packets_over}

-- one packet more takes its bytes more
size_more : (h : ℕ) (ps : List (List ℕ)) (p : List ℕ) → laid_size h (ps ++ p ∷ []) ≡ laid_size h ps + (h + length p)
size_more h [] p = omega arith
size_more h (q ∷ ps) p = let more = size_more h ps p in omega (arith, more)

pub size_next : (h : ℕ) (packets : List (List ℕ)) (n : ℕ) → n < length packets →
    laid_size h (take (n + 1) packets) ≡ laid_size h (take n packets) + (h + length (get_or packets n []))
size_next h packets n within = rw add-one (ap (laid_size h) (take-suc packets n [] within) ∙ size_more h (take n packets) (get_or packets n []))

-- the first packets take no more than all
pub size_of_first : (h : ℕ) (packets : List (List ℕ)) (n : ℕ) → laid_size h (take n packets) ≤ laid_size h packets
size_of_first h packets zero = omega arith
size_of_first h [] (suc n) = omega arith
size_of_first h (p ∷ packets) (suc n) = let others = size_of_first h packets n in omega (arith, others)

-- what is written behind a front leaves it
put_behind : (front rest ys : List ℕ) (a b k : ℕ) → a ≡ length front + b → put_mid a k (front ++ rest) ys ≡ front ++ put_mid b k rest ys
put_behind [] rest ys a b k is = let same : a ≡ b = omega (arith, is) in ap (λ i. put_mid i k rest ys) same
put_behind (x ∷ front) rest ys zero b k is = absurd (omega (arith, is))
put_behind (x ∷ front) rest ys (suc a) b k is = ap (λ (l : List ℕ). x ∷ l) (put_behind front rest ys a b k (omega (arith, is)))

-- one packet more is laid behind those that were
over_more : (h : ℕ) (ps : List (List ℕ)) (p memory : List ℕ) (a : ℕ) → laid_size h ps + h ≤ length memory → a ≡ laid_size h ps + h →
    put_mid a (length p) (packets_over h ps memory) p ≡ packets_over h (ps ++ p ∷ []) memory
over_more h [] p memory a room is =
    let place : a ≡ h = omega (arith, is) in
    ap (λ i. put_mid i (length p) memory p) place ∙ ap (λ (l : List ℕ). take h memory ++ (p ++ l)) (drop-drop (length p) h memory)
over_more h (q ∷ ps) p memory a room is =
    let rest = drop (h + length q) memory in
    let long = length-drop (h + length q) memory in
    let first = length-take-le h memory (omega (arith, room)) in
    let both = length-append (take h memory) q in
    sym (ap (λ (l : List ℕ). put_mid a (length p) l p) (append_assoc (take h memory) q (packets_over h ps rest)))
    ∙ put_behind (take h memory ++ q) (packets_over h ps rest) p a (laid_size h ps + h) (length p) (omega (arith, is, first, both))
    ∙ append_assoc (take h memory) q _
    ∙ ap (λ (l : List ℕ). take h memory ++ (q ++ l)) (over_more h ps p rest (laid_size h ps + h) (omega (arith, long, room)) refl)

-- laying packets leaves the length of memory
over_long : (h : ℕ) (ps : List (List ℕ)) (memory : List ℕ) → laid_size h ps ≤ length memory → length (packets_over h ps memory) ≡ length memory
over_long h [] memory room = refl
over_long h (p ∷ ps) memory room =
    let rest = drop (h + length p) memory in
    let first = length-take-le h memory (omega (arith, room)) in
    let long = length-drop (h + length p) memory in
    let others = over_long h ps rest (omega (arith, long, room)) in
    let both = length-append p (packets_over h ps rest) in
    length-append (take h memory) (p ++ packets_over h ps rest) ∙ omega (arith, first, long, others, both, room)

-- a packet is laid at a place, within memory and within what all take
abbrev pub IsLaidNext : ℕ → List (List ℕ) → ℕ → List ℕ → List ℕ → ℕ → Type 0
IsLaidNext h packets n memory now place = (place + h + length (get_or packets n []) ≤ length now) × ((place + h + length (get_or packets n []) ≤ laid_size h packets)
    × (put_mid (place + h) (length (get_or packets n [])) now (get_or packets n []) ≡ packets_over h (take (n + 1) packets) memory))

-- where the next packet is laid, and its end
pub laid_next : (h : ℕ) (packets : List (List ℕ)) (n : ℕ) (memory now : List ℕ) (place : ℕ) → n < length packets → laid_size h packets ≤ length memory → place ≡ laid_size h (take n packets) →
    now ≡ packets_over h (take n packets) memory → IsLaidNext h packets n memory now place
laid_next h packets n memory now place within room is laid =
    let p = get_or packets n [] in
    let next = size_next h packets n within in
    let all = size_of_first h packets (n + 1) in
    let some = size_of_first h packets n in
    let long = ap length laid ∙ over_long h (take n packets) memory (omega (arith, some, room)) in (
      omega (arith, next, all, long, is, room),
      (
        omega (arith, next, all, is),
        ap (λ (l : List ℕ). put_mid (place + h) (length p) l p) laid ∙ over_more h (take n packets) p memory (place + h) (omega (arith, next, all, room)) (omega (arith, is))
            ∙ ap (λ (l : List (List ℕ)). packets_over h l memory) (sym (ap (λ k. take k packets) (add-one n) ∙ take-suc packets n [] within)),
      ),
    )

-- a packet's end behind those before it
ends_more : (h start : ℕ) (ps : List (List ℕ)) (p : List ℕ) → packet_ends h start (ps ++ p ∷ []) ≡ packet_ends h start ps ++ (start + laid_size h ps + h + length p) ∷ []
ends_more h start [] p = ap (λ e. e ∷ []) (let end : start + h + length p ≡ start + 0 + h + length p = omega arith in end)
ends_more h start (q ∷ ps) p =
    let end : start + h + length q + laid_size h ps + h + length p ≡ start + (h + length q + laid_size h ps) + h + length p = omega arith in
    ap (λ (l : List ℕ). (start + h + length q) ∷ l) (ends_more h (start + h + length q) ps p ∙ ap (λ e. packet_ends h (start + h + length q) ps ++ e ∷ []) end)

-- there are as many ends as packets
length_ends : (h start : ℕ) (ps : List (List ℕ)) → length (packet_ends h start ps) ≡ length ps
length_ends h start [] = refl
length_ends h start (p ∷ ps) = ap suc (length_ends h (start + h + length p) ps)

-- a number written behind those at the front of a list
pub number_behind : (front room : List ℕ) (n x : ℕ) → length front ≡ n → n < length room → set (front ++ drop n room) n x ≡ (front ++ x ∷ []) ++ drop (n + 1) room
number_behind front room n x same within =
    let rest = drop (suc n) room in
    rw add-one (ap (λ (r : List ℕ). set (front ++ r) n x) (drop-cons room n 0 within) ∙ ap (λ k. set (front ++ get_or room n 0 ∷ rest) k x) (sym same)
    ∙ set-append_seam front (get_or room n 0) rest x ∙ simp append_assoc)

-- the next packet's end, written behind those before it
pub end_next : (h : ℕ) (packets : List (List ℕ)) (n : ℕ) (room now : List ℕ) (end : ℕ) → n < length packets → n < length room → now ≡ packet_ends h 0 (take n packets) ++ drop n room →
    end ≡ laid_size h (take n packets) + h + length (get_or packets n []) → set now n end ≡ packet_ends h 0 (take (n + 1) packets) ++ drop (n + 1) room
end_next h packets n room now end within there holds is =
    let front = packet_ends h 0 (take n packets) in
    let same : 0 + laid_size h (take n packets) + h + length (get_or packets n []) ≡ end = omega (arith, is) in
    let more : packet_ends h 0 (take (n + 1) packets) ≡ front ++ end ∷ [] = ap (λ k. packet_ends h 0 (take k packets)) (add-one n) ∙ ap (packet_ends h 0) (take-suc packets n [] within)
    ∙ ends_more h 0 (take n packets) (get_or packets n []) ∙ ap (λ e. front ++ e ∷ []) same in
    ap (λ (l : List ℕ). set l n end) holds ∙ number_behind front room n end (length_ends h 0 (take n packets) ∙ length-take-le n packets (omega (arith, within))) there
    ∙ ap (λ (l : List ℕ). l ++ drop (n + 1) room) (sym more)
