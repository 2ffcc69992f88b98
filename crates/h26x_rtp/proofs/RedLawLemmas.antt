-- What is read is a redundant payload's bytes, and a redundant payload is read.
use Rattle.std.proofs.Common.{◌≡◌, ℕ, suc, ◌+◌, ◌*◌, ◌/◌, ◌%◌, ◌<◌, ◌≤◌, Bool, true, false, cond, ◌⊎◌, inl, inr, List, [], ◌∷◌, ◌++◌, length, take, drop, Option, Some, None, Result, Ok, Err, refl, sym, ap, ◌∙◌, subst, get_or, length-append, append_assoc, arith}
use Rattle.std.specs.Prelude.{slice_index, nat_lt, unwrap_or, IfOk}
use Rattle.std.specs.Option.{option_map}
use Rattle.std.specs.List.{flat_map, AllByRecursion}
use Rattle.std.proofs.lemmas.List.{take_at, drop_at, drop-drop, length-drop, length-take-le, get_or-append-add, take-append-drop, drop_more}
use Rattle.std.proofs.lemmas.Bool.Decides.{nat_tests}
use Rattle.h26x_rtp.specs.declared.red.RedError.{RedError}
use Rattle.h26x_rtp.specs.declared.red.RedError.TheVariants.{BlocksPastTheEnd}
use Rattle.h26x_rtp.specs.Datagram.{AreBytes}
use Rattle.h26x_rtp.specs.Red.{BlockParts, RedParts, block_header, block_bytes, red_bytes, BlockFits, RedFits, IsRed, headers_end, blocks_size, blocks_in, red_of_parts, red_at, red_of}
use Rattle.h26x_rtp.specs.declared.red.RedPayload.{RedPayload}
use Rattle.h26x_rtp.specs.RedViews.{red_view, IsReadAsRed}
use Rattle.h26x_rtp.proofs.RedLemmas.{ends_here}

-- the headers of blocks are found
headers_back : (blocks : List BlockParts) (payload_type : ℕ) (rest : List ℕ) → AllByRecursion BlockFits blocks → payload_type < 128 →
    headers_end (flat_map block_header blocks ++ (payload_type ∷ rest)) ≡ Some (length (flat_map block_header blocks))
headers_back [] payload_type rest fits h = ends_here (payload_type ∷ rest) (omega arith) h
headers_back (b ∷ blocks) payload_type rest (fit, fits) h =
    let t : nat_lt (128 + b.payload_type) 128 ≡ false = grind (arith, nat_tests) in
    let n : 4 + length (flat_map block_header blocks) ≡ suc (suc (suc (suc (length (flat_map block_header blocks))))) = omega arith in
    rw (t, headers_back blocks payload_type rest fits h) (ap Some n)

-- a block's length is read back
len_back : (offset len : ℕ) → len < 1024 → (offset % 64 * 4 + len / 256) % 4 * 256 + len % 256 ≡ len
len_back offset len h = omega arith

offset_back : (offset len : ℕ) → len < 1024 → offset / 64 * 64 + (offset % 64 * 4 + len / 256) / 4 ≡ offset
offset_back offset len h = omega arith

-- the size of the blocks is that of their bytes
size_back : (blocks : List BlockParts) → AllByRecursion BlockFits blocks → blocks_size (flat_map block_header blocks) ≡ length (flat_map block_bytes blocks)
size_back [] fits = refl
size_back (b ∷ blocks) (fit, fits) =
    let l = length-append b.bytes (flat_map block_bytes blocks) in
    let one = len_back b.offset (length b.bytes) fit.bytes in
    let more = size_back blocks fits in
    omega (arith, l, one, more)

-- the blocks are read back
blocks_back : (blocks : List BlockParts) (rest : List ℕ) → AllByRecursion BlockFits blocks → blocks_in (flat_map block_header blocks) (flat_map block_bytes blocks ++ rest) ≡ blocks
blocks_back [] rest fits = refl
blocks_back (b ∷ blocks) rest (fit, fits) =
    let behind = flat_map block_bytes blocks ++ rest in
    let whole : (b.bytes ++ flat_map block_bytes blocks) ++ rest ≡ b.bytes ++ behind = append_assoc b.bytes (flat_map block_bytes blocks) rest in
    let n : (b.offset % 64 * 4 + length b.bytes / 256) % 4 * 256 + length b.bytes % 256 ≡ length b.bytes = len_back b.offset (length b.bytes) fit.bytes in
    let p : (128 + b.payload_type) % 128 ≡ b.payload_type = let f = fit.payload_type in omega (arith, f) in
    let o = offset_back b.offset (length b.bytes) fit.bytes in
    rw (whole, n, p, o, take_at b.bytes behind (length b.bytes) refl, drop_at b.bytes behind (length b.bytes) refl, blocks_back blocks rest fits) refl

-- what is spelled is read
pub red_again : (it : RedParts) → RedFits it → red_of (red_bytes it) ≡ Ok it
red_again it fits =
    let headers = flat_map block_header it.blocks in
    let behind = flat_map block_bytes it.blocks ++ it.primary in
    let n = length headers in
    let bytes = headers ++ (it.payload_type ∷ behind) in
    let end : headers_end bytes ≡ Some n = headers_back it.blocks it.payload_type behind fits.blocks fits.payload_type in
    let front : take n bytes ≡ headers = take_at headers (it.payload_type ∷ behind) n refl in
    let place : n ≡ n + 0 = omega arith in
    let kind : get_or bytes n 0 ≡ it.payload_type = ap (λ k. get_or bytes k 0) place ∙ get_or-append-add headers (it.payload_type ∷ behind) 0 0 in
    let rest : drop (n + 1) bytes ≡ behind = sym (drop-drop 1 n bytes) ∙ ap (drop 1) (drop_at headers (it.payload_type ∷ behind) n refl) in
    let size : blocks_size headers ≡ length (flat_map block_bytes it.blocks) = size_back it.blocks fits.blocks in
    let l = length-append (flat_map block_bytes it.blocks) it.primary in
    let enough : nat_lt (length behind) (blocks_size headers) ≡ false = let m : blocks_size headers ≤ length behind = omega (arith, size, l) in grind (arith, nat_tests, m) in
    let primary : drop (blocks_size headers) behind ≡ it.primary = ap (λ k. drop k behind) size ∙ drop_at (flat_map block_bytes it.blocks) it.primary (length (flat_map block_bytes it.blocks)) refl in
    let parts : red_of_parts headers it.payload_type behind ≡ Ok it = rw (enough, blocks_back it.blocks it.primary fits.blocks, primary) refl in
    ap (red_at bytes) end ∙ ap (λ h. red_of_parts h (get_or bytes n 0) (drop (n + 1) bytes)) front ∙ ap (λ k. red_of_parts headers k (drop (n + 1) bytes)) kind
    ∙ ap (red_of_parts headers it.payload_type) rest ∙ parts

-- headers of four bytes with F set
abbrev AreHeaders : List ℕ → Type 0
AreHeaders [] = Unit {0}
AreHeaders (a ∷ b ∷ c ∷ d ∷ headers) = (128 ≤ a) × (a < 256) × (b < 256) × (c < 256) × (d < 256) × AreHeaders headers
AreHeaders headers = ⊥

-- where the headers end stands that of the primary block
record EndRead (bytes : List ℕ) (end : ℕ) : Type 0 where
  within : end < length bytes
  kind : get_or bytes end 0 < 128
  headers : AreHeaders (take end bytes)

-- a test's answer
if_some : (b : Bool) (o : Option ℕ) (end : ℕ) → cond b (Some 0) o ≡ Some end → ((b ≡ true) × (0 ≡ end)) ⊎ ((b ≡ false) × (o ≡ Some end))
if_some true o end h = inl (refl, ap (λ x. unwrap_or x 0) h)
if_some false o end h = inr (refl, h)

mapped : (o : Option ℕ) (end : ℕ) → option_map (λ n. 4 + n) o ≡ Some end → (m : ℕ) × (o ≡ Some m) × (4 + m ≡ end)
mapped None end h = absurd cc
mapped (Some m) end h = (m, refl, ap (λ x. unwrap_or x 0) h)

zero_end : (bytes : List ℕ) (end : ℕ) → 0 < length bytes → slice_index bytes 0 < 128 → 0 ≡ end → EndRead bytes end
zero_end bytes end some h is = subst (EndRead bytes) is (record { within = some; kind = h; headers = tt })

short_end : (a : ℕ) (bytes : List ℕ) (end : ℕ) → cond (nat_lt a 128) (Some 0) None ≡ Some end → EndRead (a ∷ bytes) end
short_end a bytes end h = elim (if_some (nat_lt a 128) None end h) [
  | inl p ↦ zero_end (a ∷ bytes) end (omega arith) (let t = p.0 in grind (arith, nat_tests, t)) p.1
  | inr p ↦ let n = p.1 in absurd cc
]

end_read : (bytes : List ℕ) (end : ℕ) → AreBytes bytes → headers_end bytes ≡ Some end → EndRead bytes end
end_read [] end are h = absurd cc
end_read (a ∷ []) end are h = short_end a [] end h
end_read (a ∷ b ∷ []) end are h = short_end a (b ∷ []) end h
end_read (a ∷ b ∷ c ∷ []) end are h = short_end a (b ∷ c ∷ []) end h
end_read (a ∷ b ∷ c ∷ d ∷ bytes) end are h = elim (if_some (nat_lt a 128) (option_map (λ n. 4 + n) (headers_end bytes)) end h) [
  | inl p ↦ zero_end (a ∷ b ∷ c ∷ d ∷ bytes) end (omega arith) (let t = p.0 in grind (arith, nat_tests, t)) p.1
  | inr p ↦
      let m = mapped (headers_end bytes) end p.1 in
      let r = end_read bytes m.0 (λ i. are (suc (suc (suc (suc i))))) m.1 in
      let large : 128 ≤ a = let t = p.0 in grind (arith, nat_tests, t) in
      let w = r.within in
      let here : EndRead (a ∷ b ∷ c ∷ d ∷ bytes) (suc (suc (suc (suc m.0)))) =
      record { within = omega (arith, w); kind = r.kind; headers = (large, are 0, are 1, are 2, are 3, r.headers) } in
      let n : suc (suc (suc (suc m.0))) ≡ end = let e = m.2 in omega (arith, e) in
      subst (EndRead (a ∷ b ∷ c ∷ d ∷ bytes)) n here
]

-- blocks are spelled by their headers and their bytes
record AreSpelled (headers bytes : List ℕ) : Type 0 where
  headers_are : flat_map block_header (blocks_in headers bytes) ≡ headers
  bytes_are : flat_map block_bytes (blocks_in headers bytes) ++ drop (blocks_size headers) bytes ≡ bytes
  fit : AllByRecursion BlockFits (blocks_in headers bytes)

block_again : (a b c d len : ℕ) → 128 ≤ a → a < 256 → b < 256 → c < 256 → d < 256 → len ≡ c % 4 * 256 + d →
    (128 + a % 128) ∷ (b * 64 + c / 4) / 64 ∷ ((b * 64 + c / 4) % 64 * 4 + len / 256) ∷ len % 256 ∷ [] ≡ a ∷ b ∷ c ∷ d ∷ []
block_again a b c d len large ha hb hc hd is =
    let one : 128 + a % 128 ≡ a = omega arith in
    let two : (b * 64 + c / 4) / 64 ≡ b = omega arith in
    let high : len / 256 ≡ c % 4 = omega arith in
    let three : (b * 64 + c / 4) % 64 * 4 + len / 256 ≡ c = omega arith in
    let four : len % 256 ≡ d = omega arith in
    rw (one, two, three, four) refl

are_spelled : (headers bytes : List ℕ) → AreHeaders headers → blocks_size headers ≤ length bytes → AreSpelled headers bytes
are_spelled [] bytes are within = record { headers_are = refl; bytes_are = refl; fit = tt }
are_spelled (a ∷ []) bytes are within = absurd are
are_spelled (a ∷ b ∷ []) bytes are within = absurd are
are_spelled (a ∷ b ∷ c ∷ []) bytes are within = absurd are
are_spelled (a ∷ b ∷ c ∷ d ∷ headers) bytes (large, ha, hb, hc, hd, are) within =
    let n = c % 4 * 256 + d in
    let l = length-drop n bytes in
    let others = are_spelled headers (drop n bytes) are (omega (arith, l, within)) in
    let long : length (take n bytes) ≡ n = length-take-le n bytes (omega (arith, within)) in
    let first = block_again a b c d (length (take n bytes)) large ha hb hc hd long in
    let bodies = flat_map block_bytes (blocks_in headers (drop n bytes)) in
    let rest : drop (n + blocks_size headers) bytes ≡ drop (blocks_size headers) (drop n bytes) = sym (drop-drop (blocks_size headers) n bytes) in
    record {
      headers_are = ap (λ h. h ++ flat_map block_header (blocks_in headers (drop n bytes))) first ∙ ap (λ h. (a ∷ b ∷ c ∷ d ∷ []) ++ h) others.headers_are;
      bytes_are = append_assoc (take n bytes) bodies (drop (n + blocks_size headers) bytes) ∙ ap (λ x. take n bytes ++ (bodies ++ x)) rest
          ∙ ap (λ x. take n bytes ++ x) others.bytes_are ∙ take-append-drop n bytes;
      fit = (record { payload_type = omega arith; offset = omega arith; bytes = omega (arith, long) }, others.fit);
    }

-- an answer, not refused
abbrev given_red : RedParts → Result RedParts RedError → RedParts
given_red other (Ok it) = it
given_red other (Err e) = other

red_unless : (b : Bool) (made it : RedParts) → cond b (Err BlocksPastTheEnd) (Ok made) ≡ Ok it → (b ≡ false) × (made ≡ it)
red_unless true made it h = absurd cc
red_unless false made it h = (refl, ap (given_red made) h)

-- what is read is spelled so
parts_read : (bytes headers rest : List ℕ) (payload_type : ℕ) (it : RedParts) → bytes ≡ headers ++ (payload_type ∷ rest) → AreHeaders headers → payload_type < 128 →
    red_of_parts headers payload_type rest ≡ Ok it → IsRed bytes it
parts_read bytes headers rest payload_type it whole are kind h =
    let made : RedParts = record { blocks = blocks_in headers rest; payload_type = payload_type; primary = drop (blocks_size headers) rest } in
    let both = red_unless (nat_lt (length rest) (blocks_size headers)) made it h in
    let within : blocks_size headers ≤ length rest = let t = both.0 in grind (arith, nat_tests, t) in
    let s = are_spelled headers rest are within in
    let spelled : bytes ≡ red_bytes made = whole ∙ ap (λ x. headers ++ (payload_type ∷ x)) (sym s.bytes_are)
    ∙ ap (λ h. h ++ (payload_type ∷ (flat_map block_bytes (blocks_in headers rest) ++ drop (blocks_size headers) rest))) (sym s.headers_are) in
    subst (IsRed bytes) both.1 (record { spelled = spelled; fits = record { blocks = s.fit; payload_type = kind } })

red_at_read : (bytes : List ℕ) (o : Option ℕ) (it : RedParts) → AreBytes bytes → headers_end bytes ≡ o → red_at bytes o ≡ Ok it → IsRed bytes it
red_at_read bytes None it are is h = absurd cc
red_at_read bytes (Some end) it are is h =
    let e = end_read bytes end are is in
    let whole : bytes ≡ take end bytes ++ (get_or bytes end 0 ∷ drop (end + 1) bytes) = sym (take-append-drop end bytes) ∙ ap (λ x. take end bytes ++ x) (drop_more bytes end 0 e.within) in
    parts_read bytes (take end bytes) (drop (end + 1) bytes) (get_or bytes end 0) it whole e.headers e.kind h

pub red_read : (bytes : List ℕ) (it : RedParts) → AreBytes bytes → red_of bytes ≡ Ok it → IsRed bytes it
red_read bytes it are h = red_at_read bytes (headers_end bytes) it are refl h

-- so of what a call answered
pub if_red_read : (bytes : List ℕ) (result : Result RedPayload RedError) → AreBytes bytes → IsReadAsRed result (red_of bytes) →
    IfOk result (λ it. IsRed bytes (red_view it))
if_red_read bytes (Ok it) are read = red_read bytes (red_view it) are read
if_red_read bytes (Err e) are read = tt

-- a redundant payload is read, as no other
pub is_red_read : (bytes : List ℕ) (it : RedParts) → IsRed bytes it → red_of bytes ≡ Ok it
is_red_read bytes it is = ap red_of is.spelled ∙ red_again it is.fits

-- what an answer gives, where it is given
pub one_red : (bytes : List ℕ) (a b : RedParts) → IsRed bytes a → IsRed bytes b → a ≡ b
one_red bytes a b is other = ap (given_red a) (sym (is_red_read bytes a is) ∙ is_red_read bytes b other)
