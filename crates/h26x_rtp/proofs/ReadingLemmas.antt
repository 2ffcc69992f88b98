-- What is read is a packet's bytes, and a packet is read.
use Rattle.std.proofs.Common.{◌≡◌, ℕ, ◌+◌, ◌-◌, ◌*◌, ◌/◌, ◌%◌, ◌<◌, ◌≤◌, Bool, true, false, cond, List, [], ◌∷◌, ◌++◌, length, take, drop, Option, Some, None, Result, Ok, Err, refl, sym, ap, ◌∙◌, subst, length-append, append_assoc, arith, get_or}
use Rattle.std.specs.Prelude.{slice_index, nat_lt, nat_eq, is_some, IfOk}
use Rattle.std.proofs.lemmas.List.{take_at, drop_at, get_or-drop, get_or-append-add, append-nil, take-append-drop, length-drop, length-take-le}
use Rattle.std.proofs.lemmas.Bool.Decides.{nat_tests}
use Rattle.h26x_core.specs.Word.{field, is_set, flag, word, long_word}
use Rattle.h26x_rtp.specs.declared.error.RtpError.{RtpError}
use Rattle.h26x_rtp.specs.declared.error.RtpError.TheVariants.{CsrcsPastTheEnd, ExtensionPastTheEnd, PaddingOfZero, PaddingTooLong, TooShort, OtherVersion}
use Rattle.h26x_rtp.specs.Words.{word_at, long_at}
use Rattle.h26x_rtp.specs.Datagram.{ExtensionParts, HeaderParts, DatagramParts, AreBytes, ExtensionFits, HeaderFits, IsPadding, IsDatagram, is_there, extension_bytes, first_two, fixed_bytes, datagram_bytes}
use Rattle.h26x_rtp.specs.Reading.{front_of, extension_at, with_padding, padding_at, header_at, behind_fixed, datagram_of, AnswersAs, ◌>>=◌}
use Rattle.h26x_rtp.specs.declared.datagram.RtpDatagram.{RtpDatagram}
use Rattle.h26x_rtp.specs.Views.{datagram_view}
use Rattle.h26x_rtp.proofs.WordLemmas.{word_of, long_of, word_again, long_again, first_back, first_of, top_back, low_back, top_of}

-- what stands behind the first 12 bytes, part by part
pub behind_ok : (bytes rest : List ℕ) (n : ℕ) (csrcs : List ℕ × List ℕ) (extension : Option ExtensionParts × List ℕ) (it : List ℕ × List ℕ) →
    n ≡ 4 * field (slice_index bytes 0) 3 0 → front_of CsrcsPastTheEnd n rest ≡ Ok csrcs →
    extension_at (is_set (slice_index bytes 0) 4) csrcs.1 ≡ Ok extension →
    padding_at (is_set (slice_index bytes 0) 5) extension.1 ≡ Ok it →
    behind_fixed bytes rest ≡ Ok (record { header = header_at bytes csrcs.0 extension.0; payload = it.0; padding = it.1 })
behind_ok bytes rest n csrcs extension it same a b c =
    let first : front_of CsrcsPastTheEnd (4 * field (slice_index bytes 0) 3 0) rest ≡ Ok csrcs = ap (λ k. front_of CsrcsPastTheEnd k rest) (sym same) ∙ a in
    rw (first, b, c) refl

-- what an answer gives, or a value
abbrev pub given : {A : Type 0} → A → Result A RtpError → A
given d (Ok x) = x
given d (Err e) = d

abbrev pub answer : {A : Type 0} → A → Result A RtpError
answer x = Ok x

-- two answers that are the same give the same
pub ok_same : {A : Type 0} (x y : A) → answer x ≡ answer y → x ≡ y
ok_same x y h = ap (given x) h

-- an answer behind another: both were given
pub bind_ok : {A B : Type 0} (r : Result A RtpError) (f : A → Result B RtpError) (y : B) → (r >>= f) ≡ Ok y → (x : A) × (r ≡ Ok x) × (f x ≡ Ok y)
bind_ok (Ok x) f y h = (x, refl, h)
bind_ok (Err e) f y h = absurd cc

-- behind a test that refuses
pub unless_ok : {A : Type 0} (b : Bool) (e : RtpError) (r : Result A RtpError) (y : A) → cond b (Err e) r ≡ Ok y → (b ≡ false) × (r ≡ Ok y)
unless_ok true e r y h = absurd cc
unless_ok false e r y h = (refl, h)

pub if_ok : {A : Type 0} (b : Bool) (e : RtpError) (r : Result A RtpError) (y : A) → cond b r (Err e) ≡ Ok y → (b ≡ true) × (r ≡ Ok y)
if_ok true e r y h = (refl, h)
if_ok false e r y h = absurd cc

-- a front is so many bytes, with those behind it
pub front_ok : (e : RtpError) (n : ℕ) (bytes : List ℕ) (y : List ℕ × List ℕ) → front_of e n bytes ≡ Ok y →
    (n ≤ length bytes) × (y.0 ≡ take n bytes) × (y.1 ≡ drop n bytes)
front_ok e n bytes y h =
    let both = unless_ok (nat_lt (length bytes) n) e (Ok (take n bytes, drop n bytes)) y h in
    let is : (take n bytes, drop n bytes) ≡ y = cc in
    (grind (arith, nat_tests), sym (ap (λ p. p.0) is), sym (ap (λ p. p.1) is))

-- and a front is found
pub front_again : (e : RtpError) (n : ℕ) (front rest : List ℕ) → length front ≡ n → front_of e n (front ++ rest) ≡ Ok (front, rest)
front_again e n front rest h =
    let l = length-append front rest in
    let no : nat_lt (length (front ++ rest)) n ≡ false = let m : n ≤ length (front ++ rest) = omega (arith, l, h) in grind (arith, nat_tests) in
    rw (no, take_at front rest n h, drop_at front rest n h) refl

-- bytes behind others are bytes
pub bytes_behind : (n : ℕ) (bytes : List ℕ) → AreBytes bytes → AreBytes (drop n bytes)
bytes_behind n bytes are place = rw (get_or-drop n bytes place 0) (are (n + place))

-- an extension that is written is read
pub extension_again : (it : Option ExtensionParts) (rest : List ℕ) → ExtensionFits it → extension_at (is_some it) (extension_bytes it ++ rest) ≡ Ok (it, rest)
extension_again None rest fits = refl
extension_again (Some it) rest (profile, words) =
    let count = length it.bytes / 4 in
    let few : count < 65536 = let w = words.few in omega (arith, w) in
    let head = front_again ExtensionPastTheEnd 4 (word it.profile ++ word count) (it.bytes ++ rest) refl in
    let size : 4 * (count / 256 % 256 * 256 + count % 256) ≡ length it.bytes = let w = words.whole in let b = word_again count few in omega (arith, w, b) in
    let behind = front_again ExtensionPastTheEnd (length it.bytes) it.bytes rest refl in
    let p = word_again it.profile profile in
    rw (head, size, behind, p) refl

-- four bytes, each by its place
four : (bytes : List ℕ) → 4 ≤ length bytes → take 4 bytes ≡ slice_index bytes 0 ∷ slice_index bytes 1 ∷ slice_index bytes 2 ∷ slice_index bytes 3 ∷ []
four [] h = absurd (omega arith)
four (a ∷ []) h = absurd (omega arith)
four (a ∷ b ∷ []) h = absurd (omega arith)
four (a ∷ b ∷ c ∷ []) h = absurd (omega arith)
four (a ∷ b ∷ c ∷ d ∷ bytes) h = refl

-- an extension that was read is spelled so
pub record ExtensionRead (extended : Bool) (bytes : List ℕ) (it : Option ExtensionParts) (rest : List ℕ) : Type 0 where
  pub spelled : bytes ≡ extension_bytes it ++ rest
  pub fits : ExtensionFits it
  pub there : is_some it ≡ extended

extension_read : (bytes it rest : List ℕ) → AreBytes bytes → 4 ≤ length bytes → 4 * word_at (take 4 bytes) 2 ≤ length (drop 4 bytes) →
    it ≡ take (4 * word_at (take 4 bytes) 2) (drop 4 bytes) → rest ≡ drop (4 * word_at (take 4 bytes) 2) (drop 4 bytes) →
    ExtensionRead true bytes (Some (record { profile = word_at (take 4 bytes) 0; bytes = it })) rest
extension_read bytes it rest are long enough is behind =
    let b0 = slice_index bytes 0 in let b1 = slice_index bytes 1 in let b2 = slice_index bytes 2 in let b3 = slice_index bytes 3 in
    let head : take 4 bytes ≡ b0 ∷ b1 ∷ b2 ∷ b3 ∷ [] = four bytes long in
    let count : word_at (take 4 bytes) 2 ≡ b2 * 256 + b3 = rw head refl in
    let profile : word_at (take 4 bytes) 0 ≡ b0 * 256 + b1 = rw head refl in
    let n = word_at (take 4 bytes) 2 in
    let size : length it ≡ 4 * n = ap length is ∙ length-take-le (4 * n) (drop 4 bytes) enough in
    let l2 = are 2 in let l3 = are 3 in let l0 = are 0 in let l1 = are 1 in
    let words : length it / 4 ≡ b2 * 256 + b3 = omega (arith, size, count) in
    let first : word (word_at (take 4 bytes) 0) ≡ b0 ∷ b1 ∷ [] = ap word profile ∙ word_of b0 b1 l0 l1 in
    let second : word (length it / 4) ≡ b2 ∷ b3 ∷ [] = ap word words ∙ word_of b2 b3 l2 l3 in
    let whole : bytes ≡ take 4 bytes ++ (it ++ rest) =
    sym (take-append-drop 4 bytes) ∙ ap (λ x. take 4 bytes ++ x) (sym (take-append-drop (4 * n) (drop 4 bytes)))
    ∙ ap (λ x. take 4 bytes ++ (x ++ drop (4 * n) (drop 4 bytes))) (sym is) ∙ ap (λ x. take 4 bytes ++ (it ++ x)) (sym behind) in
    let spelled : bytes ≡ (b0 ∷ b1 ∷ b2 ∷ b3 ∷ []) ++ (it ++ rest) = whole ∙ ap (λ x. x ++ (it ++ rest)) head in
    let made : word (word_at (take 4 bytes) 0) ++ word (length it / 4) ≡ b0 ∷ b1 ∷ b2 ∷ b3 ∷ [] = ap (λ x. x ++ word (length it / 4)) first ∙ ap (λ x. (b0 ∷ b1 ∷ []) ++ x) second in
    record {
      spelled = spelled ∙ ap (λ x. x ++ (it ++ rest)) (sym made) ∙ sym (append_assoc (word (word_at (take 4 bytes) 0) ++ word (length it / 4)) it rest);
      fits = (omega (arith, profile, l0, l1), record { whole = omega (arith, size); few = omega (arith, size, count, l2, l3) });
      there = refl;
    }

pub extension_ok : (extended : Bool) (bytes : List ℕ) (y : Option ExtensionParts × List ℕ) → AreBytes bytes → extension_at extended bytes ≡ Ok y →
    ExtensionRead extended bytes y.0 y.1
extension_ok false bytes y are h =
    let is : (None, bytes) ≡ y = cc in
    subst (λ (p : Option ExtensionParts × List ℕ). ExtensionRead false bytes p.0 p.1) is (record { spelled = refl; fits = tt; there = refl })
extension_ok true bytes y are h =
    let f : List ℕ × List ℕ → Result (Option ExtensionParts × List ℕ) RtpError = λ head.
    front_of ExtensionPastTheEnd (4 * word_at head.0 2) head.1 >>= λ it. Ok (Some (record { profile = word_at head.0 0; bytes = it.0 }), it.1) in
    let one = bind_ok (front_of ExtensionPastTheEnd 4 bytes) f y h in
    let head = one.0 in
    let a = front_ok ExtensionPastTheEnd 4 bytes head one.1 in
    let g : List ℕ × List ℕ → Result (Option ExtensionParts × List ℕ) RtpError = λ it. Ok (Some (record { profile = word_at head.0 0; bytes = it.0 }), it.1) in
    let two = bind_ok (front_of ExtensionPastTheEnd (4 * word_at head.0 2) head.1) g y one.2 in
    let it = two.0 in
    let b = front_ok ExtensionPastTheEnd (4 * word_at head.0 2) head.1 it two.1 in
    let is : (Some (record { profile = word_at head.0 0; bytes = it.0 }), it.1) ≡ y = cc in
    let enough : 4 * word_at (take 4 bytes) 2 ≤ length (drop 4 bytes) =
    let w : word_at head.0 2 ≡ word_at (take 4 bytes) 2 = ap (λ x. word_at x 2) a.1 in
    let l : length head.1 ≡ length (drop 4 bytes) = ap length a.2 in
    let e = b.0 in omega (arith, w, l, e) in
    let taken : it.0 ≡ take (4 * word_at (take 4 bytes) 2) (drop 4 bytes) = b.1 ∙ ap (λ x. take (4 * word_at x 2) head.1) a.1 ∙ ap (take (4 * word_at (take 4 bytes) 2)) a.2 in
    let behind : it.1 ≡ drop (4 * word_at (take 4 bytes) 2) (drop 4 bytes) = b.2 ∙ ap (λ x. drop (4 * word_at x 2) head.1) a.1 ∙ ap (drop (4 * word_at (take 4 bytes) 2)) a.2 in
    let r = extension_read bytes it.0 it.1 are a.0 enough taken behind in
    let r' : ExtensionRead true bytes (Some (record { profile = word_at head.0 0; bytes = it.0 })) it.1 =
    subst (λ x. ExtensionRead true bytes (Some (record { profile = word_at x 0; bytes = it.0 })) it.1) (sym a.1) r in
    subst (λ (p : Option ExtensionParts × List ℕ). ExtensionRead true bytes p.0 p.1) is r'

-- bytes that aren't none
there_if_long : (bytes : List ℕ) → 0 < length bytes → is_there bytes ≡ true
there_if_long [] h = absurd (omega arith)
there_if_long (x ∷ bytes) h = refl

-- payload and padding that were read
pub record PaddingRead (padded : Bool) (bytes payload padding : List ℕ) : Type 0 where
  pub spelled : bytes ≡ payload ++ padding
  pub is_padding : IsPadding padding
  pub there : is_there padding ≡ padded

padding_read : (count : ℕ) (bytes : List ℕ) (y : List ℕ × List ℕ) → count ≡ slice_index bytes (length bytes - 1) → 0 < length bytes →
    with_padding count bytes ≡ Ok y → PaddingRead true bytes y.0 y.1
padding_read count bytes y last some h =
    let one = unless_ok (nat_lt (length bytes) count) PaddingTooLong (cond (nat_eq count 0) (Err PaddingOfZero) (Ok (take (length bytes - count) bytes, drop (length bytes - count) bytes))) y h in
    let two = unless_ok (nat_eq count 0) PaddingOfZero (Ok (take (length bytes - count) bytes, drop (length bytes - count) bytes)) y one.1 in
    let few : count ≤ length bytes = let t = one.0 in grind (arith, nat_tests) in
    let more : 0 < count = let t = two.0 in grind (arith, nat_tests) in
    let is : (take (length bytes - count) bytes, drop (length bytes - count) bytes) ≡ y = let t = two.1 in cc in
    let k = length bytes - count in
    let long : length (drop k bytes) ≡ count = let l = length-drop k bytes in omega (arith, l, few) in
    let at : get_or (drop k bytes) (count - 1) 0 ≡ get_or bytes (k + (count - 1)) 0 = get_or-drop k bytes (count - 1) 0 in
    let place : k + (count - 1) ≡ length bytes - 1 = omega (arith, few, more) in
    let same : get_or (drop k bytes) (length (drop k bytes) - 1) 0 ≡ length (drop k bytes) =
    ap (λ n. get_or (drop k bytes) (n - 1) 0) long ∙ at ∙ ap (λ n. get_or bytes n 0) place ∙ sym last ∙ sym long in
    let there : is_there (drop k bytes) ≡ true = there_if_long (drop k bytes) (omega (arith, long, more)) in
    subst (λ (p : List ℕ × List ℕ). PaddingRead true bytes p.0 p.1) is (record { spelled = sym (take-append-drop k bytes); is_padding = same; there = there })

pub padding_ok : (padded : Bool) (bytes : List ℕ) (y : List ℕ × List ℕ) → padding_at padded bytes ≡ Ok y → PaddingRead padded bytes y.0 y.1
padding_ok false bytes y h =
    let is : (bytes, []) ≡ y = cc in
    subst (λ (p : List ℕ × List ℕ). PaddingRead false bytes p.0 p.1) is (record { spelled = sym (append-nil bytes); is_padding = refl; there = refl })
padding_ok true [] y h = absurd cc
padding_ok true (x ∷ bytes) y h =
    let n : length bytes ≡ length (x ∷ bytes) - 1 = omega arith in
    padding_read (slice_index (x ∷ bytes) (length bytes)) (x ∷ bytes) y (ap (λ k. slice_index (x ∷ bytes) k) n) (omega arith) h

-- padding that is written is read
padding_found : (count : ℕ) (bytes payload padding : List ℕ) → bytes ≡ payload ++ padding → count ≡ length padding → 0 < count →
    with_padding count bytes ≡ Ok (payload, padding)
padding_found count bytes payload padding is size more =
    let l = ap length is ∙ length-append payload padding in
    let few : nat_lt (length bytes) count ≡ false = grind (arith, nat_tests, l, size) in
    let some : nat_eq count 0 ≡ false = grind (arith, nat_tests, more) in
    let k : length bytes - count ≡ length payload = omega (arith, l, size) in
    let t : take (length bytes - count) bytes ≡ payload = ap (λ n. take n bytes) k ∙ ap (take (length payload)) is ∙ take_at payload padding (length payload) refl in
    let d : drop (length bytes - count) bytes ≡ padding = ap (λ n. drop n bytes) k ∙ ap (drop (length payload)) is ∙ drop_at payload padding (length payload) refl in
    rw (few, some, t, d) refl

padding_behind : (bytes payload padding : List ℕ) → bytes ≡ payload ++ padding → 0 < length padding → IsPadding padding → padding_at true bytes ≡ Ok (payload, padding)
padding_behind [] payload padding is some last = let l = ap length is ∙ length-append payload padding in absurd (omega (arith, l, some))
padding_behind (x ∷ bytes) payload padding is some last =
    let l = ap length is ∙ length-append payload padding in
    let place : length bytes ≡ length payload + (length padding - 1) = omega (arith, l, some) in
    let count : slice_index (x ∷ bytes) (length bytes) ≡ length padding =
    ap (λ n. get_or (x ∷ bytes) n 0) place ∙ ap (λ b. get_or b (length payload + (length padding - 1)) 0) is ∙ get_or-append-add payload padding (length padding - 1) 0 ∙ last in
    padding_found (slice_index (x ∷ bytes) (length bytes)) (x ∷ bytes) payload padding is count (omega (arith, count, some))

pub padding_again : (payload padding : List ℕ) → IsPadding padding → padding_at (is_there padding) (payload ++ padding) ≡ Ok (payload, padding)
padding_again payload [] last = ap (λ x. Ok (x, [])) (append-nil payload)
padding_again payload (x ∷ padding) last = padding_behind (payload ++ x ∷ padding) payload (x ∷ padding) refl (omega arith) last

-- twelve bytes, each by its place
twelve : (bytes : List ℕ) → 12 ≤ length bytes → bytes ≡ (slice_index bytes 0 ∷ slice_index bytes 1 ∷ slice_index bytes 2 ∷ slice_index bytes 3
    ∷ slice_index bytes 4 ∷ slice_index bytes 5 ∷ slice_index bytes 6 ∷ slice_index bytes 7 ∷ slice_index bytes 8 ∷ slice_index bytes 9
    ∷ slice_index bytes 10 ∷ slice_index bytes 11 ∷ []) ++ drop 12 bytes
twelve [] h = absurd (omega arith)
twelve (a ∷ []) h = absurd (omega arith)
twelve (a ∷ b ∷ []) h = absurd (omega arith)
twelve (a ∷ b ∷ c ∷ []) h = absurd (omega arith)
twelve (a ∷ b ∷ c ∷ d ∷ []) h = absurd (omega arith)
twelve (a ∷ b ∷ c ∷ d ∷ e ∷ []) h = absurd (omega arith)
twelve (a ∷ b ∷ c ∷ d ∷ e ∷ f ∷ []) h = absurd (omega arith)
twelve (a ∷ b ∷ c ∷ d ∷ e ∷ f ∷ g ∷ []) h = absurd (omega arith)
twelve (a ∷ b ∷ c ∷ d ∷ e ∷ f ∷ g ∷ i ∷ []) h = absurd (omega arith)
twelve (a ∷ b ∷ c ∷ d ∷ e ∷ f ∷ g ∷ i ∷ j ∷ []) h = absurd (omega arith)
twelve (a ∷ b ∷ c ∷ d ∷ e ∷ f ∷ g ∷ i ∷ j ∷ k ∷ []) h = absurd (omega arith)
twelve (a ∷ b ∷ c ∷ d ∷ e ∷ f ∷ g ∷ i ∷ j ∷ k ∷ l ∷ []) h = absurd (omega arith)
twelve (a ∷ b ∷ c ∷ d ∷ e ∷ f ∷ g ∷ i ∷ j ∷ k ∷ l ∷ m ∷ bytes) h = refl

-- the first two bytes, by the header that they say
first_two_read : (bytes csrcs : List ℕ) (extension : Option ExtensionParts) (padded : Bool) → AreBytes bytes → field (slice_index bytes 0) 7 6 ≡ 2 →
    length csrcs ≡ 4 * field (slice_index bytes 0) 3 0 → is_some extension ≡ is_set (slice_index bytes 0) 4 → padded ≡ is_set (slice_index bytes 0) 5 →
    first_two (header_at bytes csrcs extension) padded ≡ slice_index bytes 0 ∷ slice_index bytes 1 ∷ []
first_two_read bytes csrcs extension padded are version count x p =
    let n : length csrcs / 4 ≡ field (slice_index bytes 0) 3 0 = omega (arith, count) in
    let a : 128 + flag padded 32 + flag (is_some extension) 16 + length csrcs / 4 ≡ slice_index bytes 0 =
    ap (λ b. 128 + flag b 32 + flag (is_some extension) 16 + length csrcs / 4) p ∙ ap (λ b. 128 + flag (is_set (slice_index bytes 0) 5) 32 + flag b 16 + length csrcs / 4) x
    ∙ ap (λ k. 128 + flag (is_set (slice_index bytes 0) 5) 32 + flag (is_set (slice_index bytes 0) 4) 16 + k) n ∙ first_of (slice_index bytes 0) (are 0) version in
    let b : flag (is_set (slice_index bytes 1) 7) 128 + field (slice_index bytes 1) 6 0 ≡ slice_index bytes 1 = top_of (slice_index bytes 1) (are 1) in
    ap (λ n. n ∷ (flag (is_set (slice_index bytes 1) 7) 128 + field (slice_index bytes 1) 6 0) ∷ []) a ∙ ap (λ n. slice_index bytes 0 ∷ n ∷ []) b

-- the twelve bytes, by the header that they say
fixed_read : (bytes csrcs : List ℕ) (extension : Option ExtensionParts) (padded : Bool) → AreBytes bytes → 12 ≤ length bytes → field (slice_index bytes 0) 7 6 ≡ 2 →
    length csrcs ≡ 4 * field (slice_index bytes 0) 3 0 → is_some extension ≡ is_set (slice_index bytes 0) 4 → padded ≡ is_set (slice_index bytes 0) 5 →
    bytes ≡ fixed_bytes (header_at bytes csrcs extension) padded ++ drop 12 bytes
fixed_read bytes csrcs extension padded are long version count x p =
    let b : ℕ → ℕ = λ n. slice_index bytes n in
    let two = first_two_read bytes csrcs extension padded are version count x p in
    let s = word_of (b 2) (b 3) (are 2) (are 3) in
    let t = long_of (b 4) (b 5) (b 6) (b 7) (are 4) (are 5) (are 6) (are 7) in
    let r = long_of (b 8) (b 9) (b 10) (b 11) (are 8) (are 9) (are 10) (are 11) in
    let fixed : fixed_bytes (header_at bytes csrcs extension) padded ≡ b 0 ∷ b 1 ∷ b 2 ∷ b 3 ∷ b 4 ∷ b 5 ∷ b 6 ∷ b 7 ∷ b 8 ∷ b 9 ∷ b 10 ∷ b 11 ∷ [] =
    ap (λ f. f ++ word (word_at bytes 2) ++ long_word (long_at bytes 4) ++ long_word (long_at bytes 8)) two
    ∙ ap (λ f. (b 0 ∷ b 1 ∷ []) ++ f ++ long_word (long_at bytes 4) ++ long_word (long_at bytes 8)) s
    ∙ ap (λ f. (b 0 ∷ b 1 ∷ b 2 ∷ b 3 ∷ []) ++ f ++ long_word (long_at bytes 8)) t
    ∙ ap (λ f. (b 0 ∷ b 1 ∷ b 2 ∷ b 3 ∷ b 4 ∷ b 5 ∷ b 6 ∷ b 7 ∷ []) ++ f) r in
    twelve bytes long ∙ ap (λ f. f ++ drop 12 bytes) (sym fixed)

-- what a header says has a place in it
header_fits : (bytes csrcs : List ℕ) (extension : Option ExtensionParts) → AreBytes bytes → length csrcs ≡ 4 * field (slice_index bytes 0) 3 0 → ExtensionFits extension →
    HeaderFits (header_at bytes csrcs extension)
header_fits bytes csrcs extension are count fits =
    let b2 = are 2 in let b3 = are 3 in let b4 = are 4 in let b5 = are 5 in let b6 = are 6 in let b7 = are 7 in
    let b8 = are 8 in let b9 = are 9 in let b10 = are 10 in let b11 = are 11 in
    record {
      payload_type = omega arith;
      sequence = omega (arith, b2, b3);
      timestamp = omega (arith, b4, b5, b6, b7);
      ssrc = omega (arith, b8, b9, b10, b11);
      csrcs = record { whole = omega (arith, count); few = omega (arith, count) };
      extension = fits;
    }

-- the parts of a packet that was read
behind_read : (bytes csrcs behind rest payload padding : List ℕ) (extension : Option ExtensionParts) → AreBytes bytes → 12 ≤ length bytes →
    field (slice_index bytes 0) 7 6 ≡ 2 → length csrcs ≡ 4 * field (slice_index bytes 0) 3 0 → drop 12 bytes ≡ csrcs ++ behind →
    ExtensionRead (is_set (slice_index bytes 0) 4) behind extension rest → PaddingRead (is_set (slice_index bytes 0) 5) rest payload padding →
    IsDatagram bytes (record { header = header_at bytes csrcs extension; payload = payload; padding = padding })
behind_read bytes csrcs behind rest payload padding extension are long version count is e p =
    let fixed = fixed_read bytes csrcs extension (is_there padding) are long version count e.there p.there in
    let f = fixed_bytes (header_at bytes csrcs extension) (is_there padding) in
    record {
      spelled = fixed ∙ ap (λ x. f ++ x) (is ∙ ap (λ x. csrcs ++ x) (e.spelled ∙ ap (λ x. extension_bytes extension ++ x) p.spelled)
          ∙ sym (append_assoc csrcs (extension_bytes extension) (payload ++ padding))) ∙ sym (append_assoc f (csrcs ++ extension_bytes extension) (payload ++ padding));
      header = header_fits bytes csrcs extension are count e.fits;
      padding = p.is_padding;
    }

-- what is read is spelled so
pub read_is_spelled : (bytes : List ℕ) (it : DatagramParts) → AreBytes bytes → datagram_of bytes ≡ Ok it → IsDatagram bytes it
read_is_spelled bytes it are h =
    let first = slice_index bytes 0 in
    let rest = drop 12 bytes in
    let one = unless_ok (nat_lt (length bytes) 12) TooShort (cond (nat_eq (field first 7 6) 2) (behind_fixed bytes rest) (Err (OtherVersion (field first 7 6)))) it h in
    let two = if_ok (nat_eq (field first 7 6) 2) (OtherVersion (field first 7 6)) (behind_fixed bytes rest) it one.1 in
    let long : 12 ≤ length bytes = let t = one.0 in grind (arith, nat_tests, t) in
    let version : field first 7 6 ≡ 2 = let t = two.0 in grind (arith, nat_tests, t) in
    let k : List ℕ × List ℕ → (Option ExtensionParts × List ℕ) → List ℕ × List ℕ → Result DatagramParts RtpError =
    λ csrcs extension p. Ok (record { header = header_at bytes csrcs.0 extension.0; payload = p.0; padding = p.1 }) in
    let g : List ℕ × List ℕ → (Option ExtensionParts × List ℕ) → Result DatagramParts RtpError = λ csrcs extension. padding_at (is_set first 5) extension.1 >>= k csrcs extension in
    let f : List ℕ × List ℕ → Result DatagramParts RtpError = λ csrcs. extension_at (is_set first 4) csrcs.1 >>= g csrcs in
    let a = bind_ok (front_of CsrcsPastTheEnd (4 * field first 3 0) rest) f it two.1 in
    let csrcs = a.0 in
    let front = front_ok CsrcsPastTheEnd (4 * field first 3 0) rest csrcs a.1 in
    let b = bind_ok (extension_at (is_set first 4) csrcs.1) (g csrcs) it a.2 in
    let extension = b.0 in
    let behind_are : AreBytes csrcs.1 = subst AreBytes (sym front.2) (bytes_behind (4 * field first 3 0) rest (bytes_behind 12 bytes are)) in
    let e = extension_ok (is_set first 4) csrcs.1 extension behind_are b.1 in
    let c = bind_ok (padding_at (is_set first 5) extension.1) (k csrcs extension) it b.2 in
    let p = padding_ok (is_set first 5) extension.1 c.0 c.1 in
    let is : record { header = header_at bytes csrcs.0 extension.0; payload = c.0.0; padding = c.0.1 } ≡ it =
    ok_same (record { header = header_at bytes csrcs.0 extension.0; payload = c.0.0; padding = c.0.1 }) it c.2 in
    let size : length csrcs.0 ≡ 4 * field first 3 0 = ap length front.1 ∙ length-take-le (4 * field first 3 0) rest front.0 in
    let split : rest ≡ csrcs.0 ++ csrcs.1 = sym (take-append-drop (4 * field first 3 0) rest) ∙ ap (λ x. x ++ drop (4 * field first 3 0) rest) (sym front.1) ∙ ap (λ x. csrcs.0 ++ x) (sym front.2) in
    subst (IsDatagram bytes) is (behind_read bytes csrcs.0 csrcs.1 extension.1 c.0.0 c.0.1 extension.0 are long version size split e p)

-- a header with these numbers
made_header : List ℕ → Option ExtensionParts → Bool → ℕ → ℕ → ℕ → ℕ → HeaderParts
made_header csrcs extension m p s t r = record { marker = m; payload_type = p; sequence = s; timestamp = t; ssrc = r; csrcs = csrcs; extension = extension }

-- a header's bytes say the header
header_again : (it : HeaderParts) (padded : Bool) (rest : List ℕ) → HeaderFits it → header_at (fixed_bytes it padded ++ rest) it.csrcs it.extension ≡ it
unfolding made_header
header_again it padded rest fits =
    let make = made_header it.csrcs it.extension in
    let s' = it.sequence / 256 % 256 * 256 + it.sequence % 256 in
    let t' = (it.timestamp / 16777216 % 256 * 256 + it.timestamp / 65536 % 256) * 65536 + (it.timestamp / 256 % 256 * 256 + it.timestamp % 256) in
    let r' = (it.ssrc / 16777216 % 256 * 256 + it.ssrc / 65536 % 256) * 65536 + (it.ssrc / 256 % 256 * 256 + it.ssrc % 256) in
    let p' = field (flag it.marker 128 + it.payload_type) 6 0 in
    ap (λ m. make m p' s' t' r') (top_back it.marker it.payload_type fits.payload_type)
    ∙ ap (λ p. make it.marker p s' t' r') (low_back it.marker it.payload_type fits.payload_type)
    ∙ ap (λ s. make it.marker it.payload_type s t' r') (word_again it.sequence fits.sequence)
    ∙ ap (λ t. make it.marker it.payload_type it.sequence t r') (long_again it.timestamp fits.timestamp)
    ∙ ap (λ r. make it.marker it.payload_type it.sequence it.timestamp r) (long_again it.ssrc fits.ssrc)

-- what is spelled is read
pub spelled_is_read : (it : DatagramParts) → HeaderFits it.header → IsPadding it.padding → datagram_of (datagram_bytes it) ≡ Ok it
spelled_is_read it fits padding =
    let h = it.header in
    let bytes = datagram_bytes it in
    let behind = it.payload ++ it.padding in
    let extension = extension_bytes h.extension in
    let rest = (h.csrcs ++ extension) ++ behind in
    let whole = fits.csrcs.whole in
    let few = fits.csrcs.few in
    let first = 128 + flag (is_there it.padding) 32 + flag (is_some h.extension) 16 + length h.csrcs / 4 in
    let back = first_back (is_there it.padding) (is_some h.extension) (length h.csrcs / 4) (omega (arith, few)) in
    let short : nat_lt (length bytes) 12 ≡ false = let l : 12 ≤ length bytes = omega arith in grind (arith, nat_tests, l) in
    let version : nat_eq (field first 7 6) 2 ≡ true = let v = back.version in grind (arith, nat_tests, v) in
    let count : length h.csrcs ≡ 4 * field first 3 0 = let c = back.csrcs in omega (arith, c, whole) in
    let a : front_of CsrcsPastTheEnd (length h.csrcs) rest ≡ Ok (h.csrcs, extension ++ behind) =
    ap (front_of CsrcsPastTheEnd (length h.csrcs)) (append_assoc h.csrcs extension behind) ∙ front_again CsrcsPastTheEnd (length h.csrcs) h.csrcs (extension ++ behind) refl in
    let b : extension_at (is_set first 4) (extension ++ behind) ≡ Ok (h.extension, behind) =
    ap (λ x. extension_at x (extension ++ behind)) back.x ∙ extension_again h.extension behind fits.extension in
    let c : padding_at (is_set first 5) behind ≡ Ok (it.payload, it.padding) =
    ap (λ x. padding_at x behind) back.p ∙ padding_again it.payload it.padding padding in
    let all = behind_ok bytes rest (length h.csrcs) (h.csrcs, extension ++ behind) (h.extension, behind) (it.payload, it.padding) count a b c in
    let same : header_at bytes h.csrcs h.extension ≡ h =
    ap (λ x. header_at x h.csrcs h.extension) (append_assoc (fixed_bytes h (is_there it.padding)) (h.csrcs ++ extension) behind) ∙ header_again h (is_there it.padding) rest fits in
    let read : behind_fixed bytes rest ≡ Ok it = all ∙ ap (λ (x : HeaderParts). answer (record { header = x; payload = it.payload; padding = it.padding })) same in
    rw (short, version) read

-- a packet is read, as no other
pub is_read : (bytes : List ℕ) (it : DatagramParts) → IsDatagram bytes it → datagram_of bytes ≡ Ok it
is_read bytes it is = ap datagram_of is.spelled ∙ spelled_is_read it is.header is.padding

pub one_packet : (bytes : List ℕ) (a b : DatagramParts) → IsDatagram bytes a → IsDatagram bytes b → a ≡ b
one_packet bytes a b is other = ok_same a b (sym (is_read bytes a is) ∙ is_read bytes b other)

-- so of what a call answered
pub if_read_is_spelled : (bytes : List ℕ) (result : Result RtpDatagram RtpError) → AreBytes bytes → AnswersAs datagram_view result (datagram_of bytes) →
    IfOk result (λ it. IsDatagram bytes (datagram_view it))
if_read_is_spelled bytes (Ok it) are read = read_is_spelled bytes (datagram_view it) are read
if_read_is_spelled bytes (Err e) are read = tt
