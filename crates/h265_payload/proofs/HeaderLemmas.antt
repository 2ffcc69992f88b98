-- H.265 as a format whose headers have two bytes: headers, and fragments behind them.
use Rattle.std.proofs.Common.{◌≡◌, ℕ, ◌+◌, ◌*◌, ◌<◌, ◌≤◌, Bool, true, false, eqb, List, [], ◌∷◌, length, Some, None, refl, ap, arith}
use Rattle.std.specs.Prelude.{◌&&◌, ◌||◌, ◌==◌, nat_le, nat_lt}
use Rattle.std.proofs.lemmas.Bool.{and_parts}
use Rattle.std.proofs.lemmas.Bool.Decides.{nat_tests}
use Rattle.h26x_core.specs.Word.{field, is_set}
use Rattle.h26x_core.specs.Kind.{is_other}
use Rattle.h26x_core.specs.H265Unit.{type_of, kind_of_type, is_key_type}
use Rattle.h26x_model.specs.Payload.Reading.{Fragment}
use Rattle.h26x_core.proofs.HeaderLemmas.{six_bits_back}
use Rattle.h26x_model.proofs.TwoByteLemmas.{IsTwoBytes, IsCarried}
use Rattle.h265_packets.specs.Header.{with_type}
use Rattle.h265_payload.specs.H265.{h265_rules, with_type_and_f, fragment_of}

-- another type leaves F clear
pub clear_as : (b type : ℕ) → is_set b 7 ≡ false → type < 64 → is_set (with_type_and_f b type) 7 ≡ false
clear_as b type clear fits =
    let f : field b 7 7 ≡ 0 = grind (arith, nat_tests) in let below : with_type_and_f b type < 128 = omega arith in grind (arith, nat_tests)

-- a high byte with F clear is its type and the layer's highest bit
head_back : (b : ℕ) → b < 128 → with_type (with_type_and_f b 49) (type_of b) ≡ b
head_back b h = omega arith

-- a carried unit has F clear and is no packet of type 48 to 50
pub carried : (has_donl : Bool) (high low : ℕ) → (nat_lt high 0x80 && (nat_lt (type_of high) 48 || nat_lt 50 (type_of high))) ≡ true → IsCarried has_donl (h265_rules has_donl) high low
carried has_donl high low h =
    let p = and_parts (nat_lt high 0x80) (nat_lt (type_of high) 48 || nat_lt 50 (type_of high)) h in
    let small : nat_lt high 0x80 ≡ true = p.0 in
    let own : (nat_lt (type_of high) 48 || nat_lt 50 (type_of high)) ≡ true = p.1 in
    let below : high < 128 = grind (arith, nat_tests) in
    let clear : is_set high 7 ≡ false = grind (arith, nat_tests) in
    let no_paci : (type_of high == 50) ≡ false = grind (arith, nat_tests) in
    record {
      clear = clear;
      no_aggregate = grind (arith, nat_tests);
      no_fragment = grind (arith, nat_tests);
      own = λ rest. rw no_paci refl;
      mark_clear = clear_as high 49 clear (omega arith);
      back = ap (λ (x : ℕ). x ∷ low ∷ []) (head_back high below);
    }

-- a fragment that bears no number
pub some_fragment : (has_donl start end : Bool) (head body : List ℕ) → (has_donl && start) ≡ false → 1 ≤ length body → fragment_of has_donl start end head body ≡ Fragment start end head None body
some_fragment has_donl start end head [] n some = absurd (omega arith)
some_fragment true true end head (x ∷ body) n some = absurd cc
some_fragment true false end head (x ∷ body) n some = refl
some_fragment false true end head (x ∷ body) n some = refl
some_fragment false false end head (x ∷ body) n some = refl

-- a start that bears one
pub numbered_start : (has_donl start end : Bool) (head : List ℕ) (d e : ℕ) (body : List ℕ) → (has_donl && start) ≡ true → 1 ≤ length body →
    fragment_of has_donl start end head (d ∷ e ∷ body) ≡ Fragment true end head (Some (d * 256 + e)) body
numbered_start has_donl start end head d e [] n some = absurd (omega arith)
numbered_start true true end head d e (x ∷ body) n some = refl
numbered_start true false end head d e (x ∷ body) n some = absurd cc
numbered_start false start end head d e (x ∷ body) n some = absurd cc

-- a key type is no parameter set's
key_is_other : (t : ℕ) → is_key_type t ≡ true → is_other (kind_of_type t) ≡ true
key_is_other t e =
    let p = and_parts (nat_le 16 t) (nat_le t 21) e in
    let upper : nat_le t 21 ≡ true = p.1 in
    let no_35 : eqb t 35 ≡ false = grind (arith, nat_tests) in
    let no_32 : eqb t 32 ≡ false = grind (arith, nat_tests) in
    let no_33 : eqb t 33 ≡ false = grind (arith, nat_tests) in
    let no_34 : eqb t 34 ≡ false = grind (arith, nat_tests) in
    rw (no_35, no_32, no_33, no_34) refl

-- H.265 is what is asked of formats whose headers have two bytes
pub is_two_bytes : (has_donl : Bool) → IsTwoBytes has_donl (h265_rules has_donl)
is_two_bytes has_donl = record {
  apart = refl;
  type_fits = λ high low. omega arith;
  marked = λ high low. omega arith;
  type_back = λ start end high low. six_bits_back start end (type_of high) (omega arith);
  carried = carried has_donl;
  other = key_is_other;
  plain = some_fragment has_donl;
  start = numbered_start has_donl;
}
