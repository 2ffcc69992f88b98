-- H.266 as a format whose headers have two bytes: headers, and fragments behind them.
use Rattle.std.proofs.Common.{◌≡◌, ℕ, ◌+◌, ◌*◌, ◌<◌, Bool, true, false, List, [], ◌∷◌, Some, None, refl, ap, arith}
use Rattle.std.specs.Prelude.{◌&&◌, ◌||◌, ◌==◌, nat_lt, max}
use Rattle.std.proofs.lemmas.Bool.{and_parts}
use Rattle.std.proofs.lemmas.Bool.Decides.{nat_tests}
use Rattle.h26x_core.specs.Word.{is_set}
use Rattle.h26x_core.specs.Kind.{is_other}
use Rattle.h26x_core.specs.H266Unit.{type_of, kind_of_type, is_key_type}
use Rattle.h26x_model.specs.Payload.Reading.{Fragment}
use Rattle.h26x_core.proofs.HeaderLemmas.{type_back}
use Rattle.h26x_model.proofs.TwoByteLemmas.{IsTwoBytes, IsCarried}
use Rattle.h266_payload.specs.H266.{h266_rules, with_type, fragment_of}

-- the low byte of an aggregate's header has type 28, whatever its temporal id
pub aggregate_type : (temporal : ℕ) → temporal < 8 → type_of (28 * 8 + max 1 temporal) ≡ 28
aggregate_type temporal h = omega arith

-- a low byte with the type of a fragment, and then with its own again
low_back : (low : ℕ) → with_type (with_type low 29) (type_of low) ≡ low
low_back low = omega arith

-- a carried unit has F clear and is no packet of type 28 or 29
pub carried : (has_donl : Bool) (high low : ℕ) → (nat_lt high 0x80 && (nat_lt (type_of low) 28 || nat_lt 29 (type_of low))) ≡ true →
    IsCarried has_donl (h266_rules has_donl) high low
carried has_donl high low h =
    let s = and_parts _ _ h in
    let small : nat_lt high 0x80 ≡ true = s.0 in
    let own : (nat_lt (type_of low) 28 || nat_lt 29 (type_of low)) ≡ true = s.1 in
    let below : high < 128 = grind (arith, nat_tests) in
    let clear : is_set high 7 ≡ false = grind (arith, nat_tests) in
    record {
      clear = clear;
      no_aggregate = grind (arith, nat_tests);
      no_fragment = grind (arith, nat_tests);
      own = λ rest. refl;
      mark_clear = clear;
      back = ap (λ (x : ℕ). high ∷ x ∷ []) (low_back low);
    }

-- a fragment without a number keeps all its bytes
pub plain_fragment : (has_donl start end : Bool) (head body : List ℕ) → (has_donl && start) ≡ false → fragment_of has_donl start end head body ≡ Fragment start end head None body
plain_fragment false start end head body none = refl
plain_fragment true false end head body none = refl
plain_fragment true true end head body none = absurd cc

-- a start with a number keeps those behind it
pub numbered_start : (has_donl start end : Bool) (head : List ℕ) (d e : ℕ) (body : List ℕ) → (has_donl && start) ≡ true →
    fragment_of has_donl start end head (d ∷ e ∷ body) ≡ Fragment true end head (Some (d * 256 + e)) body
numbered_start true true end head d e body both = refl
numbered_start true false end head d e body both = absurd cc
numbered_start false start end head d e body both = absurd cc

-- a key type is neither a parameter set's nor one that is skipped
key_type_other : (type : ℕ) → is_key_type type ≡ true → is_other (kind_of_type type) ≡ true
key_type_other type e =
    let aud : (type == 20) ≡ false = grind (arith, nat_tests) in
    let aggregate : (type == 28) ≡ false = grind (arith, nat_tests) in
    let fragment : (type == 29) ≡ false = grind (arith, nat_tests) in
    let vps : (type == 14) ≡ false = grind (arith, nat_tests) in
    let sps : (type == 15) ≡ false = grind (arith, nat_tests) in
    let pps : (type == 16) ≡ false = grind (arith, nat_tests) in
    rw (aud, aggregate, fragment, vps, sps, pps) refl

-- H.266 is what is asked of formats whose headers have two bytes
pub is_two_bytes : (has_donl : Bool) → IsTwoBytes has_donl (h266_rules has_donl)
is_two_bytes has_donl = record {
  apart = refl;
  type_fits = λ high low. omega arith;
  marked = λ high low. omega arith;
  type_back = λ start end high low. type_back start end (type_of low) (omega arith);
  carried = carried has_donl;
  other = key_type_other;
  plain = λ start end head body none some. plain_fragment has_donl start end head body none;
  start = λ start end head d e body both some. numbered_start has_donl start end head d e body both;
}
