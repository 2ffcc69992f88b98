-- What is known of a decoder is what the whole list of access units tells.
use Rattle.std.proofs.Common.{◌≡◌, ◌∙◌, ap, sym, refl, ℕ, Bool, true, false, cond, List, [], ◌∷◌, Option, inl, inr}
use Rattle.std.specs.Prelude.{◌⊎◌, ◌==◌, ◌||◌, ◌&&◌, not}
use Rattle.h26x_core.specs.declared.extra.CodecExtra.{CodecExtra}
use Rattle.h26x_core.specs.declared.extra.CodecExtra.TheVariants as extras
use Rattle.h26x_access_units.specs.declared.content.ParameterSets.{ParameterSets}
use Rattle.h26x_access_units.specs.Content.{no_sets, joined_sets}
use Rattle.h26x_access_units.specs.Decoder.{are_enough, is_first_key, is_first_other, is_disposable, sets_after, layer_after, head_after, long_key_after, is_behind_no_loss, can_begin, can_go_on}
use Rattle.h26x_access_units.specs.FrameNumber.{joined_numbering, tells_none_lost}
use Rattle.h26x_access_units.specs.declared.frame_number.Numbering.{Numbering}
use Rattle.h26x_access_units.specs.Decodable.{GivenUnit, decoder_behind, HasCome, in_last, in_earlier, HaveTwoSetsCome, HaveSetsCome, known_layer, known_numbering, known_head, has_long_key, BeginsDecoding, IsBehindNoLoss, IsDecodable, begins, goes_on, IsCleanWhereDecodable}

-- one of two holds
one_of : (a b : Bool) → (a || b) ≡ true → (a ≡ true) ⊎ (b ≡ true)
one_of true b e = inl refl
one_of false b e = inr e

left_holds : (a b : Bool) → a ≡ true → (a || b) ≡ true
left_holds true b e = refl
left_holds false b e = absurd (let bad = e in cc)

right_holds : (a b : Bool) → b ≡ true → (a || b) ≡ true
right_holds true b e = refl
right_holds false b e = e

-- both hold
both : (a b : Bool) → (a && b) ≡ true → (a ≡ true) × (b ≡ true)
both true b e = (refl, e)
both false b e = absurd (let bad = e in cc)

both_hold : (a b : Bool) → a ≡ true → b ≡ true → (a && b) ≡ true
both_hold true b e f = f
both_hold false b e f = absurd (let bad = e in cc)

holds_not : (a : Bool) → not a ≡ true → a ≡ false
holds_not true e = absurd (let bad = e in cc)
holds_not false e = refl

not_holds : (a : Bool) → a ≡ false → not a ≡ true
not_holds true e = absurd (let bad = e in cc)
not_holds false e = refl

-- a kind of sets: none has it, and two together have it where one of them has
record IsKindOfSets (kind : ParameterSets → Bool) : Type 0 where
  none : kind no_sets ≡ false
  joined : (a b : ParameterSets) → kind (joined_sets a b) ≡ (kind a || kind b)

is_vps : IsKindOfSets (λ sets. sets.vps)
is_vps = record { none = refl; joined = λ a b. refl }

is_sps : IsKindOfSets (λ sets. sets.sps)
is_sps = record { none = refl; joined = λ a b. refl }

is_pps : IsKindOfSets (λ sets. sets.pps)
is_pps = record { none = refl; joined = λ a b. refl }

-- a kind that is known came
has_come : (kind : ParameterSets → Bool) → IsKindOfSets kind → (has_sets : Bool) (units : List GivenUnit) → kind (decoder_behind has_sets units).sets ≡ true → HasCome kind units
has_come kind it has_sets [] e = absurd (let bad = sym it.none ∙ e in cc)
has_come kind it has_sets (u ∷ before) e = by (has_come kind it has_sets before) u.is_unbroken refl u.numbers.follows refl e
  where
    by : (kind (decoder_behind has_sets before).sets ≡ true → HasCome kind before) → (b : Bool) → u.is_unbroken ≡ b → (f : Bool) → u.numbers.follows ≡ f → kind (cond b (joined_sets (cond f (decoder_behind has_sets before).sets no_sets) u.content.sets) no_sets) ≡ true → HasCome kind (u ∷ before)
    by earlier_came false p f q e = absurd (let bad = sym it.none ∙ e in cc)
    by earlier_came true p true q e = elim (one_of (kind (decoder_behind has_sets before).sets) (kind u.content.sets) (sym (it.joined (decoder_behind has_sets before).sets u.content.sets) ∙ e)) [
      | inl earlier ↦ in_earlier p q (earlier_came earlier)
      | inr own ↦ in_last p own
    ]
    by earlier_came true p false q e = elim (one_of (kind no_sets) (kind u.content.sets) (sym (it.joined no_sets u.content.sets) ∙ e)) [
      | inl earlier ↦ absurd (let bad = sym it.none ∙ earlier in cc)
      | inr own ↦ in_last p own
    ]

-- and one that came is known
come_known : (kind : ParameterSets → Bool) → IsKindOfSets kind → (has_sets : Bool) (units : List GivenUnit) → HasCome kind units → kind (decoder_behind has_sets units).sets ≡ true
come_known kind it has_sets [] come = elim come [ ]
come_known kind it has_sets (u ∷ before) (in_last unbroken own) =
    ap (λ (b : Bool). kind (cond b (joined_sets (cond u.numbers.follows (decoder_behind has_sets before).sets no_sets) u.content.sets) no_sets)) unbroken
    ∙ it.joined (cond u.numbers.follows (decoder_behind has_sets before).sets no_sets) u.content.sets
    ∙ right_holds (kind (cond u.numbers.follows (decoder_behind has_sets before).sets no_sets)) (kind u.content.sets) own
come_known kind it has_sets (u ∷ before) (in_earlier unbroken follows earlier) =
    ap (λ (b : Bool). kind (cond b (joined_sets (cond u.numbers.follows (decoder_behind has_sets before).sets no_sets) u.content.sets) no_sets)) unbroken
    ∙ ap (λ (f : Bool). kind (joined_sets (cond f (decoder_behind has_sets before).sets no_sets) u.content.sets)) follows
    ∙ it.joined (decoder_behind has_sets before).sets u.content.sets
    ∙ left_holds (kind (decoder_behind has_sets before).sets) (kind u.content.sets) (come_known kind it has_sets before earlier)

-- the sets that are needed
two_come : (has_sets : Bool) (units : List GivenUnit) → ((decoder_behind has_sets units).sets.sps && (decoder_behind has_sets units).sets.pps) ≡ true → HaveTwoSetsCome units
two_come has_sets units e =
    let pair = both (decoder_behind has_sets units).sets.sps (decoder_behind has_sets units).sets.pps e in
    record { sps = has_come (λ sets. sets.sps) is_sps has_sets units pair.0; pps = has_come (λ sets. sets.pps) is_pps has_sets units pair.1 }

two_known : (has_sets : Bool) (units : List GivenUnit) → HaveTwoSetsCome units → ((decoder_behind has_sets units).sets.sps && (decoder_behind has_sets units).sets.pps) ≡ true
two_known has_sets units it =
    both_hold (decoder_behind has_sets units).sets.sps (decoder_behind has_sets units).sets.pps (come_known (λ sets. sets.sps) is_sps has_sets units it.sps) (come_known (λ sets. sets.pps) is_pps has_sets units it.pps)

sets_come : (has_sets : Bool) (extra : CodecExtra) (units : List GivenUnit) → are_enough extra (decoder_behind has_sets units).sets ≡ true → HaveSetsCome extra units
sets_come has_sets extras.None units e = absurd (let bad = e in cc)
sets_come has_sets (extras.H264 told) units e = two_come has_sets units e
sets_come has_sets (extras.H265 told) units e =
    let d = decoder_behind has_sets units in
    let pair = both d.sets.vps (d.sets.sps && d.sets.pps) e in
    (has_come (λ sets. sets.vps) is_vps has_sets units pair.0, two_come has_sets units pair.1)
sets_come has_sets (extras.H266 told) units e = two_come has_sets units e

sets_known : (has_sets : Bool) (extra : CodecExtra) (units : List GivenUnit) → HaveSetsCome extra units → are_enough extra (decoder_behind has_sets units).sets ≡ true
sets_known has_sets extras.None units it = absurd it
sets_known has_sets (extras.H264 told) units it = two_known has_sets units it
sets_known has_sets (extras.H265 told) units it =
    let d = decoder_behind has_sets units in
    both_hold d.sets.vps (d.sets.sps && d.sets.pps) (come_known (λ sets. sets.vps) is_vps has_sets units it.0) (two_known has_sets units it.1)
sets_known has_sets (extras.H266 told) units it = two_known has_sets units it

-- the layers that are known
same_layer : (has_sets : Bool) (units : List GivenUnit) → (decoder_behind has_sets units).highest_layer ≡ known_layer units
same_layer has_sets [] = refl
same_layer has_sets (u ∷ before) =
    ap (λ (n : ℕ). cond (u.content.highest_layer == 0) (cond u.numbers.follows n 0) u.content.highest_layer) (same_layer has_sets before)

same_disposable : (has_sets : Bool) (u : GivenUnit) (before : List GivenUnit) → is_disposable (layer_after (decoder_behind has_sets before) u.numbers u.content) u.content.slice ≡ is_disposable (known_layer (u ∷ before)) u.content.slice
same_disposable has_sets u before = ap (λ (n : ℕ). is_disposable n u.content.slice) (same_layer has_sets (u ∷ before))

-- what is known of frame numbers
same_numbering : (has_sets : Bool) (units : List GivenUnit) → (decoder_behind has_sets units).numbering ≡ known_numbering units
same_numbering has_sets [] = refl
same_numbering has_sets (u ∷ before) = ap (λ (n : Numbering). joined_numbering n u.content.numbering) (same_numbering has_sets before)

same_head : (has_sets : Bool) (units : List GivenUnit) → (decoder_behind has_sets units).last_head ≡ known_head units
same_head has_sets [] = refl
same_head has_sets (u ∷ before) = ap (λ (head : Option (List ℕ)). head_after head u.is_unbroken u.numbers u.content) (same_head has_sets before)

same_long_key : (has_sets : Bool) (units : List GivenUnit) → (decoder_behind has_sets units).has_long_key ≡ has_long_key units
same_long_key has_sets [] = refl
same_long_key has_sets (u ∷ before) = ap (λ (b : Bool). long_key_after b u.numbers u.content.slice) (same_long_key has_sets before)

same_told : (has_sets : Bool) (u : GivenUnit) (before : List GivenUnit) →
    let d = decoder_behind has_sets before in
    tells_none_lost (joined_numbering d.numbering u.content.numbering) d.has_long_key d.last_head u.content.head u.numbers.missing
    ≡ tells_none_lost (known_numbering (u ∷ before)) (has_long_key before) (known_head before) u.content.head u.numbers.missing
same_told has_sets u before =
    let d = decoder_behind has_sets before in
    let n = known_numbering (u ∷ before) in
    ap (λ (it : Numbering). tells_none_lost it d.has_long_key d.last_head u.content.head u.numbers.missing) (same_numbering has_sets (u ∷ before))
    ∙ ap (λ (b : Bool). tells_none_lost n b d.last_head u.content.head u.numbers.missing) (same_long_key has_sets before)
    ∙ ap (λ (head : Option (List ℕ)). tells_none_lost n (has_long_key before) head u.content.head u.numbers.missing) (same_head has_sets before)

no_loss_where : (has_sets : Bool) (u : GivenUnit) (before : List GivenUnit) → is_behind_no_loss (decoder_behind has_sets before) has_sets u.numbers u.content ≡ true → IsBehindNoLoss has_sets u before
no_loss_where has_sets u before e =
    let d = decoder_behind has_sets before in
    let told = tells_none_lost (joined_numbering d.numbering u.content.numbering) d.has_long_key d.last_head u.content.head u.numbers.missing in
    let a = both (not has_sets) (u.numbers.is_counted && (not u.numbers.continues && (is_first_other u.content.slice && told))) e in
    let b = both u.numbers.is_counted (not u.numbers.continues && (is_first_other u.content.slice && told)) a.1 in
    let k = both (not u.numbers.continues) (is_first_other u.content.slice && told) b.1 in
    let l = both (is_first_other u.content.slice) told k.1 in
    record {
      in_band = holds_not has_sets a.0;
      counted = b.0;
      own = holds_not u.numbers.continues k.0;
      first = l.0;
      told = sym (same_told has_sets u before) ∙ l.1;
    }

no_loss_known : (has_sets : Bool) (u : GivenUnit) (before : List GivenUnit) → IsBehindNoLoss has_sets u before → is_behind_no_loss (decoder_behind has_sets before) has_sets u.numbers u.content ≡ true
no_loss_known has_sets u before it =
    let d = decoder_behind has_sets before in
    let told = tells_none_lost (joined_numbering d.numbering u.content.numbering) d.has_long_key d.last_head u.content.head u.numbers.missing in
    both_hold (not has_sets) (u.numbers.is_counted && (not u.numbers.continues && (is_first_other u.content.slice && told))) (not_holds has_sets it.in_band)
    (both_hold u.numbers.is_counted (not u.numbers.continues && (is_first_other u.content.slice && told)) it.counted
    (both_hold (not u.numbers.continues) (is_first_other u.content.slice && told) (not_holds u.numbers.continues it.own)
    (both_hold (is_first_other u.content.slice) told it.first (same_told has_sets u before ∙ it.told))))

-- a decoder begins
begins_where : (has_sets : Bool) (u : GivenUnit) (before : List GivenUnit) → can_begin (decoder_behind has_sets before) has_sets u.is_unbroken u.extra u.numbers u.content ≡ true → BeginsDecoding has_sets u before
begins_where has_sets u before e =
    let sets = are_enough u.extra (sets_after (decoder_behind has_sets before) u.is_unbroken u.numbers u.content) in
    let a = both u.is_unbroken (not u.numbers.continues && (is_first_key u.content.slice && (has_sets || sets))) e in
    let b = both (not u.numbers.continues) (is_first_key u.content.slice && (has_sets || sets)) a.1 in
    let k = both (is_first_key u.content.slice) (has_sets || sets) b.1 in
    record {
      unbroken = a.0;
      own = holds_not u.numbers.continues b.0;
      key = k.0;
      sets = elim (one_of has_sets sets k.1) [
        | inl has ↦ inl has
        | inr come ↦ inr (sets_come has_sets u.extra (u ∷ before) come)
      ];
    }

begun_where : (has_sets : Bool) (u : GivenUnit) (before : List GivenUnit) → BeginsDecoding has_sets u before → can_begin (decoder_behind has_sets before) has_sets u.is_unbroken u.extra u.numbers u.content ≡ true
begun_where has_sets u before it =
    let sets = are_enough u.extra (sets_after (decoder_behind has_sets before) u.is_unbroken u.numbers u.content) in
    let enough : (has_sets || sets) ≡ true = elim (it.sets) [
      | inl has ↦ left_holds has_sets sets has
      | inr come ↦ right_holds has_sets sets (sets_known has_sets u.extra (u ∷ before) come)
    ] in
    both_hold u.is_unbroken (not u.numbers.continues && (is_first_key u.content.slice && (has_sets || sets))) it.unbroken
    (both_hold (not u.numbers.continues) (is_first_key u.content.slice && (has_sets || sets)) (not_holds u.numbers.continues it.own)
    (both_hold (is_first_key u.content.slice) (has_sets || sets) it.key enough))

-- what is known is what can be decoded
decodable_where : (has_sets : Bool) (units : List GivenUnit) → (decoder_behind has_sets units).is_clean ≡ true → IsDecodable has_sets units
decodable_where has_sets [] e = absurd (let bad = e in cc)
decodable_where has_sets (u ∷ before) e =
    let d = decoder_behind has_sets before in
    let disposable = is_disposable (layer_after d u.numbers u.content) u.content.slice in
    elim (one_of (can_begin d has_sets u.is_unbroken u.extra u.numbers u.content) (can_go_on d has_sets u.is_unbroken u.numbers u.content) e) [
      | inl can ↦ begins (begins_where has_sets u before can)
      | inr can ↦
          let no_loss = is_behind_no_loss d has_sets u.numbers u.content in
          let a = both d.is_clean ((u.numbers.follows || no_loss) && (u.is_unbroken || disposable)) can in
          let b = both (u.numbers.follows || no_loss) (u.is_unbroken || disposable) a.1 in
          goes_on {u = u} (decodable_where has_sets before a.0) (record {
            reached = elim (one_of u.numbers.follows no_loss b.0) [
              | inl follows ↦ inl follows
              | inr told ↦ inr (no_loss_where has_sets u before told)
            ];
            kept = elim (one_of u.is_unbroken disposable b.1) [
              | inl whole ↦ inl whole
              | inr lost ↦ inr (sym (same_disposable has_sets u before) ∙ lost)
            ];
          })
    ]

clean_where : (has_sets : Bool) (units : List GivenUnit) → IsDecodable has_sets units → (decoder_behind has_sets units).is_clean ≡ true
clean_where has_sets [] it = elim it [ ]
clean_where has_sets (u ∷ before) (begins it) =
    let d = decoder_behind has_sets before in
    left_holds (can_begin d has_sets u.is_unbroken u.extra u.numbers u.content) (can_go_on d has_sets u.is_unbroken u.numbers u.content) (begun_where has_sets u before it)
clean_where has_sets (u ∷ before) (goes_on earlier it) =
    let d = decoder_behind has_sets before in
    let disposable = is_disposable (layer_after d u.numbers u.content) u.content.slice in
    let kept : (u.is_unbroken || disposable) ≡ true = elim (it.kept) [
      | inl whole ↦ left_holds u.is_unbroken disposable whole
      | inr lost ↦ right_holds u.is_unbroken disposable (same_disposable has_sets u before ∙ lost)
    ] in
    let no_loss = is_behind_no_loss d has_sets u.numbers u.content in
    let reached : (u.numbers.follows || no_loss) ≡ true = elim (it.reached) [
      | inl follows ↦ left_holds u.numbers.follows no_loss follows
      | inr told ↦ right_holds u.numbers.follows no_loss (no_loss_known has_sets u before told)
    ] in
    right_holds (can_begin d has_sets u.is_unbroken u.extra u.numbers u.content) (can_go_on d has_sets u.is_unbroken u.numbers u.content)
    (both_hold d.is_clean ((u.numbers.follows || no_loss) && (u.is_unbroken || disposable)) (clean_where has_sets before earlier)
    (both_hold (u.numbers.follows || no_loss) (u.is_unbroken || disposable) reached kept))

-- so of what is told of the last one
pub clean_is_decodable : (has_sets : Bool) (u : GivenUnit) (before : List GivenUnit) → IsCleanWhereDecodable has_sets u before
clean_is_decodable has_sets u before =
    let d = decoder_behind has_sets (u ∷ before) in (
      λ e. let pair = both u.is_unbroken d.is_clean e in (pair.0, decodable_where has_sets (u ∷ before) pair.1),
      λ it. both_hold u.is_unbroken d.is_clean it.0 (clean_where has_sets (u ∷ before) it.1),
    )
