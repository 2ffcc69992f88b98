-- Equal meanings are equal states.
use Rattle.std.proofs.Common.{◌≡◌, ℕ, ◌+◌, ◌/◌, ◌%◌, ◌<◌, Bool, true, false, cond, List, [], ◌∷◌, Option, None, Some, refl, sym, ap, ◌∙◌, arith}
use Rattle.std.specs.List.{flat_map}
use Rattle.std.proofs.lemmas.List.{append-nil}
use Rattle.h26x_core.specs.Word.{word, flag}
use Rattle.h26x_core.specs.Kind.{Kind, Skipped, is_vps, is_sps, is_pps}
use Rattle.h26x_model.specs.Payload.Format.{Format}
use Rattle.h26x_model.specs.Send.WaitingSets.{IsOneSet, NoSet, OneSet, AreWaitingSets}
use Rattle.h26x_model.specs.Send.PacketizerState.{PacketizerState, IsPacketizerState, IsSamePacketizerState, packetizer_meaning}
use Rattle.h26x_model.specs.Receive.DepacketizerState.{DepacketizerState, run_list, setting_byte, depacketizer_meaning}

-- a set that waits has a byte: no bytes are of a kind that is skipped
some_byte : (is_it : Kind → Bool) (f : Format) (unit : List ℕ) → is_it Skipped ≡ false → f.kind [] ≡ Skipped → is_it (f.kind unit) ≡ true → unit ≡ [] → false ≡ true
some_byte is_it f unit never empty is none = sym never ∙ ap is_it (sym empty) ∙ ap (λ u. is_it (f.kind u)) (sym none) ∙ is

-- sets of one kind with the same bytes are the same
same_one : (is_it : Kind → Bool) (f : Format) {a b : List (List ℕ)} → is_it Skipped ≡ false → f.kind [] ≡ Skipped → IsOneSet is_it f a → IsOneSet is_it f b →
    flat_map (λ (set : List ℕ). set) a ≡ flat_map (λ (set : List ℕ). set) b → a ≡ b
same_one is_it f never empty NoSet NoSet same = refl
same_one is_it f never empty NoSet (OneSet unit is) same = let no = some_byte is_it f unit never empty is (sym (append-nil unit) ∙ sym same) in absurd cc
same_one is_it f never empty (OneSet unit is) NoSet same = let no = some_byte is_it f unit never empty is (sym (append-nil unit) ∙ same) in absurd cc
same_one is_it f never empty (OneSet unit is) (OneSet other too) same = ap (λ (u : List ℕ). u ∷ []) (sym (append-nil unit) ∙ same ∙ append-nil other)

-- numbers of two bytes with the same word are the same
same_word : (n m : ℕ) → n < 65536 → m < 65536 → word n ≡ word m → n ≡ m
same_word n m small short same =
    let high : n / 256 % 256 ≡ m / 256 % 256 = cc in
    let low : n % 256 ≡ m % 256 = cc in
    omega arith

-- what two tests that hold choose
where_set : {A : Type 0} (b c : Bool) (x y z : A) → b ≡ true → c ≡ true → cond b x z ≡ cond c y z → x ≡ y
where_set true true x y z is too same = same
where_set true false x y z is too same = absurd cc
where_set false c x y z is too same = absurd cc

-- so with packetizers
pub same_packetizers : (a b : PacketizerState) → a.format ≡ b.format → a.format.kind [] ≡ Skipped → IsPacketizerState a → IsPacketizerState b → packetizer_meaning a ≡ packetizer_meaning b → IsSamePacketizerState a b
same_packetizers a b format empty is too same =
    let f = a.format in
    let sets : AreWaitingSets f b.waiting = rw format too.sets in
    let vps : flat_map (λ (set : List ℕ). set) a.waiting.vps ≡ flat_map (λ (set : List ℕ). set) b.waiting.vps = cc in
    let sps : flat_map (λ (set : List ℕ). set) a.waiting.sps ≡ flat_map (λ (set : List ℕ). set) b.waiting.sps = cc in
    let pps : flat_map (λ (set : List ℕ). set) a.waiting.pps ≡ flat_map (λ (set : List ℕ). set) b.waiting.pps = cc in
    let one = same_one is_vps f refl empty is.sets.vps sets.vps vps in
    let two = same_one is_sps f refl empty is.sets.sps sets.sps sps in
    let three = same_one is_pps f refl empty is.sets.pps sets.pps pps in
    record {
      waiting = rw (one, two, three) refl;
      next_don = λ has_donl.
          let bytes : cond a.format.has_donl (word a.next_don) [] ≡ cond b.format.has_donl (word b.next_don) [] = cc in
          let both : b.format.has_donl ≡ true = ap (λ (g : Format). g.has_donl) (sym format) ∙ has_donl in
          same_word a.next_don b.next_don is.small too.small (where_set a.format.has_donl b.format.has_donl (word a.next_don) (word b.next_don) [] has_donl both bytes);
      max_packet_size = λ has_max_packet_size.
          let bytes : cond a.format.has_max_packet_size (word a.max_packet_size ∷ []) [] ≡ cond b.format.has_max_packet_size (word b.max_packet_size ∷ []) [] = cc in
          let both : b.format.has_max_packet_size ≡ true = ap (λ (g : Format). g.has_max_packet_size) (sym format) ∙ has_max_packet_size in
          let same_one : word a.max_packet_size ∷ [] ≡ word b.max_packet_size ∷ [] = where_set a.format.has_max_packet_size b.format.has_max_packet_size (word a.max_packet_size ∷ []) (word b.max_packet_size ∷ []) [] has_max_packet_size both bytes in
          same_word a.max_packet_size b.max_packet_size (omega (arith, is.size)) (omega (arith, too.size)) cc;
    }

-- runs with the same data are the same
same_run : (a b : Option (List ℕ)) → run_list a ≡ run_list b → a ≡ b
same_run None None same = refl
same_run None (Some run) same = absurd cc
same_run (Some run) None same = absurd cc
same_run (Some run) (Some other) same = let is : run ≡ other = cc in ap Some is

-- depacketizers with the same parts are the same
same_parts : (a b : DepacketizerState) → a.format ≡ b.format → a.is_avc ≡ b.is_avc → a.run ≡ b.run → a ≡ b
same_parts a b format avc run =
    ap (λ (f : Format). record { format = f; is_avc = a.is_avc; run = a.run }) format
    ∙ ap (λ x. record { format = b.format; is_avc = x; run = a.run }) avc
    ∙ ap (λ (x : Option (List ℕ)). record { format = b.format; is_avc = b.is_avc; run = x }) run

-- a format's setting as one byte tells whether AVC form is written
one_form : (f : Format) (a b : Bool) → setting_byte f a ≡ setting_byte f b → a ≡ b
one_form f true true same = refl
one_form f false false same = refl
one_form f true false same = absurd (elim f.may_have_donl as (λ x. cond x (flag f.has_donl 1 + 2) 1 ≡ cond x (flag f.has_donl 1 + 0) 0 → ⊥) [ true ↦ λ e. omega arith | false ↦ λ e. omega arith ] same)
one_form f false true same = absurd (elim f.may_have_donl as (λ x. cond x (flag f.has_donl 1 + 0) 0 ≡ cond x (flag f.has_donl 1 + 2) 1 → ⊥) [ true ↦ λ e. omega arith | false ↦ λ e. omega arith ] same)

-- so with depacketizers
pub same_depacketizers : (a b : DepacketizerState) → a.format ≡ b.format → depacketizer_meaning a ≡ depacketizer_meaning b → a ≡ b
same_depacketizers a b format same =
    let setting : setting_byte a.format a.is_avc ≡ setting_byte b.format b.is_avc = cc in
    let runs : run_list a.run ≡ run_list b.run = cc in
    same_parts a b format (one_form a.format a.is_avc b.is_avc (rw (← format) at setting)) (same_run a.run b.run runs)
