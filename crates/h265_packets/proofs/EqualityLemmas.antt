-- Equality of shown packets holds of the same values alone.
use Rattle.std.proofs.Common.{rules, ◌≡◌, ◌↔◌, Bool, true, false, List, [], ◌∷◌, Option, Some, None, refl, ap, ◌∙◌}
use Rattle.std.specs.Prelude.{◌&&◌}
use Rattle.std.specs.Bool.{beq}
use Rattle.std.specs.Option.{option_eq}
use Rattle.std.specs.Cmp.{IsEquivalence}
use Rattle.std.specs.Cmp.Lexicographic.{pointwise}
use Rattle.std.proofs.lemmas.Bool.{and_parts}
use Rattle.h265_packets.specs.Payload.{FirstUnit, OtherUnit, AggregationPacket, single_eq, fragmentation_eq, first_eq, other_eq, aggregation_eq, paci_eq}
use Rattle.h265_packets.specs.Equality.{payload_eq}
use Rattle.h265_packets.specs.declared.payload.H265Payload.TheVariants as p

-- an aggregate of its parts
abbrev aggregation_of : Option FirstUnit → List OtherUnit → Bool → AggregationPacket
aggregation_of first others has_donl = record { first = first; others = others; has_donl = has_donl }

-- a comparison that holds of the same values alone
abbrev pub TellsSame : {A : Type 0} → (A → A → Bool) → Type 0
TellsSame {A} E = (x y : A) → E x y ≡ true → x ≡ y

-- lists of what is told
lists_same : {A : Type 0} (E : A → A → Bool) → TellsSame E → TellsSame (pointwise E)
lists_same E s [] [] h = refl
lists_same E s [] (y ∷ ys) h = absurd cc
lists_same E s (x ∷ xs) [] h = absurd cc
lists_same E s (x ∷ xs) (y ∷ ys) h =
    let p = and_parts (E x y) (pointwise E xs ys) h in rw (s x y p.0, lists_same E s xs ys p.1) refl

-- a value of what is told, or none
options_same : {A : Type 0} (E : A → A → Bool) → TellsSame E → TellsSame (option_eq E)
options_same E s None None h = refl
options_same E s None (Some y) h = absurd cc
options_same E s (Some x) None h = absurd cc
options_same E s (Some x) (Some y) h = ap Some (s x y h)

-- marks
marks_same : TellsSame beq
marks_same true true h = refl
marks_same true false h = absurd cc
marks_same false true h = absurd cc
marks_same false false h = refl

-- the same parts make the same packet
pub single_same : TellsSame single_eq
single_same x y h = search (rules, h)

pub fragmentation_same : TellsSame fragmentation_eq
fragmentation_same x y h = search (rules, h)

pub first_same : TellsSame first_eq
first_same x y h = search (rules, h)

pub other_same : TellsSame other_eq
other_same x y h = search (rules, h)

pub paci_same : TellsSame paci_eq
paci_same x y h = search (rules, h)

pub aggregation_same : TellsSame aggregation_eq
aggregation_same x y h =
    let p = and_parts (option_eq first_eq x.first y.first) (pointwise other_eq x.others y.others && beq x.has_donl y.has_donl) h in
    let q = and_parts (pointwise other_eq x.others y.others) (beq x.has_donl y.has_donl) p.1 in
    let first = options_same first_eq first_same x.first y.first p.0 in
    let others = lists_same other_eq other_same x.others y.others q.0 in
    let mark = marks_same x.has_donl y.has_donl q.1 in
    ap (λ (f : Option FirstUnit). aggregation_of f x.others x.has_donl) first ∙ ap (λ (o : List OtherUnit). aggregation_of y.first o x.has_donl) others
    ∙ ap (λ (m : Bool). aggregation_of y.first y.others m) mark

-- what is shown is the same where it is of one kind and its parts are the same
pub payload_same : TellsSame payload_eq
payload_same (p.H265SingleNALUnitPacket x) (p.H265SingleNALUnitPacket y) h = ap p.H265SingleNALUnitPacket (single_same x y (and_parts (single_eq x y) true h).0)
payload_same (p.H265FragmentationUnitPacket x) (p.H265FragmentationUnitPacket y) h = ap p.H265FragmentationUnitPacket (fragmentation_same x y (and_parts (fragmentation_eq x y) true h).0)
payload_same (p.H265AggregationPacket x) (p.H265AggregationPacket y) h = ap p.H265AggregationPacket (aggregation_same x y (and_parts (aggregation_eq x y) true h).0)
payload_same (p.H265PACIPacket x) (p.H265PACIPacket y) h = ap p.H265PACIPacket (paci_same x y h)
payload_same (p.H265SingleNALUnitPacket x) (p.H265FragmentationUnitPacket y) h = absurd cc
payload_same (p.H265SingleNALUnitPacket x) (p.H265AggregationPacket y) h = absurd cc
payload_same (p.H265SingleNALUnitPacket x) (p.H265PACIPacket y) h = absurd cc
payload_same (p.H265FragmentationUnitPacket x) (p.H265SingleNALUnitPacket y) h = absurd cc
payload_same (p.H265FragmentationUnitPacket x) (p.H265AggregationPacket y) h = absurd cc
payload_same (p.H265FragmentationUnitPacket x) (p.H265PACIPacket y) h = absurd cc
payload_same (p.H265AggregationPacket x) (p.H265SingleNALUnitPacket y) h = absurd cc
payload_same (p.H265AggregationPacket x) (p.H265FragmentationUnitPacket y) h = absurd cc
payload_same (p.H265AggregationPacket x) (p.H265PACIPacket y) h = absurd cc
payload_same (p.H265PACIPacket x) (p.H265SingleNALUnitPacket y) h = absurd cc
payload_same (p.H265PACIPacket x) (p.H265FragmentationUnitPacket y) h = absurd cc
payload_same (p.H265PACIPacket x) (p.H265AggregationPacket y) h = absurd cc

-- a comparison that tells the same values apart from others holds of them
pub decides : {A : Type 0} {E : A → A → Bool} → TellsSame E → IsEquivalence E → (x y : A) → (E x y ≡ true) ↔ (x ≡ y)
decides s e x y = (s x y, λ h. rw h (e.refl y))
