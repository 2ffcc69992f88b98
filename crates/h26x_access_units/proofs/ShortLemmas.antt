-- What holds of the packets that go a short way.
use Rattle.std.proofs.Common.{◌≡◌, ◌∙◌, ap, sym, subst, refl, ℕ, Bool, true, false, Option, Some, None, Ok, cond}
use Rattle.std.specs.Prelude.{◌&&◌, ◌||◌, not, is_some, Result}
use Rattle.h26x_core.specs.declared.error.PacketError.{PacketError}
use Rattle.h26x_core.specs.Sequence.{is_expected}
use Rattle.h26x_receiver.specs.declared.received.Received.{Received}
use Rattle.h26x_receiver.specs.declared.received.Received.TheVariants.{InOrder}
use Rattle.h26x_receiver.specs.Sequenced.{is_taken}
use Rattle.h26x_access_units.specs.declared.counts.Counts.{Counts}
use Rattle.h26x_access_units.specs.Counts.{counted_framing, counted_due}
use Rattle.h26x_reorder.specs.Rtp.{RtpBody, rtp_body}
use Rattle.h26x_assembler.specs.AccessUnit.{AccessUnitValue, Assembly, is_unit_at, IsAssemblyAnswer}
use Rattle.h26x_access_units.specs.declared.framing.Framing.{Framing}
use Rattle.h26x_access_units.specs.declared.framing.Shown.{Shown}
use Rattle.h26x_access_units.specs.declared.numbers.NumbersSoFar.{NumbersSoFar}
use Rattle.h26x_access_units.specs.Framing.{framing_with}
use Rattle.h26x_access_units.specs.Numbers.{bears_nothing, is_timestamp, numbers_after, numbers_still}
use Rattle.h26x_access_units.specs.Reception.{begun_for, expected_for, framing_of, believed, begins_still, shown_of, framing_answered, numbers_answered, counts_answered, IsAnswerTo}
use Rattle.h26x_access_units.specs.Short.{goes_on, is_sole}
use Rattle.h26x_access_units.proofs.ReceptionLemmas.{unmarked_believed, counts_as}

-- both of two that hold
both : (a b : Bool) → (a && b) ≡ true → (a ≡ true) × (b ≡ true)
both true b e = (refl, e)
both false b e = absurd (let bad = e in cc)

-- what isn't so
isnt : (b : Bool) → not b ≡ true → b ≡ false
isnt true e = absurd (let bad = e in cc)
isnt false e = refl

-- the parts of what goes on
pub record IsOn (s : Assembly) (f : Framing) (n : NumbersSoFar) (p : ℕ × RtpBody) : Type 0 where
  pub unmarked : p.1.marker ≡ false
  pub bears : bears_nothing p.1.payload ≡ false
  pub slice : f.has_slice ≡ true
  pub next : is_expected s.expected p.0 ≡ true
  pub at : is_unit_at s.unit p.1.timestamp ≡ true
  pub goes : is_timestamp n.marked p.1.timestamp ≡ false

pub is_on : (s : Assembly) (f : Framing) (n : NumbersSoFar) (p : ℕ × RtpBody) → goes_on s f n p ≡ true → IsOn s f n p
is_on s f n p is =
    let a = both (not p.1.marker) _ is in
    let b = both (not (bears_nothing p.1.payload)) _ a.1 in
    let c = both f.has_slice _ b.1 in
    let d = both (is_expected s.expected p.0) _ c.1 in
    let e = both (is_unit_at s.unit p.1.timestamp) _ d.1 in
    record {
      unmarked = isnt p.1.marker a.0;
      bears = isnt (bears_nothing p.1.payload) b.0;
      slice = c.0;
      next = d.0;
      at = e.0;
      goes = isnt (is_timestamp n.marked p.1.timestamp) e.1;
    }

-- where a number is expected, it stays
expected_same : (e : Option ℕ) (p : ℕ × RtpBody) → is_expected e p.0 ≡ true → expected_for e p ≡ e
expected_same None p e = absurd (let bad = e in cc)
expected_same (Some k) p e = refl

begun_same : (s : Assembly) (p : ℕ × RtpBody) → is_expected s.expected p.0 ≡ true → begun_for s p ≡ s
begun_same s p is = ap (λ (e : Option ℕ). record s { expected = e }) (expected_same s.expected p is)

or_none : (b : Bool) → (b || false) ≡ b
or_none true = refl
or_none false = refl

-- what is known of where access units end stays
same_framing : (f : Framing) (shown : Shown) → f.has_slice ≡ true → framing_with f true false shown ≡ f
same_framing f shown slice =
    ap (λ (x : Bool). record f { has_slice = x || shown.has_slice; marks_slices = f.marks_slices || false }) slice
    ∙ ap (λ (x : Bool). record f { has_slice = x; marks_slices = f.marks_slices || false }) (sym slice)
    ∙ ap (λ (x : Bool). record f { marks_slices = x }) (or_none f.marks_slices)

framing_on : (s : Assembly) (f : Framing) (n : NumbersSoFar) (p : ℕ × RtpBody) → IsOn s f n p → framing_of s f n p ≡ f
framing_on s f n p it =
    ap (λ (x : Bool). framing_with f x (is_timestamp n.marked p.1.timestamp) (shown_of s p)) it.at
    ∙ ap (λ (x : Bool). framing_with f true x (shown_of s p)) it.goes
    ∙ same_framing f (shown_of s p) it.slice

-- what holds as it stands holds as it stands once its number is expected, with what is known of where
-- access units end, and of the packet as it is believed
as_it_stands : (s b : Assembly) (f at : Framing) (p q : ℕ × RtpBody) (Holds : Assembly → Framing → ℕ × RtpBody → Type 0) → b ≡ s → at ≡ f → q ≡ p → Holds s f p → Holds b at q
as_it_stands s b f at p q Holds is_s is_f is_p holds =
    subst (λ (x : Assembly). Holds x at q) (sym is_s)
    (subst (λ (x : Framing). Holds s x q) (sym is_f)
    (subst (λ (x : ℕ × RtpBody). Holds s f x) (sym is_p) holds))

pub on_as : (s : Assembly) (f : Framing) (n : NumbersSoFar) (p : ℕ × RtpBody) (Holds : Assembly → Framing → ℕ × RtpBody → Type 0) → IsOn s f n p → Holds s f p →
    Holds (begun_for s p) (framing_of (begun_for s p) f n p) (believed (framing_of (begun_for s p) f n p) p)
on_as s f n p Holds it holds =
    let is_s = begun_same s p it.next in
    let is_f = ap (λ (x : Assembly). framing_of x f n p) is_s ∙ framing_on s f n p it in
    as_it_stands s (begun_for s p) f (framing_of (begun_for s p) f n p) p (believed (framing_of (begun_for s p) f n p) p) Holds is_s is_f
    (unmarked_believed (framing_of (begun_for s p) f n p) p it.unmarked) holds

-- an answer of the assembler is one to a packet that bears something
pub answer_as : (most : ℕ) (s : Assembly) (p : ℕ × RtpBody) (a : Result Received PacketError) → bears_nothing p.1.payload ≡ false → IsAssemblyAnswer most s p a → IsAnswerTo most s p a
answer_as most s p a bears is = rw bears is

-- one of the timestamp of what is open doesn't begin an access unit
pub at_not_still : (s : Assembly) (f : Framing) (p : ℕ × RtpBody) → is_unit_at s.unit p.1.timestamp ≡ true → false ≡ begins_still s f p
at_not_still s f p at = ap (λ (x : Bool). not x && f.stands_still) (sym at)

-- no marker that is believed is unbelieved
pub none_unbelieved : (b : Bool) → false ≡ (b && not b)
none_unbelieved true = refl
none_unbelieved false = refl

-- the parts of what is the sole one
pub record IsSole (s : Assembly) (f : Framing) (n : NumbersSoFar) (p : ℕ × RtpBody) : Type 0 where
  pub marked : p.1.marker ≡ true
  pub bears : bears_nothing p.1.payload ≡ false
  pub trusted : f.marks_slices ≡ false
  pub next : is_expected s.expected p.0 ≡ true
  pub begins : is_unit_at s.unit p.1.timestamp ≡ false
  pub goes : is_timestamp n.marked p.1.timestamp ≡ false
  pub slice : (shown_of s p).has_slice ≡ true

none_at : (unit : Option AccessUnitValue) (timestamp : ℕ) → not (is_some unit) ≡ true → is_unit_at unit timestamp ≡ false
none_at None timestamp e = refl
none_at (Some unit) timestamp e = absurd (let bad = e in cc)

pub sole : (s : Assembly) (f : Framing) (n : NumbersSoFar) (p : ℕ × RtpBody) → is_sole s f n p ≡ true → IsSole s f n p
sole s f n p is =
    let a = both p.1.marker _ is in
    let b = both (not (bears_nothing p.1.payload)) _ a.1 in
    let c = both (not f.marks_slices) _ b.1 in
    let d = both (is_expected s.expected p.0) _ c.1 in
    let e = both (not (is_some s.unit)) _ d.1 in
    let g = both (not (is_timestamp n.marked p.1.timestamp)) _ e.1 in
    record {
      marked = a.0;
      bears = isnt (bears_nothing p.1.payload) b.0;
      trusted = isnt f.marks_slices c.0;
      next = d.0;
      begins = none_at s.unit p.1.timestamp e.0;
      goes = isnt (is_timestamp n.marked p.1.timestamp) g.0;
      slice = g.1;
    }

-- what is known of where access units end, with one
abbrev pub with_slice : Framing → Framing
with_slice f = framing_with f false false (record { has_slice = true; first = None })

framing_sole : (s : Assembly) (f : Framing) (n : NumbersSoFar) (p : ℕ × RtpBody) → IsSole s f n p → framing_of s f n p ≡ with_slice f
framing_sole s f n p it =
    ap (λ (x : Bool). framing_with f x (is_timestamp n.marked p.1.timestamp) (shown_of s p)) it.begins
    ∙ ap (λ (x : Bool). framing_with f false x (shown_of s p)) it.goes
    ∙ ap (λ (x : Bool). framing_with f false false (record { has_slice = x; first = None })) it.slice

-- its marker is believed
believed_sole : (f : Framing) (p : ℕ × RtpBody) → f.marks_slices ≡ false → p.1.marker ≡ true → believed (with_slice f) p ≡ p
believed_sole f p trusted marked =
    ap (λ (x : Bool). (p.0, rtp_body p.1.timestamp (p.1.marker && (true && not (x || false))) p.1.payload)) trusted
    ∙ ap (λ (x : Bool). (p.0, rtp_body p.1.timestamp (x && true) p.1.payload)) marked
    ∙ ap (λ (x : Bool). (p.0, rtp_body p.1.timestamp x p.1.payload)) (sym marked)

pub sole_as : (s : Assembly) (f : Framing) (n : NumbersSoFar) (p : ℕ × RtpBody) (Holds : Assembly → Framing → ℕ × RtpBody → Type 0) → IsSole s f n p → Holds s (with_slice f) p →
    Holds (begun_for s p) (framing_of (begun_for s p) f n p) (believed (framing_of (begun_for s p) f n p) p)
sole_as s f n p Holds it holds =
    let is_s = begun_same s p it.next in
    let is_f = ap (λ (x : Assembly). framing_of x f n p) is_s ∙ framing_sole s f n p it in
    as_it_stands s (begun_for s p) (with_slice f) (framing_of (begun_for s p) f n p) p (believed (framing_of (begun_for s p) f n p) p) Holds is_s is_f
    (ap (λ (x : Framing). believed x p) is_f ∙ believed_sole f p it.trusted it.marked) holds

and_none : (b : Bool) → false ≡ (b && false)
and_none true = refl
and_none false = refl

-- it doesn't begin an access unit at the timestamp of the one before
pub sole_not_still : (s : Assembly) (f : Framing) (p : ℕ × RtpBody) → false ≡ begins_still s (with_slice f) p
sole_not_still s f p = and_none (not (is_unit_at s.unit p.1.timestamp))

-- what is noted of a packet that was taken in order is what is to be noted of it
pub in_order_framing : (f new at : Framing) (p : ℕ × RtpBody) (r : Received) → r ≡ InOrder → new ≡ framing_answered f at p (Ok InOrder) → new ≡ framing_answered f at p (Ok r)
in_order_framing f new at p r is stands = subst (λ (x : Received). new ≡ framing_answered f at p (Ok x)) (sym is) stands

pub in_order_numbers : (s : Assembly) (n new : NumbersSoFar) (at : Framing) (p : ℕ × RtpBody) (r : Received) → bears_nothing p.1.payload ≡ false → r ≡ InOrder →
    new ≡ numbers_after s.expected (numbers_still at.stands_still n) p (Ok InOrder) → new ≡ numbers_answered s n at p (Ok r)
in_order_numbers s n new at p r bears is stands = subst (λ (x : Received). new ≡ numbers_answered s n at p (Ok x)) (sym is)
    (stands ∙ ap (λ (b : Bool). cond (not b && true) (numbers_after s.expected (numbers_still at.stands_still n) p (Ok InOrder)) (numbers_after s.expected n p (Ok InOrder))) (sym bears))

pub in_order_counts : (s : Assembly) (c new : Counts) (at : Framing) (p : ℕ × RtpBody) (marker x y : Bool) (r : Received) → bears_nothing p.1.payload ≡ false → r ≡ InOrder →
    false ≡ begins_still s at p → false ≡ (marker && not p.1.marker) → (bears_nothing p.1.payload ≡ false → is_taken (Ok r) ≡ true → x ≡ y) →
    new ≡ counted_framing (counted_due s.expected c p (Ok InOrder) x) false false → new ≡ counts_answered s c at p marker y (Ok r)
in_order_counts s c new at p marker x y r bears is still same text stands = subst (λ (z : Received). new ≡ counts_answered s c at p marker y (Ok z)) (sym is)
    (stands ∙ ap (λ (b : Bool). cond (not b && true) (counted_framing (counted_due s.expected c p (Ok InOrder) x) false false) (counted_due s.expected c p (Ok InOrder) x)) (sym bears)
    ∙ counts_as s c at p marker false false x y InOrder still same (λ some taken. text some (ap (λ (z : Received). is_taken (Ok z)) is)))
