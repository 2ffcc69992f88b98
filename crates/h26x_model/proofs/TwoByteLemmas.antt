-- Formats whose headers have two bytes: how packets are read by their types, and which facts follow.
use Rattle.std.proofs.Common.{◌≡◌, ℕ, ◌+◌, ◌*◌, ◌/◌, ◌%◌, ◌<◌, ◌≤◌, Bool, true, false, cond, eqb, List, [], ◌∷◌, ◌++◌, length, take, Some, None, refl, ◌∙◌, arith, length-append, eq-eqb}
use Rattle.std.specs.Prelude.{IsTrue, ◌&&◌, nat_le, if◌then◌else◌}
use Rattle.std.specs.List.{flat_map, AllByRecursion}
use Rattle.std.proofs.lemmas.Bool.{eqb-true}
use Rattle.std.proofs.lemmas.Bool.Decides.{nat_tests}
use Rattle.h26x_core.specs.declared.error.PacketError.TheVariants.{ErrShortPacket}
use Rattle.h26x_core.specs.declared.extra.CodecExtra.TheVariants as extras
use Rattle.h26x_core.specs.Word.{is_set, flag}
use Rattle.h26x_core.specs.Kind.{is_other}
use Rattle.h26x_model.specs.Payload.Reading.{Reading, Single, Aggregate, Fragment, Refused, two_byte_single}
use Rattle.h26x_model.specs.Payload.Format.{Format, IsLimit, donl_bytes}
use Rattle.h26x_model.specs.Payload.Don.{don_sent, with_dons}
use Rattle.h26x_model.specs.Payload.TwoBytes.{TwoByteHeader, TwoByteFormat, is_two_byte_key, two_byte_kind, two_byte_carries, two_byte_fragment_header, two_byte_detects, two_byte_read, two_byte_format}
use Rattle.h26x_core.specs.Pieces.{piece}
use Rattle.h26x_model.specs.Payload.Facts.{AreCarried, ReadsWhatItWrites, HeadersAreWhole, MarksFragments, KnowsKeyUnits, KeyUnitsAreOther, DonlHasTwoBytes, IsPayloadFormat}
use Rattle.h26x_core.proofs.HeaderLemmas.{start_back, end_back}
use Rattle.h26x_core.proofs.PieceLemmas.{number_back, pieces_back}
use Rattle.h26x_model.proofs.SetsLemmas.{FitIsWithin, sets_leave_room, no_key}

-- a fragment's header has three bytes at most
pub fragment_header_long : (h : TwoByteHeader) (unit : List ℕ) (start end : Bool) → length (two_byte_fragment_header h unit start end) ≤ 3
fragment_header_long h [] start end = omega arith
fragment_header_long h (high ∷ []) start end = omega arith
fragment_header_long h (high ∷ low ∷ unit) start end = omega arith

-- an other unit has a whole header
pub has_header : (h : TwoByteHeader) (unit : List ℕ) → is_other (two_byte_kind h unit) ≡ true → 2 ≤ length unit
has_header h [] is = absurd cc
has_header h (high ∷ []) is = absurd cc
has_header h (high ∷ low ∷ unit) is = omega arith

-- a header tells whether its unit is a key unit
pub header_tells : (h : TwoByteHeader) (head rest : List ℕ) → length head ≡ 2 → is_two_byte_key h (head ++ rest) ≡ is_two_byte_key h head
header_tells h [] rest two = absurd (omega arith)
header_tells h (high ∷ []) rest two = absurd (omega arith)
header_tells h (high ∷ low ∷ head) rest two = refl

-- a reading that is a fragment leaves room beside its data for headers and its number
abbrev pub HasRoom : Bool → ℕ → Reading → Type 0
HasRoom has_donl n (Fragment start end head don body) = length body + (3 + cond start (cond has_donl 2 0) 0) ≤ n
HasRoom has_donl n reading = Unit {0}

-- the header of a carried unit has F clear and a type of its own, and is found again from a fragment's
pub record IsCarried (has_donl : Bool) (t : TwoByteFormat) (high low : ℕ) : Type 0 where
  pub clear : is_set high 7 ≡ false
  pub no_aggregate : eqb (t.header.type_of high low) t.header.aggregate ≡ false
  pub no_fragment : eqb (t.header.type_of high low) t.header.fragment ≡ false
  pub own : (rest : List ℕ) → t.own_of high low rest ≡ two_byte_single has_donl high low rest
  pub mark_clear : is_set (t.header.mark_high high) 7 ≡ false
  pub back : t.header.with_type (t.header.mark_high high) (t.header.mark_low low) (t.header.type_of high low) ≡ high ∷ low ∷ []

-- What is asked of such a format.
pub record IsTwoBytes (has_donl : Bool) (t : TwoByteFormat) : Type 0 where
  -- types are small, those of fragments are no aggregates', and a fragment has its unit's in its third byte
  pub apart : eqb t.header.fragment t.header.aggregate ≡ false
  pub type_fits : (high low : ℕ) → t.header.type_of high low < 64
  pub marked : (high low : ℕ) → t.header.type_of (t.header.mark_high high) (t.header.mark_low low) ≡ t.header.fragment
  pub type_back : (start end : Bool) (high low : ℕ) → t.header.unit_type (flag start 0x80 + flag end 0x40 + t.header.type_of high low) ≡ t.header.type_of high low
  pub carried : (high low : ℕ) → t.header.carries high low ≡ true → IsCarried has_donl t high low
  -- key types are other units'
  pub other : (type : ℕ) → t.header.is_key_type type ≡ true → is_other (t.header.kind type) ≡ true
  -- a fragment is read by its data; where it starts with numbers, one stands before them
  pub plain : (start end : Bool) (head body : List ℕ) → (has_donl && start) ≡ false → 1 ≤ length body → t.fragment_of start end head body ≡ Fragment start end head None body
  pub start : (start end : Bool) (head : List ℕ) (d e : ℕ) (body : List ℕ) → (has_donl && start) ≡ true → 1 ≤ length body →
      t.fragment_of start end head (d ∷ e ∷ body) ≡ Fragment true end head (Some (d * 256 + e)) body

-- how a fragment is read behind its header, by the byte of its marks
abbrev pub fragment_by : TwoByteFormat → ℕ → ℕ → ℕ → List ℕ → Reading
fragment_by t high low fu body = t.fragment_of (is_set fu 7) (is_set fu 6) (t.header.with_type high low (t.header.unit_type fu)) body

-- what holds of the reading of each kind of packet holds of every packet's
pub by_kind : (t : TwoByteFormat) (P : List ℕ → Reading → Type 0) →
    ((packet : List ℕ) → length packet ≤ 2 → P packet (Refused ErrShortPacket)) →
    ((high low : ℕ) (rest : List ℕ) → 1 ≤ length rest → is_set high 7 ≡ true → P (high ∷ low ∷ rest) (Refused t.corrupted)) →
    ((high low : ℕ) (rest : List ℕ) → 1 ≤ length rest → is_set high 7 ≡ false → t.header.type_of high low ≡ t.header.aggregate → P (high ∷ low ∷ rest) (t.aggregate_of rest)) →
    ((high low fu : ℕ) (body : List ℕ) → is_set high 7 ≡ false → t.header.type_of high low ≡ t.header.fragment → P (high ∷ low ∷ fu ∷ body) (fragment_by t high low fu body)) →
    ((high low : ℕ) (rest : List ℕ) → 1 ≤ length rest → is_set high 7 ≡ false → eqb (t.header.type_of high low) t.header.aggregate ≡ false → eqb (t.header.type_of high low) t.header.fragment ≡ false →
    P (high ∷ low ∷ rest) (t.own_of high low rest)) →
    (packet : List ℕ) → P packet (two_byte_read t packet)
by_kind t P short corrupted aggregate fragment own [] = short [] (omega arith)
by_kind t P short corrupted aggregate fragment own (high ∷ []) = short (high ∷ []) (omega arith)
by_kind t P short corrupted aggregate fragment own (high ∷ low ∷ []) = short (high ∷ low ∷ []) (omega arith)
by_kind t P short corrupted aggregate fragment own (high ∷ low ∷ b ∷ body) =
    let Is = P (high ∷ low ∷ b ∷ body) in
    let type = t.header.type_of high low in
    let some : 1 ≤ length (b ∷ body) = omega arith in
    let fragment_or = cond (eqb type t.header.fragment) (fragment_by t high low b body) (t.own_of high low (b ∷ body)) in
    elim (is_set high 7) as (λ f. is_set high 7 ≡ f → Is (cond f (Refused t.corrupted) (cond (eqb type t.header.aggregate) (t.aggregate_of (b ∷ body)) fragment_or))) [
      | true ↦ λ f. corrupted high low (b ∷ body) some f
      | false ↦ λ f. elim (eqb type t.header.aggregate) as (λ x. eqb type t.header.aggregate ≡ x → Is (cond x (t.aggregate_of (b ∷ body)) fragment_or)) [
        | true ↦ λ x. aggregate high low (b ∷ body) some f (eqb-true type t.header.aggregate x)
        | false ↦ λ x. elim (eqb type t.header.fragment) as (λ y. eqb type t.header.fragment ≡ y → Is (cond y (fragment_by t high low b body) (t.own_of high low (b ∷ body)))) [
          | true ↦ λ y. fragment high low b body f (eqb-true type t.header.fragment y)
          | false ↦ λ y. own high low (b ∷ body) some f x y
        ] refl
      ] refl
    ] refl

-- a packet of two bytes or fewer is too short
pub short_read : (t : TwoByteFormat) (packet : List ℕ) → length packet ≤ 2 → two_byte_read t packet ≡ Refused ErrShortPacket
short_read t [] short = refl
short_read t (high ∷ []) short = refl
short_read t (high ∷ low ∷ []) short = refl
short_read t (high ∷ low ∷ b ∷ body) short = absurd (omega arith)

-- a longer one with F set is corrupted
pub marked_read : (t : TwoByteFormat) (high low : ℕ) (rest : List ℕ) → 1 ≤ length rest → is_set high 7 ≡ true →
    two_byte_read t (high ∷ low ∷ rest) ≡ Refused t.corrupted
marked_read t high low [] some marked = absurd (omega arith)
marked_read t high low (b ∷ rest) some marked = rw marked refl

-- with F clear and the type of aggregates it is read as one
pub aggregate_read : (t : TwoByteFormat) (high low : ℕ) (rest : List ℕ) → 1 ≤ length rest → is_set high 7 ≡ false →
    t.header.type_of high low ≡ t.header.aggregate → two_byte_read t (high ∷ low ∷ rest) ≡ t.aggregate_of rest
aggregate_read t high low [] some clear type = absurd (omega arith)
aggregate_read t high low (b ∷ rest) some clear type = rw (clear, type, eq-eqb t.header.aggregate t.header.aggregate refl) refl

-- and with a type of its own as such a packet
pub own_read : (t : TwoByteFormat) (high low : ℕ) (rest : List ℕ) → 1 ≤ length rest → is_set high 7 ≡ false →
    eqb (t.header.type_of high low) t.header.aggregate ≡ false → eqb (t.header.type_of high low) t.header.fragment ≡ false → two_byte_read t (high ∷ low ∷ rest) ≡ t.own_of high low rest
own_read t high low [] some clear x y = absurd (omega arith)
own_read t high low (b ∷ rest) some clear x y = rw (clear, x, y) refl

-- a fragment that bears no number needs no room for one
pub none_borne : (has_donl start : Bool) → (has_donl && start) ≡ false → ◌≡◌ {A = ℕ} (cond start (cond has_donl 2 0) 0) 0
none_borne true true both = absurd cc
none_borne true false both = refl
none_borne false true both = refl
none_borne false false both = refl

-- a single unit is read with its number
single_read : (has_donl : Bool) (n high low b : ℕ) (unit : List ℕ) →
    two_byte_single has_donl high low (donl_bytes has_donl n ++ b ∷ unit) ≡ Single (high ∷ low ∷ b ∷ unit) (if has_donl then Some (n % 65536) else None)
single_read false n high low b unit = refl
single_read true n high low b unit = rw (number_back n) refl

-- a fragment's data are read, with its number where it starts with one
data_read : (has_donl : Bool) (t : TwoByteFormat) → IsTwoBytes has_donl t → (start end : Bool) (n : ℕ) (head body : List ℕ) → 0 < length body →
    t.fragment_of start end head ((if start then donl_bytes has_donl n else []) ++ body)
    ≡ Fragment start end head (if start then (if has_donl then Some (n % 65536) else None) else None) body
data_read true t ok true end n head body some = rw (number_back n) at (ok.start true end head (n % 65536 / 256 % 256) (n % 65536 % 256) body refl some)
data_read true t ok false end n head body some = ok.plain false end head body refl some
data_read false t ok true end n head body some = ok.plain true end head body refl some
data_read false t ok false end n head body some = ok.plain false end head body refl some

-- What is asked of packets of sets.
pub record SetsAreSent (f : Format) : Type 0 where
  -- those that fit are within the limit
  pub within : FitIsWithin f
  pub long : (limit n : ℕ) (sets : List (List ℕ)) (unit : List ℕ) → f.sets_fit limit sets ≡ true → length (f.sets_packet n sets unit) ≤ limit
  -- and they are read back, and not detected
  pub back : (n limit : ℕ) (sets : List (List ℕ)) (unit : List ℕ) → IsLimit f limit → f.sets_fit limit sets ≡ true → 2 ≤ length sets →
      AreCarried f sets → IsTrue (f.carries unit) → f.read (f.sets_packet n sets unit) ≡ Aggregate (with_dons f n sets)
  pub undetected : (n limit : ℕ) (sets : List (List ℕ)) (unit : List ℕ) → f.has_donl ≡ false → IsLimit f limit → f.sets_fit limit sets ≡ true →
      AreCarried f sets → IsTrue (f.carries unit) → AllByRecursion (λ set. f.is_key set ≡ false) sets → f.detects (f.sets_packet n sets unit) ≡ false
  pub dons : DonlHasTwoBytes f

module _ (has_donl : Bool) (t : TwoByteFormat) (ok : IsTwoBytes has_donl t) where
  -- what holds of every unit of three bytes or more with a carried unit's header holds of every carried unit
  pub of_carried : (P : List ℕ → Type 0) → ((high low b : ℕ) (unit : List ℕ) → IsCarried has_donl t high low → P (high ∷ low ∷ b ∷ unit)) →
      (unit : List ℕ) → IsTrue (two_byte_carries t.header unit) → P unit
  of_carried P holds [] h = let e : false ≡ true = h in absurd cc
  of_carried P holds (high ∷ []) h = let e : false ≡ true = h in absurd cc
  of_carried P holds (high ∷ low ∷ []) h = let e : false ≡ true = h in absurd cc
  of_carried P holds (high ∷ low ∷ b ∷ unit) h = holds high low b unit (ok.carried high low h)

  -- a carried unit has a whole header
  pub header_there : (unit : List ℕ) → IsTrue (two_byte_carries t.header unit) → 2 ≤ length unit
  header_there = of_carried _ (λ high low b unit c. omega arith)

  -- so has a key unit
  key_whole : (unit : List ℕ) → is_two_byte_key t.header unit ≡ true → nat_le 2 (length unit) ≡ true
  key_whole [] e = absurd cc
  key_whole (high ∷ []) e = absurd cc
  key_whole (high ∷ low ∷ unit) e = grind (arith, nat_tests)

  -- an aggregate of sets without numbers is not detected where none is a key unit
  pub sets_undetected : (high low : ℕ) (sets : List (List ℕ)) → t.header.type_of high low ≡ t.header.aggregate → AllByRecursion (λ set. length set < 65536) sets →
      AllByRecursion (λ set. is_two_byte_key t.header set ≡ false) sets → two_byte_detects t.header (high ∷ low ∷ flat_map piece sets) ≡ false
  sets_undetected high low sets type short none =
      rw (type, eq-eqb t.header.aggregate t.header.aggregate refl, pieces_back sets short) (no_key (is_two_byte_key t.header) sets none)

  module _ (sets : SetsAreSent (two_byte_format has_donl t)) where
    -- what is written is read back
    reads_what_it_writes : ReadsWhatItWrites (two_byte_format has_donl t)
    reads_what_it_writes = record {
      header = header_there;
      single = λ n. of_carried _ (λ high low b unit c. let l = length-append (donl_bytes has_donl n) (b ∷ unit) in
          own_read t high low (donl_bytes has_donl n ++ (b ∷ unit)) (omega (arith, l)) c.clear c.no_aggregate c.no_fragment
          ∙ c.own (donl_bytes has_donl n ++ (b ∷ unit)) ∙ single_read has_donl n high low b unit);
      fragment = λ n unit body start end h some. of_carried
          (λ unit. two_byte_read t (two_byte_fragment_header t.header unit start end ++ ((if start then donl_bytes has_donl n else []) ++ body))
          ≡ Fragment start end (take 2 unit) (if start then don_sent (two_byte_format has_donl t) n else None) body)
          (λ high low b unit c. let fits = ok.type_fits high low in
          rw (
            c.mark_clear,
            ok.marked high low,
            ok.apart,
            eq-eqb t.header.fragment t.header.fragment refl,
            start_back start end (t.header.type_of high low) fits,
            end_back start end (t.header.type_of high low) fits,
            ok.type_back start end high low,
            c.back,
          )
          (data_read has_donl t ok start end n (high ∷ low ∷ []) body some)) unit h;
      sets = sets.back;
    }

    -- a fragment's header has three bytes where the unit has a whole header
    headers_are_whole : HeadersAreWhole (two_byte_format has_donl t)
    headers_are_whole [] start end whole = absurd (omega arith)
    headers_are_whole (high ∷ []) start end whole = absurd (omega arith)
    headers_are_whole (high ∷ low ∷ unit) start end whole = refl

    -- a fragment bears its marks in its third byte
    marks_fragments : MarksFragments (two_byte_format has_donl t)
    marks_fragments [] behind start end header = absurd (omega arith)
    marks_fragments (high ∷ []) behind start end header = absurd (omega arith)
    marks_fragments (high ∷ low ∷ unit) behind start end header =
        (start_back start end (t.header.type_of high low) (ok.type_fits high low), end_back start end (t.header.type_of high low) (ok.type_fits high low))

    -- a unit alone is detected where it is a key unit, and of its fragments the start
    knows_key_units : KnowsKeyUnits (two_byte_format has_donl t)
    knows_key_units = record {
      single = λ n. of_carried _ (λ high low b unit c. rw (c.no_aggregate, c.no_fragment) refl);
      fragment = λ unit behind start end. of_carried
          (λ unit. two_byte_detects t.header (two_byte_fragment_header t.header unit start end ++ behind) ≡ (start && is_two_byte_key t.header unit))
          (λ high low b unit c. let fits = ok.type_fits high low in
          rw (ok.marked high low, ok.apart, eq-eqb t.header.fragment t.header.fragment refl, start_back start end (t.header.type_of high low) fits, ok.type_back start end high low) refl) unit;
      sets = sets.undetected;
    }

    -- a key unit is no parameter set
    key_units_are_other : KeyUnitsAreOther (two_byte_format has_donl t)
    key_units_are_other [] e = absurd cc
    key_units_are_other (high ∷ []) e = absurd cc
    key_units_are_other (high ∷ low ∷ unit) e = ok.other (t.header.type_of high low) e

    -- such a format meets all facts
    pub is_payload_format : ((packet : List ℕ) → HasRoom has_donl (length packet) (two_byte_read t packet)) → ((key : Bool) → t.has_key (t.extra key) ≡ key) → t.has_key extras.None ≡ false →
        IsPayloadFormat (two_byte_format has_donl t)
    is_payload_format room tells none = record {
      headers = λ packet head body start end don e. rw e at (room packet);
      reads = reads_what_it_writes;
      limits = record { header = fragment_header_long t.header; sets = sets.long };
      whole = headers_are_whole;
      marks = marks_fragments;
      sets = sets_leave_room (two_byte_format has_donl t) sets.within;
      extra = record { tells = tells; none = none; whole = key_whole };
      detects = knows_key_units;
      other = key_units_are_other;
      dons = sets.dons;
    }
