-- What is received by places is what is computed.
use Rattle.std.proofs.Common.{◌≡◌, ℕ, zero, suc, ◌+◌, ◌<◌, ◌≤◌, true, false, cond, List, [], ◌∷◌, ◌++◌, length, take, drop, get_or, slice_get}
use Rattle.std.proofs.Common.{Option, Some, None, inl, inr, refl, sym, ap, ◌∙◌, subst, arith}
use Rattle.std.specs.List.{flat_map}
use Rattle.std.proofs.lemmas.Bool.{cases_order}
use Rattle.std.proofs.lemmas.List.{append-nil, take_more, length-take, drop-append-le, drop_all}
use Rattle.std.proofs.lemmas.List.Concat.{flat_map-append}
use Rattle.std.proofs.lemmas.Option.{slice_get_within, get_or_from_slice_get}
use Rattle.h26x_model.specs.Payload.Reading.{Reading, Single, Aggregate, Fragment, Paci, Refused, is_start, is_end, head_of, body_of}
use Rattle.h26x_model.specs.Receive.Received.{extended_run, run_after, run_units, reading_units, open_run, brought_after, units_after, received}
use Rattle.h26x_model.specs.Receive.Run.{starts_at, ends_at, IsRun, run_unit, IsRunUnit, PlaceBrings, AreReceived}

-- a run that may go on at a place: from the latest start before it, with no end since
record Opens (readings : List Reading) (first end : ℕ) : Type 0 where
  starts : starts_at readings first ≡ true
  order : first < end
  latest : (place : ℕ) → first < place → place < end → starts_at readings place ≡ false
  unbroken : (place : ℕ) → first ≤ place → place < end → ends_at readings place ≡ false

-- a run up to a place, but for the end there
record Reaches (readings : List Reading) (first last : ℕ) : Type 0 where
  starts : starts_at readings first ≡ true
  order : first ≤ last
  latest : (place : ℕ) → first < place → place ≤ last → starts_at readings place ≡ false
  unbroken : (place : ℕ) → first ≤ place → place < last → ends_at readings place ≡ false

-- a run that reaches an end is a run, and the other way round
run_of : {readings : List Reading} {first last : ℕ} → ends_at readings last ≡ true → Reaches readings first last → IsRun readings first last
run_of ends h = record { ends = ends; starts = h.starts; order = h.order; latest = h.latest; unbroken = h.unbroken }

-- what is reached where a run is open or not
reaches_of : {readings : List Reading} {first last : ℕ} → IsRun readings first last → Reaches readings first last
reaches_of h = record { starts = h.starts; order = h.order; latest = h.latest; unbroken = h.unbroken }

-- a run that reaches a place behind its first may go on there
opens_before : {readings : List Reading} {first last : ℕ} → first < last → Reaches readings first last → Opens readings first last
opens_before before h = record { starts = h.starts; order = before; latest = λ place a b. h.latest place a (omega arith); unbroken = h.unbroken }

-- what holds below a place and at it holds up to it
with_last : (P : ℕ → Type 0) (last place : ℕ) → place ≤ last → (place < last → P place) → P last → P place
with_last P last place within below at = elim (cases_order place last) as (λ _. P place) [
  | inl same ↦ subst P (sym same) at
  | inr (inl less) ↦ below less
  | inr (inr more) ↦ absurd (omega arith)
]

-- a run that may go on at a place that doesn't start reaches it
reaches_on : {readings : List Reading} {first last : ℕ} → starts_at readings last ≡ false → Opens readings first last → Reaches readings first last
reaches_on {readings} {first} {last} quiet h = record {
  starts = h.starts;
  order = let o = h.order in omega arith;
  latest = λ place a b. with_last (λ p. starts_at readings p ≡ false) last place b (h.latest place a) quiet;
  unbroken = h.unbroken;
}

-- a run that reaches a place that doesn't end may go on at the next
opens_on : {readings : List Reading} {first last : ℕ} → ends_at readings last ≡ false → Reaches readings first last → Opens readings first (last + 1)
opens_on {readings} {first} {last} quiet h = record {
  starts = h.starts;
  order = let o = h.order in omega arith;
  latest = λ place a b. h.latest place a (omega arith);
  unbroken = λ place a b. with_last (λ p. ends_at readings p ≡ false) last place (omega arith) (h.unbroken place a) quiet;
}

-- a run that may go on at the next place reaches this one
reaches_before : {readings : List Reading} {first last : ℕ} → Opens readings first (last + 1) → Reaches readings first last
reaches_before h = record {
  starts = h.starts;
  order = let o = h.order in omega arith;
  latest = λ place a b. h.latest place a (omega arith);
  unbroken = λ place a b. h.unbroken place a (omega arith);
}

-- the run that is open before a place, and its data
abbrev IsOpenAt : List Reading → ℕ → Option (List ℕ) → Type 0
IsOpenAt readings end None = (first : ℕ) → Opens readings first end → ⊥
IsOpenAt readings end (Some run) = (first : ℕ) × Opens readings first end × (run ≡ flat_map body_of (drop first (take end readings)))

-- the run that reaches a place, and its data
abbrev IsReached : List Reading → ℕ → Option (List ℕ) → Type 0
IsReached readings last None = (first : ℕ) → Reaches readings first last → ⊥
IsReached readings last (Some run) = (first : ℕ) × Reaches readings first last × (run ≡ flat_map body_of (drop first (take (last + 1) readings)))

-- a place starts or ends as the reading there does
starts_as : (readings : List Reading) (place : ℕ) (r : Reading) → slice_get readings place ≡ Some r → starts_at readings place ≡ is_start r
starts_as readings place r at = rw at refl

-- whether a place ends is what its reading says
ends_as : (readings : List Reading) (place : ℕ) (r : Reading) → slice_get readings place ≡ Some r → ends_at readings place ≡ is_end r
ends_as readings place r at = rw at refl

-- one more reading brings its data
data_more : (readings : List Reading) (first place : ℕ) (r : Reading) → first ≤ place → slice_get readings place ≡ Some r →
    flat_map body_of (drop first (take (place + 1) readings)) ≡ flat_map body_of (drop first (take place readings)) ++ body_of r
data_more readings first place r order at =
    let within : place < length readings = slice_get_within readings place r at in
    let here : get_or readings place r ≡ r = get_or_from_slice_get readings place r r at in
    let long : first ≤ length (take place readings) = simp length-take (omega arith) in
    ap (λ (x : List Reading). flat_map body_of (drop first x)) (take_more readings place r within ∙ ap (λ x. take place readings ++ x ∷ []) here)
    ∙ ap (flat_map body_of) (drop-append-le first (take place readings) (r ∷ []) long)
    ∙ flat_map-append body_of (drop first (take place readings)) (r ∷ [])
    ∙ ap (λ (x : List ℕ). flat_map body_of (drop first (take place readings)) ++ x) (append-nil (body_of r))

-- nothing of what stands before a place stands behind it
drop_taken : (place : ℕ) (readings : List Reading) → drop place (take place readings) ≡ []
drop_taken place readings = drop_all place (take place readings) (simp length-take (omega arith))

-- at a start a run begins anew
start_reached : (readings : List Reading) (place : ℕ) (r : Reading) → slice_get readings place ≡ Some r → is_start r ≡ true → IsReached readings place (Some (body_of r))
start_reached readings place r at starts = (
  place,
  record {
    starts = starts_as readings place r at ∙ starts;
    order = omega arith;
    latest = λ p a b. absurd (omega arith);
    unbroken = λ p a b. absurd (omega arith);
  },
  sym (data_more readings place place r (omega arith) at ∙ ap (λ (x : List Reading). flat_map body_of x ++ body_of r) (drop_taken place readings)),
)

-- at another reading the open run goes on, and where none is open none does
other_reached : (readings : List Reading) (place : ℕ) (r : Reading) (run : Option (List ℕ)) → slice_get readings place ≡ Some r → is_start r ≡ false →
    IsOpenAt readings place run → IsReached readings place (extended_run false run (body_of r))
other_reached readings place r None at quiet closed = λ first h. elim (cases_order first place) as (λ _. ⊥) [
  | inl same ↦ let starts = h.starts in let none = starts_as readings place r at in absurd cc
  | inr (inl less) ↦ closed first (opens_before less h)
  | inr (inr more) ↦ let o = h.order in absurd (omega arith)
]
other_reached readings place r (Some run) at quiet (first, h, bytes) =
    let o = h.order in
    (first, reaches_on (starts_as readings place r at ∙ quiet) h, ap (λ (x : List ℕ). x ++ body_of r) bytes ∙ sym (data_more readings first place r (omega arith) at))

-- so the open run with a reading's data is the run that reaches it
reached : (readings : List Reading) (place : ℕ) (r : Reading) (run : Option (List ℕ)) → slice_get readings place ≡ Some r → IsOpenAt readings place run →
    IsReached readings place (extended_run (is_start r) run (body_of r))
reached readings place r run at h = elim (is_start r) as (λ b. is_start r ≡ b → IsReached readings place (extended_run b run (body_of r))) [
  | true ↦ λ starts. start_reached readings place r at starts
  | false ↦ λ quiet. other_reached readings place r run at quiet h
] refl

-- after an end no run is open, and after another reading the one that reached it
opened_after : (readings : List Reading) (place : ℕ) (r : Reading) (run : Option (List ℕ)) → slice_get readings place ≡ Some r → IsReached readings place run →
    IsOpenAt readings (place + 1) (cond (is_end r) None run)
opened_after readings place r run at h = elim (is_end r) as (λ b. is_end r ≡ b → IsOpenAt readings (place + 1) (cond b None run)) [
  | true ↦ λ ends first opens. let o = opens.order in let broken = opens.unbroken place (omega arith) (omega arith) in let here = ends_as readings place r at in absurd cc
  | false ↦ λ quiet. elim run as (λ o. IsReached readings place o → IsOpenAt readings (place + 1) o) [
    | None ↦ λ closed first opens. closed first (reaches_before opens)
    | Some bytes ↦ λ going. (going.0, opens_on (ends_as readings place r at ∙ quiet) going.1, going.2)
  ] h
] refl

-- the run after a reading, whatever it is
run_after_is : (run : Option (List ℕ)) (r : Reading) → run_after run r ≡ cond (is_end r) None (extended_run (is_start r) run (body_of r))
run_after_is run (Fragment start end head don body) = refl
run_after_is None (Single unit don) = refl
run_after_is (Some run) (Single unit don) = ap Some (sym (append-nil run))
run_after_is None (Aggregate units) = refl
run_after_is (Some run) (Aggregate units) = ap Some (sym (append-nil run))
run_after_is None (Paci head fields extension body) = refl
run_after_is (Some run) (Paci head fields extension body) = ap Some (sym (append-nil run))
run_after_is None (Refused error) = refl
run_after_is (Some run) (Refused error) = ap Some (sym (append-nil run))

-- the open run that is computed after a reading is the one that is open at the next place
opened_next : (readings : List Reading) (place : ℕ) (r : Reading) (run : Option (List ℕ)) → slice_get readings place ≡ Some r →
    IsOpenAt readings place run → IsOpenAt readings (place + 1) (run_after run r)
opened_next readings place r run at h =
    subst (IsOpenAt readings (place + 1)) (sym (run_after_is run r)) (opened_after readings place r (extended_run (is_start r) run (body_of r)) at (reached readings place r run at h))

-- an end names the unit of the run that reaches it
end_names : (readings : List Reading) (place : ℕ) (r : Reading) (run : Option (List ℕ)) → slice_get readings place ≡ Some r → is_end r ≡ true →
    IsReached readings place run → IsRunUnit readings place (run_units (head_of r) run)
end_names readings place r None at ends closed = inr ((λ first run. closed first (reaches_of run)), refl)
end_names readings place r (Some run) at ends (first, h, bytes) =
    inl (first, run_of (ends_as readings place r at ∙ ends) h, rw at (ap (λ (x : List ℕ). (head_of r ++ x) ∷ []) bytes))

-- what a reading brings where a run is open is what its place brings
place_brings : (readings : List Reading) (place : ℕ) (r : Reading) (run : Option (List ℕ)) → slice_get readings place ≡ Some r →
    IsOpenAt readings place run → PlaceBrings readings place (Some r) (reading_units run r)
place_brings readings place (Single unit don) run at h = refl
place_brings readings place (Aggregate units) run at h = refl
place_brings readings place (Fragment start true head don body) run at h =
    end_names readings place (Fragment start true head don body) (extended_run start run body) at refl (reached readings place (Fragment start true head don body) run at h)
place_brings readings place (Fragment start false head don body) run at h = refl
place_brings readings place (Paci head fields extension body) run at h = refl
place_brings readings place (Refused error) run at h = refl

-- a run has one first place
one_first : (readings : List Reading) (a b last : ℕ) → IsRun readings a last → IsRun readings b last → a ≡ b
one_first readings a b last h k = elim (cases_order a b) as (λ _. a ≡ b) [
  | inl same ↦ same
  | inr (inl less) ↦ let none = h.latest b less k.order in let some = k.starts in absurd cc
  | inr (inr more) ↦ let none = k.latest a more h.order in let some = h.starts in absurd cc
]

-- an end names no other units
one_named : (readings : List Reading) (last : ℕ) (us vs : List (List ℕ)) → IsRunUnit readings last us → IsRunUnit readings last vs → us ≡ vs
one_named readings last us vs (inl (a, h, x)) (inl (b, k, y)) = x ∙ ap (λ first. run_unit readings first last ∷ []) (one_first readings a b last h k) ∙ sym y
one_named readings last us vs (inl (a, h, x)) (inr (no_run, y)) = absurd (no_run a h)
one_named readings last us vs (inr (no_run, x)) (inl (b, k, y)) = absurd (no_run b k)
one_named readings last us vs (inr (no_run, x)) (inr (never, y)) = x ∙ sym y

-- a place brings no other units
one_brought : (readings : List Reading) (place : ℕ) (o : Option Reading) (us vs : List (List ℕ)) → PlaceBrings readings place o us → PlaceBrings readings place o vs → us ≡ vs
one_brought readings place None us vs x y = x ∙ sym y
one_brought readings place (Some (Single unit don)) us vs x y = x ∙ sym y
one_brought readings place (Some (Aggregate units)) us vs x y = x ∙ sym y
one_brought readings place (Some (Fragment start true head don body)) us vs x y = one_named readings place us vs x y
one_brought readings place (Some (Fragment start false head don body)) us vs x y = x ∙ sym y
one_brought readings place (Some (Paci head fields extension body)) us vs x y = x ∙ sym y
one_brought readings place (Some (Refused error)) us vs x y = x ∙ sym y

-- the units that readings bring, reading by reading
abbrev parts_after : List Reading → List Reading → List (List (List ℕ))
parts_after earlier [] = []
parts_after earlier (r ∷ readings) = brought_after r earlier ∷ parts_after (r ∷ earlier) readings

-- these are a part for each reading, and joined the units received
parts_long : (earlier readings : List Reading) → length (parts_after earlier readings) ≡ length readings
parts_long earlier [] = refl
parts_long earlier (r ∷ readings) = ap suc (parts_long (r ∷ earlier) readings)

-- parts joined are the parts joined one after the other
parts_joined : (earlier readings : List Reading) → units_after earlier readings ≡ flat_map (λ part. part) (parts_after earlier readings)
parts_joined earlier [] = refl
parts_joined earlier (r ∷ readings) = ap (λ (x : List (List ℕ)). brought_after r earlier ++ x) (parts_joined (r ∷ earlier) readings)

-- the first of what is left behind a place stands there
at_place : (readings : List Reading) (place : ℕ) (r : Reading) (rest : List Reading) → drop place readings ≡ r ∷ rest →
    (slice_get readings place ≡ Some r) × (drop (place + 1) readings ≡ rest)
at_place [] zero r rest e = absurd cc
at_place [] (suc place) r rest e = absurd cc
at_place (x ∷ readings) zero r rest e = (cc, cc)
at_place (x ∷ readings) (suc place) r rest e =
    let (here, later) = at_place readings place r rest e in
    let next : suc place + 1 ≡ suc (place + 1) = omega arith in
    (here, rw next later)

-- behind readings that left a run open, each part is what its place brings
parts_bring : (readings : List Reading) (place : ℕ) (earlier rest : List Reading) → drop place readings ≡ rest → IsOpenAt readings place (open_run earlier) →
    (i : ℕ) (part : List (List ℕ)) → slice_get (parts_after earlier rest) i ≡ Some part → PlaceBrings readings (place + i) (slice_get readings (place + i)) part
parts_bring readings place earlier [] left h i part e = absurd cc
parts_bring readings place earlier (r ∷ rest) left h zero part e =
    let at = (at_place readings place r rest left).0 in
    let same : brought_after r earlier ≡ part = cc in
    let here : place + 0 ≡ place = omega arith in
    rw (here, at, ← same) (place_brings readings place r (open_run earlier) at h)
parts_bring readings place earlier (r ∷ rest) left h (suc i) part e =
    let (at, later) = at_place readings place r rest left in
    let next : place + 1 + i ≡ place + suc i = omega arith in
    rw next at (parts_bring readings (place + 1) (r ∷ earlier) rest later (opened_next readings place r (open_run earlier) at h) i part e)

-- so it is from the first reading on
all_bring : (readings : List Reading) (place : ℕ) (part : List (List ℕ)) → slice_get (parts_after [] readings) place ≡ Some part →
    PlaceBrings readings place (slice_get readings place) part
all_bring readings place part e =
    let none : IsOpenAt readings 0 None = λ first opens. let o = opens.order in omega arith in
    let here : 0 + place ≡ place = omega arith in
    rw here at (parts_bring readings 0 [] readings refl none place part e)

-- what is computed is what is received by places
pub are_received : (readings : List Reading) → AreReceived readings (received readings)
are_received readings = record { parts = parts_after [] readings; long = parts_long [] readings; each = all_bring readings; joined = parts_joined [] readings }

-- lists as long as each other that are the same at each place
same_lists : {A : Type 0} (xs ys : List A) → length xs ≡ length ys → ((i : ℕ) (x y : A) → slice_get xs i ≡ Some x → slice_get ys i ≡ Some y → x ≡ y) → xs ≡ ys
same_lists [] [] long each = refl
same_lists [] (y ∷ ys) long each = absurd (omega arith)
same_lists (x ∷ xs) [] long each = absurd (omega arith)
same_lists (x ∷ xs) (y ∷ ys) long each =
    let here : x ≡ y = each 0 x y refl refl in
    let later : xs ≡ ys = same_lists xs ys (omega arith) (λ i a b. each (suc i) a b) in
    cc

-- and nothing else is
pub only_received : (readings : List Reading) (units : List (List ℕ)) → AreReceived readings units → units ≡ received readings
only_received readings units h =
    let same = same_lists h.parts (parts_after [] readings) (h.long ∙ sym (parts_long [] readings))
    (λ i part other a b. one_brought readings i (slice_get readings i) part other (h.each i part a) (all_bring readings i other b)) in
    h.joined ∙ ap (flat_map (λ part. part)) same ∙ sym (parts_joined [] readings)
