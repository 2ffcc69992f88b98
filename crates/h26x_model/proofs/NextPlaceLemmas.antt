-- What the next packet brings, by its place behind those before it.
use Rattle.std.proofs.Common.{◌≡◌, ℕ, zero, suc, ◌+◌, ◌<◌, ◌≤◌, true, false, List, [], ◌∷◌, ◌++◌, length, length-append, take, drop, get_or, slice_get}
use Rattle.std.proofs.Common.{Option, Some, None, inl, inr, refl, sym, ap, ◌∙◌, subst, arith}
use Rattle.std.specs.Option.{option_map_or}
use Rattle.std.specs.List.{flat_map}
use Rattle.std.proofs.lemmas.List.{append-nil, append_cancel_left, length-take-le, take_all, take_more, take-append-le}
use Rattle.std.proofs.lemmas.List.Concat.{flat_map-append}
use Rattle.std.proofs.lemmas.Option.{slice_get_within, slice_get-get_or}
use Rattle.h26x_model.specs.Payload.Reading.{Reading, Single, Aggregate, Fragment, Paci, Refused, is_start, is_end, head_of, body_of}
use Rattle.h26x_model.specs.Receive.Received.{reading_units, received}
use Rattle.h26x_model.specs.Receive.DepacketizerState.{run_after_readings}
use Rattle.h26x_model.specs.Receive.Run.{starts_at, ends_at, IsRun, run_unit, IsRunUnit, PlaceBrings, AreReceived}
use Rattle.h26x_model.proofs.PlaceLemmas.{are_received, only_received}
use Rattle.h26x_model.proofs.ReceiverLemmas.{after_is_from, units_from-append}

-- what stands at a place of a list stands there where the list goes on
get_front : {A : Type 0} (xs ys : List A) (i : ℕ) → i < length xs → slice_get (xs ++ ys) i ≡ slice_get xs i
get_front [] ys i within = absurd (omega arith)
get_front (x ∷ xs) ys zero within = refl
get_front (x ∷ xs) ys (suc i) within = get_front xs ys i (omega arith)

-- behind a list the next stands at its length
get_next : {A : Type 0} (xs : List A) (y : A) → slice_get (xs ++ y ∷ []) (length xs) ≡ Some y
get_next [] y = refl
get_next (x ∷ xs) y = get_next xs y

-- two lists are the same up to a place
record SameUpTo (xs ys : List Reading) (last : ℕ) : Type 0 where
  each : (place : ℕ) → place ≤ last → slice_get xs place ≡ slice_get ys place
  front : take (last + 1) xs ≡ take (last + 1) ys

-- a list that goes on is the same up to each place
same_front : (xs more : List Reading) (last : ℕ) → last < length xs → SameUpTo (xs ++ more) xs last
same_front xs more last within = record {
  each = λ place before. get_front xs more place (omega arith);
  front = take-append-le (last + 1) xs more (omega arith);
}

-- and the other way round
turned : {xs ys : List Reading} {last : ℕ} → SameUpTo xs ys last → SameUpTo ys xs last
turned h = record { each = λ place before. sym (h.each place before); front = sym h.front }

-- a run is one of each list that is the same up to its end
same_run : (xs ys : List Reading) (first last : ℕ) → SameUpTo xs ys last → IsRun xs first last → IsRun ys first last
same_run xs ys first last same h =
    let starts : (place : ℕ) → place ≤ last → starts_at ys place ≡ starts_at xs place =
    λ place before. ap (λ o. option_map_or is_start o false) (sym (same.each place before)) in
    let ends : (place : ℕ) → place ≤ last → ends_at ys place ≡ ends_at xs place =
    λ place before. ap (λ o. option_map_or is_end o false) (sym (same.each place before)) in
    record {
      ends = ends last (omega arith) ∙ h.ends;
      starts = starts first h.order ∙ h.starts;
      order = h.order;
      latest = λ place a b. starts place b ∙ h.latest place a b;
      unbroken = λ place a b. ends place (omega arith) ∙ h.unbroken place a b;
    }

-- it has the same unit
same_unit : (xs ys : List Reading) (first last : ℕ) → SameUpTo xs ys last → run_unit xs first last ≡ run_unit ys first last
same_unit xs ys first last same =
    ap (λ o. option_map_or head_of o [] ++ flat_map body_of (drop first (take (last + 1) xs))) (same.each last (omega arith))
    ∙ ap (λ (x : List Reading). option_map_or head_of (slice_get ys last) [] ++ flat_map body_of (drop first x)) same.front

-- an end names the same there
same_named : (xs ys : List Reading) (last : ℕ) (units : List (List ℕ)) → SameUpTo xs ys last → IsRunUnit xs last units → IsRunUnit ys last units
same_named xs ys last units same (inl (first, run, is)) =
    inl (first, same_run xs ys first last same run, is ∙ ap (λ (unit : List ℕ). unit ∷ []) (same_unit xs ys first last same))
same_named xs ys last units same (inr (none, is)) = inr ((λ first run. none first (same_run ys xs first last (turned same) run)), is)

-- so a place brings the same
same_brought : (xs ys : List Reading) (last : ℕ) (o : Option Reading) (units : List (List ℕ)) → SameUpTo xs ys last → PlaceBrings xs last o units → PlaceBrings ys last o units
same_brought xs ys last None units same h = h
same_brought xs ys last (Some (Single unit don)) units same h = h
same_brought xs ys last (Some (Aggregate pairs)) units same h = h
same_brought xs ys last (Some (Fragment start true head don body)) units same h = same_named xs ys last units same h
same_brought xs ys last (Some (Fragment start false head don body)) units same h = h
same_brought xs ys last (Some (Paci head fields extension body)) units same h = h
same_brought xs ys last (Some (Refused error)) units same h = h

-- the parts of a list are those of the list before its last reading, and one more
parts_before : (earlier : List Reading) (r : Reading) (units part : List (List ℕ)) (front : List (List (List ℕ))) →
    (h : AreReceived (earlier ++ r ∷ []) units) → h.parts ≡ front ++ part ∷ [] → length front ≡ length earlier →
    AreReceived earlier (flat_map (λ p. p) front)
parts_before earlier r units part front h whole long = record {
  parts = front;
  long = long;
  each = λ place p e.
      let there = slice_get_within front place p e in
      let within : place < length earlier = omega (arith, there, long) in
      same_brought (earlier ++ r ∷ []) earlier place (slice_get earlier place) p (same_front earlier (r ∷ []) place within)
      (subst (λ o. PlaceBrings (earlier ++ r ∷ []) place o p) (get_front earlier (r ∷ []) place within)
      (h.each place p (ap (λ (ps : List (List (List ℕ))). slice_get ps place) whole ∙ get_front front (part ∷ []) place there ∙ e)));
  joined = refl;
}

-- what the next reading brings where the run of those before it is open is what its place brings
pub next_brings : (earlier : List Reading) (r : Reading) → PlaceBrings (earlier ++ r ∷ []) (length earlier) (Some r) (reading_units (run_after_readings None earlier) r)
next_brings earlier r =
    let all = earlier ++ r ∷ [] in
    let n = length earlier in
    let h = are_received all in
    let front = take n h.parts in
    let part = get_or h.parts n [] in
    let units = reading_units (run_after_readings None earlier) r in
    let long : length h.parts ≡ n + 1 = h.long ∙ length-append earlier (r ∷ []) in
    let whole : h.parts ≡ front ++ part ∷ [] = sym (take_all (n + 1) h.parts (omega (arith, long))) ∙ take_more h.parts n [] (omega (arith, long)) in
    let before = only_received earlier (flat_map (λ p. p) front)
    (parts_before earlier r (received all) part front h whole (length-take-le n h.parts (omega (arith, long)))) in
    let joined : received all ≡ received earlier ++ (part ++ []) =
    h.joined ∙ ap (flat_map (λ p. p)) whole ∙ flat_map-append (λ p. p) front (part ∷ []) ∙ ap (λ (x : List (List ℕ)). x ++ (part ++ [])) before in
    let computed : received all ≡ received earlier ++ (units ++ []) =
    after_is_from [] all ∙ units_from-append None earlier (r ∷ []) ∙ ap (λ (x : List (List ℕ)). x ++ (units ++ [])) (sym (after_is_from [] earlier)) in
    let same : part ≡ units =
    sym (append-nil part) ∙ append_cancel_left (received earlier) (part ++ []) (units ++ []) (sym joined ∙ computed) ∙ append-nil units in
    subst (PlaceBrings all n (Some r)) same (subst (λ o. PlaceBrings all n o part) (get_next earlier r) (h.each n part (slice_get-get_or h.parts n [] (omega (arith, long)))))
