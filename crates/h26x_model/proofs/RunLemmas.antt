-- The open run that is computed is the one from the latest start on, with no end since.
use Rattle.std.proofs.Common.{◌≡◌, true, false, ℕ, List, [], ◌∷◌, ◌++◌, Option, Some, None, refl, sym, ap, ◌∙◌, append_assoc}
use Rattle.std.specs.Prelude.{reverse}
use Rattle.std.specs.List.{flat_map, AllByRecursion}
use Rattle.std.proofs.lemmas.List.{append-nil, reverse-append}
use Rattle.std.proofs.lemmas.List.Concat.{flat_map-append}
use Rattle.std.proofs.lemmas.Option.{same_Some}
use Rattle.h26x_model.specs.Payload.Reading.{Reading, Fragment, body_of, is_start, is_end}
use Rattle.h26x_model.specs.Receive.Received.{extended_run, open_run, IsOpenRun}

-- the data of readings, the latest of which stands first
bytes_of : List Reading → List ℕ
bytes_of since = flat_map body_of (reverse since)

-- the data of a later reading stand last
bytes-more : (r : Reading) (since : List Reading) → bytes_of (r ∷ since) ≡ bytes_of since ++ body_of r
unfolding bytes_of
bytes-more r since =
    ap (flat_map body_of) (reverse-append (r ∷ []) since) ∙ flat_map-append body_of (reverse since) (r ∷ [])
    ∙ ap (λ (x : List ℕ). flat_map body_of (reverse since) ++ x) (append-nil (body_of r))

-- after a start that is no end its data are the open run
start_open : (s : Reading) (before : List Reading) → is_start s ≡ true → is_end s ≡ false → open_run (s ∷ before) ≡ Some (body_of s ++ [])
start_open (Fragment true false head don body) before a b = ap Some (sym (append-nil body))
start_open s before a b = absurd cc

-- a reading that neither starts nor ends a run adds its data to the open one
more_open : (r : Reading) (earlier : List Reading) (run : List ℕ) → is_start r ≡ false → is_end r ≡ false → open_run earlier ≡ Some run →
    open_run (r ∷ earlier) ≡ Some (run ++ body_of r)
more_open (Fragment false false head don body) earlier run a b e = ap (λ x. extended_run false x body) e
more_open (Fragment start end head don body) earlier run a b e = absurd cc
more_open r earlier run a b e = e ∙ ap Some (sym (append-nil run))

-- from a start on, with neither start nor end since, the data of all are the open run
open_since : (since : List Reading) (s : Reading) (before : List Reading) → is_start s ≡ true → is_end s ≡ false →
    AllByRecursion (λ r. (is_start r ≡ false) × (is_end r ≡ false)) since →
    open_run (since ++ s ∷ before) ≡ Some (body_of s ++ bytes_of since)
unfolding bytes_of
open_since [] s before a b quiet = start_open s before a b
open_since (r ∷ since) s before a b (here, later) =
    more_open r (since ++ s ∷ before) (body_of s ++ bytes_of since) here.0 here.1 (open_since since s before a b later)
    ∙ ap Some (append_assoc (body_of s) (bytes_of since) (body_of r) ∙ ap (λ (x : List ℕ). body_of s ++ x) (sym (bytes-more r since)))

-- an open run is the one that is computed
pub open_run_is : (readings : List Reading) (run : List ℕ) → IsOpenRun readings run → open_run readings ≡ Some run
unfolding bytes_of
open_run_is readings run h = ap open_run h.whole ∙ open_since h.since h.start h.before h.starts.0 h.starts.1 h.quiet ∙ ap Some (sym h.bytes)

-- an open run and the data of a later reading, which neither starts nor ends one, are an open run
with_more : (r : Reading) (earlier : List Reading) (run : List ℕ) → is_start r ≡ false → is_end r ≡ false → IsOpenRun earlier run →
    IsOpenRun (r ∷ earlier) (run ++ body_of r)
unfolding bytes_of
with_more r earlier run a b h = record {
  since = r ∷ h.since;
  start = h.start;
  before = h.before;
  whole = ap (λ (x : List Reading). r ∷ x) h.whole;
  starts = h.starts;
  quiet = ((a, b), h.quiet);
  bytes = ap (λ (x : List ℕ). x ++ body_of r) h.bytes ∙ append_assoc (body_of h.start) (bytes_of h.since) (body_of r)
      ∙ ap (λ (x : List ℕ). body_of h.start ++ x) (sym (bytes-more r h.since));
}

-- an open run, by what it is equal to
same_bytes : {readings : List Reading} (run bytes : List ℕ) → run ≡ bytes → IsOpenRun readings run → IsOpenRun readings bytes
same_bytes run bytes e h = record {
  since = h.since;
  start = h.start;
  before = h.before;
  whole = h.whole;
  starts = h.starts;
  quiet = h.quiet;
  bytes = sym e ∙ h.bytes;
}

-- the data of a start that is no end are an open run
fresh : (head : List ℕ) (don : Option ℕ) (body : List ℕ) (earlier : List Reading) → IsOpenRun (Fragment true false head don body ∷ earlier) body
fresh head don body earlier = record {
  since = [];
  start = Fragment true false head don body;
  before = earlier;
  whole = refl;
  starts = (refl, refl);
  quiet = tt;
  bytes = sym (append-nil body);
}

-- the run that is computed is an open run
pub is_open_run : (readings : List Reading) (run : List ℕ) → open_run readings ≡ Some run → IsOpenRun readings run
is_open_run [] run e = absurd cc
is_open_run (Fragment start true head don body ∷ earlier) run e = absurd cc
is_open_run (Fragment true false head don body ∷ earlier) run e = same_bytes body run (same_Some body run e) (fresh head don body earlier)
is_open_run (Fragment false false head don body ∷ earlier) run e =
    elim (open_run earlier) as (λ o. open_run earlier ≡ o → extended_run false o body ≡ Some run →
    IsOpenRun (Fragment false false head don body ∷ earlier) run) [
      | None ↦ λ _ k. absurd cc
      | Some r ↦ λ h k. same_bytes (r ++ body) run (same_Some (r ++ body) run k)
          (with_more (Fragment false false head don body) earlier r refl refl (is_open_run earlier r h))
    ] refl e
is_open_run (r ∷ earlier) run e = same_bytes (run ++ []) run (append-nil run) (with_more r earlier run refl refl (is_open_run earlier run e))
