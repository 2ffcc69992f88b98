-- Transmissions go on from packet to packet and from call to call. The laws that this stands on
-- come as arguments.
use Rattle.std.proofs.Common.{◌≡◌, ℕ, ◌+◌, ◌<◌, ◌≤◌, Bool, true, false, cond, List, [], ◌∷◌, ◌++◌, length, map, take, drop, get_or, Option, None, Some, Result, Ok, Err, refl, sym, ap, ◌∙◌, inl, inr, subst, append_assoc, Vec, Global}
use Rattle.std.specs.Prelude.{IfOk, IfErr, ◌⊎◌, slice_get}
use Rattle.std.specs.Option.{option_map, option_map_or}
use Rattle.std.specs.List.{flat_map, AllByRecursion}
use Rattle.std.proofs.lemmas.List.{append-nil, take_all, take-append-drop, drop_more}
use Rattle.std.proofs.lemmas.List.Concat.{flat_map-append}
use Rattle.std.proofs.lemmas.Option.{slice_get-map, slice_get_read}
use Rattle.std.proofs.lemmas.Grind.{take_at_read}
use Rattle.h26x_core.specs.declared.extra.CodecExtra.{CodecExtra}
use Rattle.h26x_core.specs.declared.extra.CodecExtra.TheVariants as extras
use Rattle.h26x_core.specs.declared.error.PacketError.{PacketError}
use Rattle.h26x_core.specs.declared.error.PacketError.TheVariants.{OutOfMemory}
use Rattle.h26x_core.specs.Front.{IsFrontOf}
use Rattle.h26x_model.specs.Payload.Reading.{Reading, Single, Aggregate, Fragment, Paci, Refused, IsRead}
use Rattle.h26x_model.specs.Receive.Outcome.{IsReadingOutcome}
use Rattle.h26x_model.specs.Payload.Format.{Format}
use Rattle.h26x_model.specs.Send.Group.{Entry}
use Rattle.h26x_model.specs.Send.Calls.{Call, AreCalls, call_entries, all_entries}
use Rattle.h26x_model.specs.Carry.Loss.{keep}
use Rattle.h26x_model.specs.Payload.Facts.{AreCarried}
use Rattle.h26x_model.specs.Send.Rival.{TakesFewestFragments}
use Rattle.h26x_core.specs.ByteStream.{byte_stream}
use Rattle.h26x_model.specs.Payload.Extra.{extra_after, first_extra}
use Rattle.h26x_model.specs.Send.Plan.{item_units, plan, units_sent}
use Rattle.h26x_model.specs.Send.WaitingSets.{WaitingSets, no_waiting_sets, plan_with_waiting}
use Rattle.h26x_model.specs.Send.Packets.{plan_packets}
use Rattle.h26x_model.specs.Send.PacketizerState.{PacketizerState, state_plan, state_units, state_packets, after_entries, has_no_effect, AreWithinLimits, next_call}
use Rattle.h26x_model.specs.Receive.DepacketizerState.{DepacketizerState, Depacketization, units_brought, after_packets, IsPacketOutcome, IsRefusalCause, depacketization, AreWritten}
use Rattle.h26x_model.specs.Carry.Laws.{PacketizerGoesOn, DepacketizerGoesOn, CarriesWhole}
use Rattle.h26x_transmission.specs.Transmissions.{made_entries, made_units, AreMade, AreSent, IsSentCall, AreTaken, IsLeftOver, IsUnbegun, IsStoppedIn, IsStopped, IsFresh, AreCarriedWhole, next_calls}

-- a beginning of a beginning is one of the whole
pub still_front : (a b whole : List ℕ) → IsFrontOf a b → IsFrontOf b whole → IsFrontOf a whole
still_front a b whole (x, is) (y, more) = (x ++ y, more ∙ ap (λ (l : List ℕ). l ++ y) is ∙ append_assoc a x y)

-- what a depacketizer works on names the depacketizer, what was written, and what is told
pub record AreParts (o : Option DepacketizerState) (out : List ℕ) (extra : CodecExtra) (w : Depacketization) : Type 0 where
  pub is_state : o ≡ Some w.state
  pub is_out : out ≡ w.out
  pub is_extra : extra ≡ w.extra

-- so it does
pub work_parts : (o : Option DepacketizerState) (out : List ℕ) (extra : CodecExtra) (w : Depacketization) → option_map (λ r. depacketization r out extra) o ≡ Some w → AreParts o out extra w
work_parts None out extra w is = absurd cc
work_parts (Some r) out extra w is = record {
  is_state = ap Some (ap (λ (x : Option Depacketization). option_map_or (λ y. y.state) x r) is);
  is_out = ap (λ (x : Option Depacketization). option_map_or (λ y. y.out) x out) is;
  is_extra = ap (λ (x : Option Depacketization). option_map_or (λ y. y.extra) x extra) is;
}

-- a depacketizer that is left as it was, with what was written and told
pub same_work : (o new : Option DepacketizerState) (out new_out : List ℕ) (extra new_extra : CodecExtra) → new ≡ o → new_out ≡ out → new_extra ≡ extra →
    option_map (λ r. depacketization r new_out new_extra) new ≡ option_map (λ r. depacketization r out extra) o
same_work o new out new_out extra new_extra same written told = rw (same, written, told) refl

-- one packet more is taken
pub one_more : (w : Depacketization) (packets : List (List ℕ)) (i : ℕ) (new : Option Depacketization) → DepacketizerGoesOn w → i < length packets →
    new ≡ Some (after_packets (after_packets w (take i packets)) (get_or packets i [] ∷ [])) → new ≡ Some (after_packets w (take (i + 1) packets))
one_more w packets i new law within taken =
    taken ∙ ap Some (law.more (take i packets) (get_or packets i [] ∷ []) ∙ ap (after_packets w) (sym (take_at_read packets i [] within).1))

-- what is accepted is not refused for what it is
accepted_read : (avc : Bool) (run : Option (List ℕ)) (reading : Reading) → IsReadingOutcome avc run reading (Ok tt) → IsRead reading
accepted_read avc run (Refused e) is = absurd cc
accepted_read avc run (Single unit don) is = tt
accepted_read avc run (Aggregate units) is = tt
accepted_read avc run (Fragment start end head don body) is = tt
accepted_read avc run (Paci head fields extension body) is = tt

-- what holds of each holds with one more
all_with : {A : Type 0} (P : A → Type 0) (xs : List A) (x : A) → AllByRecursion P xs → P x → AllByRecursion P (xs ++ x ∷ [])
all_with P [] x each here = (here, tt)
all_with P (y ∷ xs) x (first, each) here = (first, all_with P xs x each here)

-- nor is one packet more
pub read_more : (w : Depacketization) (packets : List (List ℕ)) (i : ℕ) → i < length packets →
    AllByRecursion (λ packet. IsRead (w.state.format.read packet)) (take i packets) → IsPacketOutcome (after_packets w (take i packets)) (get_or packets i []) (Ok tt) →
    AllByRecursion (λ packet. IsRead (w.state.format.read packet)) (take (i + 1) packets)
read_more w packets i within so_far outcome =
    let packet = get_or packets i [] in
    rw ((take_at_read packets i [] within).1) (all_with (λ p. IsRead (w.state.format.read p)) (take i packets) packet so_far (accepted_read w.state.is_avc (after_packets w (take i packets)).state.run (w.state.format.read packet) outcome))

-- all packets were taken where the last of them was
pub finished : (w : Depacketization) (packets : List (List ℕ)) (i : ℕ) (new : Option Depacketization) → length packets ≤ i → new ≡ Some (after_packets w (take i packets)) →
    new ≡ Some (after_packets w packets)
finished w packets i new past is = is ∙ ap (λ (x : List (List ℕ)). Some (after_packets w x)) (take_all i packets past)

-- where one is refused those before it were taken, and it is left
pub stopped : (w : Depacketization) (packets : List (List ℕ)) (i : ℕ) (e : PacketError) (new : Option Depacketization) →
    i < length packets → new ≡ Some (after_packets w (take i packets)) → AllByRecursion (λ packet. IsRead (w.state.format.read packet)) (take i packets) →
    IsPacketOutcome (after_packets w (take i packets)) (get_or packets i []) (Err e) → IsLeftOver w packets e new
stopped w packets i e new within left read outcome = record {
  taken = take i packets;
  left = drop i packets;
  front = sym (take-append-drop i packets);
  work = left;
  read = read;
  unfinished = λ none. let more = drop_more packets i [] within in cc;
  cause = inr (get_or packets i [], drop (i + 1) packets, drop_more packets i [] within, outcome);
}

-- a list that gives none has none
pub none_mapped : {A B : Type 0} (f : A → B) (xs : List A) → map f xs ≡ [] → length xs ≡ 0
none_mapped f [] is = refl
none_mapped f (x ∷ xs) is = absurd cc

-- where memory lacks before the first none is taken
pub none_taken : (w : Depacketization) (packets : List (List ℕ)) (new : Option Depacketization) → DepacketizerGoesOn w → new ≡ Some w → (packets ≡ [] → ⊥) → IsLeftOver w packets OutOfMemory new
none_taken w packets new law is unfinished = record {
  taken = [];
  left = packets;
  front = refl;
  work = is ∙ ap Some (sym law.none);
  read = tt;
  unfinished = unfinished;
  cause = inl refl;
}

-- a call more that is marked
kept_more : {A : Type 0} (mask : List Bool) (xs : List A) (m : Bool) (x : A) → slice_get xs (length mask) ≡ Some x →
    keep (mask ++ m ∷ []) xs ≡ keep mask xs ++ cond m (x ∷ []) []
kept_more mask [] m x is = absurd cc
kept_more [] (y ∷ xs) true x is =
    let same : y ≡ x = let both : Some y ≡ Some x = is in cc in
    ap (λ z. z ∷ []) same
kept_more [] (y ∷ xs) false x is = refl
kept_more (true ∷ mask) (y ∷ xs) m x is = ap (λ ys. y ∷ ys) (kept_more mask xs m x is)
kept_more (false ∷ mask) (y ∷ xs) m x is = kept_more mask xs m x is

-- the mark of a call without effect
made_more : (f : Format) (made : List Bool) (calls : List Call) (m : Bool) (call : Call) → slice_get calls (length made) ≡ Some call → AreMade f made calls →
    (has_no_effect f call ≡ true → m ≡ true) → AreMade f (made ++ m ∷ []) calls
made_more f made [] m call is are here = absurd cc
made_more f [] (first ∷ calls) m call is are here =
    let same : first ≡ call = let both : Some first ≡ Some call = is in cc in
    (rw same here, tt)
made_more f (x ∷ made) (first ∷ calls) m call is are here = (are.0, made_more f made calls m call is are.1 here)

-- the entries with those of a call that was made
entries_more : (f : Format) (made : List Bool) (calls : List Call) (call : Call) → slice_get calls (length made) ≡ Some call →
    made_entries f (made ++ true ∷ []) calls ≡ made_entries f made calls ++ call_entries f call
entries_more f made calls call is =
    ap (all_entries f) (kept_more made calls true call is)
    ∙ flat_map-append (call_entries f) (keep made calls) (call ∷ [])
    ∙ ap (λ (x : List Entry). made_entries f made calls ++ x) (append-nil (call_entries f call))

-- the entries with a call that was not made
entries_same : (f : Format) (made : List Bool) (calls : List Call) (call : Call) → slice_get calls (length made) ≡ Some call →
    made_entries f (made ++ false ∷ []) calls ≡ made_entries f made calls
entries_same f made calls call is = ap (all_entries f) (kept_more made calls false call is ∙ append-nil (keep made calls))

-- the call at a place, of calls as a run is given them
pub call_made_next : (s : PacketizerState) (calls : List (ℕ × Vec ℕ Global)) (made : List Bool) (i : ℕ) (x : ℕ × Vec ℕ Global) (call : Call) →
    i < length calls → length made ≡ i → x ≡ get_or calls i x → next_call s x.0 x.1.items ≡ call → slice_get (next_calls s calls) (length made) ≡ Some call
call_made_next s calls made i x call within at is same =
    let as_call = λ (c : ℕ × Vec ℕ Global). next_call s c.0 c.1.items in
    ap (slice_get (next_calls s calls)) at ∙ slice_get-map as_call calls i ∙ ap (option_map as_call) (slice_get_read calls (length calls) i x refl within is) ∙ ap Some same

-- a call more
pub sent_more : (s : PacketizerState) (calls : List Call) (made : List Bool) (m : Bool) (call : Call) (packets new : List (List ℕ)) (before sender : Option PacketizerState) →
    PacketizerGoesOn s → slice_get calls (length made) ≡ Some call → AreSent s calls made packets before →
    IsSentCall (after_entries s (made_entries s.format made calls)) call (Ok m) packets new sender →
    AreSent s calls (made ++ m ∷ []) new sender
sent_more s calls made true call packets new before sender goes next are (more_packets, stands) =
    let es = made_entries s.format made calls in
    let more : made_entries s.format (made ++ true ∷ []) calls ≡ es ++ call_entries s.format call = entries_more s.format made calls call next in
    record {
      marks = made_more s.format made calls true call next are.marks (λ none. refl);
      packets_are = more_packets ∙ ap (λ (x : List (List ℕ)). x ++ state_packets (after_entries s es) (call_entries s.format call)) are.packets_are
          ∙ sym (goes.packets es (call_entries s.format call)) ∙ ap (state_packets s) (sym more);
      stands = stands ∙ ap Some (sym (goes.later es (call_entries s.format call)) ∙ ap (after_entries s) (sym more));
    }
sent_more s calls made false call packets new before sender goes next are (effect, same_packets, stands) =
    let same = entries_same s.format made calls call next in
    record {
      marks = made_more s.format made calls false call next are.marks (λ none. absurd cc);
      packets_are = same_packets ∙ are.packets_are ∙ ap (state_packets s) (sym same);
      stands = stands ∙ ap (λ (x : List Entry). Some (after_entries s x)) (sym same);
    }

-- packets more that were taken
pub taken_more : (w : Depacketization) (packets new : List (List ℕ)) (work : Option Depacketization) → DepacketizerGoesOn w →
    AreTaken (after_packets w packets) packets new work → work ≡ Some (after_packets w new)
taken_more w packets new work takes (more, is, taken) =
    taken ∙ ap Some (takes.more packets more) ∙ ap (λ (x : List (List ℕ)). Some (after_packets w x)) (sym is)

-- a call one of whose packets is left
pub transmission_stopped : (s : PacketizerState) (w : Depacketization) (calls : List Call) (made : List Bool) (call : Call) (packets : List (List ℕ)) (e : PacketError) (before sender : Option PacketizerState) (work : Option Depacketization) →
    PacketizerGoesOn s → slice_get calls (length made) ≡ Some call → AreSent s calls made packets before →
    sender ≡ Some (after_entries (after_entries s (made_entries s.format made calls)) (call_entries s.format call)) →
    IsLeftOver (after_packets w packets) (state_packets (after_entries s (made_entries s.format made calls)) (call_entries s.format call)) e work →
    IsStoppedIn s w calls e sender work
transmission_stopped s w calls made call packets e before sender work goes next are stands over =
    let es = made_entries s.format made calls in
    let more : made_entries s.format (made ++ true ∷ []) calls ≡ es ++ call_entries s.format call = entries_more s.format made calls call next in
    record {
      made = made;
      call = call;
      marks = are.marks;
      place = next;
      stands = stands ∙ ap Some (sym (goes.later es (call_entries s.format call)) ∙ ap (after_entries s) (sym more));
      over = subst (λ (x : List (List ℕ)). IsLeftOver (after_packets w x) (state_packets (after_entries s es) (call_entries s.format call)) e work) are.packets_are over;
    }

-- what follows of an answer that is no refusal
pub if_ok : {T E : Type 0} {P Q : T → Type 0} (r : Result T E) → ((x : T) → P x → Q x) → IfOk r P → IfOk r Q
if_ok (Ok x) f p = f x p
if_ok (Err e) f p = p

-- what follows of a refusal
pub if_err : {T E : Type 0} {P Q : E → Type 0} (r : Result T E) → ((x : E) → P x → Q x) → IfErr r P → IfErr r Q
if_err (Ok x) f p = p
if_err (Err e) f p = f e p

-- what follows of two facts of an answer that is no refusal
pub if_both : {T E : Type 0} {P Q R : T → Type 0} (r : Result T E) → ((x : T) → P x → Q x → R x) → IfOk r P → IfOk r Q → IfOk r R
if_both (Ok x) f p q = f x p q
if_both (Err e) f p q = p

-- what follows of three
pub if_three : {T E : Type 0} {P Q R S : T → Type 0} (r : Result T E) → ((x : T) → P x → Q x → R x → S x) → IfOk r P → IfOk r Q → IfOk r R → IfOk r S
if_three (Ok x) f p q t = f x p q t
if_three (Err e) f p q t = p

-- the calls of a packetizer bear its largest size
pub calls_small : (s : PacketizerState) → s.max_packet_size ≤ 65535 → (made : List Bool) (calls : List (ℕ × Vec ℕ Global)) → AreCalls (keep made (next_calls s calls))
calls_small s small [] calls = tt
calls_small s small (true ∷ made) [] = tt
calls_small s small (false ∷ made) [] = tt
calls_small s small (true ∷ made) (call ∷ calls) = (small, calls_small s small made calls)
calls_small s small (false ∷ made) (call ∷ calls) = calls_small s small made calls

-- what is written by packets that bring these units
pub written_of : (o : Option DepacketizerState) (new : List ℕ) (extra : CodecExtra) (w : Depacketization) (packets units : List (List ℕ)) →
    option_map (λ r. depacketization r new extra) o ≡ Some (after_packets w packets) → units_brought w.state packets ≡ units →
    AreWritten w units new extra
written_of o new extra w packets units is brings =
    let parts = work_parts o new extra (after_packets w packets) is in
    rw (← brings) (parts.is_out, parts.is_extra)

-- a run that stopped lacked memory where all it sent is carried
pub stopped_transmission : (s : PacketizerState) (w : Depacketization) (calls : List Call) (e : PacketError) (sender : Option PacketizerState) (work : Option Depacketization) → PacketizerGoesOn s → DepacketizerGoesOn w →
    ((made : List Bool) → w.state.format ≡ s.format → AreCarried s.format (made_units s made calls) → CarriesWhole s w (keep made calls)) →
    (IsUnbegun s w e sender work ⊎ IsStoppedIn s w calls e sender work) → IsStopped s w calls e sender work
stopped_transmission s w calls e sender work goes takes law (inl it) = inl it
stopped_transmission s w calls e sender work goes takes law (inr it) =
    let es = made_entries s.format it.made calls in
    let taken = it.over.taken in
    let left = it.over.left in
    let front : state_packets s (made_entries s.format (it.made ++ true ∷ []) calls) ≡ (state_packets s es ++ taken) ++ left =
    ap (state_packets s) (entries_more s.format it.made calls it.call it.place) ∙ goes.packets es (call_entries s.format it.call)
    ∙ ap (λ (x : List (List ℕ)). state_packets s es ++ x) it.over.front ∙ sym (append_assoc (state_packets s es) taken left) in
    let cause = subst (λ (x : Depacketization). IsRefusalCause x left e) (takes.more (state_packets s es) taken) it.over.cause in
    inr (it, λ same carried short. (law (it.made ++ true ∷ []) same carried).refused short (state_packets s es ++ taken) left e front cause)

-- what a fresh packetizer plans is the plan of all
pub fresh_plan : (s : PacketizerState) (entries : List Entry) → IsFresh s → plan s.format entries ≡ plan_with_waiting s.format no_waiting_sets entries → state_plan s entries ≡ plan s.format entries
fresh_plan s entries fresh planned_is = ap (λ (x : WaitingSets). plan_with_waiting s.format x entries) fresh.0 ∙ sym planned_is

-- so are its packets
pub fresh_packets : (s : PacketizerState) (entries : List Entry) → IsFresh s → plan s.format entries ≡ plan_with_waiting s.format no_waiting_sets entries →
    state_packets s entries ≡ plan_packets s.format 0 (plan s.format entries)
fresh_packets s entries fresh planned_is =
    ap (λ (n : ℕ). plan_packets s.format n (state_plan s entries)) fresh.1 ∙ ap (plan_packets s.format 0) (fresh_plan s entries fresh planned_is)

-- what a fresh pair is known by
pub record IsFreshPair (s : PacketizerState) (r : DepacketizerState) (extra : CodecExtra) : Type 0 where
  pub fresh : IsFresh s
  pub same : r.format ≡ s.format
  pub untold : extra ≡ extras.None

-- of a fresh pair, by the plan of all entries
pub of_fresh : (s : PacketizerState) (w : Depacketization) (calls : List Call) (made : List (List ℕ)) (out : List ℕ) (told : CodecExtra) →
    IsFreshPair s w.state w.extra → PacketizerGoesOn s → TakesFewestFragments s.format →
    plan s.format (all_entries s.format calls) ≡ plan_with_waiting s.format no_waiting_sets (all_entries s.format calls) →
    (AreCarried s.format (state_units s (all_entries s.format calls)) → CarriesWhole s w calls) →
    made ≡ state_packets s (all_entries s.format calls) →
    (AreCarried s.format (state_units s (all_entries s.format calls)) → AreWritten w (state_units s (all_entries s.format calls)) out told) →
    AreCarriedWhole s w calls made out told
of_fresh s w calls made out told pair goes fewest planned_is law is whole =
    let f = s.format in
    let entries = all_entries f calls in
    let units : units_sent f entries ≡ state_units s entries = ap (flat_map item_units) (sym (fresh_plan s entries pair.fresh planned_is)) in
    record {
      packets_are = is ∙ fresh_packets s entries pair.fresh planned_is;
      within = subst (AreWithinLimits s calls) (sym is) (goes.within calls);
      fewest = fewest;
      written = λ carried. (whole (subst (AreCarried f) units carried)).0 ∙ ap (λ (us : List (List ℕ)). w.out ++ byte_stream w.state.is_avc us) (sym units);
      tells = λ carried. (whole (subst (AreCarried f) units carried)).1
          ∙ ap (λ (g : Format). extra_after g w.extra (state_units s entries)) pair.same
          ∙ ap (λ (x : CodecExtra). extra_after f x (state_units s entries)) pair.untold
          ∙ (law (subst (AreCarried f) units carried)).told
          ∙ ap (first_extra f) (sym units);
    }
