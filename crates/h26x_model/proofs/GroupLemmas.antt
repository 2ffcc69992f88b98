-- Entries are groups and a rest in one way, and `split` finds it.
use Rattle.std.proofs.Common.{◌≡◌, true, false, cond, List, [], ◌∷◌, ◌++◌, refl, sym, ap, ◌∙◌, subst}
use Rattle.std.proofs.Math.Seq.{append_snoc}
use Rattle.std.proofs.lemmas.List.{append-nil}
use Rattle.h26x_model.specs.Payload.Format.{Format}
use Rattle.h26x_model.specs.Send.Group.{Entry, Group, completes_group, split_from, with_group, split, CompletesNoGroup, AreGroups}

-- after a front, none of these entries completes a group
IsOpenAfter : Format → List Entry → List Entry → Type 0
IsOpenAfter f front [] = Unit {0}
IsOpenAfter f front (e ∷ entries) = (completes_group f front e ≡ false) × IsOpenAfter f (front ++ e ∷ []) entries

-- so none at any place among them does
open_each : (f : Format) (front entries before after : List Entry) (e : Entry) → IsOpenAfter f front entries → entries ≡ before ++ e ∷ after →
    completes_group f (front ++ before) e ≡ false
unfolding IsOpenAfter
open_each f front [] [] after e h same = absurd cc
open_each f front [] (b ∷ before) after e h same = absurd cc
open_each f front (d ∷ entries) [] after e h same = let here : d ≡ e = cc in rw (append-nil front, ← here) h.0
open_each f front (d ∷ entries) (b ∷ before) after e h same =
    let here : d ≡ b = cc in let later : entries ≡ before ++ e ∷ after = cc in
    rw (← append_snoc front b before, ← here) (open_each f (front ++ d ∷ []) entries before after e h.1 later)

-- and where none at any place does, none of them completes a group
open_from : (f : Format) (front entries : List Entry) →
    ((before after : List Entry) (e : Entry) → entries ≡ before ++ e ∷ after → completes_group f (front ++ before) e ≡ false) → IsOpenAfter f front entries
unfolding IsOpenAfter
open_from f front [] h = tt
open_from f front (e ∷ entries) h = (
  rw append-nil at (h [] entries e refl),
  open_from f (front ++ e ∷ []) entries
      (λ before after d same. rw (append_snoc front e before) (h (e ∷ before) after d (ap (λ (x : List Entry). e ∷ x) same))),
)

-- an entry that completes no group may be added at the end
open-push : (f : Format) (front entries : List Entry) (e : Entry) → IsOpenAfter f front entries → completes_group f (front ++ entries) e ≡ false →
    IsOpenAfter f front (entries ++ e ∷ [])
unfolding IsOpenAfter
open-push f front [] e h never = (rw append-nil at never, tt)
open-push f front (d ∷ entries) e h never = (h.0, open-push f (front ++ d ∷ []) entries e h.1 (rw (append_snoc front d entries) never))

-- entries that complete no group from the beginning on have no group as a front
is_open : (f : Format) (entries : List Entry) → IsOpenAfter f [] entries → CompletesNoGroup f entries
is_open f entries h before after e same = open_each f [] entries before after e h same

-- a front that holds no group, and entries: they are the groups and the rest that are computed after this front
groups-from : (f : Format) (front entries : List Entry) → IsOpenAfter f [] front →
    AreGroups f (front ++ entries) (split_from f front entries).groups (split_from f front entries).rest
unfolding IsOpenAfter
groups-from f front [] h = (append-nil front, is_open f front h)
groups-from f front (e ∷ entries) h =
    let done_split = with_group (record { front = front; last = e }) (split_from f [] entries) in
    let next_split = split_from f (front ++ e ∷ []) entries in
    elim (completes_group f front e) as (λ b. completes_group f front e ≡ b →
    AreGroups f (front ++ e ∷ entries) (cond b done_split next_split).groups (cond b done_split next_split).rest) [
      | true ↦ λ done. (entries, refl, is_open f front h, done, groups-from f [] entries tt)
      | false ↦ λ never. subst (λ (x : List Entry). AreGroups f x next_split.groups next_split.rest) (append_snoc front e entries)
          (groups-from f (front ++ e ∷ []) entries (open-push f [] front e h never))
    ] refl

-- the entries are the groups that are computed, and their rest
pub split_is : (f : Format) (entries : List Entry) → AreGroups f entries (split f entries).groups (split f entries).rest
unfolding IsOpenAfter
split_is f entries = groups-from f [] entries tt

-- entries that complete no group only lengthen the front
split-open : (f : Format) (front xs ys : List Entry) → IsOpenAfter f front xs → split_from f front (xs ++ ys) ≡ split_from f (front ++ xs) ys
unfolding IsOpenAfter
split-open f front [] ys h = rw append-nil refl
split-open f front (x ∷ xs) ys h =
    rw h.0 (split-open f (front ++ x ∷ []) xs ys h.1 ∙ ap (λ (z : List Entry). split_from f z ys) (append_snoc front x xs))

-- they are no others
pub only_groups : (f : Format) (entries : List Entry) (groups : List Group) (rest : List Entry) → AreGroups f entries groups rest →
    split f entries ≡ record { groups = groups; rest = rest }
only_groups f entries [] rest (same, opened) =
    ap (split f) (same ∙ sym (append-nil rest)) ∙ split-open f [] rest [] (open_from f [] rest opened)
only_groups f entries (g ∷ groups) rest (later, same, opened, done, others) =
    ap (split f) same ∙ split-open f [] g.front (g.last ∷ later) (open_from f [] g.front opened)
    ∙ rw done (ap (with_group g) (only_groups f later groups rest others))
