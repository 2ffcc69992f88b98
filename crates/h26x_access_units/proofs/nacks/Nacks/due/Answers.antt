use Rattle.std.proofs.Common.{rules, ◌≡◌, ◌∙◌, ◌≤◌, ◌<◌, ◌+◌, ◌-◌, ◌∷◌, ◌++◌, [], ℕ, true, false, List, length, take, drop, get_or, subst, sym, ap, refl, ◌⊎◌, inl, inr, arith}
use Rattle.std.proofs.lemmas.List.{at_drop_all}
use Rattle.h26x_access_units.specs.declared.nacks.Nack.{Nack}
use Rattle.h26x_access_units.specs.Nacks.{from_number, nack_of, nacks_now, is_nack_due, numbers_due, asked_at, nacks_asked}
use Rattle.h26x_access_units.proofs.NackLemmas.{AreSoFar, one_more, left_so, asked_so, none_come}
use Rattle.h26x_access_units.proofs.nacks.Nacks.due.Goals as goal
use Rattle.h26x_access_units.proofs.nacks.Nacks.due.Goals.{then-len-most+then-is_due+in_ok-push, else-len-most, else-len-most-via-then-len-most+else-is_due, else-len-most-via-else-len-most}

pub loop-place-preserved : goal.loop-place-preserved
loop-place-preserved c =
    let missing = c.args.missing.now in
    let place = c.loop-place.place in
    let now = c.args.now in
    let before = drop c.loop-place.from c.self.inside.known.items in
    let behind = drop c.place_from-from.result c.self.inside.known.items in
    let number = get_or missing place 0 in
    let n = c.nack_at-nack.result in
    let rest = nacks_now now behind (drop (place + 1) missing) in
    let all = nacks_now now c.self.inside.known.items missing in
    let in_range : place < length missing = omega arith in
    let from : behind ≡ from_number number before = search rules in
    let nack : n ≡ nack_of now number behind = search rules in
    let within : c.place_from-from.result ≤ length c.self.inside.known.items = search rules in
    let so_far = subst (λ (l : List Nack). AreSoFar c.args.times now c.args.most all l c.loop-place.known.items c.loop-place.numbers.items (c.args.most - length c.loop-place.numbers.items))
    (one_more now number place missing before behind 0 in_range refl from ∙ ap (λ (k : Nack). k ∷ rest) (sym nack)) c.loop-place.invariant.1 in
    let pushed : c.push-in-loop-place.new.self.items ≡ c.loop-place.known.items ++ c.if-len-most.nack ∷ [] = search rules in (
      within,
      elim c.if-len-most.branch [
        | then-len-most+then-is_due+in_ok-push w ↦
            let due : is_nack_due c.args.times now n ≡ true = search rules in
            let asked : c.if-len-most.nack ≡ asked_at now n = search rules in
            let more : c.if-len-most.numbers.items ≡ c.loop-place.numbers.items ++ n.number ∷ [] = search rules in
            let some : length c.loop-place.numbers.items < c.args.most = search rules in
            asked_so c.args.times now c.args.most all rest c.loop-place.known.items c.push-in-loop-place.new.self.items c.loop-place.numbers.items c.if-len-most.numbers.items n due some
            (pushed ∙ ap (λ (k : Nack). c.loop-place.known.items ++ k ∷ []) asked) more so_far
        | else-len-most w ↦
            let left : c.if-len-most.nack ≡ n = search rules in
            let same : c.loop-place.numbers.items ≡ c.if-len-most.numbers.items = search rules in
            let why : (is_nack_due c.args.times now n ≡ false) ⊎ (c.args.most ≤ length c.loop-place.numbers.items) = elim w.else-len-most.branch [
              | else-len-most-via-then-len-most+else-is_due v ↦ inl (search rules)
              | else-len-most-via-else-len-most v ↦ inr (search rules)
            ] in
            subst (λ (l : List ℕ). AreSoFar c.args.times now c.args.most all rest c.push-in-loop-place.new.self.items l (c.args.most - length l)) same
            (left_so c.args.times now c.args.most all rest c.loop-place.known.items c.push-in-loop-place.new.self.items c.loop-place.numbers.items n why
            (pushed ∙ ap (λ (k : Nack). c.loop-place.known.items ++ k ∷ []) left) so_far)
      ],
    )

pub returns : goal.returns
returns c =
    let missing = c.args.missing.now in
    let past : length missing ≤ c.loop-place.place = c.loop-place-test.false in
    let before = drop c.loop-place.from c.self.inside.known.items in
    let all = nacks_now c.args.now c.self.inside.known.items missing in
    let none = at_drop_all (nacks_now c.args.now before) missing c.loop-place.place past in
    let (known, numbers) = none_come c.args.times c.args.now c.args.most all c.loop-place.known.items c.loop-place.numbers.items (c.args.most - length c.loop-place.numbers.items)
    (subst (λ (l : List Nack). AreSoFar c.args.times c.args.now c.args.most all l c.loop-place.known.items c.loop-place.numbers.items (c.args.most - length c.loop-place.numbers.items)) none c.loop-place.invariant.1) in
    record {
      numbers = numbers ∙ ap (λ (k : List Nack). take c.args.most (numbers_due c.args.times c.args.now (nacks_now c.args.now k missing))) c.self.view_is;
      after = known ∙ ap (λ (k : List Nack). nacks_asked c.args.times c.args.now c.args.most (nacks_now c.args.now k missing)) c.self.view_is;
      kept = tt;
      memory = tt;
    }
