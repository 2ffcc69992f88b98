-- What a buffer gives out by numbers is what it gives out by places.
use Rattle.std.proofs.Common.{◌≡◌, ℕ, ◌+◌, ◌-◌, ◌<◌, ◌≤◌, true, false, cond, List, [], ◌∷◌, ◌++◌, map, Some, None, refl, sym, ap, ◌∙◌, subst, arith, ◌⊎◌, ⊎_elim}
use Rattle.std.specs.Prelude.{◌==◌, ◌||◌, nat_lt, nat_le, max}
use Rattle.std.specs.List.{AllByRecursion}
use Rattle.std.proofs.lemmas.List.{map-append}
use Rattle.std.proofs.lemmas.Bool.Decides.{nat_tests}
use Rattle.h26x_core.specs.Sequence.{distance_ahead, next_sequence_number, is_late}
use Rattle.h26x_core.proofs.SequenceLemmas.{number_at, next_number}
use Rattle.h26x_reorder.specs.Reordering.{put, in_order, AreWithinWindow, AreJumpsShort, IsReordered, Buffer, given, kept_back, due_after, Step, released}
use Rattle.h26x_reorder.specs.ReorderBuffer.{BufferState, buffer_state, fresh_buffer, due_at, put_packet, after_push, last_number, may_go, ready_front, without_front, ready_packets, without_ready, reordered_from, reordered}
use Rattle.h26x_reorder.proofs.ReorderLemmas.{Up, put_before, put_again, put_behind, order_of, put_up, put_below, IsOut, split, below_more, late, taken, in_time, all_given}
use Rattle.h26x_reorder.proofs.BufferLemmas.{pushed_is}

-- each place is near the one before it, the first near the one that is due
abbrev IsChain : ℕ → List ℕ → Type 0
IsChain due [] = Unit {0}
IsChain due (p ∷ places) = (p < due + 16384) × IsChain (p + 1) places

-- one more than the last is at least what is due
due_grows : (due : ℕ) (held : List ℕ) → Up due held → due ≤ due_after due held
due_grows due [] up = omega arith
due_grows due (p ∷ held) up = let rest = due_grows (p + 1) held up.1 in omega (arith, up.0)

-- of places with one more
due_put : (due q : ℕ) (held : List ℕ) → due ≤ q → Up due held → due_after due (put q held) ≡ max (due_after due held) (q + 1)
due_put due q [] on up = omega arith
due_put due q (p ∷ held) on up =
    let rest = due_grows (p + 1) held up.1 in
    ⊎_elim
    (λ (b : q < p). ap (due_after due) (put_before q p held b) ∙ omega arith)
    (λ (h : (q ≡ p) ⊎ (p < q)). ⊎_elim
    (λ (same : q ≡ p). subst (λ (x : ℕ). due_after due (put x (p ∷ held)) ≡ max (due_after (p + 1) held) (x + 1)) (sym same) (ap (due_after due) (put_again p held) ∙ omega arith))
    (λ (a : p < q). ap (due_after due) (put_behind q p held a) ∙ due_put (p + 1) q held (omega arith) up.1)
    h)
    (order_of q p)

chain_put : (due q : ℕ) (held : List ℕ) → due ≤ q → q < due_after due held + 16384 → IsChain due held → IsChain due (put q held)
chain_put due q [] on near chain = (near, tt)
chain_put due q (p ∷ held) on near chain = ⊎_elim
    (λ (b : q < p). subst (IsChain due) (sym (put_before q p held b)) (omega (arith, chain.0), (omega (arith, chain.0), chain.1)))
    (λ (h : (q ≡ p) ⊎ (p < q)). ⊎_elim
    (λ (same : q ≡ p). subst (λ (x : ℕ). IsChain due (put x (p ∷ held))) (sym same) (subst (IsChain due) (sym (put_again p held)) chain))
    (λ (a : p < q). subst (IsChain due) (sym (put_behind q p held a)) (chain.0, chain_put (p + 1) q held (omega arith) near chain.1))
    h)
    (order_of q p)

-- a buffer all of whose packets that may go are gone
record IsSettled (window : ℕ) (b : Buffer) : Type 0 where
  up : Up b.due b.held
  below : AllByRecursion (λ p. p < b.newest) b.held
  newest : b.newest ≡ due_after b.due b.held
  gone : given window b.newest b.due b.held ≡ []
  chain : IsChain b.due b.held

-- what stays when the front is gone
record IsKept (window newest due : ℕ) (held front kept : List ℕ) : Type 0 where
  up : Up (due_after due front) kept
  below : AllByRecursion (λ p. p < newest) kept
  same : due_after (due_after due front) kept ≡ due_after due held
  gone : given window newest (due_after due front) kept ≡ []
  chain : IsChain (due_after due front) kept

keeps : (window newest due : ℕ) (held : List ℕ) → Up due held → AllByRecursion (λ p. p < newest) held → IsChain due held →
    IsKept window newest due held (given window newest due held) (kept_back window newest due held)
keeps window newest due [] up below chain = record { up = tt; below = tt; same = refl; gone = refl; chain = tt }
keeps window newest due (p ∷ held) up below chain =
    let g = given window newest (p + 1) held in
    let k = kept_back window newest (p + 1) held in
    let rest = keeps window newest (p + 1) held up.1 below.1 chain.1 in
    let next : IsKept window newest due (p ∷ held) (p ∷ g) k = record { up = rest.up; below = rest.below; same = rest.same; gone = rest.gone; chain = rest.chain } in
    elim (nat_le p due) as (λ b. nat_le p due ≡ b →
    IsKept window newest due (p ∷ held) (cond b (p ∷ g) (cond (nat_le (p + window) newest) (p ∷ g) [])) (cond b k (cond (nat_le (p + window) newest) k (p ∷ held)))) [
      | true ↦ λ e. next
      | false ↦ λ e. elim (nat_le (p + window) newest) as (λ b. nat_le (p + window) newest ≡ b →
          IsKept window newest due (p ∷ held) (cond b (p ∷ g) []) (cond b k (p ∷ held))) [
            | true ↦ λ h. next
            | false ↦ λ h. record { up = up; below = below; same = refl; gone = rw (e, h) refl; chain = chain }
          ] refl
    ] refl

-- so it is after each packet that comes in time
settles : (window : ℕ) (b : Buffer) (q : ℕ) → Up b.due b.held → AllByRecursion (λ p. p < b.newest) b.held → b.due ≤ q → max b.newest (q + 1) ≡ due_after b.due (put q b.held) →
    IsChain b.due (put q b.held) → IsSettled window (taken window b q).buffer
settles window b q up below on newest chain =
    let n = max b.newest (q + 1) in
    let k = keeps window n b.due (put q b.held) (put_up b.due q b.held on up) (put_below n q b.held (omega arith) (below_more b.newest n b.held (omega arith) below)) chain in
    record { up = k.up; below = k.below; newest = newest ∙ sym k.same; gone = k.gone; chain = k.chain }

-- where all that may go is gone, the first was sent less than a window before the newest
first_near : (window newest due p : ℕ) (held : List ℕ) → given window newest due (p ∷ held) ≡ [] → newest < p + window
first_near window newest due p held gone =
    elim (nat_le p due) as (λ b. cond b (p ∷ given window newest (p + 1) held) (cond (nat_le (p + window) newest) (p ∷ given window newest (p + 1) held) []) ≡ [] → newest < p + window) [
      | true ↦ λ h. absurd (let bad = h in cc)
      | false ↦ λ h. elim (nat_le (p + window) newest) as (λ b. nat_le (p + window) newest ≡ b → cond b (p ∷ given window newest (p + 1) held) [] ≡ [] → newest < p + window) [
        | true ↦ λ e i. absurd (let bad = i in cc)
        | false ↦ λ e i. grind (arith, nat_tests)
      ] refl h
    ] gone

-- so a place that is near the newest is near the one that is due, and the newest is
near_due : (window : ℕ) (b : Buffer) → 0 < window → window ≤ 16384 → IsSettled window b → b.newest + 16384 < b.due + 32768 + window
near_due window b some half is = by b.held is.newest is.gone is.chain
  where
    by : (held : List ℕ) → b.newest ≡ due_after b.due held → given window b.newest b.due held ≡ [] → IsChain b.due held → b.newest + 16384 < b.due + 32768 + window
    by [] newest gone chain = omega arith
    by (p ∷ held) newest gone chain = let n = first_near window b.newest b.due p held gone in omega (arith, chain.0)

module _ {A : Type 0} (first : ℕ) (payload : ℕ → A) where
  -- a packet of a place
  abbrev at : ℕ → ℕ × A
  at q = (number_at first q, payload q)

  -- a buffer by numbers
  abbrev by_numbers : ℕ → Buffer → BufferState A
  by_numbers window b = buffer_state window (Some (number_at first b.due)) (map at b.held)

  -- how far a number is ahead is how far its place is
  ahead_is : (due q : ℕ) → due ≤ q → q < due + 65536 → distance_ahead (number_at first due) (number_at first q) ≡ q - due
  ahead_is due q on near = omega arith

  -- places that are near have one number only where they are one
  one_number : (p q due : ℕ) → due ≤ p → p < due + 65536 → due ≤ q → q < due + 65536 → (number_at first p == number_at first q) ≡ (p == q)
  one_number p q due a b c d =
      let one : number_at first p ≡ number_at first q → p ≡ q = λ e. omega arith in
      let same : p ≡ q → number_at first p ≡ number_at first q = λ e. ap (number_at first) e in
      grind (arith, nat_tests)

  -- a packet put to others
  put_numbers : (due from newest q : ℕ) (held : List ℕ) → due ≤ from → Up from held → AllByRecursion (λ p. p < newest) held → newest ≤ due + 32768 → due ≤ q → q < due + 32768 →
      put_packet (number_at first due) (at q) (map at held) ≡ map at (put q held)
  put_numbers due from newest q [] low up below short on near = refl
  put_numbers due from newest q (p ∷ held) low up below short on near =
      let f : from ≤ p = up.0 in
      let n : p < newest = below.0 in
      let dq = ahead_is due q on (omega arith) in
      let dp = ahead_is due p (omega arith) (omega arith) in
      let lt : nat_lt (distance_ahead (number_at first due) (number_at first q)) (distance_ahead (number_at first due) (number_at first p)) ≡ nat_lt q p = rw (dq, dp) (grind (arith, nat_tests)) in
      let eq : (number_at first q == number_at first p) ≡ (q == p) = one_number q p due on (omega arith) (omega arith) (omega arith) in
      let rest = put_numbers due (p + 1) newest q held (omega arith) up.1 below.1 short on near in
      rw (lt, eq) (elim (nat_lt q p) as (λ b. cond b (at q ∷ at p ∷ map at held) (cond (q == p) (at p ∷ map at held) (at p ∷ put_packet (number_at first due) (at q) (map at held)))
      ≡ map at (cond b (q ∷ p ∷ held) (cond (q == p) (p ∷ held) (p ∷ put q held)))) [
        | true ↦ refl
        | false ↦ elim (q == p) as (λ b. cond b (at p ∷ map at held) (at p ∷ put_packet (number_at first due) (at q) (map at held)) ≡ map at (cond b (p ∷ held) (p ∷ put q held))) [
          | true ↦ refl
          | false ↦ ap (λ (l : List (ℕ × A)). at p ∷ l) rest
        ]
      ])

  -- the number of the last
  last_numbers : (p : ℕ) (held : List ℕ) → last_number (number_at first p) (map at held) ≡ number_at first (due_after (p + 1) held - 1)
  last_numbers p [] = ap (number_at first) (omega arith)
  last_numbers p (q ∷ held) = last_numbers q held

  -- whether a packet may go
  may_go_is : (window newest due p : ℕ) → due ≤ p → p < newest → newest ≤ due + 32768 →
      may_go window (number_at first (newest - 1)) (number_at first due) (number_at first p) ≡ (nat_le p due || nat_le (p + window) newest)
  may_go_is window newest due p on below short =
      let eq = one_number p due due on (omega arith) (omega arith) (omega arith) in
      let first_is : (p == due) ≡ nat_le p due = grind (arith, nat_tests) in
      let dp = ahead_is due p on (omega arith) in
      let dn = ahead_is due (newest - 1) (omega arith) (omega arith) in
      let le : nat_le (distance_ahead (number_at first due) (number_at first p) + window) (distance_ahead (number_at first due) (number_at first (newest - 1)) + 1) ≡ nat_le (p + window) newest
      = rw (dp, dn) (grind (arith, nat_tests)) in
      rw (eq, first_is, le) refl

  -- the front that may go, and the buffer without it
  ready_numbers : (window newest due : ℕ) (held : List ℕ) → Up due held → AllByRecursion (λ p. p < newest) held → newest ≤ due + 32768 →
      (ready_front window (number_at first (newest - 1)) (number_at first due) (map at held) ≡ map at (given window newest due held))
      × (without_front window (number_at first (newest - 1)) (number_at first due) (map at held)
      ≡ buffer_state window (Some (number_at first (due_after due (given window newest due held)))) (map at (kept_back window newest due held)))
  ready_numbers window newest due [] up below short = (refl, refl)
  ready_numbers window newest due (p ∷ held) up below short =
      let n = number_at first (newest - 1) in
      let on : due ≤ p = up.0 in
      let lt : p < newest = below.0 in
      let rest = ready_numbers window newest (p + 1) held up.1 below.1 (omega arith) in
      let g = given window newest (p + 1) held in
      let k = kept_back window newest (p + 1) held in
      let next = next_number first p in
      let may = may_go_is window newest due p on lt short in
      let ready : ready_front window n (next_sequence_number (number_at first p)) (map at held) ≡ map at g = rw next rest.0 in
      let without : without_front window n (next_sequence_number (number_at first p)) (map at held) ≡ buffer_state window (Some (number_at first (due_after (p + 1) g))) (map at k) = rw next rest.1 in (
        rw may (elim (nat_le p due) as (λ b. cond (b || nat_le (p + window) newest) (at p ∷ ready_front window n (next_sequence_number (number_at first p)) (map at held)) []
            ≡ map at (cond b (p ∷ g) (cond (nat_le (p + window) newest) (p ∷ g) []))) [
              | true ↦ ap (λ (l : List (ℕ × A)). at p ∷ l) ready
              | false ↦ elim (nat_le (p + window) newest) as (λ b. cond b (at p ∷ ready_front window n (next_sequence_number (number_at first p)) (map at held)) [] ≡ map at (cond b (p ∷ g) [])) [
                | true ↦ ap (λ (l : List (ℕ × A)). at p ∷ l) ready
                | false ↦ refl
              ]
            ]),
        rw may (elim (nat_le p due) as (λ b. cond (b || nat_le (p + window) newest) (without_front window n (next_sequence_number (number_at first p)) (map at held)) (buffer_state window (Some (number_at first due)) (at p ∷ map at held))
            ≡ buffer_state window (Some (number_at first (due_after due (cond b (p ∷ g) (cond (nat_le (p + window) newest) (p ∷ g) []))))) (map at (cond b k (cond (nat_le (p + window) newest) k (p ∷ held))))) [
              | true ↦ without
              | false ↦ elim (nat_le (p + window) newest) as (λ b. cond b (without_front window n (next_sequence_number (number_at first p)) (map at held)) (buffer_state window (Some (number_at first due)) (at p ∷ map at held))
                  ≡ buffer_state window (Some (number_at first (due_after due (cond b (p ∷ g) [])))) (map at (cond b k (p ∷ held)))) [
                    | true ↦ without
                    | false ↦ refl
                  ]
            ]),
      )

  -- so of a buffer
  goes_by_numbers : (window newest due : ℕ) (held : List ℕ) → newest ≡ due_after due held → Up due held → AllByRecursion (λ p. p < newest) held → newest ≤ due + 32768 →
      (ready_packets window (Some (number_at first due)) (map at held) ≡ map at (given window newest due held))
      × (without_ready window (Some (number_at first due)) (map at held)
      ≡ buffer_state window (Some (number_at first (due_after due (given window newest due held)))) (map at (kept_back window newest due held)))
  goes_by_numbers window newest due [] last up below short = (refl, refl)
  goes_by_numbers window newest due (p ∷ held) last up below short =
      let n : last_number (number_at first p) (map at held) ≡ number_at first (newest - 1) = last_numbers p held ∙ ap (λ (x : ℕ). number_at first (x - 1)) (sym last) in
      let r = ready_numbers window newest due (p ∷ held) up below short in (
        ap (λ (x : ℕ). ready_front window x (number_at first due) (map at (p ∷ held))) n ∙ r.0,
        ap (λ (x : ℕ). without_front window x (number_at first due) (map at (p ∷ held))) n ∙ r.1,
      )

  -- a packet that comes in time, of whatever buffer
  one_step : (window : ℕ) (old : BufferState A) (b : Buffer) (q : ℕ) (packets : List (ℕ × A)) → after_push old (at q) ≡ buffer_state window (Some (number_at first b.due)) (map at (put q b.held)) →
      Up b.due b.held → AllByRecursion (λ p. p < b.newest) b.held → b.due ≤ q → max b.newest (q + 1) ≡ due_after b.due (put q b.held) → max b.newest (q + 1) ≤ b.due + 32768 →
      reordered_from old (at q ∷ packets) ≡ map at (taken window b q).out ++ reordered_from (by_numbers window (taken window b q).buffer) packets
  one_step window old b q packets after up below on newest short =
      let n = max b.newest (q + 1) in
      let goes = goes_by_numbers window n b.due (put q b.held) newest (put_up b.due q b.held on up) (put_below n q b.held (omega arith) (below_more b.newest n b.held (omega arith) below)) short in
      ap (λ (s : BufferState A). ready_packets s.window s.due s.held ++ reordered_from (without_ready s.window s.due s.held) packets) after
      ∙ ap (λ (l : List (ℕ × A)). l ++ reordered_from (without_ready window (Some (number_at first b.due)) (map at (put q b.held))) packets) goes.0
      ∙ ap (λ (s : BufferState A). map at (taken window b q).out ++ reordered_from s packets) goes.1

  -- what is given out of packets as they come
  follows : (window : ℕ) (b : Buffer) (places : List ℕ) → 0 < window → window ≤ 16384 → IsSettled window b → AreWithinWindow window b.newest places → AreJumpsShort window b.newest places →
      reordered_from (by_numbers window b) (map at places) ≡ map at (released window b places)
  follows window b [] some half is within short = refl
  follows window b (q ∷ places) some half is within short =
      let near : b.newest < q + window + 1 = within.0 in
      let jump : q + window ≤ b.newest + 16384 = short.0 in
      let bound = near_due window b some half is in
      let small : b.due ≤ b.newest = subst (λ (n : ℕ). b.due ≤ n) (sym is.newest) (due_grows b.due b.held is.up) in
      elim (nat_lt q b.due) as (λ t. nat_lt q b.due ≡ t → reordered_from (by_numbers window b) (map at (q ∷ places)) ≡ map at (released window b (q ∷ places))) [
        | true ↦ λ e.
            let before : q < b.due = grind (arith, nat_tests) in
            let far : 32768 ≤ distance_ahead (number_at first b.due) (number_at first q) = omega arith in
            let behind : is_late (Some (number_at first b.due)) (number_at first q) ≡ true = grind (arith, nat_tests) in
            let same : after_push (by_numbers window b) (at q) ≡ by_numbers window b = rw behind refl in
            let goes = goes_by_numbers window b.newest b.due b.held is.newest is.up is.below (omega arith) in
            let kept : kept_back window b.newest b.due b.held ≡ b.held = ap (λ (l : List ℕ). l ++ kept_back window b.newest b.due b.held) (sym is.gone) ∙ split window b.newest b.due b.held in
            let n : max b.newest (q + 1) ≡ b.newest = omega arith in
            ap (λ (s : BufferState A). ready_packets s.window s.due s.held ++ reordered_from (without_ready s.window s.due s.held) (map at places)) same
            ∙ ap (λ (l : List (ℕ × A)). l ++ reordered_from (without_ready window (Some (number_at first b.due)) (map at b.held)) (map at places)) (goes.0 ∙ ap (map at) is.gone)
            ∙ ap (λ (s : BufferState A). reordered_from s (map at places)) (goes.1 ∙ ap (λ (l : List ℕ). buffer_state window (Some (number_at first (due_after b.due l))) (map at (kept_back window b.newest b.due b.held))) is.gone
            ∙ ap (λ (l : List ℕ). buffer_state window (Some (number_at first b.due)) (map at l)) kept)
            ∙ follows window b places some half is (subst (λ (m : ℕ). AreWithinWindow window m places) n within.1) (subst (λ (m : ℕ). AreJumpsShort window m places) n short.1)
            ∙ ap (λ (s : Step). map at (s.out ++ released window s.buffer places)) (sym (late window b q e))
        | false ↦ λ e.
            let on : b.due ≤ q = grind (arith, nat_tests) in
            let close : q < b.due + 32768 = omega arith in
            let in_half : distance_ahead (number_at first b.due) (number_at first q) < 32768 = rw (ahead_is b.due q on (omega arith)) (omega arith) in
            let after = pushed_is (by_numbers window b) (at q) in_half
            ∙ ap (λ (l : List (ℕ × A)). buffer_state window (Some (number_at first b.due)) l) (put_numbers b.due b.due b.newest q b.held (omega arith) is.up is.below (omega arith) on close) in
            let newest : max b.newest (q + 1) ≡ due_after b.due (put q b.held) = ap (λ (n : ℕ). max n (q + 1)) is.newest ∙ sym (due_put b.due q b.held on is.up) in
            let chain = chain_put b.due q b.held on (subst (λ (n : ℕ). q < n + 16384) is.newest (omega arith)) is.chain in
            let settled = settles window b q is.up is.below on newest chain in
            one_step window (by_numbers window b) b q (map at places) after is.up is.below on newest (omega arith)
            ∙ ap (λ (l : List (ℕ × A)). map at (taken window b q).out ++ l) (follows window (taken window b q).buffer places some half settled within.1 short.1)
            ∙ sym (map-append at (taken window b q).out (released window (taken window b q).buffer places))
            ∙ ap (λ (s : Step). map at (s.out ++ released window s.buffer places)) (sym (in_time window b q e))
      ] refl

  -- from the first packet on, where a window of places stands before it
  pub from_first : (window q : ℕ) (places : List ℕ) → 0 < window → window ≤ 16384 → window ≤ q → IsReordered window (q ∷ places) →
      reordered window (map at (q ∷ places)) ≡ map at (in_order (q ∷ places))
  from_first window q places some half high is =
      let due = q + 1 - window in
      let b : Buffer = record { due = due; newest = q + 1; held = [] } in
      let number : due_at window None (number_at first q) ≡ number_at first due = omega arith in
      let in_half : distance_ahead (due_at window None (number_at first q)) (number_at first q) < 32768 = rw number (rw (ahead_is due q (omega arith) (omega arith)) (omega arith)) in
      let after : after_push (fresh_buffer window) (at q) ≡ buffer_state window (Some (number_at first due)) (map at (put q [])) = pushed_is (fresh_buffer window) (at q) in_half
      ∙ ap (λ (d : ℕ). buffer_state window (Some d) (at q ∷ [])) number in
      let newest : max (q + 1) (q + 1) ≡ q + 1 = omega arith in
      let late_is : nat_lt q due ≡ false = grind (arith, nat_tests) in
      let settled = settles window b q tt tt (omega arith) newest (omega arith, tt) in
      let out : IsOut window (q + 1) due [] = record { absorbs = λ place rest before near. absurd (omega arith); passes = λ place rest behind. refl } in
      one_step window (fresh_buffer window) b q (map at places) after tt tt (omega arith) newest (omega arith)
      ∙ ap (λ (l : List (ℕ × A)). map at (taken window b q).out ++ l) (follows window (taken window b q).buffer places some half settled
      (subst (λ (m : ℕ). AreWithinWindow window m places) (sym newest) is.0) (subst (λ (m : ℕ). AreJumpsShort window m places) (sym newest) is.1))
      ∙ sym (map-append at (taken window b q).out (released window (taken window b q).buffer places))
      ∙ ap (λ (s : Step). map at (s.out ++ released window s.buffer places)) (sym (in_time window b q late_is))
      ∙ ap (map at) (sym (all_given window b [] (q ∷ places) out tt (omega arith) tt (omega arith, subst (λ (m : ℕ). AreWithinWindow window m places) (sym newest) is.0)))
