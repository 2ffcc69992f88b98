-- Where each packet comes within the window, what a buffer gives out is what came, in order.
use Rattle.std.proofs.Common.{◌≡◌, ℕ, ◌+◌, ◌<◌, ◌≤◌, Bool, true, false, cond, List, [], ◌∷◌, ◌++◌, refl, sym, ap, ◌∙◌, subst, append_assoc, arith, ◌⊎◌, inl, inr, ⊎_elim}
use Rattle.std.specs.Prelude.{◌==◌, ◌||◌, nat_lt, nat_le, max}
use Rattle.std.specs.List.{AllByRecursion, list_any}
use Rattle.std.proofs.lemmas.List.{append-nil}
use Rattle.std.proofs.lemmas.Bool.Decides.{nat_tests}
use Rattle.h26x_reorder.specs.Reordering.{put, puts, AreWithinWindow, Buffer, given, kept_back, due_after, Step, pushed, released}

-- places that go up, from one on
abbrev pub Up : ℕ → List ℕ → Type 0
Up from [] = Unit {0}
Up from (place ∷ places) = (from ≤ place) × Up (place + 1) places

-- a place put before a later one, at itself, and behind an earlier one
pub put_before : (place p : ℕ) (places : List ℕ) → place < p → put place (p ∷ places) ≡ place ∷ p ∷ places
put_before place p places before =
    let e : nat_lt place p ≡ true = grind (arith, nat_tests) in
    rw e refl

pub put_again : (p : ℕ) (places : List ℕ) → put p (p ∷ places) ≡ p ∷ places
put_again p places =
    let e : nat_lt p p ≡ false = grind (arith, nat_tests) in
    let s : (p == p) ≡ true = grind (arith, nat_tests) in
    rw (e, s) refl

pub put_behind : (place p : ℕ) (places : List ℕ) → p < place → put place (p ∷ places) ≡ p ∷ put place places
put_behind place p places behind =
    let e : nat_lt place p ≡ false = grind (arith, nat_tests) in
    let s : (place == p) ≡ false = grind (arith, nat_tests) in
    rw (e, s) refl

-- tests in another order
twice : (a b : Bool) → (a || (a || b)) ≡ (a || b)
twice true b = refl
twice false b = refl

swap : (a b c : Bool) → (a || (b || c)) ≡ (b || (a || c))
swap true true c = refl
swap true false c = refl
swap false b c = refl

regroup : (a b c : Bool) → (a || (b || c)) ≡ ((b || a) || c)
regroup true true c = refl
regroup true false c = refl
regroup false true c = refl
regroup false false c = refl

-- one of three
pub order_of : (a b : ℕ) → (a < b) ⊎ ((a ≡ b) ⊎ (b < a))
order_of a b = elim (nat_lt a b) as (λ t. nat_lt a b ≡ t → (a < b) ⊎ ((a ≡ b) ⊎ (b < a))) [
  | true ↦ λ e. inl (grind (arith, nat_tests))
  | false ↦ λ e. inr (elim (nat_lt b a) as (λ t. nat_lt b a ≡ t → (a ≡ b) ⊎ (b < a)) [
    | true ↦ λ h. inr (grind (arith, nat_tests))
    | false ↦ λ h. inl (grind (arith, nat_tests))
  ] refl)
] refl

-- places put in order go up, and stay below a bound
pub put_up : (from place : ℕ) (places : List ℕ) → from ≤ place → Up from places → Up from (put place places)
put_up from place [] low up = (low, tt)
put_up from place (p ∷ places) low up = ⊎_elim
    (λ (b : place < p). subst (Up from) (sym (put_before place p places b)) (low, (omega arith, up.1)))
    (λ (h : (place ≡ p) ⊎ (p < place)). ⊎_elim
    (λ (same : place ≡ p). subst (λ (x : ℕ). Up from (put x (p ∷ places))) (sym same) (subst (Up from) (sym (put_again p places)) up))
    (λ (a : p < place). subst (Up from) (sym (put_behind place p places a)) (up.0, put_up (p + 1) place places (omega arith) up.1))
    h)
    (order_of place p)

pub put_below : (most place : ℕ) (places : List ℕ) → place < most → AllByRecursion (λ p. p < most) places → AllByRecursion (λ p. p < most) (put place places)
put_below most place [] here all = (here, tt)
put_below most place (p ∷ places) here all = ⊎_elim
    (λ (b : place < p). subst (AllByRecursion (λ q. q < most)) (sym (put_before place p places b)) (here, all))
    (λ (h : (place ≡ p) ⊎ (p < place)). ⊎_elim
    (λ (same : place ≡ p). subst (λ (x : ℕ). AllByRecursion (λ q. q < most) (put x (p ∷ places))) (sym same) (subst (AllByRecursion (λ q. q < most)) (sym (put_again p places)) all))
    (λ (a : p < place). subst (AllByRecursion (λ q. q < most)) (sym (put_behind place p places a)) (all.0, put_below most place places here all.1))
    h)
    (order_of place p)

pub puts_below : (most : ℕ) (places held : List ℕ) → AllByRecursion (λ p. p < most) places → AllByRecursion (λ p. p < most) held → AllByRecursion (λ p. p < most) (puts places held)
puts_below most [] held all below = below
puts_below most (place ∷ places) held all below = puts_below most places (put place held) all.1 (put_below most place held all.0 below)

-- whether a place is among others with one more
among_put : (q place : ℕ) (places : List ℕ) → list_any (λ it. it == q) (put place places) ≡ ((place == q) || list_any (λ it. it == q) places)
among_put q place [] = refl
among_put q place (p ∷ places) = ⊎_elim
    (λ (b : place < p). ap (list_any (λ it. it == q)) (put_before place p places b))
    (λ (h : (place ≡ p) ⊎ (p < place)). ⊎_elim
    (λ (same : place ≡ p). subst (λ (x : ℕ). list_any (λ it. it == q) (put x (p ∷ places)) ≡ ((x == q) || ((p == q) || list_any (λ it. it == q) places))) (sym same)
    (ap (list_any (λ it. it == q)) (put_again p places) ∙ sym (twice (p == q) (list_any (λ it. it == q) places))))
    (λ (a : p < place). ap (list_any (λ it. it == q)) (put_behind place p places a)
    ∙ ap (λ (b : Bool). (p == q) || b) (among_put q place places)
    ∙ swap (p == q) (place == q) (list_any (λ it. it == q) places))
    h)
    (order_of place p)

-- and with several more
pub among_puts : (q : ℕ) (places held : List ℕ) → list_any (λ it. it == q) (puts places held) ≡ (list_any (λ it. it == q) places || list_any (λ it. it == q) held)
among_puts q [] held = refl
among_puts q (place ∷ places) held =
    among_puts q places (put place held)
    ∙ ap (λ (b : Bool). list_any (λ it. it == q) places || b) (among_put q place held)
    ∙ regroup (list_any (λ it. it == q) places) (place == q) (list_any (λ it. it == q) held)

-- What was given out: a place before the one that is due, if the window hasn't passed it, is there;
-- any other stands behind.
pub record IsOut (window newest due : ℕ) (out : List ℕ) : Type 0 where
  pub absorbs : (place : ℕ) (rest : List ℕ) → place < due → newest ≤ place + window → put place (out ++ rest) ≡ out ++ rest
  pub passes : (place : ℕ) (rest : List ℕ) → due ≤ place → put place (out ++ rest) ≡ out ++ put place rest

-- where newer packets came
newer : (window newest new due : ℕ) (out : List ℕ) → newest ≤ new → IsOut window newest due out → IsOut window new due out
newer window newest new due out more is = record {
  absorbs = λ place rest before late. is.absorbs place rest before (omega arith);
  passes = is.passes;
}

-- with one place more: the one that is due, or one that the window has passed
one_more : (window newest due : ℕ) (out : List ℕ) (x : ℕ) → IsOut window newest due out → due ≤ x → (x ≤ due) ⊎ (x + window ≤ newest) →
    IsOut window newest (x + 1) (out ++ x ∷ [])
one_more window newest due out x is low may = record {
  absorbs = λ place rest before late.
      ap (put place) (append_assoc out (x ∷ []) rest)
      ∙ ⊎_elim
      (λ (b : place < due). is.absorbs place (x ∷ rest) b late)
      (λ (h : (place ≡ due) ⊎ (due < place)).
      let same : place ≡ x = ⊎_elim (λ (m : x ≤ due). omega (arith, h)) (λ (m : x + window ≤ newest). omega (arith, h)) may in
      is.passes place (x ∷ rest) (omega arith) ∙ ap (λ (l : List ℕ). out ++ l) (ap (λ (q : ℕ). put q (x ∷ rest)) same ∙ put_again x rest))
      (order_of place due)
      ∙ sym (append_assoc out (x ∷ []) rest);
  passes = λ place rest behind.
      ap (put place) (append_assoc out (x ∷ []) rest)
      ∙ is.passes place (x ∷ rest) (omega arith)
      ∙ ap (λ (l : List ℕ). out ++ l) (put_behind place x rest (omega arith))
      ∙ sym (append_assoc out (x ∷ []) (put place rest));
}

-- what was given out with the front of the places held that goes, and what stays
record Grown (window newest due : ℕ) (out front rest : List ℕ) : Type 0 where
  is_out : IsOut window newest (due_after due front) (out ++ front)
  up : Up (due_after due front) rest
  small : due_after due front ≤ newest
  below : AllByRecursion (λ p. p < newest) rest

-- one place goes, and then others
goes : (window newest due : ℕ) (out : List ℕ) (x : ℕ) (front rest : List ℕ) → Grown window newest (x + 1) (out ++ x ∷ []) front rest →
    Grown window newest due out (x ∷ front) rest
goes window newest due out x front rest g = record {
  is_out = subst (IsOut window newest (due_after (x + 1) front)) (append_assoc out (x ∷ []) front) g.is_out;
  up = g.up;
  small = g.small;
  below = g.below;
}

-- none goes
stays : (window newest due : ℕ) (out rest : List ℕ) → IsOut window newest due out → Up due rest → due ≤ newest → AllByRecursion (λ p. p < newest) rest →
    Grown window newest due out [] rest
stays window newest due out rest is up small below = record {
  is_out = subst (IsOut window newest due) (sym (append-nil out)) is;
  up = up;
  small = small;
  below = below;
}

-- so it is with the front that a buffer gives out
grows : (window newest due : ℕ) (out held : List ℕ) → IsOut window newest due out → Up due held → due ≤ newest → AllByRecursion (λ p. p < newest) held →
    Grown window newest due out (given window newest due held) (kept_back window newest due held)
grows window newest due out [] is up small below = stays window newest due out [] is up small below
grows window newest due out (x ∷ held) is up small below =
    let low : due ≤ x = up.0 in
    let high : x < newest = below.0 in
    let g = given window newest (x + 1) held in
    let k = kept_back window newest (x + 1) held in
    let next : (x ≤ due) ⊎ (x + window ≤ newest) → Grown window newest due out (x ∷ g) k =
    λ may. goes window newest due out x g k (grows window newest (x + 1) (out ++ x ∷ []) held (one_more window newest due out x is low may) up.1 (omega arith) below.1) in
    elim (nat_le x due) as (λ b. nat_le x due ≡ b →
    Grown window newest due out (cond b (x ∷ g) (cond (nat_le (x + window) newest) (x ∷ g) [])) (cond b k (cond (nat_le (x + window) newest) k (x ∷ held)))) [
      | true ↦ λ e. next (inl (grind (arith, nat_tests)))
      | false ↦ λ e. elim (nat_le (x + window) newest) as (λ c. nat_le (x + window) newest ≡ c →
          Grown window newest due out (cond c (x ∷ g) []) (cond c k (x ∷ held))) [
            | true ↦ λ h. next (inr (grind (arith, nat_tests)))
            | false ↦ λ h. stays window newest due out (x ∷ held) is up small below
          ] refl
    ] refl

-- the front that goes and what stays are the places held
pub split : (window newest due : ℕ) (held : List ℕ) → given window newest due held ++ kept_back window newest due held ≡ held
split window newest due [] = refl
split window newest due (x ∷ held) =
    let g = given window newest (x + 1) held in
    let k = kept_back window newest (x + 1) held in
    let later : x ∷ (g ++ k) ≡ x ∷ held = ap (λ (l : List ℕ). x ∷ l) (split window newest (x + 1) held) in
    elim (nat_le x due) as (λ b. cond b (x ∷ g) (cond (nat_le (x + window) newest) (x ∷ g) []) ++ cond b k (cond (nat_le (x + window) newest) k (x ∷ held)) ≡ x ∷ held) [
      | true ↦ later
      | false ↦ elim (nat_le (x + window) newest) as (λ c. cond c (x ∷ g) [] ++ cond c k (x ∷ held) ≡ x ∷ held) [ true ↦ later | false ↦ refl ]
    ]

-- a packet that is late or held changes nothing
pub late : (window : ℕ) (b : Buffer) (place : ℕ) → nat_lt place b.due ≡ true → pushed window b place ≡ record { out = []; buffer = b }
late window b place e = rw e refl

-- what stands after any other
abbrev pub taken : ℕ → Buffer → ℕ → Step
taken window b place = record {
  out = given window (max b.newest (place + 1)) b.due (put place b.held);
  buffer = record {
    due = due_after b.due (given window (max b.newest (place + 1)) b.due (put place b.held));
    newest = max b.newest (place + 1);
    held = kept_back window (max b.newest (place + 1)) b.due (put place b.held);
  };
}

pub in_time : (window : ℕ) (b : Buffer) (place : ℕ) → nat_lt place b.due ≡ false → pushed window b place ≡ taken window b place
in_time window b place e = rw e refl

-- what holds of each is below a higher bound
pub below_more : (most more : ℕ) (places : List ℕ) → most ≤ more → AllByRecursion (λ p. p < most) places → AllByRecursion (λ p. p < more) places
below_more most more [] le all = tt
below_more most more (p ∷ places) le all = let h : p < most = all.0 in (omega arith, below_more most more places le all.1)

-- what is given out, with what was given out before, is what came, in order
pub all_given : (window : ℕ) (b : Buffer) (out places : List ℕ) → IsOut window b.newest b.due out → Up b.due b.held → b.due ≤ b.newest →
    AllByRecursion (λ p. p < b.newest) b.held → AreWithinWindow window b.newest places →
    puts places (out ++ b.held) ≡ out ++ released window b places
all_given window b out [] is up small below within = refl
all_given window b out (place ∷ places) is up small below within =
    let near : b.newest < place + window + 1 = within.0 in
    elim (nat_lt place b.due) as (λ t. nat_lt place b.due ≡ t → puts (place ∷ places) (out ++ b.held) ≡ out ++ released window b (place ∷ places)) [
      | true ↦ λ e.
          let before : place < b.due = grind (arith, nat_tests) in
          let newest : max b.newest (place + 1) ≡ b.newest = omega arith in
          ap (puts places) (is.absorbs place b.held before (omega arith))
          ∙ all_given window b out places is up small below (subst (λ (n : ℕ). AreWithinWindow window n places) newest within.1)
          ∙ ap (λ (s : Step). out ++ (s.out ++ released window s.buffer places)) (sym (late window b place e))
      | false ↦ λ e.
          let on : b.due ≤ place = grind (arith, nat_tests) in
          let n = max b.newest (place + 1) in
          let more : b.newest ≤ n = omega arith in
          let here : place < n = omega arith in
          let held = put place b.held in
          let g = given window n b.due held in
          let k = kept_back window n b.due held in
          let grown = grows window n b.due out held (newer window b.newest n b.due out more is) (put_up b.due place b.held on up) (omega arith)
          (put_below n place b.held here (below_more b.newest n b.held more below)) in
          let next : Buffer = record { due = due_after b.due g; newest = n; held = k } in
          ap (puts places) (is.passes place b.held on ∙ ap (λ (l : List ℕ). out ++ l) (sym (split window n b.due held)) ∙ sym (append_assoc out g k))
          ∙ all_given window next (out ++ g) places grown.is_out grown.up grown.small grown.below within.1
          ∙ append_assoc out g (released window next places)
          ∙ ap (λ (s : Step). out ++ (s.out ++ released window s.buffer places)) (sym (in_time window b place e))
    ] refl

-- from the beginning
pub reorders : (window : ℕ) (places : List ℕ) → AreWithinWindow window 0 places → released window (record { due = 0; newest = 0; held = [] }) places ≡ puts places []
reorders window places within = sym (all_given window (record { due = 0; newest = 0; held = [] }) [] places
    (record { absorbs = λ place rest before late. absurd (omega arith); passes = λ place rest behind. refl }) tt (omega arith) tt within)
