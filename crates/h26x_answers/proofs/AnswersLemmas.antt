-- Answers of formats, over any rules.
use Rattle.std.proofs.Common.{◌≡◌, ℕ, zero, suc, ◌<◌, Bool, true, false, not, ◌&&◌, cond, List, [], ◌∷◌, length, get_or, Option, Some, None, ◌⊎◌, inl, inr, refl, sym, ap, subst, ◌∙◌, arith}
use Rattle.std.specs.Prelude.{◌||◌, is_some}
use Rattle.std.specs.List.{Contains, AllByRecursion}
use Rattle.std.specs.Option.{option_map, option_or}
use Rattle.h26x_answers.specs.declared.answer.Role.{Role}
use Rattle.std.proofs.lemmas.Bool.{and_parts, and_from}
use Rattle.h26x_answers.specs.declared.answer.AnswerConfig.{AnswerConfig}
use Rattle.h26x_answers.specs.declared.fault.FormatFault.{FormatFault}
use Rattle.h26x_answers.specs.declared.fault.FormatFault.TheVariants.{OutOfOrder}
use Rattle.h26x_answers.specs.declared.answer.Role.TheVariants as role
use Rattle.h26x_fmtp.specs.Reading.{FormatParameters, value_at}
use Rattle.h26x_answers.specs.Answers.{MediaFormat, Terms, Rules, answered_value, answered_values, answered, common_terms, answer_by, unless_broken, takes_order, own_fault, known_answer, usable, heard, directed_answer, allowed_answer, answer_of, format_answer, offer_answer}
use Rattle.h26x_answers.specs.Directions.{opposite}
use Rattle.h26x_answers.specs.declared.direction.Direction.{Direction}
use Rattle.h26x_fmtp.specs.Parameters.{AreParameters}
use Rattle.h26x_answers.specs.AnswerLaws.{heard_offer, ComesFrom, IsCommonAnswered, IsAnswerCommon}

-- each row of the answer is made of those of the offer and of ours
pub answered_at : (terms : Terms) (roles : List Role) (offered own : List (Option (List ℕ))) (k : ℕ) → length offered ≡ length roles → length own ≡ length roles → k < length roles
    → value_at (answered_values terms roles offered own) k ≡ answered_value (get_or roles k role.Own) terms (value_at offered k) (value_at own k)
answered_at terms [] offered own k lo lu h = absurd (omega arith)
answered_at terms (r ∷ roles) [] own k lo lu h = absurd (omega (arith, lo))
answered_at terms (r ∷ roles) (o ∷ offered) [] k lo lu h = absurd (omega (arith, lu))
answered_at terms (r ∷ roles) (o ∷ offered) (u ∷ own) zero lo lu h = refl
answered_at terms (r ∷ roles) (o ∷ offered) (u ∷ own) (suc k) lo lu h =
    answered_at terms roles offered own k (omega (arith, lo)) (omega (arith, lu)) (omega arith)

-- the parts of an answer by one of ours
pub answer_parts : (rules : Rules) (offered own answer : FormatParameters) (found : Option Terms) → option_map (answered rules offered own) found ≡ Some answer
    → (terms : Terms) × (found ≡ Some terms) × (answer ≡ answered rules offered own terms)
answer_parts rules offered own answer None h = cc h
answer_parts rules offered own answer (Some terms) h = (terms, refl, cc h)

-- one of the first or of the second
pub either : {A : Type 0} (a b : Option A) (it : A) → option_or a b ≡ Some it → (a ≡ Some it) ⊎ (b ≡ Some it)
either (Some x) b it h = inl h
either None b it h = inr h

-- what is behind the first is contained
pub contains_more : {A : Type 0} (x : A) (xs : List A) (y : A) → Contains xs y → Contains (x ∷ xs) y
contains_more x xs y (k, within, is) = (suc k, omega (arith, within), is)

pub contains_first : {A : Type 0} (x : A) (xs : List A) → Contains (x ∷ xs) x
contains_first x xs = (0, omega arith, refl)

-- an answer by ours is by one of ours
pub answer_from : (rules : Rules) (config : AnswerConfig) (offered : FormatParameters) (ours : List FormatParameters) (answer : FormatParameters) → answer_of rules config offered ours ≡ Some answer
    → (own : FormatParameters) × (Contains ours own) × (allowed_answer rules config offered own ≡ Some answer)
answer_from rules config offered [] answer h = cc h
answer_from rules config offered (own ∷ ours) answer h = elim (either (allowed_answer rules config offered own) (answer_of rules config offered ours) answer h) [
  | inl here ↦ (own, contains_first own ours, here)
  | inr behind ↦ let (it, within, is) = answer_from rules config offered ours answer behind in (it, contains_more own ours it within, is)
]

-- what a payload type's answer is
format_parts : (format : MediaFormat) (found : Option FormatParameters) (answer : MediaFormat) → option_map (λ it. record format { parameters = it }) found ≡ Some answer
    → (it : FormatParameters) × (found ≡ Some it) × (answer ≡ record format { parameters = it })
format_parts format None answer h = cc h
format_parts format (Some it) answer h = (it, refl, cc h)

have_more : (rules : Rules) (config : AnswerConfig) (Is : FormatParameters → FormatParameters → Type 0) (first : MediaFormat) (offer : List MediaFormat) (ours : List FormatParameters) (answer : MediaFormat) → ComesFrom rules config Is offer ours answer → ComesFrom rules config Is (first ∷ offer) ours answer
have_more rules config Is first offer ours answer from = record {
  format = from.format;
  own = from.own;
  have = record {
    offered = contains_more first offer from.format from.have.offered;
    taken = from.have.taken;
    known = from.have.known;
    unbroken = from.have.unbroken;
    their_order = from.have.their_order;
    our_order = from.have.our_order;
    common = from.have.common;
  };
  keeps = from.keeps;
  is = from.is;
}

-- what holds of all holds of each
each_of : {A : Type 0} (P : A → Type 0) (all : List A) (it : A) → AllByRecursion P all → Contains all it → P it
each_of P [] it holds (k, within, is) = absurd (omega arith)
each_of P (x ∷ xs) it holds (zero, within, is) = subst P is holds.0
each_of P (x ∷ xs) it holds (suc k, within, is) = each_of P xs it holds.1 (k, omega arith, is)

-- where there are terms there is a configuration in common
abbrev pub AreCommon : Rules → (FormatParameters → FormatParameters → Type 0) → Type 0
AreCommon rules Is = (offered own : FormatParameters) → AreParameters rules.rows offered → AreParameters rules.rows own → (found : Terms) → common_terms rules offered own ≡ Some found → Is offered own

-- and where there is one there are terms
abbrev pub HaveTerms : Rules → (FormatParameters → FormatParameters → Type 0) → Type 0
HaveTerms rules Is = (offered own : FormatParameters) → AreParameters rules.rows offered → AreParameters rules.rows own → Is offered own → (found : Terms) × (common_terms rules offered own ≡ Some found)

-- an answer that is allowed is one of a known offer, by ours that breaks no rule
unbroken_parts : (fault : Option FormatFault) (answer : Option FormatParameters) (it : FormatParameters) → unless_broken fault answer ≡ Some it → (fault ≡ None) × (answer ≡ Some it)
unbroken_parts None answer it h = (refl, h)
unbroken_parts (Some fault) answer it h = cc h

-- nor does one whose units are sent in an order that is taken
fault_parts : (fault : Option FormatFault) (taken : Bool) → option_or fault (cond taken None (Some OutOfOrder)) ≡ None → (fault ≡ None) × (taken ≡ true)
fault_parts None true h = (refl, refl)
fault_parts None false h = cc h
fault_parts (Some fault) taken h = cc h

fault_from : (fault : Option FormatFault) (taken : Bool) → fault ≡ None → taken ≡ true → option_or fault (cond taken None (Some OutOfOrder)) ≡ None
fault_from fault taken none is = ap (λ f. option_or f (cond taken None (Some OutOfOrder))) none ∙ ap (λ t. cond t None (Some OutOfOrder)) is

order_parts : (any reorders : Bool) → (any || not reorders) ≡ true → (any ≡ true) ⊎ (reorders ≡ false)
order_parts true reorders h = inl refl
order_parts false true h = cc h
order_parts false false h = inr refl

order_from : (any reorders : Bool) → (any ≡ true) ⊎ (reorders ≡ false) → (any || not reorders) ≡ true
order_from true reorders h = refl
order_from false true (inl h) = cc h
order_from false true (inr h) = cc h
order_from false false h = refl

let_in : (test : Bool) (some : Option FormatParameters) (it : FormatParameters) → cond test some None ≡ Some it → (test ≡ true) × (some ≡ Some it)
let_in true some it h = (refl, h)
let_in false some it h = cc h

-- what is heard of parameters is parameters
abbrev pub HearsParameters : Rules → Type 0
HearsParameters rules = (direction : Direction) (it : FormatParameters) → AreParameters rules.rows it → AreParameters rules.rows (heard rules direction it)

-- what an answer is made of
pub made_of : {A B : Type 0} (f : A → B) (found : Option A) (it : B) → option_map f found ≡ Some it → (whole : A) × (found ≡ Some whole) × (it ≡ f whole)
made_of f None it h = cc h
made_of f (Some whole) it h = (whole, refl, cc h)

have_first : (rules : Rules) (config : AnswerConfig) (Is : FormatParameters → FormatParameters → Type 0) → HearsParameters rules → AreCommon rules Is → (format : MediaFormat) (offer : List MediaFormat) (ours : List FormatParameters) → AreParameters rules.rows format.parameters → AllByRecursion (AreParameters rules.rows) ours
    → (answer : MediaFormat) → format_answer rules config format ours ≡ Some answer → ComesFrom rules config Is (format ∷ offer) ours answer
have_first rules config Is hears are format offer ours of_format of_ours answer h =
    let (it, by, is) = format_parts format (answer_of rules config format.parameters ours) answer h in
    let (own, within, allowed) = answer_from rules config format.parameters ours it by in
    let theirs = heard_offer rules config format.parameters in
    let own_heard = heard rules config.direction own in
    let (no_fault, directed) = unbroken_parts (own_fault rules config own) (directed_answer rules config format.parameters own) it allowed in
    let (unbroken, ours_taken) = fault_parts (rules.fault own) (takes_order rules config own) no_fault in
    let (whole, let_through, usable_is) = made_of (usable rules config.direction) (known_answer rules config theirs own_heard) it directed in
    let order = takes_order rules config theirs in
    let (fits, one) = let_in (rules.known theirs && order) (answer_by rules theirs own_heard) whole let_through in
    let (known, theirs_taken) = and_parts (rules.known theirs) order fits in
    let (terms, common, made) = answer_parts rules theirs own_heard whole (common_terms rules theirs own_heard) one in
    let of_own = each_of (AreParameters rules.rows) ours own of_ours within in
    record {
      format = format;
      own = own;
      have = record {
        offered = contains_first format offer;
        taken = within;
        known = known;
        unbroken = unbroken;
        their_order = order_parts config.any_order (rules.reorders theirs) theirs_taken;
        our_order = order_parts config.any_order (rules.reorders own) ours_taken;
        common = are theirs own_heard (hears (opposite config.direction) format.parameters of_format) (hears config.direction own of_own) terms common;
      };
      keeps = ap (λ (m : MediaFormat). m.payload_type) is;
      is = ap (λ (found : Option FormatParameters). option_map (usable rules config.direction) found) one ∙ ap (λ (p : FormatParameters). Some p) (sym usable_is)
          ∙ ap (λ (m : MediaFormat). Some m.parameters) (sym is);
    }

-- an answer comes from a format and one of ours that have a configuration in common
comes_from_all : (rules : Rules) (config : AnswerConfig) (Is : FormatParameters → FormatParameters → Type 0) → HearsParameters rules → AreCommon rules Is → (offer : List MediaFormat) (ours : List FormatParameters) → AllByRecursion (λ it. AreParameters rules.rows it.parameters) offer → AllByRecursion (AreParameters rules.rows) ours
    → (answer : MediaFormat) → offer_answer rules config offer ours ≡ Some answer → ComesFrom rules config Is offer ours answer
comes_from_all rules config Is hears are [] ours of_offer of_ours answer h = cc h
comes_from_all rules config Is hears are (format ∷ offer) ours of_offer of_ours answer h = elim (either (format_answer rules config format ours) (offer_answer rules config offer ours) answer h) [
  | inl here ↦ have_first rules config Is hears are format offer ours of_offer.0 of_ours answer here
  | inr behind ↦ have_more rules config Is format offer ours answer (comes_from_all rules config Is hears are offer ours of_offer.1 of_ours answer behind)
]

pub comes_from : (rules : Rules) (Is : FormatParameters → FormatParameters → Type 0) → HearsParameters rules → AreCommon rules Is → IsAnswerCommon rules Is
comes_from rules Is hears are config offer ours formats answer h = comes_from_all rules config Is hears are offer ours formats.theirs formats.own answer h

-- the first of two or the second is there, if one of them is
first_there : {A : Type 0} (a b : Option A) → is_some a ≡ true → is_some (option_or a b) ≡ true
first_there (Some x) b h = refl
first_there None b h = cc h

second_there : {A : Type 0} (a b : Option A) → is_some b ≡ true → is_some (option_or a b) ≡ true
second_there (Some x) b h = refl
second_there None b h = h

map_there : {A B : Type 0} (f : A → B) (a : Option A) → is_some a ≡ true → is_some (option_map f a) ≡ true
map_there f (Some x) h = refl
map_there f None h = cc h

-- one of ours that gives an answer is enough
answer_there : (rules : Rules) (config : AnswerConfig) (offered own : FormatParameters) (ours : List FormatParameters) (k : ℕ) → k < length ours → get_or ours k own ≡ own → is_some (allowed_answer rules config offered own) ≡ true
    → is_some (answer_of rules config offered ours) ≡ true
answer_there rules config offered own [] k within is there = absurd (omega arith)
answer_there rules config offered own (u ∷ ours) zero within is there =
    first_there (allowed_answer rules config offered u) (answer_of rules config offered ours) (ap (λ it. is_some (allowed_answer rules config offered it)) is ∙ there)
answer_there rules config offered own (u ∷ ours) (suc k) within is there =
    second_there (allowed_answer rules config offered u) (answer_of rules config offered ours) (answer_there rules config offered own ours k (omega arith) is there)

offer_there : (rules : Rules) (config : AnswerConfig) (format : MediaFormat) (offer : List MediaFormat) (ours : List FormatParameters) (k : ℕ) → k < length offer → get_or offer k format ≡ format → is_some (format_answer rules config format ours) ≡ true
    → is_some (offer_answer rules config offer ours) ≡ true
offer_there rules config format [] ours k within is there = absurd (omega arith)
offer_there rules config format (f ∷ offer) ours zero within is there =
    first_there (format_answer rules config f ours) (offer_answer rules config offer ours) (ap (λ it. is_some (format_answer rules config it ours)) is ∙ there)
offer_there rules config format (f ∷ offer) ours (suc k) within is there =
    second_there (format_answer rules config f ours) (offer_answer rules config offer ours) (offer_there rules config format offer ours k (omega arith) is there)

-- of two ends with a configuration in common there is an answer
pub found : (rules : Rules) (Is : FormatParameters → FormatParameters → Type 0) → HearsParameters rules → HaveTerms rules Is → IsCommonAnswered rules Is
found rules Is hears have_terms config offer ours formats format own have =
    let of_format = each_of (λ (it : MediaFormat). AreParameters rules.rows it.parameters) offer format formats.theirs have.offered in
    let of_own = each_of (AreParameters rules.rows) ours own formats.own have.taken in
    let theirs = heard_offer rules config format.parameters in
    let own_heard = heard rules config.direction own in
    let (terms, common) = have_terms theirs own_heard (hears (opposite config.direction) format.parameters of_format) (hears config.direction own of_own) have.common in
    let by : is_some (answer_by rules theirs own_heard) ≡ true =
    map_there (answered rules theirs own_heard) (common_terms rules theirs own_heard) (ap (λ (o : Option Terms). is_some o) common) in
    let known : is_some (known_answer rules config theirs own_heard) ≡ true =
    ap (λ t. is_some (cond t (answer_by rules theirs own_heard) None))
    (and_from (rules.known theirs) (takes_order rules config theirs) have.known (order_from config.any_order (rules.reorders theirs) have.their_order)) ∙ by in
    let directed : is_some (directed_answer rules config format.parameters own) ≡ true =
    map_there (usable rules config.direction) (known_answer rules config theirs own_heard) known in
    let let_through : is_some (allowed_answer rules config format.parameters own) ≡ true =
    ap (λ f. is_some (unless_broken f (directed_answer rules config format.parameters own)))
    (fault_from (rules.fault own) (takes_order rules config own) have.unbroken (order_from config.any_order (rules.reorders own) have.our_order)) ∙ directed in
    let one = answer_there rules config format.parameters own ours have.taken.0 have.taken.1 have.taken.2 let_through in
    offer_there rules config format offer ours have.offered.0 have.offered.1 have.offered.2
    (map_there (λ (it : FormatParameters). record format { parameters = it }) (answer_of rules config format.parameters ours) one)
