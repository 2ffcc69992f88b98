-- States of packetizers and depacketizers of the codecs; one in a box has none.
use Rattle.std.proofs.Common.{◌≡◌, ◌∙◌, sym, ap, subst, Option, Some, Result, Ok, Err}
use Rattle.std.specs.Prelude.{OnOk}

-- two states of one are the same
pub same_state : {A : Type 0} (o : Option A) (a b : A) → o ≡ Some a → o ≡ Some b → a ≡ b
same_state o a b is too =
    let both : Some a ≡ Some b = sym is ∙ too in
    cc

-- what holds of an end's state holds of every state that it is said to have
pub of_state : {A : Type 0} (P : A → Type 0) (o : Option A) (a b : A) → o ≡ Some a → o ≡ Some b → P a → P b
of_state P o a b is too holds = subst P (same_state o a b is too) holds

-- what is the same after an answer is the same as anything that is computed of it
pub then_mapped : {A B T E : Type 0} (f : A → B) (a b : A) (r : Result T E) → OnOk r (a ≡ b) → OnOk r (f a ≡ f b)
then_mapped f a b (Ok x) is = ap f is
then_mapped f a b (Err e) is = is

-- what holds of two states of an end, one before and one after, holds of all that it is said to have
pub of_states : {A : Type 0} (P : A → A → Type 0) (o p : Option A) (a b x y : A) → o ≡ Some a → p ≡ Some b → o ≡ Some x → p ≡ Some y → P a b → P x y
of_states P o p a b x y is later too later_too holds = subst (λ c. P x c) (same_state p b y later later_too) (subst (λ c. P c b) (same_state o a x is too) holds)
