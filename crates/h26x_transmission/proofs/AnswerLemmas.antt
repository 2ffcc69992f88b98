-- What holds of an answer, by what an endpoint holds.
use Rattle.std.proofs.Common.{◌≡◌, ap, Result, Ok, Err}
use Rattle.std.specs.Prelude.{IfOk}

-- what is the same beside what else holds of an answer is the same as anything that is computed of it
pub beside_mapped : {A B T E : Type 0} (f : A → B) (P : T → Type 0) (a b : A) (r : Result T E) → IfOk r (λ x. P x × (a ≡ b)) → IfOk r (λ x. P x × (f a ≡ f b))
beside_mapped f P a b (Ok x) (holds, is) = (holds, ap f is)
beside_mapped f P a b (Err e) is = is
