-- Constraints of H.266 and their text.
use Rattle.std.proofs.Common.{◌≡◌, ℕ, Bool, true, false, cond, List, length, Result, Ok, Err, refl, sym, ap, ◌∙◌}
use Rattle.std.specs.Prelude.{nat_lt}
use Rattle.base64.specs.Engines.{standard}
use Rattle.base64.specs.GeneralPurpose.{decode_of, IsBytes}
use Rattle.base64.specs.declared.decode.DecodeError.{DecodeError}
use Rattle.base64.proofs.EngineFacts.{decode_of-encode_of, decode_of_strict}
use Rattle.h26x_sdp.specs.declared.error.ConstraintsError.{ConstraintsError}
use Rattle.h26x_sdp.specs.declared.error.ConstraintsError.TheVariants.{Short, Long}
use Rattle.h26x_sdp.specs.Constraints.{constraints_len, as_constraints, constraints_decoded, constraints_in, constraints_text}

pub constraints_written : (bytes : List ℕ) → IsBytes bytes → as_constraints bytes ≡ Ok bytes → constraints_in (constraints_text bytes) ≡ Ok bytes
constraints_written bytes are is = ap constraints_decoded (decode_of-encode_of standard bytes refl are) ∙ is

picked : (short long : Bool) (read bytes : List ℕ) → ◌≡◌ {A = Result (List ℕ) ConstraintsError} (cond short (Err Short) (cond long (Err Long) (Ok read))) (Ok bytes) → read ≡ bytes
picked true long read bytes h = cc h
picked false true read bytes h = cc h
picked false false read bytes h = cc h

decoded : (r : Result (List ℕ) DecodeError) (bytes : List ℕ) → constraints_decoded r ≡ Ok bytes → r ≡ Ok bytes
decoded (Err error) bytes h = cc h
decoded (Ok read) bytes h =
    ap (λ (l : List ℕ). Ok l) (picked (nat_lt (length read) (constraints_len read)) (nat_lt (constraints_len read) (length read)) read bytes h)

pub constraints_read : (text bytes : List ℕ) → IsBytes text → constraints_in text ≡ Ok bytes → constraints_text bytes ≡ text
constraints_read text bytes are h = sym (decode_of_strict standard text bytes (refl, refl) are (decoded (decode_of standard text) bytes h))
