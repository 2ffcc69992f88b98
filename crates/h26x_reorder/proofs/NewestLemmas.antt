-- What the number of the last packet tells.
use Rattle.std.proofs.Common.{arith, ◌≡◌, ◌∙◌, ap, sym, subst, refl, ℕ, zero, suc, ◌-◌, ◌<◌, ◌≤◌, false, List, [], ◌∷◌, ◌++◌, length, get_or, Some}
use Rattle.std.specs.Prelude.{is_some, ◌==◌}
use Rattle.std.specs.List.{insert}
use Rattle.std.proofs.lemmas.Bool.Decides.{nat_tests}
use Rattle.h26x_core.specs.Sequence.{distance_ahead}
use Rattle.h26x_reorder.specs.Rtp.{RtpBody, rtp_body}
use Rattle.h26x_reorder.specs.ReorderBuffer.{last_number, first_number, newest_of, may_go, first_ready, AreHeldInOrder}
use Rattle.h26x_reorder.proofs.BufferLemmas.{last_is, last_behind, some_if}

-- the last of packets has it
pub last_at : (newest : ℕ) (held : List (ℕ × RtpBody)) (d : ℕ × RtpBody) → last_number newest held ≡ newest → 0 < length held → (get_or held (length held - 1) d).0 ≡ newest
last_at newest [] d last some = absurd (omega arith)
last_at newest (q ∷ held) d last some =
    ap (λ (n : ℕ). (get_or (q ∷ held) n d).0) (omega arith) ∙ sym (last_is q held d) ∙ last

-- it is that of the newest
pub newest_is : (newest due : ℕ) (held : List (ℕ × RtpBody)) → last_number newest held ≡ newest → (length held == 0) ≡ false → newest ≡ newest_of due held
newest_is newest due held last some =
    rw some (sym (last_at newest held (0, rtp_body 0 false []) last (grind (arith, nat_tests))))

-- once a packet is put behind all others it is that one's
pub last_put : (newest : ℕ) (held : List (ℕ × RtpBody)) (at : ℕ) (p : ℕ × RtpBody) → at ≡ length held → last_number newest (insert held at p) ≡ p.0
last_put newest [] zero p end = refl
last_put newest [] (suc at) p end = absurd (omega arith)
last_put newest (q ∷ held) zero p end = absurd (omega arith)
last_put newest (q ∷ held) (suc at) p end = last_put q.0 held at p (omega arith)

-- one that is put before another leaves it
pub last_stays : (newest : ℕ) (held : List (ℕ × RtpBody)) (at : ℕ) (p : ℕ × RtpBody) → at < length held → last_number newest (insert held at p) ≡ last_number newest held
last_stays newest [] at p before = absurd (omega arith)
last_stays newest (q ∷ held) zero p before = refl
last_stays newest (q ∷ held) (suc at) p before = last_stays q.0 held at p (omega arith)

-- it stays without the first
pub last_without : (newest : ℕ) (p : ℕ × RtpBody) (held : List (ℕ × RtpBody)) → last_number newest (p ∷ held) ≡ newest → last_number newest held ≡ newest
last_without newest p [] last = refl
last_without newest p (q ∷ held) last = last

-- of two that are put behind all others it is the second one's
pub last_of_two : (newest : ℕ) (held : List (ℕ × RtpBody)) (p q : ℕ × RtpBody) → last_number newest (held ++ p ∷ q ∷ []) ≡ q.0
last_of_two newest [] p q = refl
last_of_two newest (r ∷ held) p q = last_of_two r.0 held p q

-- whether the first may go, by its number and that of the last
pub record IsTold (window due newest first : ℕ) (held : List (ℕ × RtpBody)) : Type 0 where
  pub rise : distance_ahead due first ≤ distance_ahead due newest
  pub ready : is_some (first_ready window (Some due) held) ≡ may_go window newest due first

pub told : (window due newest first : ℕ) (held : List (ℕ × RtpBody)) → first_number held ≡ Some first → last_number newest held ≡ newest → AreHeldInOrder due 0 held → IsTold window due newest first held
told window due newest first [] is last order = absurd (let bad = is in cc)
told window due newest first (q ∷ held) is last order =
    let same : q.0 ≡ first = cc in
    let up = last_behind due 0 q held order in
    record {
      rise = subst (λ (n : ℕ). distance_ahead due n ≤ distance_ahead due newest) same (subst (λ (n : ℕ). distance_ahead due q.0 ≤ distance_ahead due n) last up.0);
      ready = some_if (may_go window (last_number q.0 held) due q.0) q
          ∙ ap (λ (n : ℕ). may_go window n due q.0) last ∙ ap (λ (n : ℕ). may_go window newest due n) same;
    }
