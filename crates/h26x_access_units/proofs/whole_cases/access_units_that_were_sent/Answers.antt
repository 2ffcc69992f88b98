use Rattle.std.proofs.Common.{◌≡◌, ◌∙◌, ap, sym, subst, ℕ, false, true, [], ◌∷◌, zero, suc, ◌+◌, refl, arith, inl, Some}
use Rattle.h26x_reorder.specs.Rtp.{RtpBody, rtp_body}
use Rattle.h26x_access_units.specs.WholeSent.{sent_at, nothing_written, first_one, behind_one, by_marker}
use Rattle.h26x_model.specs.Receive.DepacketizerState.{after_packets}
use Rattle.h26x_access_units.specs.UnitsSent.{sent_packets}
use Rattle.h26x_access_units.proofs.whole_cases.access_units_that_were_sent.Goals as goal

pub returns-clause-was : goal.returns-clause-was
returns-clause-was c r unit stamp number written = record {
  place = 1;
  count = 1;
  some = omega arith;
  within = omega arith;
  first_is = number;
  stamps = λ k lt. let one : 1 + k ≡ 1 = omega (arith, lt) in ap (λ (x : ℕ). (sent_at (rtp_body 4 true [] ∷ rtp_body 5 true (1 ∷ []) ∷ rtp_body 6 true [] ∷ []) x).timestamp) one ∙ sym stamp;
  front = λ before is same. let none : before ≡ 0 = omega (arith, is) in let bad = subst (λ (x : ℕ). (sent_at (rtp_body 4 true [] ∷ rtp_body 5 true (1 ∷ []) ∷ rtp_body 6 true [] ∷ []) x).timestamp ≡ 5) none same in cc;
  back = λ lt same. let bad = same ∙ stamp in cc;
  written = written;
}

pub returns-clause-one : goal.returns-clause-one
returns-clause-one c r unit stamp written = record {
  sent = sent_packets 5 ((1 ∷ []) ∷ []);
  among = (suc zero, omega arith, refl);
  timestamp = sym stamp;
  written = written;
}

pub returns-clause-whole : goal.returns-clause-whole
returns-clause-whole c r unit text stamp first_is last_is written closed =
    let p : ℕ × RtpBody = (8, rtp_body 5 true (1 ∷ [])) in
    record {
      later = (9, rtp_body 6 false []) ∷ [];
      own = p ∷ [];
      before = (7, rtp_body 4 true (1 ∷ [])) ∷ [];
      first = p;
      last = p;
      due = 9;
      written = after_packets (nothing_written r) ((1 ∷ []) ∷ []);
      place = refl;
      packets = first_one (sym stamp) text;
      bytes = written.bytes;
      extra = written.extra;
      closed = closed;
      first_is = sym first_is;
      last_is = sym last_is;
      begun = inl (record { stamp = Some 4; right_behind = behind_one (7, rtp_body 4 true (1 ∷ [])) [] text; other = inl (λ same. let bad = same ∙ stamp in cc) });
      ended = by_marker 9 p [] ((7, rtp_body 4 true (1 ∷ [])) ∷ []) refl (sym stamp);
    }
