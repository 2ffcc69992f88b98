use Rattle.std.proofs.Common.{ℕ, false, [], ◌∷◌, refl, arith}
use Rattle.h26x_reorder.specs.Rtp.{RtpBody, rtp_body}
use Rattle.h26x_access_units.specs.declared.pushed.Pushed.TheVariants as pushes
use Rattle.h26x_access_units.specs.Reception.{fresh_reception, after_reception}
use Rattle.h26x_access_units.specs.Account.{PushCall, no_call, one_call}
use Rattle.h26x_access_units.proofs.AccountLemmas.{calls_accounted}
use Rattle.h26x_access_units.proofs.account_cases.calls_of_a_receiver.Goals as goal

pub returns-clause-pushed : goal.returns-clause-pushed
returns-clause-pushed c config state = one_call no_call (omega arith, omega arith, refl, refl)

pub returns-clause-restarted : goal.returns-clause-restarted
returns-clause-restarted c config state = one_call (one_call no_call refl) refl

pub returns-clause-accounted : goal.returns-clause-accounted
returns-clause-accounted c config state =
    let settings = record config { window = 64; held_limit = 9 } in
    let s = fresh_reception settings state in
    let p : ℕ × RtpBody = (7, rtp_body 0 false []) in
    calls_accounted state settings (PushCall 0 p pushes.Held ∷ []) (after_reception 0 s p pushes.Held) (one_call no_call (omega arith, omega arith, refl, refl))
