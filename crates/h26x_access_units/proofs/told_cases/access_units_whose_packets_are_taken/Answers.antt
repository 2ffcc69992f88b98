use Rattle.std.proofs.Common.{◌≡◌, ◌+◌, ◌≤◌, ◌<◌, ℕ, Bool, false, true, subst, length, List, [], ◌∷◌, zero, suc, refl, arith}
use Rattle.std.specs.List.{Contains}
use Rattle.h26x_reorder.specs.Rtp.{RtpBody, rtp_body}
use Rattle.h26x_core.specs.ByteStream.{byte_stream}
use Rattle.h26x_model.specs.Receive.RunLimit.{run_len}
use Rattle.h26x_assembler.specs.AccessUnit.{is_unit_broken}
use Rattle.h26x_access_units.specs.declared.config.AccessUnitConfig.{AccessUnitConfig}
use Rattle.h26x_access_units.specs.Numbers.{bears_nothing}
use Rattle.h26x_access_units.specs.WholeSent.{sent_at}
use Rattle.h26x_access_units.specs.ToldWhole.{sent_text, TookPacket, DroppedAll, behind_packet, as_first_told, by_own_marker, by_next}
use Rattle.h26x_access_units.proofs.told_cases.access_units_whose_packets_are_taken.Goals as goal

pub returns-clause-rest : goal.returns-clause-rest
returns-clause-rest c it = it.front 0 refl refl

pub returns-clause-behind : goal.returns-clause-behind
returns-clause-behind c r w = behind_packet 0 [] refl

pub returns-clause-told : goal.returns-clause-told
returns-clause-told c r w = as_first_told []

pub returns-clause-marked : goal.returns-clause-marked
returns-clause-marked c r bears = by_own_marker 1 0 refl refl (omega arith) bears

-- a packet that was taken is no drop
not_dropped : (p : ℕ × RtpBody) → Contains (TookPacket p ∷ []) DroppedAll → ⊥
not_dropped p (zero, within, same) = let bad = same in cc
not_dropped p (suc k, within, same) = omega (arith, within)

pub returns-clause-taken : goal.returns-clause-taken
returns-clause-taken c r = record {
  later = TookPacket (2, rtp_body 6 true (4 ∷ [])) ∷ [];
  before = TookPacket (65535, rtp_body 4 true (1 ∷ [])) ∷ [];
  split = refl;
  begun = behind_packet 0 [] refl;
  ended = by_next [] refl (omega arith);
  stays = not_dropped (2, rtp_body 6 true (4 ∷ []));
}

-- of the settings that are told
own_limits : (config other : AccessUnitConfig) → Contains (config ∷ []) other → (P : AccessUnitConfig → Type 0) → P config → P other
own_limits config other (zero, within, same) P is = subst P same is
own_limits config other (suc k, within, same) P is = absurd (omega (arith, within))

pub returns-clause-written : goal.returns-clause-written
returns-clause-written c r config some units closed run text = record {
  some = some;
  units = broken;
  closed = closed;
  within = λ other is k le. own_limits config other is (λ x. (run_len (sent_text r one 0 k).state.run ≤ x.run_limit) × (length (sent_text r one 0 k).out ≤ x.unit_limit)) (short k le);
}
  where
    one : List RtpBody
    one = rtp_body 5 true (1 ∷ []) ∷ []

    broken : (k : ℕ) → k < 1 → is_unit_broken (sent_text r (rtp_body 5 true (1 ∷ []) ∷ []) 0 k) (sent_text r (rtp_body 5 true (1 ∷ []) ∷ []) 0 (k + 1)) (sent_at (rtp_body 5 true (1 ∷ []) ∷ []) (0 + k)).payload ≡ false
    broken zero lt = units
    broken (suc k) lt = absurd (omega (arith, lt))

    none_out : (avc : Bool) → length (byte_stream avc []) ≤ config.unit_limit
    none_out true = omega arith
    none_out false = omega arith

    short : (k : ℕ) → k ≤ 1 → (run_len (sent_text r (rtp_body 5 true (1 ∷ []) ∷ []) 0 k).state.run ≤ config.run_limit) × (length (sent_text r (rtp_body 5 true (1 ∷ []) ∷ []) 0 k).out ≤ config.unit_limit)
    short zero le = (omega arith, none_out r.is_avc)
    short (suc zero) le = (run, text)
    short (suc (suc k)) le = absurd (omega (arith, le))

pub returns-clause-too_long : goal.returns-clause-too_long
returns-clause-too_long c r config none it = by (sent_text r (rtp_body 5 true (1 ∷ []) ∷ []) 0 1).out it.some (it.within config (zero, omega arith, refl) 1 (omega arith)).1
  where
    by : (out : List ℕ) → bears_nothing out ≡ false → length out ≤ config.unit_limit → ⊥
    by [] some le = let bad = some in cc
    by (x ∷ out) some le = omega (arith, le, none)
