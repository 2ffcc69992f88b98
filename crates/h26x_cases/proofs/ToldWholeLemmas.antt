-- A stream of H.264 as an encoder sends it, and a receiver to which it comes.
use Rattle.std.proofs.Common.{◌≡◌, ◌∙◌, ap, sym, subst, refl, ℕ, zero, suc, ◌+◌, ◌≤◌, ◌<◌, Bool, true, false, List, [], ◌∷◌, ◌++◌, length, Option, Some, None, arith, inl, inr, Result, Ok, Err}
use Rattle.std.specs.Prelude.{◌⊎◌, ◌==◌}
use Rattle.std.specs.List.{Contains}
use Rattle.h26x_core.specs.declared.error.PacketError.{PacketError}
use Rattle.h26x_core.specs.declared.extra.CodecExtra.TheVariants as extras
use Rattle.h26x_model.specs.Receive.DepacketizerState.{DepacketizerState, Depacketization, after_packets}
use Rattle.h26x_model.specs.Receive.RunLimit.{run_len}
use Rattle.h264_payload.specs.H264.{h264}
use Rattle.h26x_codec.specs.Codec.{fresh_depacketizer_state}
use Rattle.h26x_receiver.specs.declared.received.Received.TheVariants as received
use Rattle.h26x_receiver.specs.declared.received.Received.{Received}
use Rattle.h26x_reorder.specs.Rtp.{RtpBody, rtp_body}
use Rattle.h26x_assembler.specs.AccessUnit.{is_unit_broken}
use Rattle.h26x_access_units.specs.declared.config.AccessUnitConfig.{AccessUnitConfig}
use Rattle.h26x_access_units.specs.declared.decoder.DecoderState.{DecoderState}
use Rattle.h26x_access_units.specs.declared.pushed.Pushed.TheVariants as pushes
use Rattle.h26x_access_units.specs.Content.{content_of}
use Rattle.h26x_access_units.specs.Decoder.{is_front, fresh_decoder}
use Rattle.h26x_access_units.specs.Reception.{Reception, fresh_reception, after_reception, after_due, IsDueTaken, IsDrained, none, more, unit_given, without_given, IsNext}
use Rattle.h26x_access_units.specs.Account.{ReceiverCall, PushCall, NextCall, AreReceiverCalls, no_call, one_call}
use Rattle.h26x_access_units.specs.WholeSent.{nothing_written, sent_at, sent_payloads, has_no_text, bears_slice, begins_unit, IsSentAt, IsUnitFront, IsSender}
use Rattle.h26x_access_units.specs.ToldWhole.{Deed, TookPacket, DroppedAll, all_deeds, AreOfSender, none_done, took_packet, sent_text, IsUnitSent, IsBegunSo, by_first_front, behind_packet, IsEndedSo, by_own_marker, by_next, WereAllTaken, WereTakenWithoutLoss, CanBeWritten}

abbrev pub r : DepacketizerState
r = fresh_depacketizer_state h264

abbrev sps : RtpBody
sps = rtp_body 1 false (0x67 ∷ 0x42 ∷ 0x00 ∷ 0x1e ∷ [])

abbrev pps : RtpBody
pps = rtp_body 1 false (0x68 ∷ 0xce ∷ 0x38 ∷ 0x80 ∷ [])

abbrev idr : RtpBody
idr = rtp_body 1 true (0x65 ∷ 0x88 ∷ 0x84 ∷ 0x00 ∷ [])

abbrev other : RtpBody
other = rtp_body 2 true (0x41 ∷ 0x9a ∷ 0x24 ∷ 0x6c ∷ [])

abbrev pub sent : List RtpBody
sent = sps ∷ pps ∷ idr ∷ other ∷ []

abbrev pub config : AccessUnitConfig
config = record {
  window = 64;
  far = 3000;
  far_behind = 100;
  max_wait = 4294967295;
  begin_wait = 0;
  held_limit = 1000000;
  run_limit = 1000000;
  unit_limit = 1000000;
  has_sets = false;
}

abbrev Packet : Type 0
Packet = ℕ × RtpBody

abbrev first_packet : Packet
first_packet = (65534, sps)

abbrev second_packet : Packet
second_packet = (65535, pps)

abbrev third_packet : Packet
third_packet = (0, idr)

abbrev fourth_packet : Packet
fourth_packet = (1, other)

abbrev in_order : Result Received PacketError
in_order = Ok received.InOrder

-- all four wait
abbrev new : Reception
new = fresh_reception config r

abbrev one : Reception
one = after_reception 0 new first_packet pushes.Held

abbrev two : Reception
two = after_reception 0 one second_packet pushes.Held

abbrev three : Reception
three = after_reception 0 two third_packet pushes.Held

abbrev four : Reception
four = after_reception 0 three fourth_packet pushes.Held

-- three are taken, and an access unit is given out
abbrev took_one : Reception
took_one = after_due four first_packet in_order

abbrev took_two : Reception
took_two = after_due took_one second_packet in_order

abbrev took_three : Reception
took_three = after_due took_two third_packet in_order

abbrev gave_one : Reception
gave_one = without_given took_three

abbrev took_four : Reception
took_four = after_due gave_one fourth_packet in_order

abbrev pub gave_two : Reception
gave_two = without_given took_four

abbrev pub calls : List ReceiverCall
calls = NextCall 0 None ∷ NextCall 0 (unit_given took_four) ∷ NextCall 0 (unit_given took_three) ∷ PushCall 0 fourth_packet pushes.Held ∷ PushCall 0 third_packet pushes.Held ∷ PushCall 0 second_packet pushes.Held ∷ PushCall 0 first_packet pushes.Held ∷ []

abbrev first_due : IsDueTaken 0 four took_one
first_due = record { packet = first_packet; answer = in_order; due = refl; follows = refl; answered = inr (inl refl, refl); room = λ e. cc; stands = refl }

abbrev second_due : IsDueTaken 0 took_one took_two
second_due = record { packet = second_packet; answer = in_order; due = refl; follows = refl; answered = inr (inl refl, refl); room = λ e. cc; stands = refl }

abbrev third_due : IsDueTaken 0 took_two took_three
third_due = record { packet = third_packet; answer = in_order; due = refl; follows = refl; answered = inr (inl refl, refl); room = λ e. cc; stands = refl }

abbrev fourth_due : IsDueTaken 0 gave_one took_four
fourth_due = record { packet = fourth_packet; answer = in_order; due = refl; follows = refl; answered = inr (inl refl, refl); room = λ e. cc; stands = refl }

abbrev first_given : IsNext 0 four gave_one (unit_given took_three)
first_given = record { drained = took_three; taken = more (more (more none refl first_due) refl second_due) refl third_due; until = λ e. absurd (let bad = e in cc); unit_is = refl; stands = refl }

abbrev second_given : IsNext 0 gave_one gave_two (unit_given took_four)
second_given = record { drained = took_four; taken = more none refl fourth_due; until = λ e. absurd (let bad = e in cc); unit_is = refl; stands = refl }

abbrev none_given : IsNext 0 gave_two gave_two None
none_given = record { drained = gave_two; taken = none; until = λ e. refl; unit_is = refl; stands = refl }

abbrev pub are : AreReceiverCalls new calls gave_two
are = one_call (one_call (one_call (one_call (one_call (one_call (one_call no_call (omega arith, omega arith, refl, refl)) (omega arith, omega arith, refl, refl)) (omega arith, omega arith, refl, refl)) (omega arith, omega arith, refl, refl)) first_given) second_given) none_given

abbrev deeds : List Deed
deeds = TookPacket fourth_packet ∷ TookPacket third_packet ∷ TookPacket second_packet ∷ TookPacket first_packet ∷ []

abbrev at_first : IsSentAt sent 65534 first_packet
at_first = record { place = 0; within = omega arith; number = refl; body = refl }

abbrev at_second : IsSentAt sent 65534 second_packet
at_second = record { place = 1; within = omega arith; number = refl; body = refl }

abbrev at_third : IsSentAt sent 65534 third_packet
at_third = record { place = 2; within = omega arith; number = refl; body = refl }

abbrev at_fourth : IsSentAt sent 65534 fourth_packet
at_fourth = record { place = 3; within = omega arith; number = refl; body = refl }

pub of_sender : AreOfSender sent 65534 (Some 4) (all_deeds are)
of_sender = took_packet fourth_packet at_fourth (omega arith, omega arith) (took_packet third_packet at_third (omega arith, omega arith) (took_packet second_packet at_second (omega arith, omega arith) (took_packet first_packet at_first tt none_done)))

-- each bears something
texts : (place : ℕ) → place < 4 → has_no_text h264 (sent_at sent place).payload ≡ false
texts zero lt = refl
texts (suc zero) lt = refl
texts (suc (suc zero)) lt = refl
texts (suc (suc (suc zero))) lt = refl
texts (suc (suc (suc (suc place)))) lt = absurd (omega (arith, lt))

marked : (place : ℕ) → (sent_at sent place).marker ≡ true → place + 1 < 4 → (sent_at sent (place + 1)).timestamp ≡ (sent_at sent place).timestamp → ⊥
marked zero is lt same = let bad = is in cc
marked (suc zero) is lt same = let bad = is in cc
marked (suc (suc zero)) is lt same = let bad = same in cc
marked (suc (suc (suc place))) is lt same = omega (arith, lt)

begins : (earlier place : ℕ) → earlier < place → place < 4 → (sent_at sent earlier).timestamp ≡ (sent_at sent place).timestamp → bears_slice h264 (sent_at sent earlier).payload ≡ true → begins_unit h264 (sent_at sent place).payload ≡ false
begins zero place lt within same bears = absurd (let bad = bears in cc)
begins (suc zero) place lt within same bears = absurd (let bad = bears in cc)
begins (suc (suc zero)) zero lt within same bears = absurd (omega (arith, lt))
begins (suc (suc zero)) (suc zero) lt within same bears = absurd (omega (arith, lt))
begins (suc (suc zero)) (suc (suc zero)) lt within same bears = absurd (omega (arith, lt))
begins (suc (suc zero)) (suc (suc (suc zero))) lt within same bears = absurd (let bad = same in cc)
begins (suc (suc zero)) (suc (suc (suc (suc place)))) lt within same bears = absurd (omega (arith, within))
begins (suc (suc (suc earlier))) place lt within same bears = absurd (omega (arith, lt, within))

-- whether what these packets bring is taken for a front
abbrev fronts_of : DecoderState → ℕ → ℕ → Bool
fronts_of d place count = is_front d (after_packets (nothing_written r) (sent_payloads sent place count)).extra
    (content_of r.is_avc (after_packets (nothing_written r) (sent_payloads sent place count)).extra (after_packets (nothing_written r) (sent_payloads sent place count)).out).first

fronts : (place count : ℕ) (d : DecoderState) → place + count ≤ 4 → (IsUnitFront sent place → ⊥) → ((k : ℕ) → k < count → (sent_at sent (place + k)).timestamp ≡ (sent_at sent place).timestamp) → fronts_of d place count ≡ false
fronts zero count d within inner same = absurd (inner (λ before is e. absurd (omega (arith, is))))
fronts (suc zero) zero d within inner same = refl
fronts (suc zero) (suc zero) d within inner same = refl
fronts (suc zero) (suc (suc zero)) d within inner same = refl
fronts (suc zero) (suc (suc (suc count))) d within inner same = absurd (let bad = same 2 (omega arith) in cc)
fronts (suc (suc zero)) zero d within inner same = refl
fronts (suc (suc zero)) (suc zero) d within inner same = refl
fronts (suc (suc zero)) (suc (suc count)) d within inner same = absurd (let bad = same 1 (omega arith) in cc)
fronts (suc (suc (suc zero))) count d within inner same =
    absurd (inner (λ before is e. let first : before ≡ 2 = omega (arith, is) in let bad = subst (λ (x : ℕ). (sent_at sent x).timestamp ≡ 2) first e in cc))
fronts (suc (suc (suc (suc zero)))) zero d within inner same = refl
fronts (suc (suc (suc (suc zero)))) (suc count) d within inner same = absurd (omega (arith, within))
fronts (suc (suc (suc (suc (suc place))))) count d within inner same = absurd (omega (arith, within))

pub is_sender : IsSender r sent
is_sender = record { texts = texts; marked = marked; begins = begins; fronts = fronts }

pub first_sent : IsUnitSent sent 0 3
first_sent = record {
  some = omega arith;
  within = omega arith;
  stamps = stamps;
  front = λ before is e. absurd (omega (arith, is));
  back = λ lt same. let bad = same in cc;
}
  where
    stamps : (k : ℕ) → k < 3 → (sent_at sent (0 + k)).timestamp ≡ 1
    stamps zero lt = refl
    stamps (suc zero) lt = refl
    stamps (suc (suc zero)) lt = refl
    stamps (suc (suc (suc k))) lt = absurd (omega (arith, lt))

pub second_sent : IsUnitSent sent 3 1
second_sent = record {
  some = omega arith;
  within = omega arith;
  stamps = stamps;
  front = λ before is e. let first : before ≡ 2 = omega (arith, is) in let bad = subst (λ (x : ℕ). (sent_at sent x).timestamp ≡ 2) first e in cc;
  back = λ lt same. omega (arith, lt);
}
  where
    stamps : (k : ℕ) → k < 1 → (sent_at sent (3 + k)).timestamp ≡ 2
    stamps zero lt = refl
    stamps (suc k) lt = absurd (omega (arith, lt))

none_dropped : Contains [] DroppedAll → ⊥
none_dropped (k, within, same) = omega (arith, within)

one_kept : Contains (TookPacket fourth_packet ∷ []) DroppedAll → ⊥
one_kept (zero, within, same) = let bad = same in cc
one_kept (suc k, within, same) = omega (arith, within)

pub first_taken : WereAllTaken r sent 65534 0 3 (all_deeds are)
first_taken = record {
  later = TookPacket fourth_packet ∷ [];
  before = [];
  split = refl;
  begun = by_first_front [] refl refl;
  ended = by_own_marker 2 2 refl refl (omega arith) refl;
  stays = one_kept;
}

pub second_taken : WereTakenWithoutLoss r sent 65534 3 1 (all_deeds are)
second_taken = record {
  start = 0;
  taken = 4;
  later = [];
  before = [];
  deeds_are = refl;
  few = omega arith;
  behind = omega arith;
  within = omega arith;
  begun = λ e. absurd (omega (arith, e));
  ended = inr (by_own_marker 0 0 refl refl (omega arith) refl);
  stays = none_dropped;
}

-- of the settings that are told
own_limits : (other : AccessUnitConfig) → Contains (config ∷ []) other → (P : AccessUnitConfig → Type 0) → P config → P other
own_limits other (zero, within, same) P is = subst P same is
own_limits other (suc k, within, same) P is = absurd (omega (arith, within))

abbrev IsShort : ℕ → ℕ → AccessUnitConfig → Type 0
IsShort place k c = (run_len (sent_text r sent place k).state.run ≤ c.run_limit) × (length (sent_text r sent place k).out ≤ c.unit_limit)

pub first_written : CanBeWritten r sent 0 3 (config ∷ [])
first_written = record {
  some = refl;
  units = units;
  closed = refl;
  within = λ c is k le. own_limits c is (IsShort 0 k) (short k le);
}
  where
    units : (k : ℕ) → k < 3 → is_unit_broken (sent_text r sent 0 k) (sent_text r sent 0 (k + 1)) (sent_at sent (0 + k)).payload ≡ false
    units zero lt = refl
    units (suc zero) lt = refl
    units (suc (suc zero)) lt = refl
    units (suc (suc (suc k))) lt = absurd (omega (arith, lt))

    short : (k : ℕ) → k ≤ 3 → IsShort 0 k config
    short zero le = (omega arith, omega arith)
    short (suc zero) le = (omega arith, omega arith)
    short (suc (suc zero)) le = (omega arith, omega arith)
    short (suc (suc (suc zero))) le = (omega arith, omega arith)
    short (suc (suc (suc (suc k)))) le = absurd (omega (arith, le))

pub second_written : CanBeWritten r sent 3 1 (config ∷ [])
second_written = record {
  some = refl;
  units = units;
  closed = refl;
  within = λ c is k le. own_limits c is (IsShort 3 k) (short k le);
}
  where
    units : (k : ℕ) → k < 1 → is_unit_broken (sent_text r sent 3 k) (sent_text r sent 3 (k + 1)) (sent_at sent (3 + k)).payload ≡ false
    units zero lt = refl
    units (suc k) lt = absurd (omega (arith, lt))

    short : (k : ℕ) → k ≤ 1 → IsShort 3 k config
    short zero le = (omega arith, omega arith)
    short (suc zero) le = (omega arith, omega arith)
    short (suc (suc k)) le = absurd (omega (arith, le))
