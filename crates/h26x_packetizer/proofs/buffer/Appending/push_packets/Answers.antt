use Rattle.std.proofs.Common.{◌≡◌, ◌∙◌, ◌<◌, ◌+◌, ◌++◌, ◌∷◌, [], sym, ap, append_assoc, ℕ, List, Vec, Global, map, get_or, length, take, add-one}
use Rattle.std.proofs.lemmas.List.{get_or-map, length-map}
use Rattle.std.proofs.Math.Seq.{take-suc}
use Rattle.h26x_packetizer.proofs.buffer.Appending.push_packets.Goals as goal

pub loop-packet-preserved : goal.loop-packet-preserved
loop-packet-preserved c =
    let bytes = map (λ (p : Vec ℕ Global). p.items) c.args.packets.now in
    let i = c.loop-packet.packet-index in
    let before = c.args.self.now.after in
    let within : i < length bytes = rw length-map c.loop-packet-test.true in
    let here : c.deref.result.now ≡ get_or bytes i [] = c.deref.ensures.value ∙ ap (λ (p : Vec ℕ Global). p.items) c.packet-item.is
    ∙ sym (get_or-map (λ (p : Vec ℕ Global). p.items) c.args.packets.now i c.packet-item.result [] c.loop-packet-test.true) in
    let more : take (i + 1) bytes ≡ take i bytes ++ get_or bytes i [] ∷ [] = ap (λ k. take k bytes) (add-one i) ∙ take-suc bytes i [] within in
    let all : take i bytes ++ c.deref.result.now ∷ [] ≡ take (i + 1) bytes = ap (λ (x : List ℕ). take i bytes ++ x ∷ []) here ∙ sym more in
    record {
      pushed = c.in_ok-push_packet.ensures.pushed ∙ ap (λ (l : List (List ℕ)). l ++ c.deref.result.now ∷ []) c.loop-packet.invariant.pushed
          ∙ append_assoc before (take i bytes) (c.deref.result.now ∷ []) ∙ ap (λ (l : List (List ℕ)). before ++ l) all;
      before = c.push_packet.ensures.before ∙ c.loop-packet.invariant.before;
    }
