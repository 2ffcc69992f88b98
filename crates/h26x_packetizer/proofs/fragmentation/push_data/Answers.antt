use Rattle.std.proofs.Common.{rules, map, false, ◌≡◌, ℕ, ◌+◌, ◌<◌, length, length-append, ◌-◌, ◌*◌, refl, sym, ap, ◌∙◌, arith, drop, take, min, eqb, ◌++◌, ◌∷◌, [], List}
use Rattle.std.specs.List.{range_with_len}
use Rattle.std.proofs.lemmas.Grind.{common_steps}
use Rattle.std.proofs.lemmas.Bool.Decides.{nat_tests}
use Rattle.h26x_model.specs.Send.Packets.{fragment, fragmented_bytes, fragment_room}
use Rattle.h26x_packetizer.proofs.FragmentLemmas.{packets_more, fragment_at, rest_more, count_more, all_taken}
use Rattle.h26x_packetizer.proofs.fragmentation.push_data.Goals as goal

pub loop-donl-preserved : goal.loop-donl-preserved
loop-donl-preserved g c =
    let f = g.C.PayloadFormat.format c.args.codec in
    let fragment = fragment f c.args.don c.args.limit c.args.unit.now in
    let before = g.S.PacketSink.packets c.args.made.now in
    let packets = g.S.PacketSink.packets c.loop-donl.made in
    let after = g.S.PacketSink.packets c.push_fragment.new.made in
    let h = c.header_len-header_len.ensures.is in
    let space = c.args.limit - (c.header_len-header_len.result + 1) in
    let same : space ≡ fragment_room f c.args.limit = ap (λ k. c.args.limit - (k + 1)) h in
    let j = length packets - length before in
    let donl = c.loop-donl.donl.now in
    let rest = c.loop-donl.rest.now in
    let inv = c.loop-donl.invariant in
    let taken : c.min-taken.result ≡ min (length rest) (space - length donl) = search rules in
    let some : 0 < length rest = grind (arith, common_steps) in
    let packet : List ℕ = f.fragment_header c.args.unit.now c.loop-donl.start (eqb c.min-taken.result (length rest)) ++ (donl ++ take c.min-taken.result rest) in
    let pushed : after ≡ packets ++ packet ∷ [] = search rules in
    let len : length after ≡ length packets + 1 = ap length pushed ∙ length-append packets (packet ∷ []) in
    let next : length after - length before ≡ j + 1 = omega (arith, len, inv.few_before) in
    let here : packet ≡ fragment j = fragment_at f c.args.don c.args.limit space c.args.unit.now donl rest packet j c.min-taken.result c.loop-donl.start (eqb c.min-taken.result (length rest))
    same inv.donl inv.rest some taken inv.start refl refl in
    record {
      packets = packets_more fragment before packets after packet j inv.packets here pushed ∙ ap (λ k. before ++ map fragment (range_with_len 0 k)) (sym next);
      rest = rest_more f c.args.don c.args.limit space c.args.unit.now donl rest j c.min-taken.result _ same inv.donl inv.rest taken refl ∙ ap (λ k. drop (k * fragment_room f c.args.limit) (fragmented_bytes f c.args.don c.args.unit.now)) (sym next);
      donl = omega (arith, inv.donl);
      short = omega arith;
      few = omega arith;
      count = let a = count_more f c.args.don c.args.limit space c.args.unit.now donl rest j same inv.donl inv.rest some in omega (arith, a, next);
      start = let later : false ≡ eqb (j + 1) 0 = grind (arith, nat_tests) in later ∙ ap (λ k. eqb k 0) (sym next);
      few_before = omega (arith, len, inv.few_before);
      before = search rules;
    }

pub returns-clause-made : goal.returns-clause-made
returns-clause-made g c =
    let f = g.C.PayloadFormat.format c.args.codec in
    let fragment = fragment f c.args.don c.args.limit c.args.unit.now in
    let before = g.S.PacketSink.packets c.args.made.now in
    let space = c.args.limit - (c.header_len-header_len.result + 1) in
    let same : space ≡ fragment_room f c.args.limit = ap (λ k. c.args.limit - (k + 1)) c.header_len-header_len.ensures.is in
    let j = length (g.S.PacketSink.packets c.loop-donl.made) - length before in
    let inv = c.loop-donl.invariant in
    let none : length c.loop-donl.rest.now ≡ 0 = grind (arith, common_steps) in
    let all = all_taken f c.args.don c.args.limit space c.args.unit.now c.loop-donl.donl.now c.loop-donl.rest.now j same (omega (arith, inv.donl)) inv.rest none inv.few inv.count in
    inv.packets ∙ ap (λ n. before ++ map fragment (range_with_len 0 n)) all
