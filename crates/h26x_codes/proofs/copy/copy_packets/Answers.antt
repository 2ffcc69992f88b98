use Rattle.std.proofs.Common.{◌≡◌, ◌∙◌, ◌++◌, sym, ap, List, ℕ, drop, take, length, arith}
use Rattle.std.specs.List.{concat}
use Rattle.std.proofs.lemmas.List.{length-take-le}
use Rattle.h26x_codes.proofs.CopyLemmas.{bytes_before, no_longer, copied_there}
use Rattle.h26x_codes.proofs.copy.copy_packets.Goals as goal

pub slice_bounds-copy_from_slice-end-3 : goal.slice_bounds-copy_from_slice-end-3
slice_bounds-copy_from_slice-end-3 c =
    let rest = drop c.args.first c.args.packets.now.packets in
    let len = c.copy_ends-count.ensures.len in
    let all = ap length c.bytes_from.ensures in
    let fewer = no_longer rest c.copy_ends-count.result.0 in
    sym (length-take-le c.copy_ends-count.result.1 c.bytes_from.result.now (omega (arith, len, all, fewer)))

pub copy_from_slice-requires : goal.copy_from_slice-requires
copy_from_slice-requires c =
    let rest = drop c.args.first c.args.packets.now.packets in
    let len = c.copy_ends-count.ensures.len in
    let all = ap length c.bytes_from.ensures in
    let fewer = no_longer rest c.copy_ends-count.result.0 in
    let fit = c.copy_ends-count.ensures.most.fits.fit in
    length-take-le c.copy_ends-count.result.1 c.args.to.now (omega (arith, len, fit))
    ∙ sym (length-take-le c.copy_ends-count.result.1 c.bytes_from.result.now (omega (arith, len, all, fewer)))

pub returns : goal.returns
returns c =
    let rest = drop c.args.first c.args.packets.now.packets in
    let count = c.copy_ends-count.result.0 in
    let len = c.copy_ends-count.ensures.len in
    let front : c.copy_from_slice.new.self ≡ concat (take count rest) =
    c.copy_from_slice.ensures.after ∙ ap (λ (x : List ℕ). take c.copy_ends-count.result.1 x) c.bytes_from.ensures ∙ ap (λ k. take k (concat rest)) len ∙ bytes_before rest count in
    record {
      most = c.copy_ends-count.ensures.most;
      joined = copied_there (concat (take count rest)) c.args.to.now _ c.copy_ends-count.ensures.most.fits.fit
          (ap (λ (x : List ℕ). x ++ drop c.copy_ends-count.result.1 c.args.to.now) front ∙ ap (λ k. concat (take count rest) ++ drop k c.args.to.now) len);
      marked = c.copy_ends-count.ensures.marked;
    }
