use Rattle.std.proofs.Common.{arith, ◌≡◌, ◌+◌, ◌-◌, length, refl}
use Rattle.h26x_depacketizer.proofs.OpenTextLemmas.{put_twice}
use Rattle.h26x_depacketizer.proofs.open_text.put_before.Goals as goal

pub returns : goal.returns
returns c =
    let a = c.args.at in
    let prefix = c.args.prefix.now in
    let head = c.args.head.now in
    let bytes = c.args.bytes.now in
    let one : c.copy_from_slice.new.self ≡ prefix = c.copy_from_slice.ensures.after in
    let other : c.copy_from_slice-2.new.self ≡ head = c.copy_from_slice-2.ensures.after in
    let k : a + length prefix - a ≡ length prefix = omega arith in
    let n : a + length prefix + length head - (a + length prefix) ≡ length head = omega arith in
    rw (one, other, k, n) (put_twice a (length prefix) (length head) bytes prefix head refl refl (omega arith))
