use Rattle.std.proofs.Common.{◌/◌, ◌+◌, length, ◌++◌, ap, ◌∙◌}
use Rattle.h26x_core.specs.Word.{word}
use Rattle.h26x_rtp.specs.Memory.{overwritten}
use Rattle.h26x_rtp.proofs.MemoryLemmas.{written_twice}
use Rattle.h26x_rtp.proofs.writing.put_extension.Goals as goal

pub returns-in-Some-clause-written : goal.returns-in-Some-clause-written
returns-in-Some-clause-written c =
    let e = c.in-Some.extension in
    rw c.in-Some.is (written_twice c.args.place c.put-behind.result (word e.profile ++ word (length e.bytes.now / 4)) e.bytes.now c.args.to.now c.put-behind.new.to c.put.new.to
    (c.put-behind.ensures.written ∙ ap (λ bytes. overwritten c.args.place bytes c.args.to.now) c.extension_head.ensures)
    (c.put-behind.ensures.end ∙ ap (λ bytes. c.args.place + length bytes) c.extension_head.ensures)
    c.put.ensures.written (rw c.in-Some.is at c.requires.room))
