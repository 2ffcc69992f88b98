-- Threads share it: a `&` to it is a share of what goes to another thread.
use denote.Param.Send.{IsSync, part_keyless}
use Rattle.h26x_c.specs.contracts.const_handle.ConstHandle.{the_row}
use Rattle.h26x_c.proofs.const_handle.ConstHandle.TheSendSync.Send.{send}

pub sync : IsSync the_row
sync = record { shared = λ h b o κ share. part_keyless the_row send share h b o }
