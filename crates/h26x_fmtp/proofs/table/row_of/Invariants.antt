use Rattle.std.proofs.Common.{◌≡◌, drop, map}
use Rattle.h26x_fmtp.specs.Tables.{row_from, row_of}
use Rattle.h26x_fmtp.specs.TableViews.{row_view}
use Rattle.h26x_fmtp.proofs.table.row_of.Given as goal

abbrev pub invariant-loop-place : goal.invariant-loop-place
invariant-loop-place l = row_from l.place (map row_view (drop l.place l.rows)) l.name ≡ row_of (map row_view l.rows) l.name
