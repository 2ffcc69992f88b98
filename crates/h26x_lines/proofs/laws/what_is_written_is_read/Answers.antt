use Rattle.h26x_lines.proofs.WrittenLemmas.{written_bytes, written_digits}
use Rattle.h26x_lines.proofs.laws.what_is_written_is_read.Goals as goal

pub returns-clause-digits : goal.returns-clause-digits
returns-clause-digits c = written_digits

pub returns-clause-bytes : goal.returns-clause-bytes
returns-clause-bytes c = written_bytes
