-- What a row of the code says.
use Rattle.std.specs.Option.{option_map}
use Rattle.h26x_fmtp.specs.Tables as table
use Rattle.h26x_fmtp.specs.declared.table.ParameterRow.{ParameterRow}

abbrev pub row_view : ParameterRow → table.ParameterRow
row_view row = record {
  name = row.name.now;
  kind = row.kind;
  default = option_map (λ value. value.now) row.default;
}
