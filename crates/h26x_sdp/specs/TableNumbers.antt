-- What a table of parameters says, one thing at a time.
use Rattle.std.specs.Prelude.{ℕ, List, Option, Some, None}
use Rattle.std.specs.List.{filter_map}
use Rattle.std.specs.Option.{option_map}
use Rattle.h26x_fmtp.specs.declared.kind.Kind.{Kind}
use Rattle.h26x_fmtp.specs.declared.kind.Kind.TheVariants.{Number, HexadecimalNumber, Hexadecimal, TxMode, Units, Text}
use Rattle.h26x_fmtp.specs.Tables.{ParameterRow}

-- the parameters that have a default, with it
abbrev pub defaults : List ParameterRow → List (List ℕ × List ℕ)
defaults rows = filter_map (λ row. option_map (λ text. (row.name, text)) row.default) rows

abbrev pub bounds_of : Kind → Option (ℕ × ℕ)
bounds_of (Number least most) = Some (least, most)
bounds_of (HexadecimalNumber most) = Some (0, most)
bounds_of (Hexadecimal bytes) = None
bounds_of TxMode = None
bounds_of (Units types) = None
bounds_of Text = None

-- those that are numbers, with the least and the most
abbrev pub bounds : List ParameterRow → List (List ℕ × ℕ × ℕ)
bounds rows = filter_map (λ row. option_map (λ it. (row.name, it.0, it.1)) (bounds_of row.kind)) rows

-- those that aren't, with what they are
abbrev pub text_kind : Kind → Option Kind
text_kind (Number least most) = None
text_kind (HexadecimalNumber most) = None
text_kind (Hexadecimal bytes) = Some (Hexadecimal bytes)
text_kind TxMode = Some TxMode
text_kind (Units types) = Some (Units types)
text_kind Text = Some Text

abbrev pub texts : List ParameterRow → List (List ℕ × Kind)
texts rows = filter_map (λ row. option_map (λ it. (row.name, it)) (text_kind row.kind)) rows
