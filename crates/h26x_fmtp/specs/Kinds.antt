-- What the values of parameters are.
use Rattle.std.specs.Prelude.{ℕ, ◌*◌, ◌^◌, ◌==◌, ◌&&◌, ◌||◌, codes, nat_le, nat_lt, Bool, if◌then◌else◌, List, length, Option, Some, None, Result, Ok, Err}
use Rattle.std.specs.List.{list_all}
use Rattle.std.specs.Result.{result_ok}
use Rattle.std.specs.Char.{digit_value}
use Rattle.std.specs.Str.Parse.{digits_value}
use Rattle.h26x_fmtp.specs.Tables.{same_name}
use Rattle.h26x_fmtp.specs.declared.kind.Kind.{Kind}
use Rattle.h26x_fmtp.specs.declared.unit_types.UnitTypes.{UnitTypes}
use Rattle.h26x_fmtp.specs.declared.kind.Kind.TheVariants.{Number, HexadecimalNumber, Hexadecimal, TxMode, Units, Text}
use Rattle.h26x_fmtp.specs.declared.error.Fault.{Fault}
use Rattle.h26x_fmtp.specs.declared.error.Fault.TheVariants.{NotANumber, OutOfRange, NotHexadecimal, NotTxMode}

-- whether each byte of a text is a digit
abbrev pub are_digits_of : ℕ → List ℕ → Bool
are_digits_of radix text = list_all (λ c. nat_lt (digit_value c) radix) text

-- the number of a text of digits, of 64 bits at most, and what is wrong with another text
abbrev pub digits_number : ℕ → Fault → List ℕ → Result ℕ Fault
digits_number radix other text =
    if nat_lt 0 (length text) && are_digits_of radix text then
    (if nat_lt (digits_value radix text) (2 ^ 64) then Ok (digits_value radix text)
    else Err OutOfRange)
    else Err other

abbrev pub number_in : List ℕ → Result ℕ Fault
number_in text = digits_number 10 NotANumber text

abbrev pub hexadecimal_number_in : List ℕ → Result ℕ Fault
hexadecimal_number_in text = digits_number 16 NotHexadecimal text

abbrev pub range_fault : ℕ → ℕ → Result ℕ Fault → Option Fault
range_fault least most (Err fault) = Some fault
range_fault least most (Ok number) =
    if nat_le least number && nat_le number most then None else Some OutOfRange

-- whether a text is one of the modes of RFC 7798, section 7.1, in either case (RFC 5234, section 2.3)
abbrev pub is_tx_mode : List ℕ → Bool
is_tx_mode text = (same_name (codes "SRST") text || same_name (codes "MRST") text)
    || same_name (codes "MRMT") text

-- what is wrong with a value of a kind
abbrev pub fault_in : Kind → List ℕ → Option Fault
fault_in (Number least most) value = range_fault least most (number_in value)
fault_in (HexadecimalNumber most) value = range_fault 0 most (hexadecimal_number_in value)
fault_in (Hexadecimal bytes) value =
    if length value == 2 * bytes && are_digits_of 16 value then None else Some NotHexadecimal
fault_in TxMode value = if is_tx_mode value then None else Some NotTxMode
fault_in (Units types) value = None
fault_in Text value = None

-- the number that a value of a kind says, if the kind is a number's
abbrev pub number_of : Kind → List ℕ → Option ℕ
number_of (Number least most) value = result_ok (number_in value)
number_of (HexadecimalNumber most) value = result_ok (hexadecimal_number_in value)
number_of (Hexadecimal bytes) value = None
number_of TxMode value = None
number_of (Units types) value = None
number_of Text value = None

-- the types of the units of a kind, if it is units
abbrev pub unit_types : Kind → Option UnitTypes
unit_types (Number least most) = None
unit_types (HexadecimalNumber most) = None
unit_types (Hexadecimal bytes) = None
unit_types TxMode = None
unit_types (Units types) = Some types
unit_types Text = None
