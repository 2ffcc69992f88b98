-- When what two depacketizers show is equal.
use Rattle.std.specs.Prelude.{Bool, Option, Some, None}
use Rattle.std.specs.Ordering.{eq_of_both, on}
use Rattle.std.specs.Option.{option_eq}
use Rattle.std.specs.Cmp.{IsEquivalence, and_equiv, on_equiv}
use Rattle.std.specs.Cmp.Rules.{comparing}
use Rattle.std.specs.Cmp.Lexicographic.{options_equiv}
use Rattle.std.proofs.Common.{rules}
use Rattle.h265_packets.specs.Payload.{SinglePacket, FragmentationPacket, AggregationPacket, PaciPacket, single_eq, fragmentation_eq, first_eq, other_eq, aggregation_eq, paci_eq}
use Rattle.h265_packets.specs.declared.payload.H265Payload.{H265Payload}
use Rattle.h265_packets.specs.declared.payload.H265Payload.TheVariants as p

-- the packet of a kind, if it is of this kind
abbrev pub as_single : H265Payload → Option SinglePacket
as_single (p.H265SingleNALUnitPacket packet) = Some packet
as_single payload = None

abbrev pub as_fragmentation : H265Payload → Option FragmentationPacket
as_fragmentation (p.H265FragmentationUnitPacket packet) = Some packet
as_fragmentation payload = None

abbrev pub as_aggregation : H265Payload → Option AggregationPacket
as_aggregation (p.H265AggregationPacket packet) = Some packet
as_aggregation payload = None

abbrev pub as_paci : H265Payload → Option PaciPacket
as_paci (p.H265PACIPacket packet) = Some packet
as_paci payload = None

-- packets of one kind are equal where what they show and their marks are
abbrev pub payload_eq : H265Payload → H265Payload → Bool
payload_eq = eq_of_both (on as_single (option_eq single_eq)) (eq_of_both (on as_fragmentation
    (option_eq fragmentation_eq)) (eq_of_both (on as_aggregation (option_eq aggregation_eq)) (on
    as_paci (option_eq paci_eq))))

-- each is an equivalence
pub single_equiv : IsEquivalence single_eq
single_equiv = search (comparing, rules) depth 9

pub fragmentation_equiv : IsEquivalence fragmentation_eq
fragmentation_equiv = search (comparing, rules) depth 9

pub aggregation_equiv : IsEquivalence aggregation_eq
aggregation_equiv = search (comparing, rules) depth 9

pub first_equiv : IsEquivalence first_eq
first_equiv = search (comparing, rules) depth 9

pub other_equiv : IsEquivalence other_eq
other_equiv = search (comparing, rules) depth 9

pub paci_equiv : IsEquivalence paci_eq
paci_equiv = search (comparing, rules) depth 9

pub payload_equiv : IsEquivalence payload_eq
payload_equiv = and_equiv (on_equiv as_single (options_equiv single_equiv)) (and_equiv
    (on_equiv as_fragmentation (options_equiv fragmentation_equiv)) (and_equiv
    (on_equiv as_aggregation (options_equiv aggregation_equiv))
    (on_equiv as_paci (options_equiv paci_equiv))))
