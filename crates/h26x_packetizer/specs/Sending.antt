-- What a packetizer does with the sets that wait, and what it sends, for every format.
use Rattle.std.specs.Prelude.{◌≡◌, ℕ, ◌+◌, ◌%◌, Bool, true, false, if◌then◌else◌, List, [], ◌∷◌, ◌++◌, length, Option, map, Vec}
use Rattle.std.specs.List.{flat_map}
use Rattle.std.specs.Option.{option_map}
use Rattle.h26x_model.specs.Payload.Format.{Format}
use Rattle.h26x_model.specs.Send.Plan.{Item, item_units, unit_items, sets_items}
use Rattle.h26x_model.specs.Send.Packets.{plan_packets}
use Rattle.h26x_model.specs.Send.WaitingSets.{WaitingSets}
use Rattle.h26x_packetizer.specs.declared.body.Body.{Body}
use Rattle.h26x_packetizer.specs.declared.body.Body.TheVariants as b
use Rattle.h26x_packetizer.specs.Group.{lent_units}
use Rattle.h26x_packetizer.specs.declared.packetizer.Brought.{Brought}
use Rattle.h26x_packetizer.specs.declared.units.Outgoing.{Outgoing}
use Rattle.h26x_packetizer.specs.declared.units.Outgoing.TheVariants as d
use Rattle.h26x_packetizer.specs.declared.update.Update.{Update}
use Rattle.h26x_payload.specs.Sets.{set_list, lent_set, sets_list, sets_behind_lengths}

-- the bytes of each packet of a list
abbrev pub contents : {A : Type 0} → List (Vec ℕ A) → List (List ℕ)
contents packets = map (λ p. p.items) packets

-- a set that is kept, if there is one, as a list
abbrev pub kept_set : {A : Type 0} → Option (Vec ℕ A) → List (List ℕ)
kept_set set = set_list (option_map (λ v. v.items) set)

-- what waits, where these sets do
abbrev pub waiting_sets : Option (List ℕ) → Option (List ℕ) → Option (List ℕ) → WaitingSets
waiting_sets vps sps pps = record { vps = set_list vps; sps = set_list sps; pps = set_list pps }

-- the latest set, where those from before may have been sent
abbrev pub latest_set : List (List ℕ) → Bool → List (List ℕ) → List (List ℕ)
latest_set old are_sent [] = if are_sent then [] else old
latest_set old are_sent (set ∷ sets) = set ∷ []

-- the sets that wait, by those from before and what a payload brought
abbrev pub waiting_with_brought : WaitingSets → Brought → WaitingSets
waiting_with_brought w b = record {
  vps = latest_set w.vps b.are_sent (lent_set b.vps);
  sps = latest_set w.sps b.are_sent (lent_set b.sps);
  pps = latest_set w.pps b.are_sent (lent_set b.pps);
}

-- the sets that wait once a call is carried out
abbrev pub waiting_with_update : WaitingSets → Update → WaitingSets
waiting_with_update w u = record {
  vps = latest_set w.vps u.are_sent (kept_set u.vps);
  sps = latest_set w.sps u.are_sent (kept_set u.sps);
  pps = latest_set w.pps u.are_sent (kept_set u.pps);
}

-- the bytes of what stands behind a packet's header and its number
abbrev pub body_bytes : Body → List ℕ
body_bytes (b.Data bytes) = bytes.now
body_bytes (b.Sets sets gap) = sets_behind_lengths gap.now (sets_list sets)
body_bytes (b.Units units gap) = sets_behind_lengths gap.now (lent_units units.now)

-- a packet of these parts, one behind the other
abbrev pub packet_bytes : List ℕ → List ℕ → Body → List ℕ
packet_bytes header donl body = header ++ (donl ++ body_bytes body)

-- how many bytes that is
abbrev pub packet_len : List ℕ → List ℕ → Body → ℕ
packet_len header donl body = length header + (length donl + length (body_bytes body))

-- whether nothing goes
abbrev pub is_nothing : Outgoing → Bool
is_nothing d.Nothing = true
is_nothing outgoing = false

-- what goes when this unit comes
abbrev pub outgoing_to_items : Format → ℕ → List ℕ → Outgoing → List Item
outgoing_to_items f limit unit d.Nothing = []
outgoing_to_items f limit unit d.Unit = unit_items f limit unit
outgoing_to_items f limit unit (d.SetsAndUnit sets) = sets_items f limit (sets_list sets) unit
    ++ unit_items f limit unit

-- how many units items send
abbrev pub unit_count : List Item → ℕ
unit_count items = length (flat_map item_units items)

-- behind some packets stand those of items, numbered on from n, and the next number is this
pub record ArePushed (f : Format) (n : ℕ) (items : List Item) (before after : List (List ℕ))
    (next : ℕ) : Type 0 where
  pub made : after ≡ before ++ plan_packets f n items
  pub don : next ≡ (n + unit_count items) % 65536
