-- What an entry makes: a delivery of each of its productions to each consumer, or emissions where nothing
-- reads.
-- Akidau et al., VLDB 2013, section 6.1: a record gets its id when it is produced. Own: how ids are counted.
use Rattle.std.specs.Prelude.{ℕ, Bool, false, List, [], ◌∷◌, map, Option, Some, None}
use Rattle.std.specs.Option.{option_map_or}
use Rattle.std.specs.List.{flat_map, enumerate_from}
use Rattle.mw_types.specs.declared.identity.RowName.{RowName}
use Rattle.mw_types.specs.declared.record.Record.{Record}
use Rattle.mw_types.specs.declared.record.Production.{Production}
use Rattle.mw_types.specs.declared.delivery.Delivery.{Delivery}
use Rattle.mw_types.specs.declared.delivery.Emission.{Emission}
use Rattle.mw_types.specs.declared.entry.Entry.{Entry}
use Rattle.mw_types.specs.declared.entry.Entry.TheVariants.{Claim, Inject, Handle, Fire, Ack, Purge}
use Rattle.topology.specs.declared.subscription.Subscription.{Subscription}
use Rattle.topology.specs.Shapes.{Shape, consumers_of, extracted}
use Rattle.row_parts.specs.Contents.{found_delivery}

-- a production as a record, which is late where its cause is
abbrev pub produced : Bool → Production → Record
produced late p = record { key = p.key; stamp = p.stamp; value = p.value; late = late }

-- the row to which a subscription sends a record: the consumer's, by the extracted key
abbrev pub row_to : Record → Subscription → RowName
row_to item s = record { part = s.to; key = extracted s.by item.key }

-- a record, once for each subscription, with the row that it goes to
abbrev pub sends_of : List Subscription → Record → List (RowName × Record)
sends_of subscriptions item = map (λ s. (row_to item s, item)) subscriptions

-- the delivery that an entry of this number made, by its place among them
abbrev pub delivery_at : ℕ → ℕ × (RowName × Record) → Delivery
delivery_at commit (index, send) =
    record { id = record { commit = commit; index = index }; to = send.0; item = send.1 }

-- the deliveries of records to consumers: for each record in order, one for each subscription in order
abbrev pub deliveries_to : List Subscription → ℕ → List Record → List Delivery
deliveries_to subscriptions commit items =
    map (delivery_at commit) (enumerate_from 0 (flat_map (sends_of subscriptions) items))

-- what a record of a part becomes where nothing reads the part's stream
abbrev pub emission_at : ℕ → ℕ → ℕ × Record → Emission
emission_at part commit (index, item) =
    record { id = record { commit = commit; index = index }; part = part; item = item }

-- the emissions of records of a part, where its stream has no subscription
abbrev pub emissions_to : List Subscription → ℕ → ℕ → List Record → List Emission
emissions_to [] part commit items = map (emission_at part commit) (enumerate_from 0 items)
emissions_to (s ∷ ss) part commit items = []

-- the deliveries that productions of a part become
abbrev pub deliveries_made : Shape → ℕ → List Production → Bool → ℕ → List Delivery
deliveries_made shape part productions late commit =
    deliveries_to (consumers_of shape part) commit (map (produced late) productions)

-- the emissions that productions of a part become
abbrev pub emissions_made : Shape → ℕ → List Production → Bool → ℕ → List Emission
emissions_made shape part productions late commit =
    emissions_to (consumers_of shape part) part commit (map (produced late) productions)

-- the row that an entry is on; a claim is on none
abbrev pub row_written : Entry → Option RowName
row_written (Claim worker interval) = None
row_written (Inject seq part line item) = Some (record { part = part; key = [] })
row_written (Handle seq row id effects) = Some row
row_written (Fire seq row timer mark effects) = Some row
row_written (Ack seq row id) = Some row
row_written (Purge seq row floor) = Some row

-- what an entry produces: an injected record, or what a handler produced
abbrev pub productions_of : Entry → List Production
productions_of (Claim worker interval) = []
productions_of (Inject seq part line item) =
    record { key = item.key; stamp = item.stamp; value = item.value } ∷ []
productions_of (Handle seq row id effects) = effects.productions
productions_of (Fire seq row timer mark effects) = effects.productions
productions_of (Ack seq row id) = []
productions_of (Purge seq row floor) = []

-- whether an entry's cause is late: the record, the timer, or the delivery that was made under the handled id
abbrev pub late_cause : List Delivery → Entry → Bool
late_cause made (Claim worker interval) = false
late_cause made (Inject seq part line item) = item.late
late_cause made (Handle seq row id effects) =
    option_map_or (λ (d : Delivery). d.item.late) (found_delivery id made) false
late_cause made (Fire seq row timer mark effects) = timer.late
late_cause made (Ack seq row id) = false
late_cause made (Purge seq row floor) = false

-- the deliveries that an entry makes under its commit number, after those made before it
abbrev pub deliveries_of : Shape → List Delivery → ℕ → Entry → List Delivery
deliveries_of shape made commit entry = option_map_or
    (λ (row : RowName). deliveries_made shape row.part (productions_of entry) (late_cause made entry) commit)
    (row_written entry) []

-- the emissions that an entry makes
abbrev pub emissions_of : Shape → List Delivery → ℕ → Entry → List Emission
emissions_of shape made commit entry = option_map_or
    (λ (row : RowName). emissions_made shape row.part (productions_of entry) (late_cause made entry) commit)
    (row_written entry) []
