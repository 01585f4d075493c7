-- The entry that is lent. Own.
use Rattle.mw_types.specs.declared.entry.Entry.{Entry}
use Rattle.mw_types.specs.declared.entry.Entry.TheVariants as entries
use Rattle.run_history.specs.declared.entry_ref.EntryRef.{EntryRef}
use Rattle.run_history.specs.declared.entry_ref.EntryRef.TheVariants.{Claim, Inject, Handle, Fire, Ack, Purge}

-- the entry whose parts are lent
abbrev pub lent : EntryRef → Entry
lent (Claim worker interval) = entries.Claim worker interval
lent (Inject seq part line item) = entries.Inject seq part line item.now
lent (Handle seq row id effects) = entries.Handle seq row.now id effects.now
lent (Fire seq row timer mark effects) = entries.Fire seq row.now timer mark effects.now
lent (Ack seq row id) = entries.Ack seq row.now id
lent (Purge seq row floor) = entries.Purge seq row.now floor
