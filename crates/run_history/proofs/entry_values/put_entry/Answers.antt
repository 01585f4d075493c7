use Rattle.run_history.proofs.entry_values.put_entry.Goals as goal

-- the entry is the handled record that was matched
pub returns-in-Handle : goal.returns-in-Handle
returns-in-Handle c = rw c.in-Handle.is c.put_handle.ensures

-- the entry is the acknowledgement that was matched
pub returns-in-Ack : goal.returns-in-Ack
returns-in-Ack c = rw c.in-Ack.is c.put_ack.ensures
