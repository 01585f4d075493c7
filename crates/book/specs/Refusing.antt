-- What a keeper's refusal is to a caller of a book. The conversions of refusals cite it.
use Rattle.row_keeper.specs.declared.keeper.KeeperFault.{KeeperFault}
use Rattle.row_keeper.specs.declared.keeper.KeeperFault.TheVariants as faults
use Rattle.book.specs.declared.refusals.WriteRefusal.{WriteRefusal}
use Rattle.book.specs.declared.refusals.WriteRefusal.TheVariants as writes
use Rattle.book.specs.declared.refusals.ClaimRefusal.{ClaimRefusal}
use Rattle.book.specs.declared.refusals.ClaimRefusal.TheVariants as claims
use Rattle.book.specs.declared.refusals.StartWhy.{StartWhy}
use Rattle.book.specs.declared.refusals.StartWhy.TheVariants as starts

-- what a start answers where the keeper refused
abbrev pub start_why_of : KeeperFault → StartWhy
start_why_of faults.Failed = starts.KeeperFault
start_why_of faults.NoMemory = starts.NoMemory

-- what a write answers where the keeper refused
abbrev pub write_refusal_of : KeeperFault → WriteRefusal
write_refusal_of faults.Failed = writes.KeeperFault
write_refusal_of faults.NoMemory = writes.NoMemory

-- what a claim answers where the keeper refused
abbrev pub claim_refusal_of : KeeperFault → ClaimRefusal
claim_refusal_of faults.Failed = claims.KeeperFault
claim_refusal_of faults.NoMemory = claims.NoMemory
