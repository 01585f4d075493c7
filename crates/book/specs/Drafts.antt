-- What a write makes of the row of its entry, and when it may. No public clause cites this module.
use Rattle.std.specs.Prelude.{◌≡◌, ◌<◌, ◌≤◌, ◌-◌, ◌++◌, ◌^◌, ℕ, length, All, IfSome, false}
use Rattle.std.specs.List.Sorted.{IsStrictlySortedBy}
use Rattle.mw_types.specs.Bounds.{IsWithin}
use Rattle.mw_types.specs.declared.TheConstants.{MAX_STAMP}
use Rattle.mw_types.specs.declared.delivery.Delivery.{Delivery}
use Rattle.mw_types.specs.declared.entry.Entry.{Entry}
use Rattle.mw_types.specs.declared.identity.RowName.{RowName}
use Rattle.row_parts.specs.Changes.{grown, shrunk, with_own}
use Rattle.row_parts.specs.Contents.{AreTimers, Contents, IsId, delivery_cmp, is_finished}
use Rattle.row_parts.specs.declared.changes.Own.{Own}
use Rattle.run_history.specs.Fences.{IsCurrent}
use Rattle.book.specs.Appending.{IsNext, sent_by}
use Rattle.book.specs.Books.{BookView, LeaseView, core_of}
use Rattle.book.specs.Conditions.{IsRowOf}
use Rattle.book.specs.Lawful.{IsLawful}
use Rattle.book.specs.declared.drafts.Draft.{Draft}
use Rattle.book.specs.declared.row_writes.Before.{Before}

-- a lease was found to be the last of its interval, and there is room for an entry of this number
pub record IsAdmitted (book : BookView) (lease : LeaseView) (commit : ℕ) : Type 0 where
  pub lawful : IsLawful book.case (core_of book)
  pub last : IsCurrent lease.interval lease.seq book.history
  pub room : length book.history < book.limit
  pub number : commit ≡ length book.history
  pub below : commit < 2 ^ 32

-- a row with a draft in it, which the entry of this number put there
abbrev pub drafted : Draft → ℕ → Contents → Contents
drafted draft commit row = record (with_own draft.own (grown draft.id draft.sent row)) { last = commit }

-- a row once a draft is taken out of it, which had so many pending and this last entry before
abbrev pub undrafted : Draft → ℕ → ℕ → Contents → Contents
undrafted draft count last row = shrunk draft.id count (record (with_own draft.own row) { last = last })

-- a row with the ids, the floor and the last entry that it had before a purge
abbrev pub with_seen : Before → Contents → Contents
with_seen before row = record row { seen = before.seen; floor = before.floor; last = before.last }

-- a row may have a state and timers in the place of its own
pub record AreOwn (own : Own) : Type 0 where
  pub state : IfSome own.state IsWithin
  pub timers : IfSome own.timers AreTimers

-- a draft may be put into a row: what takes the place of the row's own is a row's, the id is not finished, and
-- what is sent comes behind what is pending
pub record MayDraft (row : Contents) (draft : Draft) : Type 0 where
  pub own : AreOwn draft.own
  pub id : IfSome draft.id IsId
  pub new : IfSome draft.id (λ id. is_finished id row ≡ false)
  pub ids : All (λ (d : Delivery). IsId d.id) draft.sent
  pub stamps : All (λ (d : Delivery). d.item.stamp ≤ MAX_STAMP) draft.sent
  pub ascending : IsStrictlySortedBy delivery_cmp (row.pending ++ draft.sent)

-- an entry may be appended that puts a draft into the row of the history: it may come next, and sends what is
-- pending anew
pub record IsDrafting (book : BookView) (name : RowName) (row : Contents) (draft : Draft) (commit : ℕ)
    (entry : Entry) : Type 0 where
  pub may : MayDraft row draft
  pub next : IsNext book.case (core_of book) name entry (drafted draft commit row)
  pub sent : length (drafted draft commit row).pending - length row.pending
      ≡ sent_by book.case.topology book.history entry
  pub was : IsRowOf book.case book.rows book.history name row
