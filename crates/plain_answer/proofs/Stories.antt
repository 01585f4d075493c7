-- What a history handled and put into the streams, with one more entry; and what holds along legal histories.
use Rattle.std.proofs.Common.{◌≡◌, List, [], ◌∷◌, ◌++◌, fold, refl, sym, ◌∙◌, ap, subst}
use Rattle.std.proofs.lemmas.List.Sums.{fold-append}
use Rattle.mw_types.specs.declared.entry.Entry.{Entry}
use Rattle.topology.specs.Shapes.{Shape}
use Rattle.run_history.specs.Cases.{CaseShape}
use Rattle.run_history.specs.Runs.{Run, run_of, followed, empty_run}
use Rattle.run_history.specs.Legal.{MayFollow, AreLegal, IsLegal}
use Rattle.run_history.proofs.RunLaws.{run_of-push}
use Rattle.history_laws.proofs.Along.{along_history}
use Rattle.plain_answer.specs.Stories.{handled_by, added_by, Story, story_with, story_of, done_of, out_of}
use Rattle.plain_answer.specs.Deeds.{Told, told, deeds_of, deeds_in}
use Rattle.mw_types.specs.declared.identity.RowName.{RowName}

-- before any entry
abbrev first_story : Story
first_story = record { run = empty_run; done = []; out = [] }

-- the run of a story is that of the history
story-run : (shape : Shape) (h : List Entry) (s : Story) → (fold (story_with shape) s h).run ≡ fold (followed shape) s.run h
story-run shape [] s = refl
story-run shape (e ∷ es) s = story-run shape es (story_with shape s e)

-- a story with one more entry
story-push : (shape : Shape) (h : List Entry) (entry : Entry) → story_of shape (h ++ entry ∷ []) ≡ story_with shape (story_of shape h) entry
story-push shape h entry = fold-append (story_with shape) first_story h (entry ∷ [])

-- what was handled with one more entry
pub done-push : (shape : Shape) (h : List Entry) (entry : Entry)
    → done_of shape (h ++ entry ∷ []) ≡ done_of shape h ++ handled_by (run_of shape h) entry
done-push shape h entry = ap (λ (s : Story). s.done) (story-push shape h entry)
    ∙ ap (λ (r : Run). done_of shape h ++ handled_by r entry) (story-run shape h first_story)

-- what is in the streams with one more entry
pub out-push : (shape : Shape) (h : List Entry) (entry : Entry)
    → out_of shape (h ++ entry ∷ []) ≡ out_of shape h ++ added_by (run_of shape h) entry
out-push shape h entry = ap (λ (s : Story). s.out) (story-push shape h entry)
    ∙ ap (λ (r : Run). out_of shape h ++ added_by r entry) (story-run shape h first_story)

-- ---- the deeds of a row

-- the run is the history's
told-run : (shape : Shape) (name : RowName) (h : List Entry) (s : Told) → (fold (told shape name) s h).run ≡ fold (followed shape) s.run h
told-run shape name [] s = refl
told-run shape name (e ∷ es) s = told-run shape name es (told shape name s e)

-- what a row did with one more entry
pub deeds-push : (shape : Shape) (name : RowName) (h : List Entry) (entry : Entry)
    → deeds_of shape name (h ++ entry ∷ []) ≡ deeds_of shape name h ++ deeds_in name (run_of shape h) entry
deeds-push shape name h entry =
    ap (λ (s : Told). s.deeds) (fold-append (told shape name) (record { run = empty_run; deeds = [] }) h (entry ∷ []))
    ∙ ap (λ (r : Run). deeds_of shape name h ++ deeds_in name r entry) (told-run shape name h (record { run = empty_run; deeds = [] }))

-- ---- along legal histories

-- a legal history with an entry that may follow is legal
pub legal-push : (case : CaseShape) (h : List Entry) (entry : Entry) (run : Run) → AreLegal case run h
    → MayFollow case (fold (followed case.topology) run h) entry → AreLegal case run (h ++ entry ∷ [])
legal-push case [] entry run legal may = (may, tt)
legal-push case (e ∷ es) entry run legal may = (legal.0, legal-push case es entry (followed case.topology run e) legal.1 may)

module _ (case : CaseShape) (P : List Entry → Type 0) where
  -- the run is the history's, which is legal, and of which the fact holds
  abbrev Holds : List Entry → Run → Type 0
  Holds done run = (run ≡ run_of case.topology done) × IsLegal case done × P done

  -- one more entry
  abbrev Step : Type 0
  Step = (h : List Entry) (entry : Entry) → IsLegal case h → MayFollow case (run_of case.topology h) entry → P h → P (h ++ entry ∷ [])

  -- all of it with one more entry
  next : Step → (h : List Entry) (run : Run) (entry : Entry) → Holds h run → MayFollow case run entry
      → Holds (h ++ entry ∷ []) (followed case.topology run entry)
  next step h run entry holds may =
      let follows : MayFollow case (run_of case.topology h) entry = subst (λ (r : Run). MayFollow case r entry) holds.0 may in (
        ap (λ (r : Run). followed case.topology r entry) holds.0 ∙ sym (run_of-push case.topology h entry),
        legal-push case h entry empty_run holds.1 follows,
        step h entry holds.1 follows holds.2,
      )

  -- what holds before any entry, and still does after one more, holds of each legal history
  pub along_legal : Step → P [] → (h : List Entry) → IsLegal case h → P h
  along_legal step first h legal = (along_history case Holds (next step) (refl, tt, first) h legal).2
