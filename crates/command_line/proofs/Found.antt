-- What is read where `clap` takes the words, and where it does not.
use Rattle.std.proofs.Common.{◌≡◌, ◌≢◌, ◌∙◌, ⊎_elim, Bool, List, [], Option, Some, None, true, false, codes, if◌then◌else◌, nat_eq, refl, sym, ap, subst}
use Rattle.std.specs.Cmp.Lexicographic.{pointwise}
use Rattle.clap.specs.Faults.{fault_of, is_simple_and_free}
use Rattle.clap.specs.Kinds.{HasKind, IsAmong, Kinds}
use Rattle.clap.specs.Simple.{App, HasMatchesOf, is_simple, matches_of}
use Rattle.clap.specs.Values.{kind_of}
use Rattle.clap.specs.Walk.{Row, Text, one_of}
use Rattle.clap.specs.declared.error.Error.{Error}
use Rattle.clap.specs.declared.error.kind.ErrorKind.TheVariants as kind
use Rattle.clap.specs.declared.parser.matches.ArgMatches.{ArgMatches}
use Rattle.command_line.specs.Words.{line_of}
use Rattle.command_line.specs.Clap.{HasFlags, IsLineIn, has_short, mill_app, rows_in}
use Rattle.command_line.specs.declared.line.Line.{Line}
use Rattle.command_line.proofs.Reading.{clap_reads}
use Rattle.command_line.proofs.Rules.{simple}
use Rattle.command_line.proofs.Steps.{Reads}

is_simple_app : is_simple mill_app ≡ true
is_simple_app = refl

-- whether a text is `true`
abbrev says_true : Option Text → Bool
says_true None = false
says_true (Some text) = pointwise nat_eq text (codes "true")

-- a flag reads in one way
flags_are_one : (found : Option Text) (a b : Bool)
    → found ≡ Some (if a then codes "true" else codes "false")
    → found ≡ Some (if b then codes "true" else codes "false")
    → a ≡ b
flags_are_one found true true p q = refl
flags_are_one found true false p q = ap says_true (sym p ∙ q)
flags_are_one found false true p q = ap says_true (sym p ∙ q)
flags_are_one found false false p q = refl

-- `clap` finds one line
lines_are_one : (rows : List Row) (a b : Line) → IsLineIn rows a → IsLineIn rows b → a ≡ b
lines_are_one rows a b p q =
    ap (λ (names : List Text). record a { positionals = names }) (sym p.positionals ∙ q.positionals)
    ∙ ap (λ (o : Option Text). record a { positionals = b.positionals; plan = o }) (sym p.plan ∙ q.plan)
    ∙ ap (λ (o : Option Text). record a { positionals = b.positionals; plan = b.plan; workers = o }) (sym p.workers ∙ q.workers)
    ∙ ap (λ (o : Option Text). record b { rounds = o; keep = a.keep; trace = a.trace; history = a.history; live = a.live }) (sym p.rounds ∙ q.rounds)
    ∙ ap (λ (o : Option Text). record b { keep = o; trace = a.trace; history = a.history; live = a.live }) (sym p.keep ∙ q.keep)
    ∙ ap (λ (o : Option Text). record b { trace = o; history = a.history; live = a.live }) (sym p.trace ∙ q.trace)
    ∙ ap (λ (flag : Bool). record b { history = flag; live = a.live })
    (flags_are_one (one_of (codes "history") rows) a.history b.history p.history q.history)
    ∙ ap (λ (flag : Bool). record b { live = flag })
    (flags_are_one (one_of (codes "live") rows) a.live b.live p.live q.live)

-- where `clap` took the words, the words have a line, which is what it found
line_there : (words : List Text) (app : App) (m : ArgMatches) → app ≡ mill_app → has_short words ≡ false
    → (is_simple_and_free app ≡ true → fault_of app words ≡ []) → HasMatchesOf app words m
    → (line : Line) × ((line_of words ≡ Some line) × IsLineIn (rows_in m) line)
line_there words app m app_is none faults found = go (line_of words) refl (clap_reads words none)
  where
    no_fault : fault_of mill_app words ≡ []
    no_fault = ap (λ a. fault_of a words) (sym app_is) ∙ faults (ap is_simple_and_free app_is ∙ simple)

    rows_are : rows_in m ≡ matches_of mill_app words
    rows_are = (found (ap is_simple app_is ∙ is_simple_app)).0 ∙ ap (λ a. matches_of a words) app_is

    go : (o : Option Line) → line_of words ≡ o → Reads o (fault_of mill_app words) (matches_of mill_app words)
        → (line : Line) × ((line_of words ≡ Some line) × IsLineIn (rows_in m) line)
    go None is fails = absurd (fails no_fault)
    go (Some line) is reads = (line, (is, subst (λ rows. IsLineIn rows line) (sym rows_are) reads.1))

-- so each flag reads in one of its ways
pub flags_there : (words : List Text) (app : App) (m : ArgMatches) → app ≡ mill_app → has_short words ≡ false
    → (is_simple_and_free app ≡ true → fault_of app words ≡ []) → HasMatchesOf app words m → HasFlags (rows_in m)
flags_there words app m app_is none faults found =
    let line = line_there words app m app_is none faults found in ((line.0.history, line.1.1.history), (line.0.live, line.1.1.live))

-- and a line that is what `clap` found is the one that the words say
pub line_taken : (words : List Text) (app : App) (m : ArgMatches) (made : Line) → app ≡ mill_app → has_short words ≡ false
    → (is_simple_and_free app ≡ true → fault_of app words ≡ []) → HasMatchesOf app words m
    → IsLineIn (rows_in m) made → line_of words ≡ Some made
line_taken words app m made app_is none faults found made_is =
    let line = line_there words app m app_is none faults found in
    line.1.0 ∙ ap Some (lines_are_one (rows_in m) line.0 made line.1.1 made_is)

-- no line is there where `clap` refused the words, and memory did not run out
pub line_refused : (words : List Text) (app : App) (e : Error) → app ≡ mill_app → has_short words ≡ false
    → (is_simple_and_free app ≡ true → HasKind (fault_of app words) e) → kind_of e ≢ kind.OutOfMemory → line_of words ≡ None
line_refused words app e app_is none faults no_want = go (line_of words) (clap_reads words none)
  where
    has_fault : HasKind (fault_of mill_app words) e
    has_fault = subst (λ kinds. HasKind kinds e) (ap (λ a. fault_of a words) app_is) (faults (ap is_simple_and_free app_is ∙ simple))

    never : (kinds : Kinds) → kinds ≡ [] → HasKind kinds e → ⊥
    never kinds is has = ⊎_elim (λ want. no_want want) (λ among. subst (IsAmong (kind_of e)) is among) has

    go : (o : Option Line) → Reads o (fault_of mill_app words) (matches_of mill_app words) → o ≡ None
    go None fails = refl
    go (Some line) reads = absurd (never (fault_of mill_app words) reads.0 has_fault)
