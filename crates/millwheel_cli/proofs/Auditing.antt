-- What the audit of a trace answers is what is said of its file.
use Rattle.std.proofs.Common.{◌≡◌, ◌≤◌, ℕ, List, length, Option, refl, subst, inl, inr}
use Rattle.mw_ports.specs.Shelves.{Files}
use Rattle.run_history.specs.Cases.{CaseShape}
use Rattle.trace_lines.specs.declared.refusal.AuditWhy.{AuditWhy}
use Rattle.trace_lines.specs.declared.refusal.AuditRefusal.{AuditRefusal}
use Rattle.trace_lines.specs.declared.refusal.AuditRefusal.TheVariants as audits
use Rattle.trace_lines.specs.Refusals.{IsAuditRefusal, IsFirstWrong}
use Rattle.millwheel_cli.specs.declared.refusal.Refusal.{Refusal}
use Rattle.millwheel_cli.specs.Limits.{trace_limit}
use Rattle.millwheel_cli.specs.Files.{IsContent}
use Rattle.millwheel_cli.specs.Audits.{CountsTrace, HoldsTrace, IsCountOf, IsOfNoRun, SaysWrong}
use Rattle.millwheel_cli.specs.Reasons.{ShelfSeen, IsUnread}
use Rattle.millwheel_cli.specs.Inside.{IsTraceRefused, UnlessWant, of_audit}
use Rattle.millwheel_cli.proofs.Refusals.{unless_map}

-- bytes that are a file's are those of its trace
trace_held : (files : Option Files) (trace bytes : List ℕ) → IsContent files trace bytes → length bytes ≤ trace_limit
    → HoldsTrace files trace bytes
trace_held files trace bytes content short = record { bytes = bytes; content = content; short = short; gives = refl }

-- what is written of a file's bytes is written of its trace
pub counts_trace : (files : Option Files) (trace bytes slice text : List ℕ) (case : CaseShape) → slice ≡ bytes
    → IsContent files trace bytes → length bytes ≤ trace_limit → IsCountOf case slice text → CountsTrace files trace case text
counts_trace files trace bytes slice text case same content short count = record {
  bytes = bytes;
  trace_read = trace_held files trace bytes content short;
  count = subst (λ (bs : List ℕ). IsCountOf case bs text) same count;
}

-- a trace that was not read is refused
pub trace_unread : (seen : ShelfSeen) (trace : List ℕ) (case : CaseShape) (refusal : Refusal)
    → UnlessWant (IsUnread seen trace trace_limit) refusal → UnlessWant (IsTraceRefused seen trace case) refusal
trace_unread seen trace case refusal is =
    unless_map (IsUnread seen trace trace_limit) (IsTraceRefused seen trace case) refusal (λ s unread. inl (inl unread)) is

-- so is one whose bytes are wrong
pub trace_wrong : (seen : ShelfSeen) (trace bytes slice : List ℕ) (case : CaseShape) (refusal : Refusal) → slice ≡ bytes
    → IsContent seen.files trace bytes → length bytes ≤ trace_limit → UnlessWant (SaysWrong case slice) refusal
    → UnlessWant (IsTraceRefused seen trace case) refusal
trace_wrong seen trace bytes slice case refusal same content short is =
    unless_map (SaysWrong case slice) (IsTraceRefused seen trace case) refusal (λ s says. inr (record {
      bytes = bytes;
      trace_read = trace_held seen.files trace bytes content short;
      wrong = subst (λ (bs : List ℕ). SaysWrong case bs s) same says;
    })) is

-- bytes with a wrong line are those of no run
pub refuted_says : (case : CaseShape) (bytes : List ℕ) (refusal : AuditRefusal) → IsAuditRefusal case bytes refusal
    → ((number : ℕ) (why : AuditWhy) → IsFirstWrong case bytes number why → IsOfNoRun case bytes)
    → UnlessWant (SaysWrong case bytes) (of_audit refusal)
refuted_says case bytes (audits.Bad line why) is none = (is, none line why is)
refuted_says case bytes audits.NoMemory is none = tt
