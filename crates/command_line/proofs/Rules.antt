-- The command as `clap` has built it, and what a search among its arguments finds.
use Rattle.std.proofs.Common.{◌≡◌, ◌⊎◌, inl, inr, true, false, List, [], ◌∷◌, Some, refl, codes}
use Rattle.std.specs.Str.{bytes_eq}
use Rattle.clap.specs.Walk.{Rule, Text, arg_by_id, arg_by_index, arg_by_long}
use Rattle.clap.specs.Simple.{Shape, built, new_rule, new_shape}
use Rattle.clap.specs.Faults.{is_simple_and_free}
use Rattle.clap.specs.declared.builder.action.ArgAction.TheVariants.{Append, Set, SetTrue}
use Rattle.clap.specs.declared.builder.range.ValueRange.{ValueRange}
use Rattle.clap.specs.declared.builder.value_parser.ValueParser.TheVariants as parsers
use Rattle.command_line.specs.Clap.{mill_app}

-- one of the options
pub data Asked : Type 0 where
  plan : Asked
  workers : Asked
  rounds : Asked
  keep : Asked
  trace : Asked

-- one of the flags
pub data Flag : Type 0 where
  history_flag : Flag
  live_flag : Flag

-- one of the arguments
pub data Id : Type 0 where
  mode : Id
  args : Id
  plan_id : Id
  workers_id : Id
  rounds_id : Id
  keep_id : Id
  trace_id : Id
  history : Id
  live : Id

abbrev pub option : Asked → Id
option plan = plan_id
option workers = workers_id
option rounds = rounds_id
option keep = keep_id
option trace = trace_id

abbrev pub flag : Flag → Id
flag history_flag = history
flag live_flag = live

abbrev pub text_of : Id → Text
text_of mode = codes "mode"
text_of args = codes "args"
text_of plan_id = codes "plan"
text_of workers_id = codes "workers"
text_of rounds_id = codes "rounds"
text_of keep_id = codes "keep"
text_of trace_id = codes "trace"
text_of history = codes "history"
text_of live = codes "live"

abbrev pub name_of : Asked → Text
name_of x = text_of (option x)

abbrev pub flag_name : Flag → Text
flag_name f = text_of (flag f)

abbrev one : ValueRange
one = record { start_inclusive = 1; end_inclusive = 1 }

abbrev no_value : ValueRange
no_value = record { start_inclusive = 0; end_inclusive = 0 }

abbrev option_with : Text → Rule
option_with name = record (new_rule name) { long = Some name; action = Some Set; parser = Some parsers.String; range = Some one }

abbrev pub flag_with : Text → Rule
flag_with name = record (new_rule name) {
  long = Some name;
  action = Some SetTrue;
  parser = Some parsers.Bool;
  range = Some no_value;
  defaults = codes "false" ∷ [];
  missing = codes "true" ∷ [];
}

abbrev pub rule_of : Id → Rule
rule_of mode = record (new_rule (codes "mode")) { index = Some 1; action = Some Set; parser = Some parsers.String; range = Some one }
rule_of args = record (new_rule (codes "args")) { index = Some 2; action = Some Append; parser = Some parsers.String; range = Some one }
rule_of plan_id = option_with (codes "plan")
rule_of workers_id = option_with (codes "workers")
rule_of rounds_id = option_with (codes "rounds")
rule_of keep_id = option_with (codes "keep")
rule_of trace_id = option_with (codes "trace")
rule_of history = flag_with (codes "history")
rule_of live = flag_with (codes "live")

unfoldable pub rules : List Rule
rules =
    rule_of mode ∷ rule_of args ∷ rule_of plan_id ∷ rule_of workers_id ∷ rule_of rounds_id ∷ rule_of keep_id
    ∷ rule_of trace_id ∷ rule_of history ∷ rule_of live ∷ []

abbrev pub shape : Shape
shape = record (new_shape (codes "millwheel")) {
  rules = rules;
  no_binary_name = true;
  disable_help_flag = true;
  disable_help_subcommand = true;
  is_built = true;
}

pub built_is : built mill_app ≡ record { top = shape; subs = [] }
unfolding rules
built_is = refl

pub simple : is_simple_and_free mill_app ≡ true
simple = refl

pub by_id : (i : Id) → arg_by_id rules (text_of i) ≡ Some (rule_of i)
unfolding rules
by_id mode = refl
by_id args = refl
by_id plan_id = refl
by_id workers_id = refl
by_id rounds_id = refl
by_id keep_id = refl
by_id trace_id = refl
by_id history = refl
by_id live = refl

pub by_long : (x : Asked) → arg_by_long rules (name_of x) ≡ Some (rule_of (option x))
unfolding rules
by_long plan = refl
by_long workers = refl
by_long rounds = refl
by_long keep = refl
by_long trace = refl

pub by_long-flag : (f : Flag) → arg_by_long rules (flag_name f) ≡ Some (flag_with (flag_name f))
unfolding rules
by_long-flag history_flag = refl
by_long-flag live_flag = refl

pub first_place : arg_by_index rules 1 ≡ Some (rule_of mode)
unfolding rules
first_place = refl

pub second_place : arg_by_index rules 2 ≡ Some (rule_of args)
unfolding rules
second_place = refl

-- two arguments are one, or have other names
pub same_or_other : (i j : Id) → (i ≡ j) ⊎ (bytes_eq (text_of i) (text_of j) ≡ false)
same_or_other mode mode = inl refl
same_or_other args args = inl refl
same_or_other plan_id plan_id = inl refl
same_or_other workers_id workers_id = inl refl
same_or_other rounds_id rounds_id = inl refl
same_or_other keep_id keep_id = inl refl
same_or_other trace_id trace_id = inl refl
same_or_other history history = inl refl
same_or_other live live = inl refl
same_or_other _ _ = inr refl
