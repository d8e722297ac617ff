-- What building the command makes of its model.
use Rattle.std.proofs.Common.{◌≡◌, ◌∙◌, ap, ap₂, false, true, codes}
use Rattle.clap.specs.Words.{AddsArg, App, Rule, app_of, new_app, rule_of, with_rule}
use Rattle.clap.specs.Simple.{app_of_fields}
use Rattle.clap.specs.declared.builder.arg.Arg.{Arg}
use Rattle.clap.specs.declared.builder.command.Command.{Command}
use Rattle.clap.specs.declared.builder.command.Command.TheViews.{out-Command as fields_of}
use Rattle.im_words.specs.Command.{bare}

pub with_argument : (old : Command) (a : Arg) (new : Command) (app : App) (rule : Rule) → AddsArg old a new → a.global ≡ false
    → app_of old ≡ app → rule_of a ≡ rule → app_of new ≡ with_rule app rule
with_argument old a new app rule added local is-app is-rule = added.shape local ∙ ap₂ with_rule is-app is-rule

abbrev helpless : App → App
helpless a = record a { top = record a.top { disable_help_flag = true } }

pub without_help : (new old : Command) → fields_of new ≡ record (fields_of old) { disable_help_flag = true }
    → app_of old ≡ new_app (codes "ime") → app_of new ≡ bare
without_help new old same is = ap app_of_fields same ∙ ap helpless is
