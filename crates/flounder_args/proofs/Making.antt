-- Commands and arguments with words of help and settings of their own, as `clap` reads them.
use Rattle.std.proofs.Common.{◌≡◌, ◌∙◌, Bool, true, Some}
use Rattle.clap.specs.Simple.{app_of_fields}
use Rattle.clap.specs.Words.{App, Rule, Text}
use Rattle.clap.specs.declared.builder.arg.Arg.{Arg}
use Rattle.clap.specs.declared.builder.command.Command.{Command}
use Rattle.clap.specs.declared.builder.command.Command.TheOpen.{Command-F}
use Rattle.clap.specs.declared.builder.command.Command.TheViews.{out-Command as fields_of}
use Rattle.flounder_args.specs.Words.{IsCommand}

-- a command with other words of help is read as before
pub told : (old new : Command) (a : App) → IsCommand a old → app_of_fields (fields_of new) ≡ app_of_fields (fields_of old) → (fields_of new).has_globals ≡ (fields_of old).has_globals → IsCommand a new
told old new a h same globals = record { is_app = same ∙ h.is_app; is_local = globals ∙ h.is_local }

-- whether a command has arguments of all its commands
abbrev pub globals_of : Command-F Command → Bool
globals_of f = f.has_globals

abbrev pub is_global : Arg → Bool
is_global arg = arg.global

-- a rule that has to be kept
abbrev pub wanted : Rule → Rule
wanted r = record r { required = true }

-- a rule of an option of this name
abbrev pub named : Text → Rule → Rule
named name r = record r { long = Some name }

-- an app that has a version
abbrev pub with_version : App → App
with_version a = record a { top = record a.top { has_version = true } }

-- an app whose word `help` is no command
abbrev pub without_help_word : App → App
without_help_word a = record a { top = record a.top { disable_help_subcommand = true } }
