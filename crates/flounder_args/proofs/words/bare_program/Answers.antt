use Rattle.std.proofs.Common.{◌∙◌, ap, codes}
use Rattle.clap.specs.Simple.{app_of_fields}
use Rattle.clap.specs.Words.{new_app}
use Rattle.flounder_args.specs.Words.{IsCommand}
use Rattle.flounder_args.proofs.Making.{globals_of, with_version, without_help_word}
use Rattle.flounder_args.proofs.words.bare_program.Goals as goal

pub returns : goal.returns
returns c =
    let all : IsCommand (new_app (codes "flounder")) c.described.result = c.described.ensures.is in
    record {
      is = record {
        is_app = ap app_of_fields c.version.ensures ∙ ap with_version (ap app_of_fields c.disable_help_subcommand.ensures ∙ ap without_help_word all.is_app);
        is_local = ap globals_of c.version.ensures ∙ ap globals_of c.disable_help_subcommand.ensures ∙ all.is_local;
      };
    }
