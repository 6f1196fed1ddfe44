use Rattle.std.proofs.Common.{ap}
use Rattle.clap.specs.Simple.{app_of_fields}
use Rattle.clap.specs.Words.{new_app}
use Rattle.flounder_args.specs.Words.{IsCommand}
use Rattle.flounder_args.proofs.Making.{globals_of, told}
use Rattle.flounder_args.proofs.words.described.Goals as goal

pub returns : goal.returns
returns c =
    let app = new_app c.args.name.now in
    let bare : IsCommand app c.new.result = record { is_app = c.new.ensures.app; is_local = c.new.ensures.local } in
    let about : IsCommand app c.about.result = told c.new.result c.about.result app bare (ap app_of_fields c.about.ensures) (ap globals_of c.about.ensures) in
    record { is = told c.about.result c.after_help.result app about (ap app_of_fields c.after_help.ensures) (ap globals_of c.after_help.ensures) }
