use Rattle.flounder_args.proofs.words.header_command.Goals as goal

pub returns : goal.returns
returns c = record { is = c.with_file.ensures.is }
