use Rattle.flounder_args.proofs.words.read_words.Goals as goal

pub request_of_program-requires : goal.request_of_program-requires
request_of_program-requires g c = record { is = c.in_ok-command.ensures.is }

pub returns-clause-asked : goal.returns-clause-asked
returns-clause-asked g c = c.request_of_program.ensures.asked

pub returns-clause-refused : goal.returns-clause-refused
returns-clause-refused g c = c.request_of_program.ensures.refused
