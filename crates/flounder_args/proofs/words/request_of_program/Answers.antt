use Rattle.flounder_args.proofs.words.request_of_program.Goals as goal

pub request_by-request-requires : goal.request_by-request-requires
request_by-request-requires g c = record { is = c.requires.is }

pub returns-clause-asked : goal.returns-clause-asked
returns-clause-asked g c = c.request_by-request.ensures.asked

pub returns-clause-refused : goal.returns-clause-refused
returns-clause-refused g c = c.request_by-request.ensures.refused
