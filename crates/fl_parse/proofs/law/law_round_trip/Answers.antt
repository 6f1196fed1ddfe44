use Rattle.fl_parse.proofs.RoundTrip as trips
use Rattle.fl_parse.proofs.law.law_round_trip.Goals as goal

pub returns : goal.returns
returns c = record { round_trip = trips.round_trip }
