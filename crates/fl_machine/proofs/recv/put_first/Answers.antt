use Rattle.fl_machine.proofs.Storing.{first_put}
use Rattle.fl_machine.proofs.recv.put_first.Goals as goal

pub returns : goal.returns
returns c =
    let left = first_put c.args.numbers.now c.args.tape.now c.copy_from_slice.new.self c.copy_from_slice.ensures.after c.requires.room in
    record { first = left.0; long = left.1 }
