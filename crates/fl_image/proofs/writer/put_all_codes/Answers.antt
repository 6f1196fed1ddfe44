use Rattle.std.proofs.Common.{◌≡◌, ◌++◌, ◌<◌, length, map, ap, arith}
use Rattle.std.specs.List.{flat_map}
use Rattle.fl_interface.specs.Interface.{TheInterface, message_of}
use Rattle.fl_compile.specs.Programs.{program_of}
use Rattle.fl_image.specs.Image.{codes_image, codes_of}
use Rattle.fl_image.proofs.Places.{at_place, one_written, length_of_map}
use Rattle.fl_image.proofs.writer.put_all_codes.Goals as goal

pub loop-number-preserved : goal.loop-number-preserved
loop-number-preserved c =
    let messages = (program_of c.args.program.now).interface.messages in
    let plan = (program_of c.args.program.now).plan in
    let found = c.interface.result.now.messages in
    let same : length (map message_of found.items) ≡ length messages = ap (λ (x : TheInterface). length x.messages) c.interface.ensures.interface in
    let lt : c.loop-number.number < length messages = omega (arith, same, length_of_map message_of found.items, found.ok.0, c.len-count.ensures, c.loop-number-test.true) in
    let p = at_place messages c.loop-number.number lt in
    one_written codes_image (codes_of plan) messages c.loop-number.number p.0 c.loop-number.out.items c.put_message_codes.new.out.items (c.args.out.now.items ++ flat_map codes_image (map (codes_of plan) messages)) p.2 (c.in_ok-put_message_codes.ensures.put p.0 p.1) c.loop-number.invariant
