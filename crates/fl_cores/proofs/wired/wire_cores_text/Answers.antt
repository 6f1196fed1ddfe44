use Rattle.std.proofs.Common.{ℕ, ◌≤◌, rules, Err}
use Rattle.fl_cores_file.specs.Files.{file_from}
use Rattle.fl_cores.proofs.Files.{few, counted, making}
use Rattle.fl_cores.proofs.Texts.{memory_said, memory_alone, fault_of_file}
use Rattle.fl_cores.proofs.wired.wire_cores_text.Goals as goal

pub returns-in_err-file-clause-fault : goal.returns-in_err-file-clause-fault
returns-in_err-file-clause-fault c = memory_said c.from_residual.result c.from_residual.ensures.1

pub wire_file-requires : goal.wire_file-requires
wire_file-requires c =
    let reads = rw c.in-File.is at c.in_ok-file.ensures.reads in
    let within : c.in-File.file.cores ≤ 16 = few c.args.text.now (file_from c.in-File.file) reads in
    search (rules, within)

pub returns-in-Ok-clause-wires : goal.returns-in-Ok-clause-wires
returns-in-Ok-clause-wires c =
    let reads = rw c.in-File.is at c.in_ok-file.ensures.reads in
    record { file = file_from c.in-File.file; reads = reads; wires = c.in-Ok.ensures.wires }

pub returns-in-Err-clause-fault : goal.returns-in-Err-clause-fault
returns-in-Err-clause-fault c =
    let reads = rw c.in-File.is at c.in_ok-file.ensures.reads in
    let text = c.args.text.now in
    let file = file_from c.in-File.file in
    let pass = c.law_set_ups_are_the_machines.ensures.files in
    let is = fault_of_file {T = ℕ} pass c.law_files_join.ensures.none text file (Err c.in-Err.fault) reads (counted text file reads) (making text file reads) c.in-Err.ensures.fault in
    memory_alone text c.in-Err.fault is c.in-Err.ensures.no_thread
