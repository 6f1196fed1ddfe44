use Rattle.std.proofs.Common.{◌≤◌, rules}
use Rattle.fl_cores_file.specs.Files.{file_from}
use Rattle.fl_cores.proofs.Files.{few, counted, making}
use Rattle.fl_cores.proofs.Texts.{memory_of_text, fault_of_file}
use Rattle.fl_cores.proofs.text.run_text.Goals as goal

pub returns-in_err-file-clause-fault : goal.returns-in_err-file-clause-fault
returns-in_err-file-clause-fault g c = memory_of_text c.args.text.now c.from_residual.result c.from_residual.ensures.1

pub run_file-requires : goal.run_file-requires
run_file-requires g c =
    let reads = rw c.in-File.is at c.in_ok-file.ensures.reads in
    let within : c.in-File.file.cores ≤ 16 = few c.args.text.now (file_from c.in-File.file) reads in
    search (rules, within)

pub returns-in-File-clause-fault : goal.returns-in-File-clause-fault
returns-in-File-clause-fault g c =
    let reads = rw c.in-File.is at c.in_ok-file.ensures.reads in
    let text = c.args.text.now in
    let file = file_from c.in-File.file in
    let pass = c.law_set_ups_are_the_machines.ensures.files in
    fault_of_file pass c.law_files_join.ensures.none text file c.run_file.result reads (counted text file reads) (making text file reads) c.run_file.ensures.fault

pub returns-in_err-print_refusal-in-Refused-clause-fault : goal.returns-in_err-print_refusal-in-Refused-clause-fault
returns-in_err-print_refusal-in-Refused-clause-fault g c =
    memory_of_text c.args.text.now c.from_residual-in_err-print_refusal-in-Refused.result c.from_residual-in_err-print_refusal-in-Refused.ensures.1
