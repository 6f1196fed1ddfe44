use Rattle.std.proofs.Common.{ℕ, List, ◌∷◌, ap, sym, subst, ◌∙◌}
use Rattle.fl_compile.specs.Programs.{program_of}
use Rattle.fl_c_operations.specs.Calls.{ReadsCall}
use Rattle.fl_c_operations.proofs.calls.read_numbers.Goals as goal

pub returns-in-Err : goal.returns-in-Err
returns-in-Err c =
    let same = ap (λ (n : ℕ). n ∷ c.in-Some.tape.now) c.in-Some-message_at.ensures.some.0 ∙ sym c.in-Some.ensures.some in
    record { reads = subst (λ (l : List ℕ). ReadsCall (program_of c.args.program.now) l c.without_memory.result) same c.without_memory.ensures.reads }
