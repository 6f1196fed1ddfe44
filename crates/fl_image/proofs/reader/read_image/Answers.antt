use Rattle.std.proofs.Common.{◌≡◌, refl, sym, ◌∙◌, arith}
use Rattle.std.proofs.lemmas.Bool.{false≢true}
use Rattle.std.proofs.lemmas.Result.{err_from_is_err_and}
use Rattle.fl_compile.specs.Programs.{program_of}
use Rattle.fl_image.specs.Image.{image_of}
use Rattle.fl_image.specs.Views.{found_view}
use Rattle.fl_image.proofs.Answered.{Fitting, is_found, is_found_writable, is_other, only_program, no_other, no_fault}
use Rattle.fl_image.proofs.Begun.{answers, all_begun}
use Rattle.fl_image.proofs.reader.read_image.Goals as goal

pub returns-in_err-found-clause-fault : goal.returns-in_err-found-clause-fault
returns-in_err-found-clause-fault c =
    let p = err_from_is_err_and c.from_residual.result c.from_residual.ensures.1 in
    rw (p.1, p.2) (answers c.args.bytes.now c.in_err-found.field-0.0 (λ i. omega (arith, c.type_inv.bytes i)) c.in_err-found.ensures.reads c.in_err-found.ensures.memory)

pub returns-in_err-program-clause-fault : goal.returns-in_err-program-clause-fault
returns-in_err-program-clause-fault c =
    let p = err_from_is_err_and c.from_residual-in_err-program.result c.from_residual-in_err-program.ensures.1 in
    rw (p.1, p.2) (all_begun c.args.bytes.now (found_view c.in_ok-found.found) (λ i. omega (arith, c.type_inv.bytes i)) c.in_ok-found.ensures.reads)

pub returns-in_err-image-clause-fault : goal.returns-in_err-image-clause-fault
returns-in_err-image-clause-fault c =
    let p = err_from_is_err_and c.from_residual-in_err-image.result c.from_residual-in_err-image.ensures.1 in
    rw (p.1, p.2) (all_begun c.args.bytes.now (found_view c.in_ok-found.found) (λ i. omega (arith, c.type_inv.bytes i)) c.in_ok-found.ensures.reads)

pub write_image-requires : goal.write_image-requires
write_image-requires c =
    let fit : Fitting c.in_ok-found.found c.in_ok-program.program = record { interface = c.in_ok-program.ensures.interface; plan = c.in_ok-program.ensures.plan } in
    record { writable = is_found_writable c.args.bytes.now c.in_ok-found.found c.in_ok-program.program (λ i. omega (arith, c.type_inv.bytes i)) c.in_ok-found.ensures.reads fit }

pub returns-in_err-found-clause-only : goal.returns-in_err-found-clause-only
returns-in_err-found-clause-only c = λ plan x h e.
    let p = err_from_is_err_and c.from_residual.result c.from_residual.ensures.1 in
    rw (p.1, p.2) (no_fault plan x c.args.bytes.now c.in_err-found.field-0.0 h e c.in_err-found.ensures.reads)

pub returns-then-not-same_bytes-clause-only : goal.returns-then-not-same_bytes-clause-only
returns-then-not-same_bytes-clause-only c = λ plan x h e.
    let fit : Fitting c.in_ok-found.found c.in_ok-program.program = record { interface = c.in_ok-program.ensures.interface; plan = c.in_ok-program.ensures.plan } in
    no_other plan x c.args.bytes.now c.in_ok-found.found c.in_ok-program.program h e c.in_ok-found.ensures.reads fit
    (λ same. false≢true (c.if-not-same_bytes.ensures.exact.1 (c.deref.ensures.value ∙ c.in_ok-image.ensures.image ∙ sym same)))

pub returns-then-not-same_bytes-clause-fault : goal.returns-then-not-same_bytes-clause-fault
returns-then-not-same_bytes-clause-fault c =
    let fit : Fitting c.in_ok-found.found c.in_ok-program.program = record { interface = c.in_ok-program.ensures.interface; plan = c.in_ok-program.ensures.plan } in
    is_other c.args.bytes.now c.in_ok-found.found c.in_ok-program.program (λ i. omega (arith, c.type_inv.bytes i)) c.in_ok-found.ensures.reads fit
    (λ same. false≢true (c.if-not-same_bytes.ensures.exact.1 (c.deref.ensures.value ∙ c.in_ok-image.ensures.image ∙ sym same)))

pub returns-clause-found : goal.returns-clause-found
returns-clause-found c =
    let fit : Fitting c.in_ok-found.found c.in_ok-program.program = record { interface = c.in_ok-program.ensures.interface; plan = c.in_ok-program.ensures.plan } in
    let same : c.args.bytes.now ≡ image_of (program_of c.in_ok-program.program).plan (program_of c.in_ok-program.program).interface =
    sym (c.if-not-same_bytes.ensures.exact.0 refl) ∙ c.deref.ensures.value ∙ c.in_ok-image.ensures.image in
    is_found c.args.bytes.now c.in_ok-found.found c.in_ok-program.program (λ i. omega (arith, c.type_inv.bytes i)) c.in_ok-found.ensures.reads fit same

pub returns-clause-only : goal.returns-clause-only
returns-clause-only c = λ plan x h e.
    let fit : Fitting c.in_ok-found.found c.in_ok-program.program = record { interface = c.in_ok-program.ensures.interface; plan = c.in_ok-program.ensures.plan } in
    only_program plan x c.args.bytes.now c.in_ok-found.found c.in_ok-program.program h e c.in_ok-found.ensures.reads fit
