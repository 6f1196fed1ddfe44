use Rattle.std.proofs.Common.{◌≡◌, ◌+◌, ℕ, List, [], ◌∷◌, Option, Some, sym, ap, subst, ◌∙◌, arith, rules}
use Rattle.std.specs.Prelude.{slice_get}
use Rattle.std.specs.Global.{Vec}
use Rattle.fl_base.specs.declared.fragment.Frag.{Frag}
use Rattle.fl_stub.specs.Code.{TheCode}
use Rattle.fl_stub.specs.Frames.{block_of}
use Rattle.fl_stub.specs.Given.{bytes_given}
use Rattle.fl_compile.specs.Programs.{program_of}
use Rattle.fl_endpoint.specs.Stored.{code_of, payload_frags, tape_frags, frags_behind, AreOwn, IsSending}
use Rattle.fl_endpoint.specs.declared.outgoing.SendingCall.{SendingCall}
use Rattle.fl_endpoint.proofs.Outgoings.{code_is, own_frags, only_one}
use Rattle.fl_endpoint.proofs.outgoing.Outgoing.start_one.Goals as goal

-- the call's fragments are this one
one : (c : goal.After-self-1) → c.first_frag-next.result ∷ [] ≡ tape_frags (program_of c.args.program.now) c.args.circuit.0 c.args.msg.0 c.args.tape.now
one c =
    let p = program_of c.args.program.now in
    let code = c.in-Some.code.now in
    let same : code ≡ code_of p c.args.msg.0 = code_is p.plan (slice_get p.interface.messages c.args.msg.0) code (search rules) in
    let first : Some c.first_frag-next.result ≡ slice_get (tape_frags p c.args.circuit.0 c.args.msg.0 c.args.tape.now) 0
    = c.first_frag-next.ensures
    ∙ ap (λ (k : TheCode). slice_get (payload_frags c.args.circuit.0 c.args.msg.0 (bytes_given (block_of k.ops) c.args.tape.now)) 0) same in
    only_one (tape_frags p c.args.circuit.0 c.args.msg.0 c.args.tape.now) c.first_frag-next.result first (c.requires.short.one c.args.circuit.0)

pub returns-clause-now : goal.returns-clause-now
returns-clause-now c = λ waiting.
    let p = program_of c.args.program.now in
    let bytes = bytes_given (block_of (code_of p c.args.msg.0).ops) c.args.tape.now in
    let s : SendingCall = record { msg = c.args.msg; next = c.first_frag-next.result; written = 0; count = 1; circuit = c.args.circuit } in
    let long : 0 + 1 ≡ 1 = omega arith in
    subst (λ (payload : Option (Vec ℕ)). IsSending s payload) (sym c.requires.idle) (record {
      own = subst (λ (xs : List Frag). AreOwn xs) (sym (one c)) (own_frags c.args.msg.0 c.args.circuit.0 bytes (search rules) (search rules));
      counted = long;
    })

pub returns-clause-frags : goal.returns-clause-frags
returns-clause-frags c =
    let s : SendingCall = record { msg = c.args.msg; next = c.first_frag-next.result; written = 0; count = 1; circuit = c.args.circuit } in
    ap (λ (payload : Option (Vec ℕ)). c.first_frag-next.result ∷ frags_behind s payload) c.requires.idle ∙ one c

pub returns-clause-count : goal.returns-clause-count
returns-clause-count c = sym (c.requires.short.one c.args.circuit.0)
