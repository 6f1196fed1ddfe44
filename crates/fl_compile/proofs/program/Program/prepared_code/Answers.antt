use Rattle.std.proofs.Common.{◌≡◌, List, subst, rules}
use Rattle.fl_compile.specs.declared.program.MessageCode.{MessageCode}
use Rattle.fl_compile.specs.Codes.{ArePrepared}
use Rattle.fl_stub.specs.declared.op.Column.TheVariants.{Send}
use Rattle.fl_compile.specs.Programs.{program_of, code_in, Prepares}
use Rattle.fl_compile.proofs.Prepared.{prepared_found, none_found}
use Rattle.fl_compile.proofs.Alike.{receives}
use Rattle.fl_compile.proofs.program.Program.prepared_code.Goals as goal

pub returns-in-Some : goal.returns-in-Some
returns-in-Some c =
    let p = program_of c.args.self.now in
    let ps = c.args.self.now.compiled.value.prepared.items in
    let h = subst (λ (cs : List MessageCode). ArePrepared cs ps) c.args.self.now.exact c.args.self.now.prepared in
    let same : c.deref-2.result.now ≡ ps = search (rules, c.deref-2.ensures, c.deref.ensures) in
    let means : Prepares (code_in Send p c.args.msg.0) c.in-Some.prepared.now
    = prepared_found p.plan p.interface.messages ps c.deref-2.result.now c.from.result c.args.msg.0 c.in-Some.prepared.now h same c.from.ensures
    c.in-Some.ensures.lookup.0 c.in-Some.ensures.lookup.1 in
    record {
      means = means;
      receives = receives p c.args.msg.0 c.in-Some.prepared.now c.args.self.now.compiled.value.plans.interface.within c.args.self.now.words means;
      none = tt;
    }

pub returns-in-None : goal.returns-in-None
returns-in-None c =
    let p = program_of c.args.self.now in
    let ps = c.args.self.now.compiled.value.prepared.items in
    let h = subst (λ (cs : List MessageCode). ArePrepared cs ps) c.args.self.now.exact c.args.self.now.prepared in
    let same : c.deref-2.result.now ≡ ps = search (rules, c.deref-2.ensures, c.deref.ensures) in
    record {
      means = tt;
      receives = tt;
      none = none_found p.plan p.interface.messages ps c.deref-2.result.now c.from.result c.args.msg.0 h same c.from.ensures c.in-None.ensures.lookup.0;
    }
