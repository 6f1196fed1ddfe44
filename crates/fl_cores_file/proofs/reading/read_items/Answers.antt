use Rattle.std.proofs.Common.{sym, subst}
use Rattle.fl_cores_file.specs.CoresFile.{CoresFile, is_file, Reads}
use Rattle.fl_cores_file.proofs.LineLemmas.{refused_there, on_any}
use Rattle.fl_cores_file.proofs.reading.read_items.Goals as goal

pub returns-in-Err : goal.returns-in-Err
returns-in-Err c = record {
  reads = refused_there c.in-Err.line c.args.text.now c.in-Err.stop c.refuse.result c.in-Err.ensures.refused c.refuse.ensures.refused;
  memory = on_any _ c.refuse.result c.requires.short;
}

pub returns-in-Ok : goal.returns-in-Ok
returns-in-Ok c = record {
  reads = subst (λ (f : CoresFile). Reads c.args.text.now (is_file f)) (sym c.new.ensures.file) c.in-Ok.ensures.file;
  memory = tt;
}
