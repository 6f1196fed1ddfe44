use Rattle.std.proofs.Common.{inl, inr}
use Rattle.fl_link.specs.Looks.{LinkStep}
use Rattle.fl_link.proofs.Conserved as conserved
use Rattle.fl_link.proofs.law.law_looks_join.Goals as goal

pub returns : goal.returns
returns g c =
    let puts = g.L.PutSide.puts in
    let takes = g.L.TakeSide.takes in
    record {
      puts = conserved.looks_join puts;
      takes = conserved.looks_join takes;
      either = conserved.looks_join (LinkStep puts takes);
      puts_are = conserved.looks_widen puts (LinkStep puts takes) (λ s t look step. inl step);
      takes_are = conserved.looks_widen takes (LinkStep puts takes) (λ s t look step. inr step);
    }
