use Rattle.bstr.specs.Utf8.{lossy_chars}
use Rattle.flounder_svg.proofs.DataLemmas.{PutSoFar}
use Rattle.flounder_svg.proofs.data.put_data.Given as goal

abbrev pub invariant-loop-c : goal.invariant-loop-c
invariant-loop-c l = PutSoFar (lossy_chars l.fn.text) l.c-iterator l.initial.out.items l.out.items
