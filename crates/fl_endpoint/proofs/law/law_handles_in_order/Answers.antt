use Rattle.std.proofs.Common.{◌≡◌, List, ◌++◌, sym, ap, ◌∙◌, append_assoc}
use Rattle.fl_base.specs.declared.fragment.Frag.{Frag}
use Rattle.fl_wire.specs.Reading.{NoneBeginsWithAnother}
use Rattle.fl_compile.specs.Programs.{program_of}
use Rattle.fl_endpoint.specs.Accounts.{stream}
use Rattle.fl_endpoint.specs.Laws.{HandlesInOrder}
use Rattle.fl_endpoint.proofs.Readings.{split, rest_short}
use Rattle.fl_endpoint.proofs.law.law_handles_in_order.Goals as goal

in_order : NoneBeginsWithAnother → HandlesInOrder
in_order law program circuit t h calls more sound a fit e =
    let p = program_of t.program in
    let apart : stream p 0 h.handled ++ (t.parts ++ more) ≡ stream p 0 calls
    = sym (append_assoc (stream p 0 h.handled) t.parts more) ∙ ap (λ (xs : List Frag). xs ++ more) (sym a.gives) ∙ e in
    let s = split p h.handled calls (t.parts ++ more) law sound.words a.handled_fit fit apart in
    record {
      left = s.left;
      calls_are = s.calls_are;
      ahead = s.rest_is;
      short = λ c rest is. rest_short p t.parts more s.left c rest law sound.words s.fit sound.are_bare sound.part s.rest_is is;
    }

pub returns : goal.returns
returns c = record { handles = in_order c.law_none_begins_with_another.ensures.prefix }
