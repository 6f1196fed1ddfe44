use Rattle.std.proofs.Common.{◌∙◌, sym, ap}
use Rattle.fl_base.specs.declared.fragment.Frag.{Frag}
use Rattle.fl_codec.specs.Words.{is_inside}
use Rattle.fl_codec.proofs.Kept.{all_taken}
use Rattle.fl_codec.proofs.Calls.{codec_decodes, codec_decodes_none}
use Rattle.fl_codec.proofs.codec.Codec.decode.Goals as goal

pub numbers_filling-requires-clause-inside : goal.numbers_filling-requires-clause-inside
numbers_filling-requires-clause-inside c = all_taken is_inside c.args.self.now.count c.args.self.now.places c.args.self.now.inside

pub returns-in_default : goal.returns-in_default
returns-in_default c = record { exact = λ plan i msg k. codec_decodes_none plan i c.args.circuit.0 msg c.args.self.now k c.args.frag.now c.in_default.ensures.exact }

pub returns : goal.returns
returns c =
    record {
      exact = λ plan i msg k.
          codec_decodes plan i c.args.circuit.0 msg c.args.self.now k c.args.frag.now c.in-Some.numbers
          (all_taken is_inside c.args.self.now.count c.args.self.now.places c.args.self.now.inside) c.in-Some.ensures.words c.in-Some.ensures.exact
          (ap (λ (f : Frag). f.control) (sym c.bare.ensures.bare) ∙ c.if-bare-control.false ∙ c.control.ensures.word);
    }
